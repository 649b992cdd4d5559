use Rattle.std.proofs.Common.{rules, ◌≡◌, ◌∙◌, refl, ℕ, ◌+◌, ◌*◌, ◌≤◌, ◌++◌, List, length, sym, ap, arith, ℤ}
use Rattle.planes.specs.Raster.{at}
use Rattle.planes.specs.declared.Rect.{Rect}
use Rattle.slice_geometry.specs.SliceOrder.{level_rect, area, level_of}
use Rattle.slice_geometry.proofs.NumberedBands.{number_here, before_here}
use Rattle.slice_encoder.specs.Listing.{rect_values}
use Rattle.slice_encoder.specs.Gathering.{raw_part, raw_before}
use Rattle.slice_encoder.proofs.Gathers.{can_gather, more_length, raw_more, raw_within, raw_count, raw_here}
use Rattle.slice_encoder.proofs.gathered.gather_bands.Goals as goal

pub gather_rect-requires-clause-can : goal.gather_rect-requires-clause-can
gather_rect-requires-clause-can c =
    let a = c.args in
    let s = a.rects.now.slicing in
    let size = a.rects.now.size in
    let k = c.loop-k.k in
    let rect_is : c.rect-rect.result ≡ level_rect s size a.sx a.sy (level_of k) = c.rect-rect.ensures ∙ ap (λ (l : ℕ). level_rect s size a.sx a.sy l) c.band_numbered-level.ensures.level in
    let number_is = number_here k c.band_numbered-level.result.0 c.band_numbered-level.result.1 c.band_numbered-level.ensures.level c.band_numbered-level.ensures.orient in
    let band_is = before_here a.bands.now k c.band_numbered-level.result.0 c.band_numbered-level.result.1 c.band.result.now number_is c.band.ensures in
    can_gather s size a.bands.now a.sx a.sy k c.rect-rect.result c.band.result.now rect_is band_is (omega (arith, c.loop-k-test.true, c.depth.ensures.value)) c.requires.across c.requires.down c.requires.can

pub gather_rect-requires-clause-room : goal.gather_rect-requires-clause-room
gather_rect-requires-clause-room c =
    let a = c.args in
    let s = a.rects.now.slicing in
    let size = a.rects.now.size in
    let k = c.loop-k.k in
    let rect_is : c.rect-rect.result ≡ level_rect s size a.sx a.sy (level_of k) = c.rect-rect.ensures ∙ ap (λ (l : ℕ). level_rect s size a.sx a.sy l) c.band_numbered-level.ensures.level in
    let end : length (raw_before s size a.bands.now a.sx a.sy (k + 1)) ≡ length (raw_before s size a.bands.now a.sx a.sy k) + area c.rect-rect.result = more_length s size a.bands.now a.sx a.sy k (level_of k) refl ∙ ap (λ (r : Rect). length (raw_before s size a.bands.now a.sx a.sy k) + area r) (sym rect_is) in
    let room : c.loop-k.place + area c.rect-rect.result ≤ length c.loop-k.out =
    omega (
      arith,
      end,
      c.loop-k.invariant.place,
      c.loop-k.invariant.same_length,
      c.requires.room,
      raw_count s size a.bands.now a.sx a.sy s.depth,
      raw_within s size a.bands.now a.sx a.sy (k + 1) (3 * s.depth + 1) (omega (arith, c.loop-k-test.true, c.depth.ensures.value)),
    )
    in
    room

pub overflow_sub-place : goal.overflow_sub-place
overflow_sub-place c =
    let a = c.args in
    let s = a.rects.now.slicing in
    let size = a.rects.now.size in
    let k = c.loop-k.k in
    let rect_is : c.rect-rect.result ≡ level_rect s size a.sx a.sy (level_of k) = c.rect-rect.ensures ∙ ap (λ (l : ℕ). level_rect s size a.sx a.sy l) c.band_numbered-level.ensures.level in
    let number_is = number_here k c.band_numbered-level.result.0 c.band_numbered-level.result.1 c.band_numbered-level.ensures.level c.band_numbered-level.ensures.orient in
    let band_is = before_here a.bands.now k c.band_numbered-level.result.0 c.band_numbered-level.result.1 c.band.result.now number_is c.band.ensures in
    (can_gather s size a.bands.now a.sx a.sy k c.rect-rect.result c.band.result.now rect_is band_is (omega (arith, c.loop-k-test.true, c.depth.ensures.value)) c.requires.across c.requires.down c.requires.can).across

pub overflow_sub-place-in-loop-k : goal.overflow_sub-place-in-loop-k
overflow_sub-place-in-loop-k c =
    let a = c.args in
    let s = a.rects.now.slicing in
    let size = a.rects.now.size in
    let k = c.loop-k.k in
    let rect_is : c.rect-rect.result ≡ level_rect s size a.sx a.sy (level_of k) = c.rect-rect.ensures ∙ ap (λ (l : ℕ). level_rect s size a.sx a.sy l) c.band_numbered-level.ensures.level in
    let number_is = number_here k c.band_numbered-level.result.0 c.band_numbered-level.result.1 c.band_numbered-level.ensures.level c.band_numbered-level.ensures.orient in
    let band_is = before_here a.bands.now k c.band_numbered-level.result.0 c.band_numbered-level.result.1 c.band.result.now number_is c.band.ensures in
    (can_gather s size a.bands.now a.sx a.sy k c.rect-rect.result c.band.result.now rect_is band_is (omega (arith, c.loop-k-test.true, c.depth.ensures.value)) c.requires.across c.requires.down c.requires.can).down

pub overflow_add-place : goal.overflow_add-place
overflow_add-place c =
    let a = c.args in
    let s = a.rects.now.slicing in
    let size = a.rects.now.size in
    let k = c.loop-k.k in
    let rect_is : c.rect-rect.result ≡ level_rect s size a.sx a.sy (level_of k) = c.rect-rect.ensures ∙ ap (λ (l : ℕ). level_rect s size a.sx a.sy l) c.band_numbered-level.ensures.level in
    let end : length (raw_before s size a.bands.now a.sx a.sy (k + 1)) ≡ length (raw_before s size a.bands.now a.sx a.sy k) + area c.rect-rect.result = more_length s size a.bands.now a.sx a.sy k (level_of k) refl ∙ ap (λ (r : Rect). length (raw_before s size a.bands.now a.sx a.sy k) + area r) (sym rect_is) in
    let room : c.loop-k.place + area c.rect-rect.result ≤ length c.loop-k.out =
    omega (
      arith,
      end,
      c.loop-k.invariant.place,
      c.loop-k.invariant.same_length,
      c.requires.room,
      raw_count s size a.bands.now a.sx a.sy s.depth,
      raw_within s size a.bands.now a.sx a.sy (k + 1) (3 * s.depth + 1) (omega (arith, c.loop-k-test.true, c.depth.ensures.value)),
    )
    in
    search (rules, room)

pub loop-k-preserved : goal.loop-k-preserved
loop-k-preserved c =
    let a = c.args in
    let s = a.rects.now.slicing in
    let size = a.rects.now.size in
    let k = c.loop-k.k in
    let rect_is : c.rect-rect.result ≡ level_rect s size a.sx a.sy (level_of k) = c.rect-rect.ensures ∙ ap (λ (l : ℕ). level_rect s size a.sx a.sy l) c.band_numbered-level.ensures.level in
    let number_is = number_here k c.band_numbered-level.result.0 c.band_numbered-level.result.1 c.band_numbered-level.ensures.level c.band_numbered-level.ensures.orient in
    let band_is = before_here a.bands.now k c.band_numbered-level.result.0 c.band_numbered-level.result.1 c.band.result.now number_is c.band.ensures in
    let l = c.loop-k in
    let values : rect_values (at c.band.result.now) c.rect-rect.result ≡ raw_part s size a.bands.now a.sx a.sy k = raw_here s size a.bands.now a.sx a.sy k c.rect-rect.result c.band.result.now rect_is band_is in
    let end : length (raw_before s size a.bands.now a.sx a.sy (k + 1)) ≡ length (raw_before s size a.bands.now a.sx a.sy k) + area c.rect-rect.result = more_length s size a.bands.now a.sx a.sy k (level_of k) refl ∙ ap (λ (r : Rect). length (raw_before s size a.bands.now a.sx a.sy k) + area r) (sym rect_is) in
    record {
      same_length = c.gather_rect.auto.out ∙ l.invariant.same_length;
      small = c.gather_rect.ensures.small;
      place = omega (arith, end, l.invariant.place);
      so_far =
          c.gather_rect.ensures.gathered
          ∙ ap (λ (t : List ℤ). t ++ rect_values (at c.band.result.now) c.rect-rect.result) l.invariant.so_far
          ∙ ap (λ (t : List ℤ). raw_before s size a.bands.now a.sx a.sy k ++ t) values
          ∙ sym (raw_more s size a.bands.now a.sx a.sy k);
    }
