use Rattle.std.proofs.Common.{◌≡◌, ◌+◌, ◌*◌, ◌<◌, length, get_or, refl, ap, ◌∙◌, arith}
use Rattle.std.proofs.lemmas.Grind.{common_steps}
use Rattle.planes.specs.declared.Rect.{Rect}
use Rattle.slice_geometry.specs.SliceOrder.{level_rect, area, level_of}
use Rattle.slice_geometry.proofs.NumberedBands.{numbered-other, number_here, before_here}
use Rattle.slice_geometry.proofs.RectsInBands.{FitsIn, fits}
use Rattle.slice_decoder.specs.Levels.{no_rect, places_in}
use Rattle.slice_decoder.proofs.LevelLemmas.{rect_of_level, room_here, next_from, count_few}
use Rattle.slice_decoder.proofs.Placed.{bands-take}
use Rattle.slice_decoder.proofs.narrow_placing.put_luma.Goals as goal

pub loop-k-init : goal.loop-k-init
unfolding places_in
loop-k-init c = record {
  from = refl;
  takes = record { same_depth = refl; bands = λ k below. absurd (omega arith) };
  rest = λ k le. refl;
}

pub put_rect-requires-clause-x_inside : goal.put_rect-requires-clause-x_inside
put_rect-requires-clause-x_inside c =
    let s = c.args.job.layout.now in
    let size = c.args.job.size in
    let sx = c.args.job.place.sx in
    let sy = c.args.job.place.sy in
    let l = c.loop-k in
    let i = l.invariant in
    let below : l.k < 3 * c.args.job.layout.now.depth + 1 = omega (arith, c.loop-k-test.true, c.depth.ensures.value) in
    let rect : Rect = get_or c.args.job.rects.now c.band_numbered-level.result.0 no_rect in
    let rect_is : get_or c.args.job.rects.now c.band_numbered-level.result.0 no_rect ≡ level_rect c.args.job.layout.now c.args.job.size c.args.job.place.sx c.args.job.place.sy (level_of c.loop-k.k) = rect_of_level c.args.job.layout.now c.args.job.size c.args.job.place.sx c.args.job.place.sy c.args.job.rects.now l.k c.band_numbered-level.result.0 c.requires.job.rects c.band_numbered-level.ensures.level below in
    let number_is = number_here l.k c.band_numbered-level.result.0 c.band_numbered-level.result.1 c.band_numbered-level.ensures.level c.band_numbered-level.ensures.orient in
    let before_is = before_here l.bands l.k c.band_numbered-level.result.0 c.band_numbered-level.result.1 c.band_mut.result.now number_is c.band_mut.ensures.value in
    let inside : FitsIn (get_or c.args.job.rects.now c.band_numbered-level.result.0 no_rect) c.band_mut.result.now = fits s size sx sy l.k (get_or c.args.job.rects.now c.band_numbered-level.result.0 no_rect) c.args.bands.now c.band_mut.result.now rect_is (before_is ∙ i.rest l.k (omega arith)) below c.requires.sizes.depth c.requires.job.across c.requires.job.down c.requires.sizes.sizes in
    inside.x_inside

pub put_rect-requires-clause-y_inside : goal.put_rect-requires-clause-y_inside
put_rect-requires-clause-y_inside c =
    let s = c.args.job.layout.now in
    let size = c.args.job.size in
    let sx = c.args.job.place.sx in
    let sy = c.args.job.place.sy in
    let l = c.loop-k in
    let i = l.invariant in
    let below : l.k < 3 * c.args.job.layout.now.depth + 1 = omega (arith, c.loop-k-test.true, c.depth.ensures.value) in
    let rect : Rect = get_or c.args.job.rects.now c.band_numbered-level.result.0 no_rect in
    let rect_is : get_or c.args.job.rects.now c.band_numbered-level.result.0 no_rect ≡ level_rect c.args.job.layout.now c.args.job.size c.args.job.place.sx c.args.job.place.sy (level_of c.loop-k.k) = rect_of_level c.args.job.layout.now c.args.job.size c.args.job.place.sx c.args.job.place.sy c.args.job.rects.now l.k c.band_numbered-level.result.0 c.requires.job.rects c.band_numbered-level.ensures.level below in
    let number_is = number_here l.k c.band_numbered-level.result.0 c.band_numbered-level.result.1 c.band_numbered-level.ensures.level c.band_numbered-level.ensures.orient in
    let before_is = before_here l.bands l.k c.band_numbered-level.result.0 c.band_numbered-level.result.1 c.band_mut.result.now number_is c.band_mut.ensures.value in
    let inside : FitsIn (get_or c.args.job.rects.now c.band_numbered-level.result.0 no_rect) c.band_mut.result.now = fits s size sx sy l.k (get_or c.args.job.rects.now c.band_numbered-level.result.0 no_rect) c.args.bands.now c.band_mut.result.now rect_is (before_is ∙ i.rest l.k (omega arith)) below c.requires.sizes.depth c.requires.job.across c.requires.job.down c.requires.sizes.sizes in
    inside.y_inside

pub put_rect-requires-clause-room : goal.put_rect-requires-clause-room
put_rect-requires-clause-room c =
    let s = c.args.job.layout.now in
    let size = c.args.job.size in
    let sx = c.args.job.place.sx in
    let sy = c.args.job.place.sy in
    let l = c.loop-k in
    let i = l.invariant in
    let below : l.k < 3 * c.args.job.layout.now.depth + 1 = omega (arith, c.loop-k-test.true, c.depth.ensures.value) in
    let rect : Rect = get_or c.args.job.rects.now c.band_numbered-level.result.0 no_rect in
    let rect_is : get_or c.args.job.rects.now c.band_numbered-level.result.0 no_rect ≡ level_rect c.args.job.layout.now c.args.job.size c.args.job.place.sx c.args.job.place.sy (level_of c.loop-k.k) = rect_of_level c.args.job.layout.now c.args.job.size c.args.job.place.sx c.args.job.place.sy c.args.job.rects.now l.k c.band_numbered-level.result.0 c.requires.job.rects c.band_numbered-level.ensures.level below in
    omega (arith, room_here 1 s size sx sy l.k l.from (area rect) (length c.args.values.now) i.from (ap area rect_is) c.requires.count below)

pub overflow_add-from : goal.overflow_add-from
overflow_add-from c =
    let s = c.args.job.layout.now in
    let size = c.args.job.size in
    let sx = c.args.job.place.sx in
    let sy = c.args.job.place.sy in
    let l = c.loop-k in
    let i = l.invariant in
    let below : l.k < 3 * c.args.job.layout.now.depth + 1 = omega (arith, c.loop-k-test.true, c.depth.ensures.value) in
    let rect : Rect = get_or c.args.job.rects.now c.band_numbered-level.result.0 no_rect in
    let rect_is : get_or c.args.job.rects.now c.band_numbered-level.result.0 no_rect ≡ level_rect c.args.job.layout.now c.args.job.size c.args.job.place.sx c.args.job.place.sy (level_of c.loop-k.k) = rect_of_level c.args.job.layout.now c.args.job.size c.args.job.place.sx c.args.job.place.sy c.args.job.rects.now l.k c.band_numbered-level.result.0 c.requires.job.rects c.band_numbered-level.ensures.level below in
    omega (arith, room_here 1 s size sx sy l.k l.from c.area_of-from.result (length c.args.values.now) i.from (c.area_of-from.ensures.area ∙ ap area rect_is) c.requires.count below, c.requires.count, count_few s size sx sy c.args.job.rects.now c.requires.job.rects)

pub loop-k-preserved : goal.loop-k-preserved
loop-k-preserved c =
    let s = c.args.job.layout.now in
    let size = c.args.job.size in
    let sx = c.args.job.place.sx in
    let sy = c.args.job.place.sy in
    let l = c.loop-k in
    let i = l.invariant in
    let below : l.k < 3 * c.args.job.layout.now.depth + 1 = omega (arith, c.loop-k-test.true, c.depth.ensures.value) in
    let rect : Rect = get_or c.args.job.rects.now c.band_numbered-level.result.0 no_rect in
    let rect_is : get_or c.args.job.rects.now c.band_numbered-level.result.0 no_rect ≡ level_rect c.args.job.layout.now c.args.job.size c.args.job.place.sx c.args.job.place.sy (level_of c.loop-k.k) = rect_of_level c.args.job.layout.now c.args.job.size c.args.job.place.sx c.args.job.place.sy c.args.job.rects.now l.k c.band_numbered-level.result.0 c.requires.job.rects c.band_numbered-level.ensures.level below in
    let number_is = number_here l.k c.band_numbered-level.result.0 c.band_numbered-level.result.1 c.band_numbered-level.ensures.level c.band_numbered-level.ensures.orient in
    let before_is = before_here l.bands l.k c.band_numbered-level.result.0 c.band_numbered-level.result.1 c.band_mut.result.now number_is c.band_mut.ensures.value in
    let there : l.k < length l.bands.bands = omega (arith, c.band_mut.ensures.there, number_is) in
    record {
      from = omega (arith, next_from 1 s size sx sy l.k l.from c.area_of-from.result i.from (c.area_of-from.ensures.area ∙ ap area rect_is));
      takes = bands-take 1 0 s size sx sy l.k c.args.values.now c.args.bands.now l.bands c.band_mut.result.now c.put_rect.new.plane c.band_numbered-level.result.0 c.band_numbered-level.result.1 l.from rect number_is there before_is (i.rest l.k (omega arith)) rect_is i.from i.takes c.put_rect.ensures;
      rest = λ j past. numbered-other l.bands c.band_numbered-level.result.0 c.band_numbered-level.result.1 l.k j c.put_rect.new.plane number_is (omega arith) ∙ i.rest j (omega arith);
    }

pub band_mut-requires : goal.band_mut-requires
band_mut-requires c = grind (arith, common_steps)

pub put_rect-requires-clause-across : goal.put_rect-requires-clause-across
put_rect-requires-clause-across c = grind (arith, common_steps)

pub put_rect-requires-clause-down : goal.put_rect-requires-clause-down
put_rect-requires-clause-down c = grind (arith, common_steps)

pub area_of-from-requires : goal.area_of-from-requires
area_of-from-requires c = grind (arith, common_steps)
