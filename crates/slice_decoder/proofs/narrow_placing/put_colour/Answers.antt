use Rattle.std.proofs.Common.{◌≡◌, ◌+◌, ◌*◌, ◌<◌, length, get_or, refl, ap, ◌∙◌, arith}
use Rattle.planes.specs.declared.Rect.{Rect}
use Rattle.slice_geometry.specs.SliceOrder.{level_rect, area, level_of}
use Rattle.slice_geometry.proofs.NumberedBands.{numbered-other, number_here, before_here}
use Rattle.slice_geometry.proofs.RectsInBands.{FitsIn, fits}
use Rattle.slice_decoder.specs.Levels.{no_rect, places_in}
use Rattle.slice_decoder.proofs.LevelLemmas.{rect_of_level, room_here, next_from, count_few}
use Rattle.slice_decoder.proofs.Placed.{bands-take}
use Rattle.slice_decoder.proofs.narrow_placing.put_colour.Goals as goal

pub loop-k-init : goal.loop-k-init
unfolding places_in
loop-k-init c = record {
  from = refl;
  first = record { same_depth = refl; bands = λ k below. absurd (omega arith) };
  second = record { same_depth = refl; bands = λ k below. absurd (omega arith) };
  first_rest = λ k le. refl;
  second_rest = λ k le. refl;
}

pub put_rects-requires-clause-first_x_inside : goal.put_rects-requires-clause-first_x_inside
put_rects-requires-clause-first_x_inside c =
    let s = c.args.job.layout.now in
    let size = c.args.job.size in
    let sx = c.args.job.place.sx in
    let sy = c.args.job.place.sy in
    let l = c.loop-k in
    let i = l.invariant in
    let below : l.k < 3 * c.args.job.layout.now.depth + 1 = omega (arith, c.loop-k-test.true, c.depth.ensures.value) in
    let rect : Rect = get_or c.args.job.rects.now c.band_numbered-level.result.0 no_rect in
    let rect_is : get_or c.args.job.rects.now c.band_numbered-level.result.0 no_rect ≡ level_rect c.args.job.layout.now c.args.job.size c.args.job.place.sx c.args.job.place.sy (level_of c.loop-k.k) = rect_of_level c.args.job.layout.now c.args.job.size c.args.job.place.sx c.args.job.place.sy c.args.job.rects.now l.k c.band_numbered-level.result.0 c.requires.job.rects c.band_numbered-level.ensures.level below in
    let number_is = number_here l.k c.band_numbered-level.result.0 c.band_numbered-level.result.1 c.band_numbered-level.ensures.level c.band_numbered-level.ensures.orient in
    let first_is = before_here l.first l.k c.band_numbered-level.result.0 c.band_numbered-level.result.1 c.band_mut-one.result.now number_is c.band_mut-one.ensures.value in
    let inside : FitsIn (get_or c.args.job.rects.now c.band_numbered-level.result.0 no_rect) c.band_mut-one.result.now = fits s size sx sy l.k (get_or c.args.job.rects.now c.band_numbered-level.result.0 no_rect) c.args.first.now c.band_mut-one.result.now rect_is (first_is ∙ i.first_rest l.k (omega arith)) below c.requires.first_sizes.depth c.requires.job.across c.requires.job.down c.requires.first_sizes.sizes in
    inside.x_inside

pub put_rects-requires-clause-first_y_inside : goal.put_rects-requires-clause-first_y_inside
put_rects-requires-clause-first_y_inside c =
    let s = c.args.job.layout.now in
    let size = c.args.job.size in
    let sx = c.args.job.place.sx in
    let sy = c.args.job.place.sy in
    let l = c.loop-k in
    let i = l.invariant in
    let below : l.k < 3 * c.args.job.layout.now.depth + 1 = omega (arith, c.loop-k-test.true, c.depth.ensures.value) in
    let rect : Rect = get_or c.args.job.rects.now c.band_numbered-level.result.0 no_rect in
    let rect_is : get_or c.args.job.rects.now c.band_numbered-level.result.0 no_rect ≡ level_rect c.args.job.layout.now c.args.job.size c.args.job.place.sx c.args.job.place.sy (level_of c.loop-k.k) = rect_of_level c.args.job.layout.now c.args.job.size c.args.job.place.sx c.args.job.place.sy c.args.job.rects.now l.k c.band_numbered-level.result.0 c.requires.job.rects c.band_numbered-level.ensures.level below in
    let number_is = number_here l.k c.band_numbered-level.result.0 c.band_numbered-level.result.1 c.band_numbered-level.ensures.level c.band_numbered-level.ensures.orient in
    let first_is = before_here l.first l.k c.band_numbered-level.result.0 c.band_numbered-level.result.1 c.band_mut-one.result.now number_is c.band_mut-one.ensures.value in
    let inside : FitsIn (get_or c.args.job.rects.now c.band_numbered-level.result.0 no_rect) c.band_mut-one.result.now = fits s size sx sy l.k (get_or c.args.job.rects.now c.band_numbered-level.result.0 no_rect) c.args.first.now c.band_mut-one.result.now rect_is (first_is ∙ i.first_rest l.k (omega arith)) below c.requires.first_sizes.depth c.requires.job.across c.requires.job.down c.requires.first_sizes.sizes in
    inside.y_inside

pub put_rects-requires-clause-second_x_inside : goal.put_rects-requires-clause-second_x_inside
put_rects-requires-clause-second_x_inside c =
    let s = c.args.job.layout.now in
    let size = c.args.job.size in
    let sx = c.args.job.place.sx in
    let sy = c.args.job.place.sy in
    let l = c.loop-k in
    let i = l.invariant in
    let below : l.k < 3 * c.args.job.layout.now.depth + 1 = omega (arith, c.loop-k-test.true, c.depth.ensures.value) in
    let rect : Rect = get_or c.args.job.rects.now c.band_numbered-level.result.0 no_rect in
    let rect_is : get_or c.args.job.rects.now c.band_numbered-level.result.0 no_rect ≡ level_rect c.args.job.layout.now c.args.job.size c.args.job.place.sx c.args.job.place.sy (level_of c.loop-k.k) = rect_of_level c.args.job.layout.now c.args.job.size c.args.job.place.sx c.args.job.place.sy c.args.job.rects.now l.k c.band_numbered-level.result.0 c.requires.job.rects c.band_numbered-level.ensures.level below in
    let number_is = number_here l.k c.band_numbered-level.result.0 c.band_numbered-level.result.1 c.band_numbered-level.ensures.level c.band_numbered-level.ensures.orient in
    let second_is = before_here l.second l.k c.band_numbered-level.result.0 c.band_numbered-level.result.1 c.band_mut-two.result.now number_is c.band_mut-two.ensures.value in
    let inside : FitsIn (get_or c.args.job.rects.now c.band_numbered-level.result.0 no_rect) c.band_mut-two.result.now = fits s size sx sy l.k (get_or c.args.job.rects.now c.band_numbered-level.result.0 no_rect) c.args.second.now c.band_mut-two.result.now rect_is (second_is ∙ i.second_rest l.k (omega arith)) below c.requires.second_sizes.depth c.requires.job.across c.requires.job.down c.requires.second_sizes.sizes in
    inside.x_inside

pub put_rects-requires-clause-second_y_inside : goal.put_rects-requires-clause-second_y_inside
put_rects-requires-clause-second_y_inside c =
    let s = c.args.job.layout.now in
    let size = c.args.job.size in
    let sx = c.args.job.place.sx in
    let sy = c.args.job.place.sy in
    let l = c.loop-k in
    let i = l.invariant in
    let below : l.k < 3 * c.args.job.layout.now.depth + 1 = omega (arith, c.loop-k-test.true, c.depth.ensures.value) in
    let rect : Rect = get_or c.args.job.rects.now c.band_numbered-level.result.0 no_rect in
    let rect_is : get_or c.args.job.rects.now c.band_numbered-level.result.0 no_rect ≡ level_rect c.args.job.layout.now c.args.job.size c.args.job.place.sx c.args.job.place.sy (level_of c.loop-k.k) = rect_of_level c.args.job.layout.now c.args.job.size c.args.job.place.sx c.args.job.place.sy c.args.job.rects.now l.k c.band_numbered-level.result.0 c.requires.job.rects c.band_numbered-level.ensures.level below in
    let number_is = number_here l.k c.band_numbered-level.result.0 c.band_numbered-level.result.1 c.band_numbered-level.ensures.level c.band_numbered-level.ensures.orient in
    let second_is = before_here l.second l.k c.band_numbered-level.result.0 c.band_numbered-level.result.1 c.band_mut-two.result.now number_is c.band_mut-two.ensures.value in
    let inside : FitsIn (get_or c.args.job.rects.now c.band_numbered-level.result.0 no_rect) c.band_mut-two.result.now = fits s size sx sy l.k (get_or c.args.job.rects.now c.band_numbered-level.result.0 no_rect) c.args.second.now c.band_mut-two.result.now rect_is (second_is ∙ i.second_rest l.k (omega arith)) below c.requires.second_sizes.depth c.requires.job.across c.requires.job.down c.requires.second_sizes.sizes in
    inside.y_inside

pub put_rects-requires-clause-room : goal.put_rects-requires-clause-room
put_rects-requires-clause-room c =
    let s = c.args.job.layout.now in
    let size = c.args.job.size in
    let sx = c.args.job.place.sx in
    let sy = c.args.job.place.sy in
    let l = c.loop-k in
    let i = l.invariant in
    let below : l.k < 3 * c.args.job.layout.now.depth + 1 = omega (arith, c.loop-k-test.true, c.depth.ensures.value) in
    let rect : Rect = get_or c.args.job.rects.now c.band_numbered-level.result.0 no_rect in
    let rect_is : get_or c.args.job.rects.now c.band_numbered-level.result.0 no_rect ≡ level_rect c.args.job.layout.now c.args.job.size c.args.job.place.sx c.args.job.place.sy (level_of c.loop-k.k) = rect_of_level c.args.job.layout.now c.args.job.size c.args.job.place.sx c.args.job.place.sy c.args.job.rects.now l.k c.band_numbered-level.result.0 c.requires.job.rects c.band_numbered-level.ensures.level below in
    room_here 2 s size sx sy l.k l.from (area rect) (length c.args.values.now) i.from (ap area rect_is) c.requires.count below

pub overflow_add-from : goal.overflow_add-from
overflow_add-from c =
    let s = c.args.job.layout.now in
    let size = c.args.job.size in
    let sx = c.args.job.place.sx in
    let sy = c.args.job.place.sy in
    let l = c.loop-k in
    let i = l.invariant in
    let below : l.k < 3 * c.args.job.layout.now.depth + 1 = omega (arith, c.loop-k-test.true, c.depth.ensures.value) in
    let rect : Rect = get_or c.args.job.rects.now c.band_numbered-level.result.0 no_rect in
    let rect_is : get_or c.args.job.rects.now c.band_numbered-level.result.0 no_rect ≡ level_rect c.args.job.layout.now c.args.job.size c.args.job.place.sx c.args.job.place.sy (level_of c.loop-k.k) = rect_of_level c.args.job.layout.now c.args.job.size c.args.job.place.sx c.args.job.place.sy c.args.job.rects.now l.k c.band_numbered-level.result.0 c.requires.job.rects c.band_numbered-level.ensures.level below in
    omega (arith, room_here 2 s size sx sy l.k l.from c.area_of.result (length c.args.values.now) i.from (c.area_of.ensures.area ∙ ap area rect_is) c.requires.count below, c.requires.count, count_few s size sx sy c.args.job.rects.now c.requires.job.rects)

pub loop-k-preserved : goal.loop-k-preserved
loop-k-preserved c =
    let s = c.args.job.layout.now in
    let size = c.args.job.size in
    let sx = c.args.job.place.sx in
    let sy = c.args.job.place.sy in
    let l = c.loop-k in
    let i = l.invariant in
    let below : l.k < 3 * c.args.job.layout.now.depth + 1 = omega (arith, c.loop-k-test.true, c.depth.ensures.value) in
    let rect : Rect = get_or c.args.job.rects.now c.band_numbered-level.result.0 no_rect in
    let rect_is : get_or c.args.job.rects.now c.band_numbered-level.result.0 no_rect ≡ level_rect c.args.job.layout.now c.args.job.size c.args.job.place.sx c.args.job.place.sy (level_of c.loop-k.k) = rect_of_level c.args.job.layout.now c.args.job.size c.args.job.place.sx c.args.job.place.sy c.args.job.rects.now l.k c.band_numbered-level.result.0 c.requires.job.rects c.band_numbered-level.ensures.level below in
    let number_is = number_here l.k c.band_numbered-level.result.0 c.band_numbered-level.result.1 c.band_numbered-level.ensures.level c.band_numbered-level.ensures.orient in
    let first_is = before_here l.first l.k c.band_numbered-level.result.0 c.band_numbered-level.result.1 c.band_mut-one.result.now number_is c.band_mut-one.ensures.value in
    let second_is = before_here l.second l.k c.band_numbered-level.result.0 c.band_numbered-level.result.1 c.band_mut-two.result.now number_is c.band_mut-two.ensures.value in
    let first_there : l.k < length l.first.bands = omega (arith, c.band_mut-one.ensures.there, number_is) in
    let second_there : l.k < length l.second.bands = omega (arith, c.band_mut-two.ensures.there, number_is) in
    record {
      from = next_from 2 s size sx sy l.k l.from c.area_of.result i.from (c.area_of.ensures.area ∙ ap area rect_is);
      first = bands-take 2 0 s size sx sy l.k c.args.values.now c.args.first.now l.first c.band_mut-one.result.now c.put_rects.new.first c.band_numbered-level.result.0 c.band_numbered-level.result.1 l.from rect number_is first_there first_is (i.first_rest l.k (omega arith)) rect_is i.from i.first c.put_rects.ensures.first;
      second = bands-take 2 1 s size sx sy l.k c.args.values.now c.args.second.now l.second c.band_mut-two.result.now c.put_rects.new.second c.band_numbered-level.result.0 c.band_numbered-level.result.1 l.from rect number_is second_there second_is (i.second_rest l.k (omega arith)) rect_is i.from i.second c.put_rects.ensures.second;
      first_rest = λ j past. numbered-other l.first c.band_numbered-level.result.0 c.band_numbered-level.result.1 l.k j c.put_rects.new.first number_is (omega arith) ∙ i.first_rest j (omega arith);
      second_rest = λ j past. numbered-other l.second c.band_numbered-level.result.0 c.band_numbered-level.result.1 l.k j c.put_rects.new.second number_is (omega arith) ∙ i.second_rest j (omega arith);
    }
