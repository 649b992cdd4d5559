use Rattle.std.proofs.Common.{◌≡◌, ◌+◌, ◌*◌, ◌<◌, length, refl, sym, ◌∙◌, arith}
use Rattle.std.proofs.lemmas.Grind.{common_steps}
use Rattle.slice_decoder.specs.Jobs.{part_in}
use Rattle.slice_decoder.specs.Components.{Part, rect_of, index_of}
use Rattle.quant_factors.proofs.Quantisers.{index_here}
use Rattle.slice_decoder.proofs.Stacks.{bands-small, bands-left, bands-stopped, bands-keep, bands-hold}
use Rattle.slice_geometry.proofs.NumberedBands.{numbered-other, number_here, before_here}
use Rattle.slice_geometry.proofs.RectsInBands.{FitsIn, fits, rect_here}
use Rattle.slice_decoder.specs.Components.{quantisers_before}
use Rattle.slice_decoder.proofs.components.colour_by_rows.Goals as goal

pub loop-k-init : goal.loop-k-init
unfolding quantisers_before
loop-k-init c = record {
  room = omega arith;
  small = refl;
  left = refl;
  first = record { same_depth = refl; bands = λ k below. absurd (omega arith) };
  second = record { same_depth = refl; bands = λ k below. absurd (omega arith) };
  first_keeps = record { same_depth = refl; bands = λ k. record { same_width = refl; same_height = refl; outside = λ y x out. refl } };
  second_keeps = record { same_depth = refl; bands = λ k. record { same_width = refl; same_height = refl; outside = λ y x out. refl } };
  first_rest = λ k le. refl;
  second_rest = λ k le. refl;
}

pub fill_rects-requires-clause-down : goal.fill_rects-requires-clause-down
fill_rects-requires-clause-down c =
    let part : Part = part_in c.args.job in
    let rect_is : c.band_rect-rect.result ≡ rect_of part c.loop-k.k = rect_here part.slicing part.size part.sx part.sy c.loop-k.k c.band_numbered-level.result.0 c.band_rect-rect.result c.band_numbered-level.ensures.level c.band_rect-rect.ensures in
    let number_is = number_here c.loop-k.k c.band_numbered-level.result.0 c.band_numbered-level.result.1 c.band_numbered-level.ensures.level c.band_numbered-level.ensures.orient in
    let first_is = before_here c.loop-k.first c.loop-k.k c.band_numbered-level.result.0 c.band_numbered-level.result.1 c.band_mut-one.result.now number_is c.band_mut-one.ensures.value in
    let below : c.loop-k.k < 3 * c.args.job.layout.now.depth + 1 = omega (arith, c.loop-k-test.true, c.depth.ensures.value) in
    let inside : FitsIn c.band_rect-rect.result c.band_mut-one.result.now = fits part.slicing part.size part.sx part.sy c.loop-k.k c.band_rect-rect.result c.args.first.now c.band_mut-one.result.now rect_is (first_is ∙ c.loop-k.invariant.first_rest c.loop-k.k (omega arith)) below c.requires.first_sizes.depth c.requires.job.across c.requires.job.down c.requires.first_sizes.sizes in
    inside.down

pub fill_rects-requires-clause-first_x_inside : goal.fill_rects-requires-clause-first_x_inside
fill_rects-requires-clause-first_x_inside c =
    let part : Part = part_in c.args.job in
    let rect_is : c.band_rect-rect.result ≡ rect_of part c.loop-k.k = rect_here part.slicing part.size part.sx part.sy c.loop-k.k c.band_numbered-level.result.0 c.band_rect-rect.result c.band_numbered-level.ensures.level c.band_rect-rect.ensures in
    let number_is = number_here c.loop-k.k c.band_numbered-level.result.0 c.band_numbered-level.result.1 c.band_numbered-level.ensures.level c.band_numbered-level.ensures.orient in
    let first_is = before_here c.loop-k.first c.loop-k.k c.band_numbered-level.result.0 c.band_numbered-level.result.1 c.band_mut-one.result.now number_is c.band_mut-one.ensures.value in
    let below : c.loop-k.k < 3 * c.args.job.layout.now.depth + 1 = omega (arith, c.loop-k-test.true, c.depth.ensures.value) in
    let inside : FitsIn c.band_rect-rect.result c.band_mut-one.result.now = fits part.slicing part.size part.sx part.sy c.loop-k.k c.band_rect-rect.result c.args.first.now c.band_mut-one.result.now rect_is (first_is ∙ c.loop-k.invariant.first_rest c.loop-k.k (omega arith)) below c.requires.first_sizes.depth c.requires.job.across c.requires.job.down c.requires.first_sizes.sizes in
    inside.x_inside

pub fill_rects-requires-clause-first_y_inside : goal.fill_rects-requires-clause-first_y_inside
fill_rects-requires-clause-first_y_inside c =
    let part : Part = part_in c.args.job in
    let rect_is : c.band_rect-rect.result ≡ rect_of part c.loop-k.k = rect_here part.slicing part.size part.sx part.sy c.loop-k.k c.band_numbered-level.result.0 c.band_rect-rect.result c.band_numbered-level.ensures.level c.band_rect-rect.ensures in
    let number_is = number_here c.loop-k.k c.band_numbered-level.result.0 c.band_numbered-level.result.1 c.band_numbered-level.ensures.level c.band_numbered-level.ensures.orient in
    let first_is = before_here c.loop-k.first c.loop-k.k c.band_numbered-level.result.0 c.band_numbered-level.result.1 c.band_mut-one.result.now number_is c.band_mut-one.ensures.value in
    let below : c.loop-k.k < 3 * c.args.job.layout.now.depth + 1 = omega (arith, c.loop-k-test.true, c.depth.ensures.value) in
    let inside : FitsIn c.band_rect-rect.result c.band_mut-one.result.now = fits part.slicing part.size part.sx part.sy c.loop-k.k c.band_rect-rect.result c.args.first.now c.band_mut-one.result.now rect_is (first_is ∙ c.loop-k.invariant.first_rest c.loop-k.k (omega arith)) below c.requires.first_sizes.depth c.requires.job.across c.requires.job.down c.requires.first_sizes.sizes in
    inside.y_inside

pub fill_rects-requires-clause-second_x_inside : goal.fill_rects-requires-clause-second_x_inside
fill_rects-requires-clause-second_x_inside c =
    let part : Part = part_in c.args.job in
    let rect_is : c.band_rect-rect.result ≡ rect_of part c.loop-k.k = rect_here part.slicing part.size part.sx part.sy c.loop-k.k c.band_numbered-level.result.0 c.band_rect-rect.result c.band_numbered-level.ensures.level c.band_rect-rect.ensures in
    let number_is = number_here c.loop-k.k c.band_numbered-level.result.0 c.band_numbered-level.result.1 c.band_numbered-level.ensures.level c.band_numbered-level.ensures.orient in
    let second_is = before_here c.loop-k.second c.loop-k.k c.band_numbered-level.result.0 c.band_numbered-level.result.1 c.band_mut-two.result.now number_is c.band_mut-two.ensures.value in
    let below : c.loop-k.k < 3 * c.args.job.layout.now.depth + 1 = omega (arith, c.loop-k-test.true, c.depth.ensures.value) in
    let inside : FitsIn c.band_rect-rect.result c.band_mut-two.result.now = fits part.slicing part.size part.sx part.sy c.loop-k.k c.band_rect-rect.result c.args.second.now c.band_mut-two.result.now rect_is (second_is ∙ c.loop-k.invariant.second_rest c.loop-k.k (omega arith)) below c.requires.second_sizes.depth c.requires.job.across c.requires.job.down c.requires.second_sizes.sizes in
    inside.x_inside

pub fill_rects-requires-clause-second_y_inside : goal.fill_rects-requires-clause-second_y_inside
fill_rects-requires-clause-second_y_inside c =
    let part : Part = part_in c.args.job in
    let rect_is : c.band_rect-rect.result ≡ rect_of part c.loop-k.k = rect_here part.slicing part.size part.sx part.sy c.loop-k.k c.band_numbered-level.result.0 c.band_rect-rect.result c.band_numbered-level.ensures.level c.band_rect-rect.ensures in
    let number_is = number_here c.loop-k.k c.band_numbered-level.result.0 c.band_numbered-level.result.1 c.band_numbered-level.ensures.level c.band_numbered-level.ensures.orient in
    let second_is = before_here c.loop-k.second c.loop-k.k c.band_numbered-level.result.0 c.band_numbered-level.result.1 c.band_mut-two.result.now number_is c.band_mut-two.ensures.value in
    let below : c.loop-k.k < 3 * c.args.job.layout.now.depth + 1 = omega (arith, c.loop-k-test.true, c.depth.ensures.value) in
    let inside : FitsIn c.band_rect-rect.result c.band_mut-two.result.now = fits part.slicing part.size part.sx part.sy c.loop-k.k c.band_rect-rect.result c.args.second.now c.band_mut-two.result.now rect_is (second_is ∙ c.loop-k.invariant.second_rest c.loop-k.k (omega arith)) below c.requires.second_sizes.depth c.requires.job.across c.requires.job.down c.requires.second_sizes.sizes in
    inside.y_inside

pub returns-then-not-fill_rects-clause-small : goal.returns-then-not-fill_rects-clause-small
returns-then-not-fill_rects-clause-small c =
    let part : Part = part_in c.args.job in
    let rect_is : c.band_rect-rect.result ≡ rect_of part c.loop-k.k = rect_here part.slicing part.size part.sx part.sy c.loop-k.k c.band_numbered-level.result.0 c.band_rect-rect.result c.band_numbered-level.ensures.level c.band_rect-rect.ensures in
    let number_is = number_here c.loop-k.k c.band_numbered-level.result.0 c.band_numbered-level.result.1 c.band_numbered-level.ensures.level c.band_numbered-level.ensures.orient in
    let index_is : c.quantiser-index.result ≡ index_of part c.loop-k.k = index_here part.matrix part.qindex c.band_numbered-level.result.0 _ c.band_numbered-level.result.1 _ _ c.quantiser-index.result c.band_numbered-level.ensures.level c.band_numbered-level.ensures.orient c.orient_numbered.ensures c.quantiser-index.ensures in
    let large = bands-small 2 part c.loop-k.k c.args.block.now c.loop-k.block c.quantiser-index.result c.band_rect-rect.result _ rect_is index_is c.loop-k.invariant.small c.loop-k.invariant.left (sym c.if-not-fill_rects.true ∙ c.fill_rects.ensures.small) in
    bands-stopped 2 part c.loop-k.k (3 * c.args.job.layout.now.depth + 1) c.args.block.now (omega (arith, c.loop-k-test.true, c.depth.ensures.value)) large

pub returns-then-not-fill_rects-clause-first_keeps : goal.returns-then-not-fill_rects-clause-first_keeps
returns-then-not-fill_rects-clause-first_keeps c =
    let part : Part = part_in c.args.job in
    let rect_is : c.band_rect-rect.result ≡ rect_of part c.loop-k.k = rect_here part.slicing part.size part.sx part.sy c.loop-k.k c.band_numbered-level.result.0 c.band_rect-rect.result c.band_numbered-level.ensures.level c.band_rect-rect.ensures in
    let number_is = number_here c.loop-k.k c.band_numbered-level.result.0 c.band_numbered-level.result.1 c.band_numbered-level.ensures.level c.band_numbered-level.ensures.orient in
    let first_is = before_here c.loop-k.first c.loop-k.k c.band_numbered-level.result.0 c.band_numbered-level.result.1 c.band_mut-one.result.now number_is c.band_mut-one.ensures.value in
    let first_there : c.loop-k.k < length c.loop-k.first.bands = omega (arith, c.band_mut-one.ensures.there, number_is) in
    bands-keep part c.loop-k.k c.args.first.now c.loop-k.first c.band_mut-one.result.now c.fill_rects.new.first c.band_numbered-level.result.0 c.band_numbered-level.result.1 c.band_rect-rect.result number_is first_there first_is rect_is c.loop-k.invariant.first_keeps c.fill_rects.ensures.first_keeps

pub returns-then-not-fill_rects-clause-second_keeps : goal.returns-then-not-fill_rects-clause-second_keeps
returns-then-not-fill_rects-clause-second_keeps c =
    let part : Part = part_in c.args.job in
    let rect_is : c.band_rect-rect.result ≡ rect_of part c.loop-k.k = rect_here part.slicing part.size part.sx part.sy c.loop-k.k c.band_numbered-level.result.0 c.band_rect-rect.result c.band_numbered-level.ensures.level c.band_rect-rect.ensures in
    let number_is = number_here c.loop-k.k c.band_numbered-level.result.0 c.band_numbered-level.result.1 c.band_numbered-level.ensures.level c.band_numbered-level.ensures.orient in
    let second_is = before_here c.loop-k.second c.loop-k.k c.band_numbered-level.result.0 c.band_numbered-level.result.1 c.band_mut-two.result.now number_is c.band_mut-two.ensures.value in
    let second_there : c.loop-k.k < length c.loop-k.second.bands = omega (arith, c.band_mut-two.ensures.there, number_is) in
    bands-keep part c.loop-k.k c.args.second.now c.loop-k.second c.band_mut-two.result.now c.fill_rects.new.second c.band_numbered-level.result.0 c.band_numbered-level.result.1 c.band_rect-rect.result number_is second_there second_is rect_is c.loop-k.invariant.second_keeps c.fill_rects.ensures.second_keeps

pub loop-k-preserved : goal.loop-k-preserved
loop-k-preserved c =
    let part : Part = part_in c.args.job in
    let rect_is : c.band_rect-rect.result ≡ rect_of part c.loop-k.k = rect_here part.slicing part.size part.sx part.sy c.loop-k.k c.band_numbered-level.result.0 c.band_rect-rect.result c.band_numbered-level.ensures.level c.band_rect-rect.ensures in
    let number_is = number_here c.loop-k.k c.band_numbered-level.result.0 c.band_numbered-level.result.1 c.band_numbered-level.ensures.level c.band_numbered-level.ensures.orient in
    let first_is = before_here c.loop-k.first c.loop-k.k c.band_numbered-level.result.0 c.band_numbered-level.result.1 c.band_mut-one.result.now number_is c.band_mut-one.ensures.value in
    let second_is = before_here c.loop-k.second c.loop-k.k c.band_numbered-level.result.0 c.band_numbered-level.result.1 c.band_mut-two.result.now number_is c.band_mut-two.ensures.value in
    let index_is : c.quantiser-index.result ≡ index_of part c.loop-k.k = index_here part.matrix part.qindex c.band_numbered-level.result.0 _ c.band_numbered-level.result.1 _ _ c.quantiser-index.result c.band_numbered-level.ensures.level c.band_numbered-level.ensures.orient c.orient_numbered.ensures c.quantiser-index.ensures in
    let first_there : c.loop-k.k < length c.loop-k.first.bands = omega (arith, c.band_mut-one.ensures.there, number_is) in
    let second_there : c.loop-k.k < length c.loop-k.second.bands = omega (arith, c.band_mut-two.ensures.there, number_is) in
    let i = c.loop-k.invariant in
    let good = c.if-not-fill_rects.false in
    record {
      room = omega (arith, i.room, c.fill_rects.auto.buffer);
      small = sym (bands-small 2 part c.loop-k.k c.args.block.now c.loop-k.block c.quantiser-index.result c.band_rect-rect.result _ rect_is index_is i.small i.left (sym good ∙ c.fill_rects.ensures.small));
      left = bands-left 2 part c.loop-k.k c.args.block.now c.loop-k.block c.fill_rects.new.block c.quantiser-index.result c.band_rect-rect.result rect_is index_is i.left (c.fill_rects.ensures.left good);
      first = bands-hold 2 0 part c.loop-k.k c.args.block.now c.loop-k.block c.args.first.now c.loop-k.first c.band_mut-one.result.now c.fill_rects.new.first c.band_numbered-level.result.0 c.band_numbered-level.result.1 c.quantiser-index.result c.band_rect-rect.result number_is first_there first_is (i.first_rest c.loop-k.k (omega arith)) rect_is index_is i.left i.first (c.fill_rects.ensures.first good);
      second = bands-hold 2 1 part c.loop-k.k c.args.block.now c.loop-k.block c.args.second.now c.loop-k.second c.band_mut-two.result.now c.fill_rects.new.second c.band_numbered-level.result.0 c.band_numbered-level.result.1 c.quantiser-index.result c.band_rect-rect.result number_is second_there second_is (i.second_rest c.loop-k.k (omega arith)) rect_is index_is i.left i.second (c.fill_rects.ensures.second good);
      first_keeps = bands-keep part c.loop-k.k c.args.first.now c.loop-k.first c.band_mut-one.result.now c.fill_rects.new.first c.band_numbered-level.result.0 c.band_numbered-level.result.1 c.band_rect-rect.result number_is first_there first_is rect_is c.loop-k.invariant.first_keeps c.fill_rects.ensures.first_keeps;
      second_keeps = bands-keep part c.loop-k.k c.args.second.now c.loop-k.second c.band_mut-two.result.now c.fill_rects.new.second c.band_numbered-level.result.0 c.band_numbered-level.result.1 c.band_rect-rect.result number_is second_there second_is rect_is c.loop-k.invariant.second_keeps c.fill_rects.ensures.second_keeps;
      first_rest = λ j past. numbered-other c.loop-k.first c.band_numbered-level.result.0 c.band_numbered-level.result.1 c.loop-k.k j c.fill_rects.new.first number_is (omega arith) ∙ i.first_rest j (omega arith);
      second_rest = λ j past. numbered-other c.loop-k.second c.band_numbered-level.result.0 c.band_numbered-level.result.1 c.loop-k.k j c.fill_rects.new.second number_is (omega arith) ∙ i.second_rest j (omega arith);
    }

pub fill_rects-requires-clause-across : goal.fill_rects-requires-clause-across
fill_rects-requires-clause-across c = grind (arith, common_steps)
