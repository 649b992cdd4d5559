use Rattle.std.proofs.Common.{◌≡◌, ◌+◌, ◌*◌, ◌<◌, length, refl, sym, ◌∙◌, arith}
use Rattle.std.proofs.lemmas.Grind.{common_steps}
use Rattle.slice_decoder.specs.Jobs.{part_in}
use Rattle.slice_decoder.specs.Components.{Part, rect_of, index_of}
use Rattle.quant_factors.proofs.Quantisers.{index_here}
use Rattle.slice_decoder.proofs.Stacks.{bands-small, bands-left, bands-stopped, bands-keep, bands-hold}
use Rattle.slice_geometry.proofs.NumberedBands.{numbered-other, number_here, before_here}
use Rattle.slice_geometry.proofs.RectsInBands.{FitsIn, fits, rect_here}
use Rattle.slice_decoder.specs.Components.{quantisers_before}
use Rattle.slice_decoder.proofs.components.luma_by_rows.Goals as goal

pub loop-k-init : goal.loop-k-init
unfolding quantisers_before
loop-k-init c = record {
  small = refl;
  left = refl;
  holds = record { same_depth = refl; bands = λ k below. absurd (omega arith) };
  keeps = record { same_depth = refl; bands = λ k. record { same_width = refl; same_height = refl; outside = λ y x out. refl } };
  rest = λ k le. refl;
}

pub fill_rect-requires-clause-down : goal.fill_rect-requires-clause-down
fill_rect-requires-clause-down c =
    let part : Part = part_in c.args.job in
    let rect_is : c.band_rect-rect.result ≡ rect_of part c.loop-k.k = rect_here part.slicing part.size part.sx part.sy c.loop-k.k c.band_numbered-level.result.0 c.band_rect-rect.result c.band_numbered-level.ensures.level c.band_rect-rect.ensures in
    let number_is = number_here c.loop-k.k c.band_numbered-level.result.0 c.band_numbered-level.result.1 c.band_numbered-level.ensures.level c.band_numbered-level.ensures.orient in
    let before_is = before_here c.loop-k.bands c.loop-k.k c.band_numbered-level.result.0 c.band_numbered-level.result.1 c.band_mut.result.now number_is c.band_mut.ensures.value in
    let below : c.loop-k.k < 3 * c.args.job.layout.now.depth + 1 = omega (arith, c.loop-k-test.true, c.depth.ensures.value) in
    let inside : FitsIn c.band_rect-rect.result c.band_mut.result.now = fits part.slicing part.size part.sx part.sy c.loop-k.k c.band_rect-rect.result c.args.bands.now c.band_mut.result.now rect_is (before_is ∙ c.loop-k.invariant.rest c.loop-k.k (omega arith)) below c.requires.sizes.depth c.requires.job.across c.requires.job.down c.requires.sizes.sizes in
    inside.down

pub fill_rect-requires-clause-x_inside : goal.fill_rect-requires-clause-x_inside
fill_rect-requires-clause-x_inside c =
    let part : Part = part_in c.args.job in
    let rect_is : c.band_rect-rect.result ≡ rect_of part c.loop-k.k = rect_here part.slicing part.size part.sx part.sy c.loop-k.k c.band_numbered-level.result.0 c.band_rect-rect.result c.band_numbered-level.ensures.level c.band_rect-rect.ensures in
    let number_is = number_here c.loop-k.k c.band_numbered-level.result.0 c.band_numbered-level.result.1 c.band_numbered-level.ensures.level c.band_numbered-level.ensures.orient in
    let before_is = before_here c.loop-k.bands c.loop-k.k c.band_numbered-level.result.0 c.band_numbered-level.result.1 c.band_mut.result.now number_is c.band_mut.ensures.value in
    let below : c.loop-k.k < 3 * c.args.job.layout.now.depth + 1 = omega (arith, c.loop-k-test.true, c.depth.ensures.value) in
    let inside : FitsIn c.band_rect-rect.result c.band_mut.result.now = fits part.slicing part.size part.sx part.sy c.loop-k.k c.band_rect-rect.result c.args.bands.now c.band_mut.result.now rect_is (before_is ∙ c.loop-k.invariant.rest c.loop-k.k (omega arith)) below c.requires.sizes.depth c.requires.job.across c.requires.job.down c.requires.sizes.sizes in
    inside.x_inside

pub fill_rect-requires-clause-y_inside : goal.fill_rect-requires-clause-y_inside
fill_rect-requires-clause-y_inside c =
    let part : Part = part_in c.args.job in
    let rect_is : c.band_rect-rect.result ≡ rect_of part c.loop-k.k = rect_here part.slicing part.size part.sx part.sy c.loop-k.k c.band_numbered-level.result.0 c.band_rect-rect.result c.band_numbered-level.ensures.level c.band_rect-rect.ensures in
    let number_is = number_here c.loop-k.k c.band_numbered-level.result.0 c.band_numbered-level.result.1 c.band_numbered-level.ensures.level c.band_numbered-level.ensures.orient in
    let before_is = before_here c.loop-k.bands c.loop-k.k c.band_numbered-level.result.0 c.band_numbered-level.result.1 c.band_mut.result.now number_is c.band_mut.ensures.value in
    let below : c.loop-k.k < 3 * c.args.job.layout.now.depth + 1 = omega (arith, c.loop-k-test.true, c.depth.ensures.value) in
    let inside : FitsIn c.band_rect-rect.result c.band_mut.result.now = fits part.slicing part.size part.sx part.sy c.loop-k.k c.band_rect-rect.result c.args.bands.now c.band_mut.result.now rect_is (before_is ∙ c.loop-k.invariant.rest c.loop-k.k (omega arith)) below c.requires.sizes.depth c.requires.job.across c.requires.job.down c.requires.sizes.sizes in
    inside.y_inside

pub returns-then-not-fill_rect-clause-small : goal.returns-then-not-fill_rect-clause-small
returns-then-not-fill_rect-clause-small c =
    let part : Part = part_in c.args.job in
    let rect_is : c.band_rect-rect.result ≡ rect_of part c.loop-k.k = rect_here part.slicing part.size part.sx part.sy c.loop-k.k c.band_numbered-level.result.0 c.band_rect-rect.result c.band_numbered-level.ensures.level c.band_rect-rect.ensures in
    let number_is = number_here c.loop-k.k c.band_numbered-level.result.0 c.band_numbered-level.result.1 c.band_numbered-level.ensures.level c.band_numbered-level.ensures.orient in
    let before_is = before_here c.loop-k.bands c.loop-k.k c.band_numbered-level.result.0 c.band_numbered-level.result.1 c.band_mut.result.now number_is c.band_mut.ensures.value in
    let index_is : c.quantiser-index.result ≡ index_of part c.loop-k.k = index_here part.matrix part.qindex c.band_numbered-level.result.0 _ c.band_numbered-level.result.1 _ _ c.quantiser-index.result c.band_numbered-level.ensures.level c.band_numbered-level.ensures.orient c.orient_numbered.ensures c.quantiser-index.ensures in
    let there : c.loop-k.k < length c.loop-k.bands.bands = omega (arith, c.band_mut.ensures.there, number_is) in
    let large = bands-small 1 part c.loop-k.k c.args.block.now c.loop-k.block c.quantiser-index.result c.band_rect-rect.result _ rect_is index_is c.loop-k.invariant.small c.loop-k.invariant.left (sym c.if-not-fill_rect.true ∙ c.fill_rect.ensures.small) in
    bands-stopped 1 part c.loop-k.k (3 * c.args.job.layout.now.depth + 1) c.args.block.now (omega (arith, c.loop-k-test.true, c.depth.ensures.value)) large

pub returns-then-not-fill_rect-clause-keeps : goal.returns-then-not-fill_rect-clause-keeps
returns-then-not-fill_rect-clause-keeps c =
    let part : Part = part_in c.args.job in
    let rect_is : c.band_rect-rect.result ≡ rect_of part c.loop-k.k = rect_here part.slicing part.size part.sx part.sy c.loop-k.k c.band_numbered-level.result.0 c.band_rect-rect.result c.band_numbered-level.ensures.level c.band_rect-rect.ensures in
    let number_is = number_here c.loop-k.k c.band_numbered-level.result.0 c.band_numbered-level.result.1 c.band_numbered-level.ensures.level c.band_numbered-level.ensures.orient in
    let before_is = before_here c.loop-k.bands c.loop-k.k c.band_numbered-level.result.0 c.band_numbered-level.result.1 c.band_mut.result.now number_is c.band_mut.ensures.value in
    let there : c.loop-k.k < length c.loop-k.bands.bands = omega (arith, c.band_mut.ensures.there, number_is) in
    bands-keep part c.loop-k.k c.args.bands.now c.loop-k.bands c.band_mut.result.now c.fill_rect.new.plane c.band_numbered-level.result.0 c.band_numbered-level.result.1 c.band_rect-rect.result number_is there before_is rect_is c.loop-k.invariant.keeps c.fill_rect.ensures.keeps

pub loop-k-preserved : goal.loop-k-preserved
loop-k-preserved c =
    let part : Part = part_in c.args.job in
    let rect_is : c.band_rect-rect.result ≡ rect_of part c.loop-k.k = rect_here part.slicing part.size part.sx part.sy c.loop-k.k c.band_numbered-level.result.0 c.band_rect-rect.result c.band_numbered-level.ensures.level c.band_rect-rect.ensures in
    let number_is = number_here c.loop-k.k c.band_numbered-level.result.0 c.band_numbered-level.result.1 c.band_numbered-level.ensures.level c.band_numbered-level.ensures.orient in
    let before_is = before_here c.loop-k.bands c.loop-k.k c.band_numbered-level.result.0 c.band_numbered-level.result.1 c.band_mut.result.now number_is c.band_mut.ensures.value in
    let index_is : c.quantiser-index.result ≡ index_of part c.loop-k.k = index_here part.matrix part.qindex c.band_numbered-level.result.0 _ c.band_numbered-level.result.1 _ _ c.quantiser-index.result c.band_numbered-level.ensures.level c.band_numbered-level.ensures.orient c.orient_numbered.ensures c.quantiser-index.ensures in
    let there : c.loop-k.k < length c.loop-k.bands.bands = omega (arith, c.band_mut.ensures.there, number_is) in
    let i = c.loop-k.invariant in
    let good = c.if-not-fill_rect.false in
    record {
      small = sym (bands-small 1 part c.loop-k.k c.args.block.now c.loop-k.block c.quantiser-index.result c.band_rect-rect.result _ rect_is index_is i.small i.left (sym good ∙ c.fill_rect.ensures.small));
      left = bands-left 1 part c.loop-k.k c.args.block.now c.loop-k.block c.fill_rect.new.block c.quantiser-index.result c.band_rect-rect.result rect_is index_is i.left (c.fill_rect.ensures.left good);
      holds = bands-hold 1 0 part c.loop-k.k c.args.block.now c.loop-k.block c.args.bands.now c.loop-k.bands c.band_mut.result.now c.fill_rect.new.plane c.band_numbered-level.result.0 c.band_numbered-level.result.1 c.quantiser-index.result c.band_rect-rect.result number_is there before_is (i.rest c.loop-k.k (omega arith)) rect_is index_is i.left i.holds (c.fill_rect.ensures.holds good);
      keeps = bands-keep part c.loop-k.k c.args.bands.now c.loop-k.bands c.band_mut.result.now c.fill_rect.new.plane c.band_numbered-level.result.0 c.band_numbered-level.result.1 c.band_rect-rect.result number_is there before_is rect_is i.keeps c.fill_rect.ensures.keeps;
      rest = λ j past. numbered-other c.loop-k.bands c.band_numbered-level.result.0 c.band_numbered-level.result.1 c.loop-k.k j c.fill_rect.new.plane number_is (omega arith) ∙ i.rest j (omega arith);
    }

pub fill_rect-requires-clause-across : goal.fill_rect-requires-clause-across
fill_rect-requires-clause-across c = grind (arith, common_steps)
