-- `c.requires` is a tuple here, since the function has a ghost value: ready, gathered.
use Rattle.std.proofs.Common.{◌∙◌, ap, w64}
use Rattle.std.proofs.lemmas.Int.{to_z-of_z}
use Rattle.planes.specs.Raster.{at}
use Rattle.planes.specs.declared.Rect.{Rect}
use Rattle.slice_geometry.specs.SliceOrder.{numbered}
use Rattle.slice_encoder.specs.Trials.{CodedPicture, luma_of, c1_of, c2_of}
use Rattle.slice_encoder.specs.RectTrials.{grid_in}
use Rattle.slice_encoder.specs.FirstResiduals.{first_in}
use Rattle.slice_encoder.specs.Jobs.{picture_of}
use Rattle.slice_encoder.proofs.FirstPlaces.{first_same}
use Rattle.slice_encoder.proofs.LowestLists.{lowest_count, lowest_same}
use Rattle.slice_encoder.proofs.Tried.{can_try_rect}
use Rattle.slice_encoder.proofs.first_residuals.first_residuals.Goals as goal

pub first_of-requires : goal.first_of-requires
first_of-requires g c =
    let a = c.args in
    let shape = a.job.shape.now in
    let j : CodedPicture = picture_of a.job g.coefficients in
    let own = c.requires.1 in
    let r = a.gathered.now.lowest.luma in
    let list = c.lowest_values.result.now in
    record {
      count = lowest_count j.slicing j.frame.luma j.coefficients.luma a.job.sx a.job.sy a.gathered.now.luma own.luma r own.lowest.luma list c.lowest_values.ensures.count;
      can = can_try_rect (luma_of j) shape.luma_depth a.job.sx a.job.sy r (grid_in r list) a.kept.now.luma c.depth-depth.ensures.allowed.depth shape.luma_depth_fits.most c.requires.0.across c.requires.0.down own.lowest.luma
          (lowest_same j.slicing j.frame.luma j.coefficients.luma a.job.sx a.job.sy a.gathered.now.luma own.luma r own.lowest.luma list c.lowest_values.ensures.value) c.requires.0.luma;
    }

pub first_of-requires-2 : goal.first_of-requires-2
first_of-requires-2 g c =
    let a = c.args in
    let shape = a.job.shape.now in
    let j : CodedPicture = picture_of a.job g.coefficients in
    let own = c.requires.1 in
    let r = a.gathered.now.lowest.colour in
    let list = c.lowest_values-2.result.now in
    record {
      count = lowest_count j.slicing j.frame.colour j.coefficients.c1 a.job.sx a.job.sy a.gathered.now.c1 own.c1 r own.lowest.colour list c.lowest_values-2.ensures.count;
      can = can_try_rect (c1_of j) shape.colour_depth a.job.sx a.job.sy r (grid_in r list) a.kept.now.c1 c.depth-depth.ensures.allowed.depth shape.colour_depth_fits.most c.requires.0.across c.requires.0.down own.lowest.colour
          (lowest_same j.slicing j.frame.colour j.coefficients.c1 a.job.sx a.job.sy a.gathered.now.c1 own.c1 r own.lowest.colour list c.lowest_values-2.ensures.value) c.requires.0.c1;
    }

pub first_of-requires-3 : goal.first_of-requires-3
first_of-requires-3 g c =
    let a = c.args in
    let shape = a.job.shape.now in
    let j : CodedPicture = picture_of a.job g.coefficients in
    let own = c.requires.1 in
    let r = a.gathered.now.lowest.colour in
    let list = c.lowest_values-3.result.now in
    record {
      count = lowest_count j.slicing j.frame.colour j.coefficients.c2 a.job.sx a.job.sy a.gathered.now.c2 own.c2 r own.lowest.colour list c.lowest_values-3.ensures.count;
      can = can_try_rect (c2_of j) shape.colour_depth a.job.sx a.job.sy r (grid_in r list) a.kept.now.c2 c.depth-depth.ensures.allowed.depth shape.colour_depth_fits.most c.requires.0.across c.requires.0.down own.lowest.colour
          (lowest_same j.slicing j.frame.colour j.coefficients.c2 a.job.sx a.job.sy a.gathered.now.c2 own.c2 r own.lowest.colour list c.lowest_values-3.ensures.value) c.requires.0.c2;
    }

pub returns-clause-first : goal.returns-clause-first
returns-clause-first g c =
    let a = c.args in
    let j : CodedPicture = picture_of a.job g.coefficients in
    let own = c.requires.1 in
    record {
      luma =
          to_z-of_z w64 c.first_of.result (record { sfits = c.first_of.type_inv })
          ∙ c.first_of.ensures.value
          ∙ first_same a.gathered.now.lowest.luma (grid_in a.gathered.now.lowest.luma c.lowest_values.result.now) (at (numbered j.coefficients.luma 0)) (at a.kept.now.luma)
          (lowest_same j.slicing j.frame.luma j.coefficients.luma a.job.sx a.job.sy a.gathered.now.luma own.luma a.gathered.now.lowest.luma own.lowest.luma c.lowest_values.result.now c.lowest_values.ensures.value)
          ∙ ap (λ (r : Rect). first_in r (at (numbered j.coefficients.luma 0)) (at a.kept.now.luma)) own.lowest.luma;
      c1 =
          to_z-of_z w64 c.first_of-2.result (record { sfits = c.first_of-2.type_inv })
          ∙ c.first_of-2.ensures.value
          ∙ first_same a.gathered.now.lowest.colour (grid_in a.gathered.now.lowest.colour c.lowest_values-2.result.now) (at (numbered j.coefficients.c1 0)) (at a.kept.now.c1)
          (lowest_same j.slicing j.frame.colour j.coefficients.c1 a.job.sx a.job.sy a.gathered.now.c1 own.c1 a.gathered.now.lowest.colour own.lowest.colour c.lowest_values-2.result.now c.lowest_values-2.ensures.value)
          ∙ ap (λ (r : Rect). first_in r (at (numbered j.coefficients.c1 0)) (at a.kept.now.c1)) own.lowest.colour;
      c2 =
          to_z-of_z w64 c.first_of-3.result (record { sfits = c.first_of-3.type_inv })
          ∙ c.first_of-3.ensures.value
          ∙ first_same a.gathered.now.lowest.colour (grid_in a.gathered.now.lowest.colour c.lowest_values-3.result.now) (at (numbered j.coefficients.c2 0)) (at a.kept.now.c2)
          (lowest_same j.slicing j.frame.colour j.coefficients.c2 a.job.sx a.job.sy a.gathered.now.c2 own.c2 a.gathered.now.lowest.colour own.lowest.colour c.lowest_values-3.result.now c.lowest_values-3.ensures.value)
          ∙ ap (λ (r : Rect). first_in r (at (numbered j.coefficients.c2 0)) (at a.kept.now.c2)) own.lowest.colour;
    }
