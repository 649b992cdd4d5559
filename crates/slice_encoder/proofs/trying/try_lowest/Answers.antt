-- `c.requires` is a tuple here, since the function has a ghost value: index, ready, gathered, room.
use Rattle.std.proofs.Common.{◌≡◌, ◌∙◌, ap, refl, ℕ, ◌+◌, ◌*◌, ◌≤◌, length, get_or, pos, ℤ, arith}
use Rattle.planes.specs.Raster.{Grid, Raster, at}
use Rattle.dc_prediction.specs.Prediction.{prediction}
use Rattle.slice_geometry.specs.SliceOrder.{area, number_in, numbered}
use Rattle.slice_encoder.specs.Loop.{residual_of}
use Rattle.slice_encoder.specs.Trials.{CodedPicture, luma_of, c1_of, c2_of}
use Rattle.slice_encoder.specs.RectTrials.{grid_in}
use Rattle.slice_encoder.specs.Listing.{band_value}
use Rattle.slice_encoder.specs.Jobs.{picture_of}
use Rattle.slice_encoder.proofs.Tried.{rect_is_tried, can_try_rect}
use Rattle.slice_encoder.proofs.BandParts.{part_here, pair_part_here}
use Rattle.slice_encoder.proofs.LowestLists.{lowest_count, lowest_same, tries_same}
use Rattle.slice_encoder.proofs.RectLists.{rect_in_front, pairs_in_front}
use Rattle.slice_encoder.proofs.RestoredNeeds.{lowest_within}
use Rattle.slice_encoder.proofs.trying.try_lowest.Goals as goal

pub try_rect-requires-clause-count : goal.try_rect-requires-clause-count
try_rect-requires-clause-count g c =
    let a = c.args in
    let j : CodedPicture = picture_of a.job g.coefficients in
    lowest_count j.slicing j.frame.luma j.coefficients.luma a.job.sx a.job.sy a.gathered.now.luma c.requires.1.1.0.luma a.gathered.now.lowest.luma c.requires.1.1.0.lowest.luma c.lowest_values-lowest.result.now c.lowest_values-lowest.ensures.count

pub try_rect-requires-2-clause-count : goal.try_rect-requires-2-clause-count
try_rect-requires-2-clause-count g c =
    let a = c.args in
    let j : CodedPicture = picture_of a.job g.coefficients in
    lowest_count j.slicing j.frame.colour j.coefficients.c1 a.job.sx a.job.sy a.gathered.now.c1 c.requires.1.1.0.c1 a.gathered.now.lowest.colour c.requires.1.1.0.lowest.colour c.lowest_values-first.result.now c.lowest_values-first.ensures.count

pub try_rect-requires-3-clause-count : goal.try_rect-requires-3-clause-count
try_rect-requires-3-clause-count g c =
    let a = c.args in
    let j : CodedPicture = picture_of a.job g.coefficients in
    lowest_count j.slicing j.frame.colour j.coefficients.c2 a.job.sx a.job.sy a.gathered.now.c2 c.requires.1.1.0.c2 a.gathered.now.lowest.colour c.requires.1.1.0.lowest.colour c.lowest_values-second.result.now c.lowest_values-second.ensures.count

pub try_rect-requires-clause-can : goal.try_rect-requires-clause-can
try_rect-requires-clause-can g c =
    let a = c.args in
    let shape = a.job.shape.now in
    let j : CodedPicture = picture_of a.job g.coefficients in
    let rect = a.gathered.now.lowest.luma in
    let list = c.lowest_values-lowest.result.now in
    can_try_rect (luma_of j) shape.luma_depth a.job.sx a.job.sy rect (grid_in rect list) a.kept.now.luma c.depth-depth.ensures.allowed.depth shape.luma_depth_fits.most c.requires.1.0.across c.requires.1.0.down c.requires.1.1.0.lowest.luma
    (lowest_same j.slicing j.frame.luma j.coefficients.luma a.job.sx a.job.sy a.gathered.now.luma c.requires.1.1.0.luma rect c.requires.1.1.0.lowest.luma list c.lowest_values-lowest.ensures.value) c.requires.1.0.luma

pub try_rect-requires-2-clause-can : goal.try_rect-requires-2-clause-can
try_rect-requires-2-clause-can g c =
    let a = c.args in
    let shape = a.job.shape.now in
    let j : CodedPicture = picture_of a.job g.coefficients in
    let rect = a.gathered.now.lowest.colour in
    let list = c.lowest_values-first.result.now in
    can_try_rect (c1_of j) shape.colour_depth a.job.sx a.job.sy rect (grid_in rect list) a.kept.now.c1 c.depth-depth.ensures.allowed.depth shape.colour_depth_fits.most c.requires.1.0.across c.requires.1.0.down c.requires.1.1.0.lowest.colour
    (lowest_same j.slicing j.frame.colour j.coefficients.c1 a.job.sx a.job.sy a.gathered.now.c1 c.requires.1.1.0.c1 rect c.requires.1.1.0.lowest.colour list c.lowest_values-first.ensures.value) c.requires.1.0.c1

pub try_rect-requires-3-clause-can : goal.try_rect-requires-3-clause-can
try_rect-requires-3-clause-can g c =
    let a = c.args in
    let shape = a.job.shape.now in
    let j : CodedPicture = picture_of a.job g.coefficients in
    let rect = a.gathered.now.lowest.colour in
    let list = c.lowest_values-second.result.now in
    can_try_rect (c2_of j) shape.colour_depth a.job.sx a.job.sy rect (grid_in rect list) a.kept.now.c2 c.depth-depth.ensures.allowed.depth shape.colour_depth_fits.most c.requires.1.0.across c.requires.1.0.down c.requires.1.1.0.lowest.colour
    (lowest_same j.slicing j.frame.colour j.coefficients.c2 a.job.sx a.job.sy a.gathered.now.c2 c.requires.1.1.0.c2 rect c.requires.1.1.0.lowest.colour list c.lowest_values-second.ensures.value) c.requires.1.0.c2

pub try_rect-requires-clause-room : goal.try_rect-requires-clause-room
try_rect-requires-clause-room g c =
    let j : CodedPicture = picture_of c.args.job g.coefficients in
    omega (arith, lowest_within (luma_of j) c.args.job.sx c.args.job.sy, c.requires.1.1.1.luma, ap area c.requires.1.1.0.lowest.luma)

pub try_rect-requires-2-clause-room : goal.try_rect-requires-2-clause-room
try_rect-requires-2-clause-room g c =
    let j : CodedPicture = picture_of c.args.job g.coefficients in
    omega (arith, lowest_within (c1_of j) c.args.job.sx c.args.job.sy, c.requires.1.1.1.colour, ap area c.requires.1.1.0.lowest.colour)

pub try_rect-requires-3-clause-room : goal.try_rect-requires-3-clause-room
try_rect-requires-3-clause-room g c =
    let j : CodedPicture = picture_of c.args.job g.coefficients in
    omega (arith, lowest_within (c1_of j) c.args.job.sx c.args.job.sy, c.requires.1.1.1.colour, ap area c.requires.1.1.0.lowest.colour, c.try_rect-2.auto.out)

pub returns-clause-tried : goal.returns-clause-tried
returns-clause-tried g c =
    let a = c.args in
    let j : CodedPicture = picture_of a.job g.coefficients in
    let q : ℕ = c.quantiser-quantiser.result in
    let one = a.gathered.now.lowest.luma in
    let two = a.gathered.now.lowest.colour in
    let own = c.requires.1.1.0 in
    record {
      luma =
          rect_is_tried (luma_of j) a.job.sx a.job.sy a.index q one a.kept.now.luma c.try_rect.new.kept own.lowest.luma c.quantiser-quantiser.ensures
          (tries_same (grid_in one c.lowest_values-lowest.result.now) (at (numbered j.coefficients.luma 0)) q one a.kept.now.luma c.try_rect.new.kept
          (lowest_same j.slicing j.frame.luma j.coefficients.luma a.job.sx a.job.sy a.gathered.now.luma own.luma one own.lowest.luma c.lowest_values-lowest.result.now c.lowest_values-lowest.ensures.value) c.try_rect.ensures.tried);
      c1 =
          rect_is_tried (c1_of j) a.job.sx a.job.sy a.index q two a.kept.now.c1 c.try_rect-2.new.kept own.lowest.colour c.quantiser-quantiser.ensures
          (tries_same (grid_in two c.lowest_values-first.result.now) (at (numbered j.coefficients.c1 0)) q two a.kept.now.c1 c.try_rect-2.new.kept
          (lowest_same j.slicing j.frame.colour j.coefficients.c1 a.job.sx a.job.sy a.gathered.now.c1 own.c1 two own.lowest.colour c.lowest_values-first.result.now c.lowest_values-first.ensures.value) c.try_rect-2.ensures.tried);
      c2 =
          rect_is_tried (c2_of j) a.job.sx a.job.sy a.index q two a.kept.now.c2 c.try_rect-3.new.kept own.lowest.colour c.quantiser-quantiser.ensures
          (tries_same (grid_in two c.lowest_values-second.result.now) (at (numbered j.coefficients.c2 0)) q two a.kept.now.c2 c.try_rect-3.new.kept
          (lowest_same j.slicing j.frame.colour j.coefficients.c2 a.job.sx a.job.sy a.gathered.now.c2 own.c2 two own.lowest.colour c.lowest_values-second.result.now c.lowest_values-second.ensures.value) c.try_rect-3.ensures.tried);
    }

pub returns-clause-listed : goal.returns-clause-listed
returns-clause-listed g c =
    let a = c.args in
    let j : CodedPicture = picture_of a.job g.coefficients in
    let q : ℕ = c.quantiser-quantiser.result in
    let own = c.requires.1.1.0 in
    let r1 = a.gathered.now.lowest.luma in
    let r2 = a.gathered.now.lowest.colour in
    let one = c.try_rect.new.out in
    let two = c.try_rect-2.new.out in
    let three = c.try_rect-3.new.out in
    let b1 : Raster ℤ = numbered j.coefficients.luma 0 in
    let b2 : Raster ℤ = numbered j.coefficients.c1 0 in
    let b3 : Raster ℤ = numbered j.coefficients.c2 0 in
    let value : Grid = band_value b1 c.try_rect.new.kept 0 q in
    let first : Grid = band_value b2 c.try_rect-2.new.kept 0 q in
    let second : Grid = band_value b3 c.try_rect-3.new.kept 0 q in
    let same1 = lowest_same j.slicing j.frame.luma j.coefficients.luma a.job.sx a.job.sy a.gathered.now.luma own.luma r1 own.lowest.luma c.lowest_values-lowest.result.now c.lowest_values-lowest.ensures.value in
    let same2 = lowest_same j.slicing j.frame.colour j.coefficients.c1 a.job.sx a.job.sy a.gathered.now.c1 own.c1 r2 own.lowest.colour c.lowest_values-first.result.now c.lowest_values-first.ensures.value in
    let same3 = lowest_same j.slicing j.frame.colour j.coefficients.c2 a.job.sx a.job.sy a.gathered.now.c2 own.c2 r2 own.lowest.colour c.lowest_values-second.result.now c.lowest_values-second.ensures.value in
    let luma_room : area r1 ≤ length one =
    omega (arith, lowest_within (luma_of j) a.job.sx a.job.sy, c.requires.1.1.1.luma, ap area own.lowest.luma, c.try_rect.ensures.listed.same_length) in
    let colour_room : 2 * area r2 ≤ length three =
    omega (arith, lowest_within (c1_of j) a.job.sx a.job.sy, c.requires.1.1.1.colour, ap area own.lowest.colour, c.try_rect-2.ensures.listed.same_length, c.try_rect-3.ensures.listed.same_length) in
    record {
      luma =
          rect_in_front one value r1 luma_room
          (λ y x here.
          let n : ℕ = number_in r1 y x in
          let slot : n ≡ 0 + 1 * n = omega arith in
          ap (λ (m : ℕ). get_or one m (pos 0)) slot ∙ c.try_rect.ensures.listed.values y x here
          ∙ ap (λ (v : ℤ). residual_of v q (prediction (at c.try_rect.new.kept) y x)) (same1 y x here))
          ∙ part_here (luma_of j) c.try_rect.new.kept a.index a.job.sx a.job.sy 0 0 q r1 b1 refl own.lowest.luma refl c.quantiser-quantiser.ensures;
      colour =
          pairs_in_front three first second r2 colour_room
          (λ y x here.
          let n : ℕ = number_in r2 y x in
          let slot : 2 * n ≡ 0 + 2 * n = omega arith in
          c.try_rect-3.ensures.listed.stays (2 * n) (λ k e. omega (arith, e))
          ∙ ap (λ (m : ℕ). get_or two m (pos 0)) slot
          ∙ c.try_rect-2.ensures.listed.values y x here
          ∙ ap (λ (v : ℤ). residual_of v q (prediction (at c.try_rect-2.new.kept) y x)) (same2 y x here))
          (λ y x here. c.try_rect-3.ensures.listed.values y x here ∙ ap (λ (v : ℤ). residual_of v q (prediction (at c.try_rect-3.new.kept) y x)) (same3 y x here))
          ∙ pair_part_here (c1_of j) (c2_of j) c.try_rect-2.new.kept c.try_rect-3.new.kept a.index a.job.sx a.job.sy 0 0 q r2 b2 b3 refl refl own.lowest.colour refl refl c.quantiser-quantiser.ensures;
    }
