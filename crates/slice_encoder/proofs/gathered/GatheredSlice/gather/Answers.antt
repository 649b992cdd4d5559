use Rattle.std.proofs.Common.{◌∙◌, ◌^◌, ◌≤◌, length, sym, ap, subst, arith}
use Rattle.slice_geometry.specs.SliceOrder.{place_count}
use Rattle.slice_encoder.specs.Trials.{luma_of, c1_of, c2_of}
use Rattle.slice_encoder.specs.Jobs.{picture_of}
use Rattle.slice_encoder.specs.SliceRects.{SliceRectsSeen}
use Rattle.slice_encoder.specs.Gathering.{GatheredSeen, CanGatherAll, AreGathered}
use Rattle.slice_encoder.proofs.GatheredLists.{ends_same, last_end}
use Rattle.slice_encoder.proofs.Gathers.{given_gathers}
use Rattle.slice_encoder.proofs.gathered.GatheredSlice.gather.Goals as goal

pub ends-luma_ends-requires-clause-few : goal.ends-luma_ends-requires-clause-few
ends-luma_ends-requires-clause-few c =
    let a = c.args in
    subst (λ (r : SliceRectsSeen). place_count r.slicing r.size a.job.sx a.job.sy ≤ 2 ^ 31) (sym c.requires.room.luma_rects)
    (omega (arith, c.requires.room.luma a.job.sx a.job.sy c.requires.across c.requires.down, c.depth-luma.ensures.sound.few))

pub ends-ends-requires-clause-few : goal.ends-ends-requires-clause-few
ends-ends-requires-clause-few c =
    let a = c.args in
    subst (λ (r : SliceRectsSeen). place_count r.slicing r.size a.job.sx a.job.sy ≤ 2 ^ 31) (sym c.requires.room.colour_rects)
    (omega (arith, c.requires.room.c1 a.job.sx a.job.sy c.requires.across c.requires.down, c.depth-colour.ensures.sound.few))

pub take_rects-requires-clause-can : goal.take_rects-requires-clause-can
take_rects-requires-clause-can c =
    let a = c.args in
    subst (λ (r : SliceRectsSeen). CanGatherAll r.slicing r.size a.coefficients.now.luma) (sym c.requires.room.luma_rects) (given_gathers (luma_of (picture_of a.job a.coefficients.now)) a.job.shape.now.luma_depth c.depth-depth.ensures.allowed.depth c.requires.given.luma_bits.most c.requires.given.luma)

pub take_rects-requires-2-clause-can : goal.take_rects-requires-2-clause-can
take_rects-requires-2-clause-can c =
    let a = c.args in
    subst (λ (r : SliceRectsSeen). CanGatherAll r.slicing r.size a.coefficients.now.c1) (sym c.requires.room.colour_rects) (given_gathers (c1_of (picture_of a.job a.coefficients.now)) a.job.shape.now.colour_depth c.depth-depth.ensures.allowed.depth c.requires.given.colour_bits.most c.requires.given.c1)

pub take_rects-requires-3-clause-can : goal.take_rects-requires-3-clause-can
take_rects-requires-3-clause-can c =
    let a = c.args in
    subst (λ (r : SliceRectsSeen). CanGatherAll r.slicing r.size a.coefficients.now.c2) (sym c.requires.room.colour_rects) (given_gathers (c2_of (picture_of a.job a.coefficients.now)) a.job.shape.now.colour_depth c.depth-depth.ensures.allowed.depth c.requires.given.colour_bits.most c.requires.given.c2)

pub take_sizes-requires-clause-ends : goal.take_sizes-requires-clause-ends
take_sizes-requires-clause-ends c = λ k le.
    let a = c.args in
    let first = subst (λ (r : SliceRectsSeen). AreGathered r.slicing r.size a.coefficients.now.c1 a.job.sx a.job.sy c.take_rects-2.new.self) c.requires.room.colour_rects c.take_rects-2.ensures.gathered in
    let second = subst (λ (r : SliceRectsSeen). AreGathered r.slicing r.size a.coefficients.now.c2 a.job.sx a.job.sy c.take_rects-3.new.self) c.requires.room.colour_rects c.take_rects-3.ensures.gathered in
    ends_same (picture_of a.job a.coefficients.now) 0 a.job.sx a.job.sy c.take_rects-2.new.self c.take_rects-3.new.self first second k le

pub take_sizes-requires-clause-luma_room : goal.take_sizes-requires-clause-luma_room
take_sizes-requires-clause-luma_room c =
    let a = c.args in
    let gathered = subst (λ (r : SliceRectsSeen). AreGathered r.slicing r.size a.coefficients.now.luma a.job.sx a.job.sy c.take_rects.new.self) c.requires.room.luma_rects c.take_rects.ensures.gathered in
    let count = last_end (luma_of (picture_of a.job a.coefficients.now)) 0 a.job.sx a.job.sy c.take_rects.new.self gathered in
    omega (arith, count, c.requires.room.luma_sizes a.job.sx a.job.sy c.requires.across c.requires.down)

pub take_sizes-requires-clause-colour_room : goal.take_sizes-requires-clause-colour_room
take_sizes-requires-clause-colour_room c =
    let a = c.args in
    let gathered = subst (λ (r : SliceRectsSeen). AreGathered r.slicing r.size a.coefficients.now.c1 a.job.sx a.job.sy c.take_rects-2.new.self) c.requires.room.colour_rects c.take_rects-2.ensures.gathered in
    let count = last_end (c1_of (picture_of a.job a.coefficients.now)) 0 a.job.sx a.job.sy c.take_rects-2.new.self gathered in
    omega (arith, count, c.requires.room.colour_sizes a.job.sx a.job.sy c.requires.across c.requires.down)

pub returns-clause-room : goal.returns-clause-room
returns-clause-room c =
    let room = c.requires.room in
    let sizes = c.take_sizes.ensures in
    record {
      luma_rects = sizes.luma_rects ∙ room.luma_rects;
      colour_rects = sizes.colour_rects ∙ room.colour_rects;
      luma = λ sx sy across down. omega (arith, room.luma sx sy across down, c.take_rects.ensures.room, ap (λ (v : GatheredSeen). length v.values) sizes.luma);
      c1 = λ sx sy across down. omega (arith, room.c1 sx sy across down, c.take_rects-2.ensures.room, ap (λ (v : GatheredSeen). length v.values) sizes.c1);
      c2 = λ sx sy across down. omega (arith, room.c2 sx sy across down, c.take_rects-3.ensures.room, ap (λ (v : GatheredSeen). length v.values) sizes.c2);
      luma_sizes = λ sx sy across down. omega (arith, room.luma_sizes sx sy across down, sizes.luma_room);
      colour_sizes = λ sx sy across down. omega (arith, room.colour_sizes sx sy across down, sizes.colour_room);
    }

pub returns-clause-gathered : goal.returns-clause-gathered
returns-clause-gathered c =
    let a = c.args in
    let sizes = c.take_sizes.ensures in
    record {
      luma = subst (λ (v : GatheredSeen). AreGathered a.job.layout.now a.job.shape.now.luma a.coefficients.now.luma a.job.sx a.job.sy v) (sym sizes.luma) (subst (λ (r : SliceRectsSeen). AreGathered r.slicing r.size a.coefficients.now.luma a.job.sx a.job.sy c.take_rects.new.self) c.requires.room.luma_rects c.take_rects.ensures.gathered);
      c1 = subst (λ (v : GatheredSeen). AreGathered a.job.layout.now a.job.shape.now.colour a.coefficients.now.c1 a.job.sx a.job.sy v) (sym sizes.c1) (subst (λ (r : SliceRectsSeen). AreGathered r.slicing r.size a.coefficients.now.c1 a.job.sx a.job.sy c.take_rects-2.new.self) c.requires.room.colour_rects c.take_rects-2.ensures.gathered);
      c2 = subst (λ (v : GatheredSeen). AreGathered a.job.layout.now a.job.shape.now.colour a.coefficients.now.c2 a.job.sx a.job.sy v) (sym sizes.c2) (subst (λ (r : SliceRectsSeen). AreGathered r.slicing r.size a.coefficients.now.c2 a.job.sx a.job.sy c.take_rects-3.new.self) c.requires.room.colour_rects c.take_rects-3.ensures.gathered);
      lowest = sizes.lowest a.coefficients.now;
      sizes = sizes.sizes;
    }
