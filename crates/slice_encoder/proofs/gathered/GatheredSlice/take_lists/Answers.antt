-- `c.requires` is a tuple here, since the function has a ghost value: across, down, given, luma, c1, c2, room.
use Rattle.std.proofs.Common.{◌∙◌, ◌^◌, ◌≤◌, length, sym, ap, subst, arith}
use Rattle.slice_geometry.specs.SliceOrder.{place_count}
use Rattle.slice_encoder.specs.Trials.{luma_of, c1_of, c2_of}
use Rattle.slice_encoder.specs.Jobs.{picture_of}
use Rattle.slice_encoder.specs.SliceRects.{SliceRectsSeen}
use Rattle.slice_encoder.specs.Gathering.{GatheredSeen, AreGathered}
use Rattle.slice_encoder.proofs.GatheredLists.{ends_same, last_end}
use Rattle.slice_encoder.proofs.Gathers.{given_gathers}
use Rattle.slice_encoder.specs.SliceLists.{HoldsSlice}
use Rattle.slice_encoder.proofs.SliceRuns.{run_small}
use Rattle.slice_encoder.proofs.gathered.GatheredSlice.take_lists.Goals as goal

pub ends-luma_ends-requires-clause-few : goal.ends-luma_ends-requires-clause-few
ends-luma_ends-requires-clause-few g c =
    let a = c.args in
    subst (λ (r : SliceRectsSeen). place_count r.slicing r.size a.job.sx a.job.sy ≤ 2 ^ 31) (sym c.requires.1.1.1.1.1.1.luma_rects)
    (omega (arith, c.requires.1.1.1.1.1.1.luma a.job.sx a.job.sy c.requires.0 c.requires.1.0, c.depth-luma.ensures.sound.few))

pub ends-ends-requires-clause-few : goal.ends-ends-requires-clause-few
ends-ends-requires-clause-few g c =
    let a = c.args in
    subst (λ (r : SliceRectsSeen). place_count r.slicing r.size a.job.sx a.job.sy ≤ 2 ^ 31) (sym c.requires.1.1.1.1.1.1.colour_rects)
    (omega (arith, c.requires.1.1.1.1.1.1.c1 a.job.sx a.job.sy c.requires.0 c.requires.1.0, c.depth-colour.ensures.sound.few))

pub take_list-requires-clause-small : goal.take_list-requires-clause-small
take_list-requires-clause-small g c =
    let a = c.args in
    run_small a.job.layout.now a.job.shape.now.luma g.coefficients.luma a.job.sx a.job.sy a.luma.now c.requires.1.1.1.0 (given_gathers (luma_of (picture_of a.job g.coefficients)) a.job.shape.now.luma_depth c.depth-depth.ensures.allowed.depth c.requires.1.1.0.luma_bits.most c.requires.1.1.0.luma)

pub take_list-requires-2-clause-small : goal.take_list-requires-2-clause-small
take_list-requires-2-clause-small g c =
    let a = c.args in
    run_small a.job.layout.now a.job.shape.now.colour g.coefficients.c1 a.job.sx a.job.sy a.c1.now c.requires.1.1.1.1.0 (given_gathers (c1_of (picture_of a.job g.coefficients)) a.job.shape.now.colour_depth c.depth-depth.ensures.allowed.depth c.requires.1.1.0.colour_bits.most c.requires.1.1.0.c1)

pub take_list-requires-3-clause-small : goal.take_list-requires-3-clause-small
take_list-requires-3-clause-small g c =
    let a = c.args in
    run_small a.job.layout.now a.job.shape.now.colour g.coefficients.c2 a.job.sx a.job.sy a.c2.now c.requires.1.1.1.1.1.0 (given_gathers (c2_of (picture_of a.job g.coefficients)) a.job.shape.now.colour_depth c.depth-depth.ensures.allowed.depth c.requires.1.1.0.colour_bits.most c.requires.1.1.0.c2)

pub take_sizes-requires-clause-luma : goal.take_sizes-requires-clause-luma
take_sizes-requires-clause-luma g c =
    let a = c.args in
    let gathered = subst (λ (r : SliceRectsSeen). AreGathered r.slicing r.size g.coefficients.luma a.job.sx a.job.sy c.take_list.new.self) c.requires.1.1.1.1.1.1.luma_rects (c.take_list.ensures.gathered g.coefficients.luma (subst (λ (r : SliceRectsSeen). HoldsSlice r.slicing r.size g.coefficients.luma a.job.sx a.job.sy a.luma.now) (sym c.requires.1.1.1.1.1.1.luma_rects) c.requires.1.1.1.0)) in
    c.requires.1.1.0.entries ∙ sym gathered.depth

pub take_sizes-requires-clause-c1 : goal.take_sizes-requires-clause-c1
take_sizes-requires-clause-c1 g c =
    let a = c.args in
    let gathered = subst (λ (r : SliceRectsSeen). AreGathered r.slicing r.size g.coefficients.c1 a.job.sx a.job.sy c.take_list-2.new.self) c.requires.1.1.1.1.1.1.colour_rects (c.take_list-2.ensures.gathered g.coefficients.c1 (subst (λ (r : SliceRectsSeen). HoldsSlice r.slicing r.size g.coefficients.c1 a.job.sx a.job.sy a.c1.now) (sym c.requires.1.1.1.1.1.1.colour_rects) c.requires.1.1.1.1.0)) in
    c.requires.1.1.0.entries ∙ sym gathered.depth

pub take_sizes-requires-clause-c2 : goal.take_sizes-requires-clause-c2
take_sizes-requires-clause-c2 g c =
    let a = c.args in
    let gathered = subst (λ (r : SliceRectsSeen). AreGathered r.slicing r.size g.coefficients.c2 a.job.sx a.job.sy c.take_list-3.new.self) c.requires.1.1.1.1.1.1.colour_rects (c.take_list-3.ensures.gathered g.coefficients.c2 (subst (λ (r : SliceRectsSeen). HoldsSlice r.slicing r.size g.coefficients.c2 a.job.sx a.job.sy a.c2.now) (sym c.requires.1.1.1.1.1.1.colour_rects) c.requires.1.1.1.1.1.0)) in
    c.requires.1.1.0.entries ∙ sym gathered.depth

pub take_sizes-requires-clause-ends : goal.take_sizes-requires-clause-ends
take_sizes-requires-clause-ends g c = λ k le.
    let a = c.args in
    let first = subst (λ (r : SliceRectsSeen). AreGathered r.slicing r.size g.coefficients.c1 a.job.sx a.job.sy c.take_list-2.new.self) c.requires.1.1.1.1.1.1.colour_rects (c.take_list-2.ensures.gathered g.coefficients.c1 (subst (λ (r : SliceRectsSeen). HoldsSlice r.slicing r.size g.coefficients.c1 a.job.sx a.job.sy a.c1.now) (sym c.requires.1.1.1.1.1.1.colour_rects) c.requires.1.1.1.1.0)) in
    let second = subst (λ (r : SliceRectsSeen). AreGathered r.slicing r.size g.coefficients.c2 a.job.sx a.job.sy c.take_list-3.new.self) c.requires.1.1.1.1.1.1.colour_rects (c.take_list-3.ensures.gathered g.coefficients.c2 (subst (λ (r : SliceRectsSeen). HoldsSlice r.slicing r.size g.coefficients.c2 a.job.sx a.job.sy a.c2.now) (sym c.requires.1.1.1.1.1.1.colour_rects) c.requires.1.1.1.1.1.0)) in
    ends_same (picture_of a.job g.coefficients) 0 a.job.sx a.job.sy c.take_list-2.new.self c.take_list-3.new.self first second k le

pub take_sizes-requires-clause-luma_room : goal.take_sizes-requires-clause-luma_room
take_sizes-requires-clause-luma_room g c =
    let a = c.args in
    let gathered = subst (λ (r : SliceRectsSeen). AreGathered r.slicing r.size g.coefficients.luma a.job.sx a.job.sy c.take_list.new.self) c.requires.1.1.1.1.1.1.luma_rects (c.take_list.ensures.gathered g.coefficients.luma (subst (λ (r : SliceRectsSeen). HoldsSlice r.slicing r.size g.coefficients.luma a.job.sx a.job.sy a.luma.now) (sym c.requires.1.1.1.1.1.1.luma_rects) c.requires.1.1.1.0)) in
    let count = last_end (luma_of (picture_of a.job g.coefficients)) 0 a.job.sx a.job.sy c.take_list.new.self gathered in
    omega (arith, count, c.requires.1.1.1.1.1.1.luma_sizes a.job.sx a.job.sy c.requires.0 c.requires.1.0)

pub take_sizes-requires-clause-colour_room : goal.take_sizes-requires-clause-colour_room
take_sizes-requires-clause-colour_room g c =
    let a = c.args in
    let gathered = subst (λ (r : SliceRectsSeen). AreGathered r.slicing r.size g.coefficients.c1 a.job.sx a.job.sy c.take_list-2.new.self) c.requires.1.1.1.1.1.1.colour_rects (c.take_list-2.ensures.gathered g.coefficients.c1 (subst (λ (r : SliceRectsSeen). HoldsSlice r.slicing r.size g.coefficients.c1 a.job.sx a.job.sy a.c1.now) (sym c.requires.1.1.1.1.1.1.colour_rects) c.requires.1.1.1.1.0)) in
    let count = last_end (c1_of (picture_of a.job g.coefficients)) 0 a.job.sx a.job.sy c.take_list-2.new.self gathered in
    omega (arith, count, c.requires.1.1.1.1.1.1.colour_sizes a.job.sx a.job.sy c.requires.0 c.requires.1.0)

pub returns-clause-room : goal.returns-clause-room
returns-clause-room g c =
    let room = c.requires.1.1.1.1.1.1 in
    let sizes = c.take_sizes.ensures in
    record {
      luma_rects = sizes.luma_rects ∙ room.luma_rects;
      colour_rects = sizes.colour_rects ∙ room.colour_rects;
      luma = λ sx sy across down. omega (arith, room.luma sx sy across down, c.take_list.ensures.room, ap (λ (v : GatheredSeen). length v.values) sizes.luma);
      c1 = λ sx sy across down. omega (arith, room.c1 sx sy across down, c.take_list-2.ensures.room, ap (λ (v : GatheredSeen). length v.values) sizes.c1);
      c2 = λ sx sy across down. omega (arith, room.c2 sx sy across down, c.take_list-3.ensures.room, ap (λ (v : GatheredSeen). length v.values) sizes.c2);
      luma_sizes = λ sx sy across down. omega (arith, room.luma_sizes sx sy across down, sizes.luma_room);
      colour_sizes = λ sx sy across down. omega (arith, room.colour_sizes sx sy across down, sizes.colour_room);
    }

pub returns-clause-gathered : goal.returns-clause-gathered
returns-clause-gathered g c =
    let a = c.args in
    let sizes = c.take_sizes.ensures in
    record {
      luma = subst (λ (v : GatheredSeen). AreGathered a.job.layout.now a.job.shape.now.luma g.coefficients.luma a.job.sx a.job.sy v) (sym sizes.luma) (subst (λ (r : SliceRectsSeen). AreGathered r.slicing r.size g.coefficients.luma a.job.sx a.job.sy c.take_list.new.self) c.requires.1.1.1.1.1.1.luma_rects (c.take_list.ensures.gathered g.coefficients.luma (subst (λ (r : SliceRectsSeen). HoldsSlice r.slicing r.size g.coefficients.luma a.job.sx a.job.sy a.luma.now) (sym c.requires.1.1.1.1.1.1.luma_rects) c.requires.1.1.1.0)));
      c1 = subst (λ (v : GatheredSeen). AreGathered a.job.layout.now a.job.shape.now.colour g.coefficients.c1 a.job.sx a.job.sy v) (sym sizes.c1) (subst (λ (r : SliceRectsSeen). AreGathered r.slicing r.size g.coefficients.c1 a.job.sx a.job.sy c.take_list-2.new.self) c.requires.1.1.1.1.1.1.colour_rects (c.take_list-2.ensures.gathered g.coefficients.c1 (subst (λ (r : SliceRectsSeen). HoldsSlice r.slicing r.size g.coefficients.c1 a.job.sx a.job.sy a.c1.now) (sym c.requires.1.1.1.1.1.1.colour_rects) c.requires.1.1.1.1.0)));
      c2 = subst (λ (v : GatheredSeen). AreGathered a.job.layout.now a.job.shape.now.colour g.coefficients.c2 a.job.sx a.job.sy v) (sym sizes.c2) (subst (λ (r : SliceRectsSeen). AreGathered r.slicing r.size g.coefficients.c2 a.job.sx a.job.sy c.take_list-3.new.self) c.requires.1.1.1.1.1.1.colour_rects (c.take_list-3.ensures.gathered g.coefficients.c2 (subst (λ (r : SliceRectsSeen). HoldsSlice r.slicing r.size g.coefficients.c2 a.job.sx a.job.sy a.c2.now) (sym c.requires.1.1.1.1.1.1.colour_rects) c.requires.1.1.1.1.1.0)));
      lowest = sizes.lowest g.coefficients;
      sizes = sizes.sizes;
    }
