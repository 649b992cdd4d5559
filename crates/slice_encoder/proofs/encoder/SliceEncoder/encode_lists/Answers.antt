-- `c.requires` is a tuple here, since the function has a ghost value: some, most, luma, c1, c2, ready, steep.
use Rattle.std.proofs.Common.{length, rules, max, sym, subst, arith}
use Rattle.std.proofs.lemmas.Grind.{common_steps}
use Rattle.slice_encoder.specs.Tries.{AreTried, tried_lists}
use Rattle.slice_encoder.specs.Ready.{AreReadyToWrite, AreGiven, coded_picture}
use Rattle.slice_encoder.specs.Buffers.{HasListRoom}
use Rattle.slice_encoder.specs.TrialLaws.{IsSteepOk}
use Rattle.slice_encoder.specs.Encoded.{IsEncoded, SliceEncoderSeen}
use Rattle.slice_encoder.specs.SliceLists.{HoldsSlice}
use Rattle.slice_encoder.proofs.Encoding.{encoded_after}
use Rattle.slice_encoder.proofs.encoder.SliceEncoder.encode_lists.Goals as goal

pub returns-clause-slice : goal.returns-clause-slice
returns-clause-slice g c =
    let a = c.args in
    let written = c.encode_gathered-written in
    subst (λ (s : SliceEncoderSeen). IsEncoded (tried_lists (coded_picture s.slicing s.shape a.matrix.now g.coefficients) a.kept.now a.sx a.sy) written.new.bytes written.result.head) c.self.view_is written.ensures.slice

pub returns-clause-kept : goal.returns-clause-kept
returns-clause-kept g c =
    let a = c.args in
    let written = c.encode_gathered-written in
    subst (λ (s : SliceEncoderSeen). AreTried (coded_picture s.slicing s.shape a.matrix.now g.coefficients) a.sx a.sy written.result.head.qindex a.kept.now written.new.kept) c.self.view_is written.ensures.kept

pub returns-clause-after : goal.returns-clause-after
returns-clause-after g c = λ indices next kept.
    let a = c.args in
    let written = c.encode_gathered-written in
    encoded_after (coded_picture a.self.now.slicing a.self.now.shape a.matrix.now g.coefficients) indices a.sx a.sy written.new.bytes written.result.head a.kept.now written.new.kept c.requires.1.1.1.1.1.0 (returns-clause-slice g c) (returns-clause-kept g c) next kept

pub take_lists-requires : goal.take_lists-requires
take_lists-requires g c =
    let a = c.args in
    let ready = subst (λ (s : SliceEncoderSeen). AreReadyToWrite (coded_picture s.slicing s.shape a.matrix.now g.coefficients) a.sx a.sy a.kept.now) (sym c.self.view_is) c.requires.1.1.1.1.1.0 in
    let given : AreGiven (coded_picture c.self.inside.layout c.self.inside.shape a.matrix.now g.coefficients) = record {
      entries = ready.entries;
      luma_bits = grind (arith, common_steps);
      colour_bits = grind (arith, common_steps);
      luma = record { depth = ready.luma.depth; sizes = ready.luma.sizes; small = ready.luma.small };
      c1 = record { depth = ready.c1.depth; sizes = ready.c1.sizes; small = ready.c1.small };
      c2 = record { depth = ready.c2.depth; sizes = ready.c2.sizes; small = ready.c2.small };
    }
    in
    let luma = subst (λ (s : SliceEncoderSeen). HoldsSlice s.slicing s.shape.luma g.coefficients.luma a.sx a.sy a.luma.now) (sym c.self.view_is) c.requires.1.1.0 in
    let c1 = subst (λ (s : SliceEncoderSeen). HoldsSlice s.slicing s.shape.colour g.coefficients.c1 a.sx a.sy a.c1.now) (sym c.self.view_is) c.requires.1.1.1.0 in
    let c2 = subst (λ (s : SliceEncoderSeen). HoldsSlice s.slicing s.shape.colour g.coefficients.c2 a.sx a.sy a.c2.now) (sym c.self.view_is) c.requires.1.1.1.1.0 in
    (ready.across, (ready.down, (given, (luma, (c1, (c2, c.self.invariant.holds))))))

pub encode_gathered-written-requires : goal.encode_gathered-written-requires
encode_gathered-written-requires g c =
    let a = c.args in
    let ready = subst (λ (s : SliceEncoderSeen). AreReadyToWrite (coded_picture s.slicing s.shape a.matrix.now g.coefficients) a.sx a.sy a.kept.now) (sym c.self.view_is) c.requires.1.1.1.1.1.0 in
    let steep = subst (λ (s : SliceEncoderSeen). IsSteepOk s.slicing.depth (max s.shape.luma_depth s.shape.colour_depth) a.matrix.now) (sym c.self.view_is) c.requires.1.1.1.1.1.1 in
    let own = c.self.invariant.room in
    let room : HasListRoom (coded_picture c.self.inside.layout c.self.inside.shape a.matrix.now g.coefficients) a.sx a.sy (length c.deref_mut.result.now) (length c.deref_mut-2.result.now) = record {
      luma = omega (arith, c.deref_mut.ensures.len, own.luma a.sx a.sy ready.across ready.down);
      colour = omega (arith, c.deref_mut-2.ensures.len, own.colour a.sx a.sy ready.across ready.down);
      few_luma = omega (arith, c.deref_mut.ensures.len, own.few_luma);
      few_colour = omega (arith, c.deref_mut-2.ensures.len, own.few_colour);
    }
    in
    (c.requires.0, (c.requires.1.0, (search rules, (ready, (c.take_lists.ensures.gathered, (c.self.invariant.index, (steep, (room, c.self.invariant.lists))))))))

pub invariant_of-self : goal.invariant_of-self
invariant_of-self g c = record {
  holds = c.take_lists.ensures.room;
  index = c.encode_gathered-written.ensures.near;
  room = record { luma = c.self.invariant.room.luma; colour = c.self.invariant.room.colour; few_luma = c.self.invariant.room.few_luma; few_colour = c.self.invariant.room.few_colour };
  lists = c.encode_gathered-written.ensures.writer c.self.inside.layout c.self.invariant.lists;
}
