use Rattle.std.proofs.Common.{length, ◌≡◌, ◌∙◌, refl, ap, subst, arith, sym}
use Rattle.std.proofs.lemmas.Grind.{common_steps}
use Rattle.slice_encoder.specs.Trials.{CodedPicture, Lists}
use Rattle.slice_encoder.specs.Tries.{AreTried, tried_lists}
use Rattle.slice_encoder.specs.Ready.{AreReadyToWrite, AreGiven, coded_picture}
use Rattle.slice_encoder.specs.Buffers.{HasListRoom}
use Rattle.slice_encoder.specs.Encoded.{SliceEncoderSeen, share_of, trial_of}
use Rattle.slice_encoder.proofs.Continues.{lists_go_on, go_on}
use Rattle.slice_encoder.proofs.Encoding.{sizes_of, trial_is}
use Rattle.slice_encoder.proofs.encoder.SliceEncoder.trial.Goals as goal

pub returns-clause-answer : goal.returns-clause-answer
returns-clause-answer c =
    let a = c.args in
    let e = c.self.inside in
    subst (λ (s : SliceEncoderSeen). record { luma_need = c.try_rows-trying.result.luma_need; colour_need = c.try_rows-trying.result.colour_need; fits = c.try_rows-trying.result.fits }
    ≡ trial_of (share_of s.slicing a.sx a.sy) (tried_lists (coded_picture s.slicing s.shape a.matrix.now a.coefficients.now) a.kept.now a.sx a.sy a.qindex)) c.self.view_is
    (trial_is c.share_of.result _ (tried_lists (coded_picture e.layout e.shape a.matrix.now a.coefficients.now) a.kept.now a.sx a.sy a.qindex) _ c.try_rows-trying.result _ _ c.share_of.ensures.value c.try_rows-trying.ensures.holds)

pub returns-clause-after : goal.returns-clause-after
returns-clause-after c = λ indices next kept.
    let a = c.args in
    let j : CodedPicture = coded_picture a.self.now.slicing a.self.now.shape a.matrix.now a.coefficients.now in
    let sizes = sizes_of j a.sx a.sy a.kept.now c.requires.ready in
    let tries = subst (λ (s : SliceEncoderSeen). AreTried (coded_picture s.slicing s.shape a.matrix.now a.coefficients.now) a.sx a.sy a.qindex a.kept.now c.try_rows-trying.new.kept) c.self.view_is c.try_rows-trying.ensures.kept in
    record {
      answer = returns-clause-answer c ∙ ap (λ (l : Lists). trial_of (share_of j.slicing a.sx a.sy) l) (lists_go_on j indices a.sx a.sy a.qindex a.kept.now next sizes kept);
      values = (go_on j indices a.sx a.sy a.qindex a.kept.now c.try_rows-trying.new.kept next sizes kept tries).1;
    }

pub try_rows-trying-requires : goal.try_rows-trying-requires
try_rows-trying-requires c =
    let a = c.args in
    let ready = subst (λ (s : SliceEncoderSeen). AreReadyToWrite (coded_picture s.slicing s.shape a.matrix.now a.coefficients.now) a.sx a.sy a.kept.now) (sym c.self.view_is) c.requires.ready in
    let given : AreGiven (coded_picture c.self.inside.layout c.self.inside.shape a.matrix.now a.coefficients.now) = record {
      entries = ready.entries;
      luma_bits = grind (arith, common_steps);
      colour_bits = grind (arith, common_steps);
      luma = record { depth = ready.luma.depth; sizes = ready.luma.sizes; small = ready.luma.small };
      c1 = record { depth = ready.c1.depth; sizes = ready.c1.sizes; small = ready.c1.small };
      c2 = record { depth = ready.c2.depth; sizes = ready.c2.sizes; small = ready.c2.small };
    }
    in
    let own = c.self.invariant.room in
    let room : HasListRoom (coded_picture c.self.inside.layout c.self.inside.shape a.matrix.now a.coefficients.now) a.sx a.sy (length c.deref_mut.result.now) (length c.deref_mut-2.result.now) = record {
      luma = omega (arith, c.deref_mut.ensures.len, own.luma a.sx a.sy ready.across ready.down);
      colour = omega (arith, c.deref_mut-2.ensures.len, own.colour a.sx a.sy ready.across ready.down);
      few_luma = omega (arith, c.deref_mut.ensures.len, own.few_luma);
      few_colour = omega (arith, c.deref_mut-2.ensures.len, own.few_colour);
    }
    in
    (refl, (c.requires.index, (c.share_of.ensures.some, (c.share_of.ensures.most, (ready, (given, (c.self.invariant.holds, room)))))))
