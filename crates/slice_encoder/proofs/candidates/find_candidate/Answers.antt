use Rattle.std.proofs.Common.{◌≡◌, ◌∙◌, ℕ, ◌+◌, ◌/◌, true, sym, ap, subst, arith}
use Rattle.slice_encoder.specs.declared.bounding.Lower.{Lower}
use Rattle.slice_encoder.specs.Trials.{CodedPicture}
use Rattle.slice_encoder.specs.LowNeeds.{lower_of, may_fit}
use Rattle.slice_encoder.specs.Ready.{coded_picture}
use Rattle.slice_encoder.proofs.LowBounds.{refuted_below}
use Rattle.slice_encoder.proofs.FirstCandidates.{last_may}
use Rattle.slice_encoder.proofs.candidates.find_candidate.Goals as goal

pub loop-start-init : goal.loop-start-init
loop-start-init c =
    let a = c.args in
    let j : CodedPicture = coded_picture a.layout.now a.shape.now a.matrix.now a.coefficients.now in
    record { order = omega arith; most = omega arith; may = last_may j a.bytes a.sx a.sy c.requires.given c.requires.steep; refuted = λ i lt. absurd (omega arith) }

pub loop-start-preserved-then-may : goal.loop-start-preserved-then-may
loop-start-preserved-then-may c =
    let l = c.loop-start in
    record { order = omega arith; most = omega (arith, l.invariant.most); may = sym (c.do_fit-may.ensures ∙ ap (λ (l : Lower). may_fit c.args.bytes l) c.lower_at-low.ensures.value) ∙ c.if-may.true; refuted = l.invariant.refuted }

pub loop-start-preserved : goal.loop-start-preserved
loop-start-preserved c =
    let a = c.args in
    let l = c.loop-start in
    let j : CodedPicture = coded_picture a.layout.now a.shape.now a.matrix.now a.coefficients.now in
    let middle : ℕ = (l.start + l.end) / 2 in
    record {
      order = omega arith;
      most = l.invariant.most;
      may = l.invariant.may;
      refuted = λ i lt. refuted_below j a.bytes a.sx a.sy i middle (omega arith) (omega (arith, l.invariant.most)) (sym (c.do_fit-may.ensures ∙ ap (λ (l : Lower). may_fit c.args.bytes l) c.lower_at-low.ensures.value) ∙ c.if-may.false);
    }

pub returns : goal.returns
returns c =
    let a = c.args in
    let l = c.loop-start in
    let j : CodedPicture = coded_picture a.layout.now a.shape.now a.matrix.now a.coefficients.now in
    let met : l.end ≡ l.start = omega (arith, l.invariant.order) in
    record {
      most = omega (arith, l.invariant.order, l.invariant.most);
      may = subst (λ (k : ℕ). may_fit a.bytes (lower_of j a.sx a.sy k) ≡ true) met l.invariant.may;
      least = l.invariant.refuted;
    }
