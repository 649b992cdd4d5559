use Rattle.std.proofs.Common.{◌≡◌, ◌∙◌, ◌+◌, ℕ, true, false, sym, ap, subst, arith}
use Rattle.slice_encoder.specs.GatheredSlices.{gathered_low, AreLooks}
use Rattle.slice_encoder.proofs.GatheredLists.{low_refuted_below, gathered_may}
use Rattle.slice_encoder.specs.LowNeeds.{may_fit}
use Rattle.slice_encoder.proofs.candidates.find_first.Goals as goal

pub loop-start-init : goal.loop-start-init
loop-start-init c = record {
  order = omega arith;
  most = omega arith;
  steps = omega arith;
  near = omega (arith, c.requires.near);
  may = c.requires.last;
  known = λ e. absurd (let q : false ≡ true = e in cc);
  next = λ e. absurd (let q : false ≡ true = e in cc);
  refuted = λ i lt. absurd (omega arith);
}

pub loop-start-preserved-then-may : goal.loop-start-preserved-then-may
loop-start-preserved-then-may c =
    let l = c.loop-start in
    let g = c.args.gathered.now in
    let low_is : c.low-low.result ≡ gathered_low g c.args.firsts c.args.matrix.now c.probe-index.result = c.low-low.ensures.value in
    record {
      order = c.probe-index.ensures.low;
      most = omega (arith, l.invariant.most, c.probe-index.ensures.high);
      steps = c.longer-step.ensures;
      near = omega (arith, l.invariant.most, c.probe-index.ensures.high);
      may = gathered_may c.args.bytes c.low-low.result (gathered_low g c.args.firsts c.args.matrix.now c.probe-index.result) true low_is (sym c.do_fit-may.ensures ∙ c.if-may.true);
      known = λ e. c.looks-here.ensures;
      next = λ e. subst (λ (i : ℕ). AreLooks l.looks g c.args.matrix.now i) (c.is_next-has_next.ensures.next e) (l.invariant.known (c.is_next-has_next.ensures.known e));
      refuted = l.invariant.refuted;
    }

pub loop-start-preserved : goal.loop-start-preserved
loop-start-preserved c =
    let l = c.loop-start in
    let g = c.args.gathered.now in
    let low_is : c.low-low.result ≡ gathered_low g c.args.firsts c.args.matrix.now c.probe-index.result = c.low-low.ensures.value in
    record {
      order = omega (arith, c.probe-index.ensures.high);
      most = l.invariant.most;
      steps = c.longer-step.ensures;
      near = omega (arith, l.invariant.most, c.probe-index.ensures.high, l.invariant.steps);
      may = l.invariant.may;
      known = l.invariant.known;
      next = l.invariant.next;
      refuted = λ i lt.
          low_refuted_below g c.args.firsts c.args.matrix.now c.args.bytes i c.probe-index.result (omega arith) (omega (arith, l.invariant.most, c.probe-index.ensures.high))
          (gathered_may c.args.bytes c.low-low.result (gathered_low g c.args.firsts c.args.matrix.now c.probe-index.result) false low_is (sym c.do_fit-may.ensures ∙ c.if-may.false));
    }

pub returns-then-not-known-clause-first : goal.returns-then-not-known-clause-first
returns-then-not-known-clause-first c =
    let l = c.loop-start in
    let same : l.end ≡ l.start = omega (arith, c.loop-start-test.false, l.invariant.order) in
    record {
      most = omega (arith, l.invariant.order, l.invariant.most);
      may = ap (λ (i : ℕ). may_fit c.args.bytes (gathered_low c.args.gathered.now c.args.firsts c.args.matrix.now i)) (sym same) ∙ l.invariant.may;
      least = l.invariant.refuted;
    }

pub returns-then-not-known-clause-next : goal.returns-then-not-known-clause-next
returns-then-not-known-clause-next c =
    let l = c.loop-start in
    let same : l.end ≡ l.start = omega (arith, c.loop-start-test.false, l.invariant.order) in
    λ e. subst (λ (i : ℕ). AreLooks l.next c.args.gathered.now c.args.matrix.now (i + 1)) same (l.invariant.next e)

pub returns-else-not-known-clause-first : goal.returns-else-not-known-clause-first
returns-else-not-known-clause-first c =
    let l = c.loop-start in
    let same : l.end ≡ l.start = omega (arith, c.loop-start-test.false, l.invariant.order) in
    record {
      most = omega (arith, l.invariant.order, l.invariant.most);
      may = ap (λ (i : ℕ). may_fit c.args.bytes (gathered_low c.args.gathered.now c.args.firsts c.args.matrix.now i)) (sym same) ∙ l.invariant.may;
      least = l.invariant.refuted;
    }

pub returns-else-not-known-clause-looks : goal.returns-else-not-known-clause-looks
returns-else-not-known-clause-looks c =
    let l = c.loop-start in
    let same : l.end ≡ l.start = omega (arith, c.loop-start-test.false, l.invariant.order) in
    subst (λ (i : ℕ). AreLooks l.looks c.args.gathered.now c.args.matrix.now i) same (l.invariant.known c.if-not-known.false)

pub returns-else-not-known-clause-next : goal.returns-else-not-known-clause-next
returns-else-not-known-clause-next c =
    let l = c.loop-start in
    let same : l.end ≡ l.start = omega (arith, c.loop-start-test.false, l.invariant.order) in
    λ e. subst (λ (i : ℕ). AreLooks l.next c.args.gathered.now c.args.matrix.now (i + 1)) same (l.invariant.next e)
