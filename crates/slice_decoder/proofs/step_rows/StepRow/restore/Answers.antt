use Rattle.std.proofs.Common.{◌≡◌, ℕ, ◌<◌, ◌≤◌, length, get_or, ℤ, pos, to_z, of_z, w16, unsigned_abs, sym, ap, subst, ◌∙◌, rules, arith}
use Rattle.std.specs.Prelude.{◌↔◌, true}
use Rattle.std.proofs.lemmas.Int.{to_z-of_z}
use Rattle.quant_factors.specs.Factors.{inverse_of}
use Rattle.slice_decoder.specs.StepRows.{StepRowSeen, quantisers_by}
use Rattle.slice_decoder.proofs.StepRows.{lent-steps, test-next, restored-next, rest-next, row-stays}
use Rattle.slice_decoder.proofs.step_rows.StepRow.restore.Goals as goal

pub loop-k-preserved : goal.loop-k-preserved
loop-k-preserved c =
    let l = c.loop-k in
    let i = c.self.inside in
    let vs = c.args.values.now in
    let quantisers = quantisers_by c.args.self.now.key in
    let limits = c.deref-3.result.now in
    let steps = lent-steps i.key c.args.self.now.key i.factors.items i.adds.items i.limits.items c.deref.result.now c.deref-2.result.now limits
    (ap (λ (r : StepRowSeen). r.key) c.self.view_is) c.deref.ensures.value c.deref-2.ensures.value c.deref-3.ensures.value c.self.invariant in
    let inside : l.k < length vs = omega (arith, c.loop-k-test.true, l.auto.k-end, l.auto.values) in
    let same : to_z w16 (of_z w16 (get_or l.values l.k (pos 0))) ≡ get_or vs l.k (pos 0) = search rules in
    let step = steps l.k (omega (arith, inside, c.requires.count)) in
    let v : ℤ = to_z w16 (of_z w16 c.restore_one.result) in
    let kept : v ≡ c.restore_one.result = to_z-of_z w16 c.restore_one.result (record { sfits = c.restore_one.type_inv }) in
    record {
      all = test-next l.all c.is_low-all.result l.k (λ j. unsigned_abs (get_or vs j (pos 0)) ≤ get_or limits j 0) l.invariant.all
          (subst (λ (z : ℤ). (c.is_low-all.result ≡ true) ↔ (unsigned_abs z ≤ get_or limits l.k 0)) same c.is_low-all.ensures);
      done = restored-next quantisers limits vs l.values l.k v (omega (arith, inside, l.auto.values))
          (λ low. kept
          ∙ c.restore_one.ensures (get_or quantisers l.k 0) step (subst (λ (z : ℤ). unsigned_abs z ≤ get_or limits l.k 0) (sym same) low)
          ∙ ap (λ (z : ℤ). inverse_of z (get_or quantisers l.k 0)) same) l.invariant.done;
      rest = rest-next vs l.values l.k v l.invariant.rest;
    }

pub returns-clause-within : goal.returns-clause-within
returns-clause-within c =
    let l = c.loop-k in
    let i = c.self.inside in
    let vs = c.args.values.now in
    let limits = c.deref-3.result.now in
    let quantisers = quantisers_by c.args.self.now.key in
    let steps = lent-steps i.key c.args.self.now.key i.factors.items i.adds.items i.limits.items c.deref.result.now c.deref-2.result.now limits
    (ap (λ (r : StepRowSeen). r.key) c.self.view_is) c.deref.ensures.value c.deref-2.ensures.value c.deref-3.ensures.value c.self.invariant in
    let n : ℕ = length vs in
    row-stays quantisers n c.deref.result.now c.deref-2.result.now limits vs l.all
    (λ k lt. steps k (omega (arith, lt, c.requires.count))) (
      λ e j lt. l.invariant.all.0 e j (omega (arith, lt, c.loop-k-test.false, l.auto.k-end, l.auto.values)),
      λ each. l.invariant.all.1 (λ j lt. each j (omega (arith, lt, c.loop-k-test.false, l.auto.k-end, l.auto.values))),
    )
