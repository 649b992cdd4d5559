use Rattle.std.proofs.Common.{◌≡◌, ℕ, ◌+◌, ◌*◌, ◌≤◌, length, get_or, refl, ap, ◌∙◌, rules, arith}
use Rattle.slice_decoder.specs.StepRows.{StepRowSeen}
use Rattle.slice_decoder.proofs.StepRows.{no-bands, band-fits, next-from, has-run, whole-written, steps-more}
use Rattle.slice_decoder.proofs.step_rows.StepRow.learn.Goals as goal

pub loop-k-init : goal.loop-k-init
loop-k-init c =
    let room : length c.self.inside.factors.items ≡ c.args.self.now.room = ap (λ (r : StepRowSeen). r.room) c.self.view_is in
    record {
      from_is = no-bands c.args.key;
      key_is = refl;
      factors_count = room;
      adds_count = c.self.invariant.adds_count ∙ room;
      limits_count = c.self.invariant.limits_count ∙ room;
      steps = λ k lt. absurd (omega arith);
    }

pub overflow_mul-to : goal.overflow_mul-to
overflow_mul-to c =
    let l = c.loop-k in
    let fit = band-fits c.args.key l.k l.from (get_or c.args.key.areas c.band_numbered-level.result.0 0) l.invariant.from_is (ap (λ (l : ℕ). get_or c.args.key.areas l 0) c.band_numbered-level.ensures.level)
    (omega (arith, c.loop-k-test.true, l.auto.k-end, c.depth.ensures.value)) in
    let room : c.args.key.each * (get_or c.args.key.areas c.band_numbered-level.result.0 0) ≤ length l.self-inside.factors.items = omega (arith, fit, c.requires.room, l.invariant.factors_count) in
    search rules

pub overflow_add-to : goal.overflow_add-to
overflow_add-to c =
    let l = c.loop-k in
    let fit = band-fits c.args.key l.k l.from (get_or c.args.key.areas c.band_numbered-level.result.0 0) l.invariant.from_is (ap (λ (l : ℕ). get_or c.args.key.areas l 0) c.band_numbered-level.ensures.level)
    (omega (arith, c.loop-k-test.true, l.auto.k-end, c.depth.ensures.value)) in
    let room : l.from + c.args.key.each * (get_or c.args.key.areas c.band_numbered-level.result.0 0) ≤ length l.self-inside.factors.items = omega (arith, fit, c.requires.room, l.invariant.factors_count) in
    search rules

pub put-requires-clause-inside : goal.put-requires-clause-inside
put-requires-clause-inside c =
    let l = c.loop-k in
    let fit = band-fits c.args.key l.k l.from (get_or c.args.key.areas c.band_numbered-level.result.0 0) l.invariant.from_is (ap (λ (l : ℕ). get_or c.args.key.areas l 0) c.band_numbered-level.ensures.level)
    (omega (arith, c.loop-k-test.true, l.auto.k-end, c.depth.ensures.value)) in
    omega (arith, fit, c.requires.room, l.invariant.factors_count, ap length c.deref_mut.ensures.value)

pub put-requires-in-loop-k-clause-inside : goal.put-requires-in-loop-k-clause-inside
put-requires-in-loop-k-clause-inside c =
    let l = c.loop-k in
    let fit = band-fits c.args.key l.k l.from (get_or c.args.key.areas c.band_numbered-level.result.0 0) l.invariant.from_is (ap (λ (l : ℕ). get_or c.args.key.areas l 0) c.band_numbered-level.ensures.level)
    (omega (arith, c.loop-k-test.true, l.auto.k-end, c.depth.ensures.value)) in
    omega (arith, fit, c.requires.room, l.invariant.adds_count, ap length c.deref_mut-in-loop-k.ensures.value)

pub put-requires-in-loop-k-2-clause-inside : goal.put-requires-in-loop-k-2-clause-inside
put-requires-in-loop-k-2-clause-inside c =
    let l = c.loop-k in
    let fit = band-fits c.args.key l.k l.from (get_or c.args.key.areas c.band_numbered-level.result.0 0) l.invariant.from_is (ap (λ (l : ℕ). get_or c.args.key.areas l 0) c.band_numbered-level.ensures.level)
    (omega (arith, c.loop-k-test.true, l.auto.k-end, c.depth.ensures.value)) in
    omega (arith, fit, c.requires.room, l.invariant.limits_count, ap length c.deref_mut-in-loop-k-2.ensures.value)

pub loop-k-preserved : goal.loop-k-preserved
loop-k-preserved c =
    let l = c.loop-k in
    let i = l.invariant in
    let old = l.self-inside in
    let key = c.args.key in
    let area : ℕ = get_or c.args.key.areas c.band_numbered-level.result.0 0 in
    let to : ℕ = l.from + key.each * area in
    let area_is = ap (λ (l : ℕ). get_or key.areas l 0) c.band_numbered-level.ensures.level in
    let f_long = ap length c.deref_mut.ensures.value in
    let a_long = ap length c.deref_mut-in-loop-k.ensures.value in
    let l_long = ap length c.deref_mut-in-loop-k-2.ensures.value in
    let f_is = whole-written old.factors.len c.put.new.numbers old.factors.items (omega (arith, c.deref_mut.ensures.len, c.put.auto.numbers)) (omega (arith, f_long, c.put.auto.numbers)) in
    let a_is = whole-written old.adds.len c.put-in-loop-k.new.numbers old.adds.items (omega (arith, c.deref_mut-in-loop-k.ensures.len, c.put-in-loop-k.auto.numbers)) (omega (arith, a_long, c.put-in-loop-k.auto.numbers)) in
    let l_is = whole-written old.limits.len c.put-in-loop-k-2.new.numbers old.limits.items (omega (arith, c.deref_mut-in-loop-k-2.ensures.len, c.put-in-loop-k-2.auto.numbers)) (omega (arith, l_long, c.put-in-loop-k-2.auto.numbers)) in
    record {
      from_is = next-from key l.k l.from area i.from_is area_is;
      key_is = i.key_is;
      factors_count = ap length f_is ∙ omega (arith, f_long, c.put.auto.numbers, i.factors_count);
      adds_count = ap length a_is ∙ omega (arith, a_long, c.put-in-loop-k.auto.numbers, i.adds_count);
      limits_count = ap length l_is ∙ omega (arith, l_long, c.put-in-loop-k-2.auto.numbers, i.limits_count);
      steps = steps-more l.from to c.step_of-step.result old.factors.items old.adds.items old.limits.items _ _ _
          (has-run l.from to c.step_of-step.result.factor old.factors.items c.deref_mut.result.now c.put.new.numbers _ c.deref_mut.ensures.value f_is c.put.ensures.inside c.put.ensures.before)
          (has-run l.from to c.step_of-step.result.add old.adds.items c.deref_mut-in-loop-k.result.now c.put-in-loop-k.new.numbers _ c.deref_mut-in-loop-k.ensures.value a_is c.put-in-loop-k.ensures.inside c.put-in-loop-k.ensures.before)
          (has-run l.from to c.step_of-step.result.limit old.limits.items c.deref_mut-in-loop-k-2.result.now c.put-in-loop-k-2.new.numbers _ c.deref_mut-in-loop-k-2.ensures.value l_is c.put-in-loop-k-2.ensures.inside c.put-in-loop-k-2.ensures.before)
          key l.k area c.index_of_band.result i.from_is area_is refl c.index_of_band.ensures.value c.step_of-step.ensures i.steps;
    }
