use Rattle.std.proofs.Common.{◌≡◌, ◌∙◌, ℕ, ◌+◌, ◌-◌, ap, sym, subst, arith}
use Rattle.std.specs.Prelude.{slice_index}
use Rattle.quant_factors.specs.Factors.{factor_of}
use Rattle.slice_encoder.specs.ScaleRows.{Divides, AreScales}
use Rattle.slice_encoder.proofs.Cuts.{cut_rises}
use Rattle.slice_encoder.proofs.ShortScales.{scales_more}
use Rattle.slice_encoder.proofs.scale_rows.fill_row.Goals as goal

pub fill-requires-clause-inside : goal.fill-requires-clause-inside
fill-requires-clause-inside c =
    let l = c.loop-b in
    let key = c.args.key.now in
    omega (arith, c.from-to.ensures, cut_rises key c.requires.cut l.b key.front (omega (arith, c.loop-b-test.true, l.auto.b-end)) (omega arith), c.requires.room, l.invariant.same_numbers)

pub fill-requires-in-loop-b-clause-inside : goal.fill-requires-in-loop-b-clause-inside
fill-requires-in-loop-b-clause-inside c =
    let l = c.loop-b in
    let key = c.args.key.now in
    omega (arith, c.from-to.ensures, cut_rises key c.requires.cut l.b key.front (omega (arith, c.loop-b-test.true, l.auto.b-end)) (omega arith), c.requires.room, c.requires.same, l.invariant.same_shifts)

pub loop-b-preserved : goal.loop-b-preserved
loop-b-preserved c =
    let l = c.loop-b in
    let a = c.args in
    let key = a.key.now in
    let scale = c.short_scale-scale in
    let next : l.b + 1 - 1 ≡ l.b = omega arith in
    record {
      from_is = c.from-to.ensures ∙ ap (λ (n : ℕ). slice_index key.ends n) (sym next);
      same_numbers = c.fill.auto.out ∙ l.invariant.same_numbers;
      same_shifts = c.fill-in-loop-b.auto.out ∙ l.invariant.same_shifts;
      done = scales_more key a.index l.b l.from c.from-to.result scale.result.number scale.result.shift l.numbers l.shifts c.fill.new.out c.fill-in-loop-b.new.out c.requires.cut (omega (arith, l.auto.b)) (omega (arith, c.loop-b-test.true, l.auto.b-end)) l.invariant.from_is c.from-to.ensures
          (subst (λ (q : ℕ). Divides scale.result.number scale.result.shift (factor_of q)) c.quantiser.ensures.value scale.ensures)
          c.fill.ensures.inside c.fill.ensures.before c.fill-in-loop-b.ensures.inside c.fill-in-loop-b.ensures.before l.invariant.done;
    }

pub returns : goal.returns
returns c =
    let l = c.loop-b in
    let a = c.args in
    let last : l.b - 1 ≡ a.key.now.front = omega (arith, c.loop-b-test.false, l.auto.b-end) in
    subst (AreScales a.key.now a.index l.numbers l.shifts) last l.invariant.done
