use Rattle.std.proofs.Common.{◌≡◌, ap, ◌∙◌, ℕ, ◌+◌, arith, ℤ, pos, ◌+ℤ◌}
use Rattle.std.specs.Int.{int_shr}
use Rattle.planes.specs.Valued.{valued}
use Rattle.lifting.proofs.Lanes.{next_block}
use Rattle.lifting.proofs.halves.shift.Goals as goal

pub loop-line-preserved : goal.loop-line-preserved
loop-line-preserved g c =
    let at = valued g.T.Number.value g.T.Number.none in
    let from : ℕ = c.loop-line.at in
    let new : ℕ → ℤ = at c.halve_at.new.row in
    let old : ℕ → ℤ = at c.args.line.now in
    record {
      inside = omega (arith, c.loop-line-test.true, c.halve_at.auto.row, c.loop-line.invariant.inside);
      done = next_block from (λ j. new j ≡ int_shr (old j +ℤ pos 1) 1) (λ j lt. c.halve_at.ensures.below j lt ∙ c.loop-line.invariant.done j lt)
          (λ i lt. c.halve_at.ensures.block i lt ∙ ap (λ (v : ℤ). int_shr (v +ℤ pos 1) 1) (c.loop-line.invariant.rest (from + i) (omega arith)));
      rest = λ j le. c.halve_at.ensures.above j (omega arith) ∙ c.loop-line.invariant.rest j (omega arith);
    }
