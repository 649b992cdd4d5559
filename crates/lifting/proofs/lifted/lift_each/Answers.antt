use Rattle.std.proofs.Common.{◌≡◌, ap, ◌∙◌, ℕ, ◌+◌, arith, ℤ}
use Rattle.std.proofs.lemmas.Grind.{common_steps}
use Rattle.planes.specs.Valued.{valued}
use Rattle.lifting.specs.Steps.{step}
use Rattle.lifting.proofs.Lanes.{next_block}
use Rattle.lifting.proofs.lifted.lift_each.Goals as goal

pub loop-dst-preserved : goal.loop-dst-preserved
loop-dst-preserved g c =
    let at = valued g.T.Number.value g.T.Number.none in
    let from : ℕ = c.loop-dst.at in
    let new : ℕ → ℤ = at c.lift_at.new.dst in
    let old : ℕ → ℤ = at c.args.dst.now in
    let f : ℕ → ℤ → ℤ = λ j v. step c.args.wavelet c.args.kind v (at c.args.a.now j) (at c.args.b.now j) in
    record {
      inside = omega (arith, c.loop-dst-test.true, c.lift_at.auto.dst, c.loop-dst.invariant.inside);
      done = next_block from (λ j. new j ≡ f j (old j)) (λ j lt. c.lift_at.ensures.below j lt ∙ c.loop-dst.invariant.done j lt)
          (λ i lt. c.lift_at.ensures.block i lt ∙ ap (f (from + i)) (c.loop-dst.invariant.rest (from + i) (omega arith)));
      rest = λ j le. c.lift_at.ensures.above j (omega arith) ∙ c.loop-dst.invariant.rest j (omega arith);
    }

pub loop-i-preserved : goal.loop-i-preserved
loop-i-preserved g c = grind (arith, common_steps)
