use Rattle.std.proofs.Common.{◌≡◌, ◌∙◌, ℕ, ℤ, arith}
use Rattle.planes.specs.Valued.{valued}
use Rattle.lifting.specs.Steps.{step}
use Rattle.lifting.proofs.Lanes.{next_block}
use Rattle.lifting.proofs.roll.step_row.Goals as goal

pub loop-dst-preserved : goal.loop-dst-preserved
loop-dst-preserved g c =
    let at = valued g.T.Number.value g.T.Number.none in
    let new : ℕ → ℤ = at c.step_at.new.dst in
    record {
      inside = omega (arith, c.loop-dst-test.true, c.step_at.auto.dst, c.loop-dst.invariant.inside);
      done = next_block c.loop-dst.at (λ j. new j ≡ step c.args.wavelet c.args.kind (at c.args.v.now j) (at c.args.a.now j) (at c.args.b.now j))
          (λ j lt. c.step_at.ensures.below j lt ∙ c.loop-dst.invariant.done j lt) c.step_at.ensures.block;
    }
