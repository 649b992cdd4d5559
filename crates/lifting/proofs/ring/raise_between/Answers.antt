use Rattle.std.proofs.Common.{◌∙◌, refl, ◌-◌, length, take, drop, arith}
use Rattle.planes.specs.Valued.{valued}
use Rattle.lifting.specs.declared.PairStep.TheVariants.{OddUp}
use Rattle.lifting.specs.Steps.{step}
use Rattle.lifting.proofs.TwoSides.{same_step, beside_three, beside_whole, back_len, back_small, back_place}
use Rattle.lifting.proofs.ring.raise_between.Goals as goal

pub step_sides-requires-clause-left : goal.step_sides-requires-clause-left
step_sides-requires-clause-left g c =
    let q = c.requires in (q.long.0, omega (arith, q.len), omega (arith, q.len), q.lh_small, λ i li. q.a_small i (omega arith), λ i li. q.b_small i (omega arith))

pub step_sides-requires-clause-right : goal.step_sides-requires-clause-right
step_sides-requires-clause-right g c =
    let q = c.requires in
    let w = c.args.w in
    let a = c.args.a.now in
    let b = c.args.b.now in (
      q.long.1,
      back_len w a (omega (arith, q.len)),
      back_len w b (omega (arith, q.len)),
      q.hh_small,
      back_small g.T.Number.value g.T.Number.none w a g.T.Number.reach (length a - w) (omega (arith, q.len)) q.a_small,
      back_small g.T.Number.value g.T.Number.none w b g.T.Number.reach (length b - w) (omega (arith, q.len)) q.b_small,
    )

pub returns : goal.returns
returns g c x lx =
    let at = valued g.T.Number.value g.T.Number.none in
    let q = c.requires in
    let w = c.args.w in
    let a = c.args.a.now in
    let b = c.args.b.now in
    let f = step c.args.wavelet OddUp in
    c.step_sides.ensures x lx
    ∙ beside_three f w x (at c.args.pair.now.lh.now) (at c.args.pair.now.hh.now) (at a) (at (take (length a - w) (drop w a))) (at b) (at (take (length b - w) (drop w b)))
    ∙ same_step f _ _ _ _ _ _ refl (beside_whole w x (at a) (at (take (length a - w) (drop w a))) (back_place g.T.Number.value g.T.Number.none w a (length a - w) (omega (arith, q.len))) lx)
    (beside_whole w x (at b) (at (take (length b - w) (drop w b))) (back_place g.T.Number.value g.T.Number.none w b (length b - w) (omega (arith, q.len))) lx)
