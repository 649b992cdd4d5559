use Rattle.std.proofs.Common.{ℕ, ◌+◌, ◌*◌, ◌^◌, ◌≤◌, subst}
use Rattle.slice_decoder.proofs.Dealt.{le_tested}
use Rattle.slice_decoder.proofs.Restores.{low_below}
use Rattle.slice_decoder.proofs.narrow_restoring.are_low.Goals as goal

pub returns : goal.returns
returns c low i le k from =
    let all = c.all_magnitudes.result in
    let step = c.factor-step.result in
    let tested : (c.from.result + 1) * step ≤ 2 ^ 20 = le_tested _ _ low in
    low_below _ all i c.args.index (c.all_magnitudes.ensures k) le c.requires.index
    (subst (λ (f : ℕ). (all + 1) * f ≤ 2 ^ 20) c.factor-step.ensures.value (subst (λ (a : ℕ). (a + 1) * step ≤ 2 ^ 20) c.from.ensures tested))
