use Rattle.std.proofs.Common.{ℕ, ◌-◌, ◌*◌, ◌≤◌, arith}
use Rattle.slice_encoder.proofs.Cuts.{rises}
use Rattle.slice_encoder.proofs.sizes.key_of.Goals as goal

pub returns-clause-ends : goal.returns-clause-ends
returns-clause-ends c = λ k le.
    let l = c.loop-k in
    let ends = c.args.ends.now in
    omega (arith, l.invariant.ends_same k (omega (arith, le, l.invariant.front)), l.invariant.front_few, rises ends (3 * c.args.matrix.now.depth) k l.key.front c.requires.rise le (omega (arith, l.invariant.front, l.auto.k-end, c.depth.ensures.value)))

pub returns-clause-cut : goal.returns-clause-cut
returns-clause-cut c =
    let l = c.loop-k in
    let ends = c.args.ends.now in
    let most : l.key.front ≤ 3 * c.args.matrix.now.depth = omega (arith, l.invariant.front, l.auto.k-end, c.depth.ensures.value) in
    let same = λ (k : ℕ) (le : k ≤ l.key.front). returns-clause-ends c k le in
    record {
      bands = omega (arith, most, c.depth.ensures.value, c.depth.ensures.most);
      start = l.invariant.start;
      rise = λ k one le. omega (arith, same k le, same (k - 1) (omega (arith, le)), c.requires.rise k one (omega (arith, le, most)));
    }
