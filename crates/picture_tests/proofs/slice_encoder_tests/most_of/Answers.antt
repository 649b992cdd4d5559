use Rattle.std.proofs.Common.{◌+◌, ◌*◌, ◌<◌, ◌≤◌, arith}
use Rattle.std.proofs.Math.Nat.{pow-le-pow_right}
use Rattle.picture_tests.proofs.slice_encoder_tests.most_of.Goals as goal

pub returns-else-depth-eq0-clause-most : goal.returns-else-depth-eq0-clause-most
returns-else-depth-eq0-clause-most c =
    let two : 0 < 2 = omega arith in
    let some : 10 ≤ 7 + 3 * c.args.depth = omega (arith, c.if-depth-eq0.false) in
    omega (arith, pow-le-pow_right {n = 2} two {i = 10} {j = 7 + 3 * c.args.depth} some)
