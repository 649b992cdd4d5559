use Rattle.std.proofs.Common.{◌≡◌, length, pos, arith}
use Rattle.std.proofs.lemmas.List.{ext_get_or}
use Rattle.planes.proofs.narrow_bands.narrow_row.Goals as goal

pub returns : goal.returns
returns c =
    let l = c.loop-x in
    let same : length l.narrow ≡ length c.args.wide.now = omega (arith, l.auto.narrow, c.requires.same_length) in
    ext_get_or (pos 0) l.narrow c.args.wide.now same (λ i lt. l.invariant i (omega (arith, lt, l.auto.narrow, l.auto.x-end, c.loop-x-test.false)))
