use Rattle.std.proofs.Common.{◌≡◌, length, pos, arith}
use Rattle.std.proofs.lemmas.List.{ext_get_or}
use Rattle.planes.proofs.narrow_bands.widen_row.Goals as goal

pub returns : goal.returns
returns c =
    let l = c.loop-x in
    let same : length l.wide ≡ length c.args.narrow.now = omega (arith, l.auto.wide, c.requires) in
    ext_get_or (pos 0) l.wide c.args.narrow.now same (λ i lt. l.invariant i (omega (arith, lt, l.auto.wide, l.auto.x-end, c.loop-x-test.false)))
