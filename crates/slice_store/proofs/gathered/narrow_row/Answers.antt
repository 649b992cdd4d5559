use Rattle.std.proofs.Common.{◌≡◌, length, pos, arith}
use Rattle.std.proofs.lemmas.List.{ext_get_or}
use Rattle.std.proofs.lemmas.Grind.{common_steps}
use Rattle.std.proofs.lemmas.Int.{ints}
use Rattle.slice_store.proofs.gathered.narrow_row.Goals as goal

pub returns : goal.returns
returns c =
    let l = c.loop-x in
    let same : length l.to ≡ length c.args.row.now = omega (arith, l.auto.to, c.requires.len) in
    ext_get_or (pos 0) l.to c.args.row.now same (λ i lt. l.invariant i (omega (arith, lt, l.auto.to, l.auto.x-end, c.loop-x-test.false)))

pub loop-x-preserved : goal.loop-x-preserved
loop-x-preserved c = grind (ints, arith, common_steps)
