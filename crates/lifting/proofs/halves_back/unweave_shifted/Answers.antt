use Rattle.std.proofs.Common.{arith, ◌^◌, sym, subst}
use Rattle.std.proofs.lemmas.Grind.{common_steps}
use Rattle.planes.specs.Numbers.{Within}
use Rattle.lifting.proofs.SampleRows.{read_is}
use Rattle.lifting.proofs.halves_back.unweave_shifted.Goals as goal

pub loop-k-preserved : goal.loop-k-preserved
loop-k-preserved g c = grind (arith, common_steps)

pub unshifted-requires : goal.unshifted-requires
unshifted-requires g c = subst (Within (2 ^ 25)) (sym (read_is g.T.Number.value g.T.Number.none c.args.row.now _ c.index-row-k.result (omega (arith, c.loop-k-test.true, c.requires.room)) c.index-row-k.is)) (c.requires.small _ (omega (arith, c.loop-k-test.true)))

pub unshifted-requires-in-loop-k : goal.unshifted-requires-in-loop-k
unshifted-requires-in-loop-k g c = subst (Within (2 ^ 25)) (sym (read_is g.T.Number.value g.T.Number.none c.args.row.now _ c.index-row-k-in-loop-k.result (omega (arith, c.loop-k-test.true, c.requires.room)) c.index-row-k-in-loop-k.is)) (c.requires.small _ (omega (arith, c.loop-k-test.true)))
