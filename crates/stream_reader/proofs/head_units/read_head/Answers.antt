use Rattle.std.proofs.Common.{sym, subst, arith}
use Rattle.stream_reader.specs.HeadUnits.{head_only_head}
use Rattle.stream_reader.specs.Heads.{HeadAt}
use Rattle.stream_reader.proofs.HeadOnlyRows.{head_only_is}
use Rattle.stream_reader.proofs.head_units.read_head.Goals as goal

pub returns : goal.returns
returns c =
    subst (λ r. HeadAt head_only_head c.args.place c.args.bytes.now r) (sym c.judge.ensures)
    (head_only_is c.args.place c.args.bytes.now c.read.result (λ i. omega (arith, c.type_inv.bytes i)) (sym c.read.ensures.found) c.read.ensures.whole c.read.ensures.short)
