use Rattle.std.proofs.Common.{sym, ap, subst, ◌∙◌, arith}
use Rattle.stream_rows.specs.Units.{unit_head}
use Rattle.stream_reader.specs.Heads.{HeadAt, judged_head}
use Rattle.stream_reader.proofs.HeadRows.{head_is}
use Rattle.stream_reader.proofs.heads.read_head.Goals as goal

pub returns : goal.returns
returns c =
    let z = c.args.earlier.now in
    let bytes = c.args.bytes.now in
    subst (λ r. HeadAt (unit_head z) z.place bytes r) (sym (c.judge.ensures ∙ ap (λ b. judged_head b c.read.result) c.look_back.ensures.value))
    (head_is z bytes c.read.result (λ i. omega (arith, c.type_inv.bytes i)) (sym c.read.ensures.found) c.read.ensures.whole c.read.ensures.short)
