use Rattle.std.proofs.Common.{◌∙◌, arith}
use Rattle.std.proofs.lemmas.List.{length-set}
use Rattle.bounded_blocks.specs.declared.code_table.Head.{Head}
use Rattle.bounded_blocks.proofs.TableCodes.{entry_more}
use Rattle.bounded_blocks.proofs.code_table.CodeTable.new.Goals as goal

pub loop-k-preserved : goal.loop-k-preserved
loop-k-preserved c =
    let l = c.loop-k in
    let codes = c.codes_in-codes.result in
    let head : Head = record { count = codes.count; length = codes.length } in
    let i = l.invariant in
    record {
      values_count = length-set l.values.items l.k codes.values ∙ i.values_count;
      heads_count = length-set l.heads.items l.k head ∙ i.heads_count;
      so_far = entry_more l.values.items l.heads.items l.k codes.values head (omega (arith, i.values_count, c.loop-k-test.true)) (omega (arith, i.heads_count, c.loop-k-test.true))
          c.codes_in-codes.ensures i.so_far;
    }

pub invariant_of-result : goal.invariant_of-result
invariant_of-result c = record {
  values_count = c.loop-k.invariant.values_count;
  heads_count = c.loop-k.invariant.heads_count;
  right = λ k below. c.loop-k.invariant.so_far k (omega (arith, below, c.loop-k-test.false));
}
