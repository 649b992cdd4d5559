use Rattle.std.proofs.Common.{◌≡◌, ℕ, suc, ◌≤◌, ap, ◌+◌, ◌-◌, ◌*◌, ◌/◌, ◌%◌, ◌^◌, ◌∙◌, arith}
use Rattle.bounded_blocks.proofs.TableCodes.{one_more, code-begins}
use Rattle.bounded_blocks.proofs.code_table.code_in.Goals as goal

pub returns-then-word-left-eq1-clause-begins : goal.returns-then-word-left-eq1-clause-begins
returns-then-word-left-eq1-clause-begins c =
    let l = c.loop-left in
    code-begins c.signed_code.result l.number l.left c.args.bits c.args.word l.invariant.same (omega (arith, c.loop-left-test.true)) c.if-word-left-eq1.true c.signed_code.ensures.code

pub loop-left-preserved : goal.loop-left-preserved
loop-left-preserved c =
    let l = c.loop-left in
    let two : 2 ≤ l.left = omega (arith, c.loop-left-test.true, c.if-left-eq1.false) in
    let none : c.args.word / 2 ^ (l.left - 1) % 2 ≡ 0 = omega (arith, c.if-word-left-eq1.false) in
    let further : 1 + (c.args.bits - (l.left - 2)) / 2 ≡ suc (1 + (c.args.bits - l.left) / 2) = omega (arith, two, l.invariant.order) in
    let twice : 2 ^ (1 + (c.args.bits - (l.left - 2)) / 2) ≡ 2 * 2 ^ (1 + (c.args.bits - l.left) / 2) = ap (λ (k : ℕ). 2 ^ k) further ∙ omega arith in
    record {
      order = omega (arith, l.invariant.order);
      some = omega (arith, l.invariant.some);
      small = omega (arith, twice, l.invariant.small);
      same = λ rest. l.invariant.same rest ∙ one_more l.number l.left c.args.word rest two none;
    }
