use Rattle.std.proofs.Common.{◌-◌, sym, ◌∙◌, inl, inr, arith}
use Rattle.std.proofs.lemmas.Bool.{cases_lt}
use Rattle.bounded_blocks.proofs.WindowBits.{placed_bit, kept_bit, put_bit, block_bit, block_bit_past}
use Rattle.bounded_blocks.proofs.window.bits_at.Goals as goal

pub returns-then-left-lt64 : goal.returns-then-left-lt64
returns-then-left-lt64 c i lt =
    let bytes = c.args.bytes.now in
    let left = c.args.end - c.args.place in
    elim (cases_lt i left) [
      | inl inside ↦
          kept_bit _ left i c.if-left-lt64.true inside
          ∙ placed_bit bytes c.word_at.ensures.eight c.word_at.result c.args.place i
          (λ j. omega (arith, c.type_inv.bytes j)) c.word_at.ensures.has c.word_at.ensures.is lt
          ∙ sym (block_bit bytes c.args.place c.args.end i inside)
      | inr past ↦ put_bit _ left i c.if-left-lt64.true past (omega arith) ∙ sym (block_bit_past bytes c.args.place c.args.end i past)
    ]

pub returns-else-left-lt64 : goal.returns-else-left-lt64
returns-else-left-lt64 c i lt =
    let bytes = c.args.bytes.now in
    placed_bit bytes c.word_at.ensures.eight c.word_at.result c.args.place i
    (λ j. omega (arith, c.type_inv.bytes j)) c.word_at.ensures.has c.word_at.ensures.is lt
    ∙ sym (block_bit bytes c.args.place c.args.end i (omega (arith, c.if-left-lt64.false)))
