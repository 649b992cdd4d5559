use Rattle.std.proofs.Common.{◌∙◌, ◌%◌, ℕ, ℤ, Bool, List, length, ap, subst, arith}
use Rattle.bit_codes.specs.Bits.{digits_below}
use Rattle.bit_codes.specs.Codes.{signed_code_of}
use Rattle.slice_encoder.specs.BitQueues.{IsSent}
use Rattle.slice_encoder.proofs.BlockTexts.{room_for, told}
use Rattle.slice_encoder.proofs.CodeTables.{entry_length}
use Rattle.slice_encoder.proofs.block_texts.put_value.Goals as goal

pub put_bits-requires-clause-room : goal.put_bits-requires-clause-room
put_bits-requires-clause-room c = room_for _ c.args.queue _ (c.single_entry-entry.result % 256) c.requires.room (omega (arith, entry_length c.single_entry-entry.result _ c.single_entry-entry.ensures, ap (λ (z : ℤ). length (signed_code_of z)) (told c.args.v c.requires.small)))

pub returns : goal.returns
returns c =
    let a = c.args in
    let e = c.single_entry-entry in
    let put = c.put_bits in
    subst (λ (x : List Bool). IsSent a.room.now a.queue put.new.room put.result x) (ap (λ (n : ℕ). digits_below (e.result % 256) n) c.from.ensures ∙ e.ensures.digits ∙ ap signed_code_of (told a.v c.requires.small)) put.ensures
