use Rattle.std.proofs.Common.{ℕ, List, sym, ap, subst, ◌∙◌, arith}
use Rattle.bit_codes.specs.Bits.{bits_of}
use Rattle.field_rows.proofs.Filled.{bytes_by_bits}
use Rattle.sequence_header.specs.Bytes.{header_text, IsHeaderReadBack}
use Rattle.sequence_header.proofs.WroteText.{header_back}
use Rattle.sequence_header.proofs.header.SequenceHeader.write.Goals as goal

pub returns-clause-bytes : goal.returns-clause-bytes
returns-clause-bytes c =
    let tie = c.bytes-1.given.1.1 (sym (c.put.ensures.same_reference ∙ c.new-w.ensures.same_reference)) in
    bytes_by_bits c.bytes-1.given.0 (header_text c.args.self.now) (λ i. omega (arith, c.type_inv.bytes i)) (ap bits_of tie ∙ c.put.ensures.text)

pub returns-clause-read_back : goal.returns-clause-read_back
returns-clause-read_back c = subst (λ (l : List ℕ). IsHeaderReadBack l c.args.self.now) (sym (returns-clause-bytes c)) (header_back c.args.self.now c.byte_len-length.ensures.lawful)
