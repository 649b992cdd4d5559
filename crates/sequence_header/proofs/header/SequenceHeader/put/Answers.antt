use Rattle.std.proofs.Common.{◌≡◌, ℕ, ◌+◌, ◌*◌, ◌/◌, ◌++◌, List, Bool, length, ap, sym, subst, ◌∙◌, arith}
use Rattle.bit_codes.specs.Bits.{bits_of, zeros_to_byte_end}
use Rattle.sequence_header.specs.declared.parts.HeaderParts.{HeaderParts}
use Rattle.sequence_header.specs.Bytes.{header_bits, header_len, header_text}
use Rattle.sequence_header.proofs.Indices.{rate_index, signal_index}
use Rattle.sequence_header.proofs.Sums.{length-header_bits, header_bits-parts}
use Rattle.sequence_header.proofs.WroteText.{joined, all_bits, no_bits}
use Rattle.sequence_header.proofs.header.SequenceHeader.put.Goals as goal
use Rattle.field_rows.proofs.Passing.{length-zeros}

pub put_rate-requires-clause-index : goal.put_rate-requires-clause-index
put_rate-requires-clause-index c = rate_index c.self.inside.parts.rate c.self.invariant.rate

pub put_signal-requires-clause-index : goal.put_signal-requires-clause-index
put_signal-requires-clause-index c = signal_index c.self.inside.parts.signal c.self.invariant.signal

pub put_version-requires : goal.put_version-requires
put_version-requires c =
    let sum = length-header_bits c.self.inside.parts in
    let len : length c.args.w.now.bytes.now ≡ (length (header_bits c.self.inside.parts) + 7) / 8 = c.requires.room ∙ ap header_len (sym c.self.view_is) in
    omega (arith, sum, len)

pub put_size-requires : goal.put_size-requires
put_size-requires c =
    let sum = length-header_bits c.self.inside.parts in
    let len : length c.args.w.now.bytes.now ≡ (length (header_bits c.self.inside.parts) + 7) / 8 = c.requires.room ∙ ap header_len (sym c.self.view_is) in
    omega (arith, sum, len)

pub put_sampling-requires : goal.put_sampling-requires
put_sampling-requires c =
    let sum = length-header_bits c.self.inside.parts in
    let len : length c.args.w.now.bytes.now ≡ (length (header_bits c.self.inside.parts) + 7) / 8 = c.requires.room ∙ ap header_len (sym c.self.view_is) in
    omega (arith, sum, len)

pub put_scan-requires : goal.put_scan-requires
put_scan-requires c =
    let sum = length-header_bits c.self.inside.parts in
    let len : length c.args.w.now.bytes.now ≡ (length (header_bits c.self.inside.parts) + 7) / 8 = c.requires.room ∙ ap header_len (sym c.self.view_is) in
    omega (arith, sum, len)

pub put_rate-requires-clause-inside : goal.put_rate-requires-clause-inside
put_rate-requires-clause-inside c =
    let sum = length-header_bits c.self.inside.parts in
    let len : length c.args.w.now.bytes.now ≡ (length (header_bits c.self.inside.parts) + 7) / 8 = c.requires.room ∙ ap header_len (sym c.self.view_is) in
    omega (arith, sum, len)

pub put_aspect-requires : goal.put_aspect-requires
put_aspect-requires c =
    let sum = length-header_bits c.self.inside.parts in
    let len : length c.args.w.now.bytes.now ≡ (length (header_bits c.self.inside.parts) + 7) / 8 = c.requires.room ∙ ap header_len (sym c.self.view_is) in
    omega (arith, sum, len)

pub put_clean-requires : goal.put_clean-requires
put_clean-requires c =
    let sum = length-header_bits c.self.inside.parts in
    let len : length c.args.w.now.bytes.now ≡ (length (header_bits c.self.inside.parts) + 7) / 8 = c.requires.room ∙ ap header_len (sym c.self.view_is) in
    omega (arith, sum, len)

pub put_signal-requires-clause-inside : goal.put_signal-requires-clause-inside
put_signal-requires-clause-inside c =
    let sum = length-header_bits c.self.inside.parts in
    let len : length c.args.w.now.bytes.now ≡ (length (header_bits c.self.inside.parts) + 7) / 8 = c.requires.room ∙ ap header_len (sym c.self.view_is) in
    omega (arith, sum, len)

pub put_colour-requires : goal.put_colour-requires
put_colour-requires c =
    let sum = length-header_bits c.self.inside.parts in
    let len : length c.args.w.now.bytes.now ≡ (length (header_bits c.self.inside.parts) + 7) / 8 = c.requires.room ∙ ap header_len (sym c.self.view_is) in
    omega (arith, sum, len)

pub put_coding-requires : goal.put_coding-requires
put_coding-requires c =
    let sum = length-header_bits c.self.inside.parts in
    let len : length c.args.w.now.bytes.now ≡ (length (header_bits c.self.inside.parts) + 7) / 8 = c.requires.room ∙ ap header_len (sym c.self.view_is) in
    omega (arith, sum, len)

pub returns-clause-text : goal.returns-clause-text
returns-clause-text c =
    let p = c.self.inside.parts in
    let new = c.align.new.self.bytes.now in
    let sum = length-header_bits p in
    let len : length c.args.w.now.bytes.now ≡ (length (header_bits p) + 7) / 8 = c.requires.room ∙ ap header_len (sym c.self.view_is) in
    let total : c.put_coding.new.w.place ≡ length (header_bits p) = omega (arith, sum) in
    let end : c.align.new.self.place ≡ 8 * length new = omega (arith, total, len, length-zeros c.put_coding.new.w.place) in
    let text : bits_of new ≡ header_text p =
    sym (all_bits c.align.new.self.place new end)
    ∙ joined _ _ _ _ _ _ _ _ _ _ _ _ _ _ _ _ _ _ _ _ _ _ _ (no_bits c.args.w.now.place c.args.w.now.bytes.now c.requires.start)
    c.put_version.ensures.written c.put_size.ensures.written c.put_sampling.ensures.written c.put_scan.ensures.written c.put_rate.ensures.written
    c.put_aspect.ensures.written c.put_clean.ensures.written c.put_signal.ensures.written c.put_colour.ensures.written c.put_coding.ensures.written c.align.ensures.written
    ∙ ap (λ (t : List Bool). t ++ zeros_to_byte_end c.put_coding.new.w.place) (sym (header_bits-parts p))
    ∙ ap (λ (n : ℕ). header_bits p ++ zeros_to_byte_end n) total in
    subst (λ (x : HeaderParts). bits_of new ≡ header_text x) c.self.view_is text
