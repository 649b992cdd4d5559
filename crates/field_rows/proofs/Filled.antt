-- Bits with zeros up to the last byte's end, as bytes.
use Rattle.std.proofs.Common.{◌≡◌, ℕ, suc, ◌+◌, ◌*◌, ◌/◌, ◌<◌, Bool, List, [], ◌∷◌, ◌++◌, length, get_or, sym, ap, ◌∙◌, arith}
use Rattle.std.specs.List.{AllByRecursion}
use Rattle.std.proofs.lemmas.List.{length-append}
use Rattle.bit_codes.specs.Bits.{bits_of, bytes_of, zeros_to_byte_end}
use Rattle.bit_codes.proofs.ByteLemmas.{bits_of-bytes_of, length-bytes_of, bytes_of-bits_of}
use Rattle.field_rows.proofs.Passing.{length-zeros}

whole_bits : (bits : List Bool) → length (bits ++ zeros_to_byte_end (length bits)) ≡ 8 * ((length bits + 7) / 8)
whole_bits bits = omega (arith, length-append bits (zeros_to_byte_end (length bits)), length-zeros (length bits))

pub length-filled : (bits : List Bool) → length (bytes_of (bits ++ zeros_to_byte_end (length bits))) ≡ (length bits + 7) / 8
length-filled bits = length-bytes_of (bits ++ zeros_to_byte_end (length bits)) ((length bits + 7) / 8) (whole_bits bits)

pub bits_of-filled : (bits : List Bool) → bits_of (bytes_of (bits ++ zeros_to_byte_end (length bits))) ≡ bits ++ zeros_to_byte_end (length bits)
bits_of-filled bits = bits_of-bytes_of (bits ++ zeros_to_byte_end (length bits)) ((length bits + 7) / 8) (whole_bits bits)

all_bytes : (bytes : List ℕ) → ((i : ℕ) → get_or bytes i 0 < 256) → AllByRecursion (λ b. b < 256) bytes
all_bytes [] f = tt
all_bytes (b ∷ bytes) f = (f 0, all_bytes bytes (λ i. f (suc i)))

-- bytes by their bits
pub bytes_by_bits : (bytes : List ℕ) (text : List Bool) → ((i : ℕ) → get_or bytes i 0 < 256) → bits_of bytes ≡ text → bytes ≡ bytes_of text
bytes_by_bits bytes text fits e = sym (bytes_of-bits_of bytes (all_bytes bytes fits)) ∙ ap bytes_of e
