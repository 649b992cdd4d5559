-- A head that is written is read back, whatever follows.
use Rattle.std.proofs.Common.{◌≡◌, ℕ, ◌^◌, ◌<◌, List, [], ◌∷◌, ◌++◌, Ok, refl, sym, ap, ◌∙◌, append-nil, arith}
use Rattle.std.specs.List.{AllByRecursion}
use Rattle.std.specs.Int.{w32, to_be_bytes}
use Rattle.std.proofs.lemmas.Nat.{from_be_bytes-to_be_bytes_4}
use Rattle.bit_codes.specs.Bits.{bits_of}
use Rattle.bit_codes.proofs.Numbers.{bits_of-append}
use Rattle.field_rows.specs.Rows.{Value, Bytes, ◌>>=◌, word_under, byte_under, read}
use Rattle.field_rows.specs.Given.{checked, value_bits, AreOfKind, Pass}
use Rattle.field_rows.proofs.Passing.{Pass-read}
use Rattle.parse_info.specs.declared.Code.{Code}
use Rattle.parse_info.specs.declared.Code.TheVariants.{SequenceHeader, EndOfSequence, Auxiliary, Padding, LowDelayPicture}
use Rattle.parse_info.specs.declared.ParseInfo.{ParseInfo}
use Rattle.parse_info.specs.Code.{code_byte}
use Rattle.parse_info.specs.Head.{head_rows, plain_rows, info_at, head_answer, head_bytes, FieldShort}

abbrev prefix : List ℕ
prefix = 0x42 ∷ 0x42 ∷ 0x43 ∷ 0x44 ∷ []

-- the fields of a head
abbrev head_fields : ParseInfo → List Value
head_fields info = Bytes prefix ∷ Bytes (code_byte info.code ∷ []) ∷ Bytes (to_be_bytes w32 info.next) ∷ Bytes (to_be_bytes w32 info.previous) ∷ []

-- all of a head are bytes
pub word_fits : (n : ℕ) → AllByRecursion (λ b. b < 256) (to_be_bytes w32 n)
word_fits n = (omega arith, (omega arith, (omega arith, (omega arith, tt))))

code_fits : (code : Code) → code_byte code < 256
code_fits SequenceHeader = omega arith
code_fits EndOfSequence = omega arith
code_fits Auxiliary = omega arith
code_fits Padding = omega arith
code_fits LowDelayPicture = omega arith

pub head_fits : (info : ParseInfo) → AllByRecursion (λ b. b < 256) (head_bytes info)
head_fits info = (omega arith, (omega arith, (omega arith, (omega arith, (code_fits info.code, (omega arith, (omega arith, (omega arith, (omega arith, word_fits info.previous)))))))))

head_pass : (code : Code) (next previous : ℕ) → next < 2 ^ 32 → previous < 2 ^ 32 → let info : ParseInfo = record { code = code; next = next; previous = previous } in Pass plain_rows (head_fields info) info
unfolding plain_rows head_rows word_under byte_under ◌>>=◌ checked
head_pass SequenceHeader next previous n p = record { passed = λ more. rw (from_be_bytes-to_be_bytes_4 next n, from_be_bytes-to_be_bytes_4 previous p) refl }
head_pass EndOfSequence next previous n p = record { passed = λ more. rw (from_be_bytes-to_be_bytes_4 next n, from_be_bytes-to_be_bytes_4 previous p) refl }
head_pass Auxiliary next previous n p = record { passed = λ more. rw (from_be_bytes-to_be_bytes_4 next n, from_be_bytes-to_be_bytes_4 previous p) refl }
head_pass Padding next previous n p = record { passed = λ more. rw (from_be_bytes-to_be_bytes_4 next n, from_be_bytes-to_be_bytes_4 previous p) refl }
head_pass LowDelayPicture next previous n p = record { passed = λ more. rw (from_be_bytes-to_be_bytes_4 next n, from_be_bytes-to_be_bytes_4 previous p) refl }

head_kinds : (info : ParseInfo) → AreOfKind plain_rows (head_fields info)
unfolding plain_rows head_rows word_under byte_under ◌>>=◌
head_kinds info = ((refl, (omega arith, (omega arith, (omega arith, (omega arith, tt))))), ((refl, (code_fits info.code, tt)), ((refl, word_fits info.next), ((refl, word_fits info.previous), refl))))

-- the bytes of a head are its fields
head_written : (info : ParseInfo) → bits_of (head_bytes info) ≡ value_bits (head_fields info)
head_written info =
    let code : List ℕ = code_byte info.code ∷ [] in
    let next = to_be_bytes w32 info.next in
    let previous = to_be_bytes w32 info.previous in
    bits_of-append prefix (code ++ (next ++ previous)) ∙ ap (λ t. bits_of prefix ++ t)
    (bits_of-append code (next ++ previous) ∙ ap (λ t. bits_of code ++ t)
    (bits_of-append next previous ∙ ap (λ t. bits_of next ++ t) (sym (append-nil (bits_of previous)))))

pub read-written_head : (info : ParseInfo) (more : List ℕ) → info.next < 2 ^ 32 → info.previous < 2 ^ 32 → info_at (head_bytes info ++ more) ≡ Ok info
unfolding info_at
read-written_head info more n p =
    ap (λ t. head_answer (head_bytes info ++ more) (read (λ fault. FieldShort) plain_rows (record { place = 0; rest = t }))) (bits_of-append (head_bytes info) more ∙ ap (λ t. t ++ bits_of more) (head_written info))
    ∙ ap (head_answer (head_bytes info ++ more)) (Pass-read (λ fault. FieldShort) plain_rows (head_fields info) info (bits_of more) (head_pass info.code info.next info.previous n p) (head_kinds info))
