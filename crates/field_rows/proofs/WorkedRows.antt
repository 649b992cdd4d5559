-- A small table, computed on inputs that are whole, short, too large and broken.
use Rattle.std.proofs.Common.{◌≡◌, ℕ, ◌%◌, true, List, [], ◌∷◌, Option, Some, None, Result, Ok, Err, replicate, refl}
use Rattle.std.specs.Prelude.{nat_le, ◌==◌}
use Rattle.bit_codes.specs.declared.CodeFault.{CodeFault}
use Rattle.bit_codes.specs.declared.CodeFault.TheVariants as codes
use Rattle.bit_codes.specs.Bits.{Cursor, cursor_at}
use Rattle.field_rows.specs.Rows.{Number, Flag, Bytes, ◌or_else◌, Rows, done, ◌>>=◌, number, number_under, within, flag, if_set, bytes_under, byte_end, whole_bytes, Fault, spelled, field_at, read}
use Rattle.field_rows.specs.Given.{checked}

data Reason : Type 0 where
  short : Reason
  too_large : Reason
  small : Reason
  odd : Reason
  far : Reason

reason_of : CodeFault → Reason
reason_of codes.Short = short
reason_of codes.TooLarge = too_large

record Made : Type 0 where
  n : ℕ
  pair : Option (ℕ × ℕ)
  bytes : List ℕ

unfoldable fields : Rows Reason Made
fields = do
  n ← number_under (λ v. (nat_le 2 v or_else small) ∷ (v % 2 == 0 or_else odd) ∷ [])
  is_pair ← flag
  pair ← if_set is_pair (do
    a ← number
    b ← within 1 9 far
    done (a, b))
  bytes ← bytes_under 1 (λ bytes. [])
  done (record { n = n; pair = pair; bytes = bytes })

unfoldable table : Rows Reason Made
table = whole_bytes fields

unfoldable answer : List ℕ → Result (Made × Cursor) (Fault Reason)
answer bytes = read reason_of table (cursor_at bytes 0)

-- n is 2, there is no pair, the byte is 0xAB, and four bits are skipped
whole : answer (0x6A ∷ 0xB0 ∷ []) ≡ Ok (record { n = 2; pair = None; bytes = 0xAB ∷ [] }, cursor_at (0x6A ∷ 0xB0 ∷ []) 16)
unfolding answer table fields whole_bytes number_under flag if_set number within bytes_under byte_end ◌>>=◌ read field_at spelled reason_of
whole = refl

-- whatever the skipped bits are
skipped : answer (0x6A ∷ 0xBF ∷ []) ≡ Ok (record { n = 2; pair = None; bytes = 0xAB ∷ [] }, cursor_at (0x6A ∷ 0xBF ∷ []) 16)
unfolding answer table fields whole_bytes number_under flag if_set number within bytes_under byte_end ◌>>=◌ read field_at spelled reason_of
skipped = refl

-- a byte behind stays
more : answer (0x6A ∷ 0xB0 ∷ 0xFF ∷ []) ≡ Ok (record { n = 2; pair = None; bytes = 0xAB ∷ [] }, cursor_at (0x6A ∷ 0xB0 ∷ 0xFF ∷ []) 16)
unfolding answer table fields whole_bytes number_under flag if_set number within bytes_under byte_end ◌>>=◌ read field_at spelled reason_of
more = refl

-- with a pair, and no bit to skip
with_pair : answer (0x79 ∷ 0xFF ∷ []) ≡ Ok (record { n = 2; pair = Some (0, 1); bytes = 0xFF ∷ [] }, cursor_at (0x79 ∷ 0xFF ∷ []) 16)
unfolding answer table fields whole_bytes number_under flag if_set number within bytes_under byte_end ◌>>=◌ read field_at spelled reason_of
with_pair = refl

-- no bits
nothing : answer [] ≡ Err (record { place = 0; reason = short })
unfolding answer table fields whole_bytes number_under flag if_set number within bytes_under byte_end ◌>>=◌ read field_at spelled reason_of
nothing = refl

-- four bits of the byte at bit 4
byte_cut : answer (0x6A ∷ []) ≡ Err (record { place = 4; reason = short })
unfolding answer table fields whole_bytes number_under flag if_set number within bytes_under byte_end ◌>>=◌ read field_at spelled reason_of
byte_cut = refl

-- the pair's first number, cut
pair_cut : answer (0x70 ∷ []) ≡ Err (record { place = 4; reason = short })
unfolding answer table fields whole_bytes number_under flag if_set number within bytes_under byte_end ◌>>=◌ read field_at spelled reason_of
pair_cut = refl

-- 1 breaks both rules: the first gives the reason
both_broken : answer (0x20 ∷ []) ≡ Err (record { place = 0; reason = small })
unfolding answer table fields whole_bytes number_under flag if_set number within bytes_under byte_end ◌>>=◌ read field_at spelled reason_of
both_broken = refl

-- 3 breaks the second
second_broken : answer (0x08 ∷ []) ≡ Err (record { place = 0; reason = odd })
unfolding answer table fields whole_bytes number_under flag if_set number within bytes_under byte_end ◌>>=◌ read field_at spelled reason_of
second_broken = refl

-- the pair's second number is 0, at bit 5; that the byte is short comes later
pair_broken : answer (0x7C ∷ []) ≡ Err (record { place = 5; reason = far })
unfolding answer table fields whole_bytes number_under flag if_set number within bytes_under byte_end ◌>>=◌ read field_at spelled reason_of
pair_broken = refl

-- 64 zeros are cut short, and 72 are too large
cut : answer (replicate 8 0) ≡ Err (record { place = 0; reason = short })
unfolding answer table fields whole_bytes number_under flag if_set number within bytes_under byte_end ◌>>=◌ read field_at spelled reason_of
cut = refl

large : answer (replicate 9 0) ≡ Err (record { place = 0; reason = too_large })
unfolding answer table fields whole_bytes number_under flag if_set number within bytes_under byte_end ◌>>=◌ read field_at spelled reason_of
large = refl

-- ---- given fields

passes : checked fields (Number 2 ∷ Flag true ∷ Number 0 ∷ Number 1 ∷ Bytes (0xFF ∷ []) ∷ []) ≡ Ok (record { n = 2; pair = Some (0, 1); bytes = 0xFF ∷ [] }, [])
unfolding fields number_under flag if_set number within bytes_under ◌>>=◌ checked
passes = refl

breaks : checked fields (Number 4 ∷ Flag true ∷ Number 0 ∷ Number 10 ∷ Bytes (0xFF ∷ []) ∷ []) ≡ Err far
unfolding fields number_under flag if_set number within bytes_under ◌>>=◌ checked
breaks = refl
