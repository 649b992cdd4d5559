-- Rows of a unit, moved over its bytes piece by piece.
use Rattle.std.proofs.Common.{◌≡◌, ℕ, ◌+◌, ◌^◌, ◌<◌, List, [], ◌∷◌, ◌++◌, length, None, refl, sym, ap, subst, ◌∙◌, append_assoc, arith}
use Rattle.std.specs.List.{AllByRecursion}
use Rattle.std.specs.Int.{w32, to_be_bytes, from_be_bytes}
use Rattle.std.proofs.lemmas.Nat.{from_be_bytes-to_be_bytes_4}
use Rattle.std.proofs.lemmas.List.{length-append}
use Rattle.field_rows.specs.Rows.{Rule, ◌or_else◌, Rows, ◌>>=◌, bytes_under, word_under, byte_under, first_broken, read}
use Rattle.parse_info.specs.declared.Code.{Code}
use Rattle.parse_info.specs.declared.Code.TheVariants.{SequenceHeader, EndOfSequence, Auxiliary, Padding, LowDelayPicture}
use Rattle.parse_info.specs.Code.{is_supported, code_in, code_byte}
use Rattle.parse_info.proofs.WrittenHeads.{word_fits}
use Rattle.run_theory.specs.Grammar.{Grammar, bytes_at}
use Rattle.run_theory.specs.Begun.{Moves}
use Rattle.run_theory.proofs.Fields.{moves_row}

-- one piece and the next
pub moves_then : {Z R U : Type 0} (g : Grammar Z R U) (first second third : Rows R U) (at at' : ℕ) (a b : List ℕ) → at' ≡ at + length a → Moves g first at a second → Moves g second at' b third → Moves g first at (a ++ b) third
moves_then g first second third at at' a b e p q = record {
  moves = λ more.
      ap (λ t. read g.reason_of first (bytes_at at t)) (append_assoc a b more)
      ∙ p.moves (b ++ more)
      ∙ ap (λ n. read g.reason_of second (bytes_at n (b ++ more))) (sym e)
      ∙ q.moves more
      ∙ ap (λ n. read g.reason_of third (bytes_at n more)) (omega (arith, e, length-append a b));
}

-- no piece
pub moves_none : {Z R U : Type 0} (g : Grammar Z R U) (rows : Rows R U) (at : ℕ) → Moves g rows at [] rows
moves_none g rows at = record { moves = λ more. ap (λ n. read g.reason_of rows (bytes_at n more)) (omega arith) }

-- a number of four bytes whose rules hold
pub moves_word : {Z R U : Type 0} (g : Grammar Z R U) (rules : ℕ → List (Rule R)) (next : ℕ → Rows R U) (at n : ℕ) → n < 2 ^ 32 → first_broken (rules n) ≡ None → Moves g (word_under rules >>= next) at (to_be_bytes w32 n) (next n)
unfolding word_under ◌>>=◌
moves_word g rules next at n fits holds =
    let same : from_be_bytes w32 (to_be_bytes w32 n) ≡ n = from_be_bytes-to_be_bytes_4 n fits in
    subst (λ k. Moves g (word_under rules >>= next) at (to_be_bytes w32 n) (next k)) same
    (moves_row g 4 _ _ at (to_be_bytes w32 n) refl (word_fits n) (ap (λ k. first_broken (rules k)) same ∙ holds))

-- so many bytes whose rules hold
pub moves_bytes : {Z R U : Type 0} (g : Grammar Z R U) (n : ℕ) (rules : List ℕ → List (Rule R)) (next : List ℕ → Rows R U) (at : ℕ) (piece : List ℕ) → length piece ≡ n → AllByRecursion (λ b. b < 256) piece → first_broken (rules piece) ≡ None
    → Moves g (bytes_under n rules >>= next) at piece (next piece)
unfolding bytes_under ◌>>=◌
moves_bytes g n rules next at piece many fits holds = moves_row g n _ _ at piece many fits holds

-- the byte of a code whose rules hold
pub moves_code : {Z R U : Type 0} (g : Grammar Z R U) (unsupported : ℕ → R) (rules : Code → List (Rule R)) (next : Code → Rows R U) (at : ℕ) (code : Code) → first_broken (rules code) ≡ None
    → Moves g (byte_under (λ v. (is_supported v or_else unsupported v) ∷ rules (code_in v)) >>= λ v. next (code_in v)) at (code_byte code ∷ []) (next code)
unfolding byte_under ◌>>=◌
moves_code g unsupported rules next at SequenceHeader holds = moves_row g 1 _ _ at (0x00 ∷ []) refl (omega arith, tt) holds
moves_code g unsupported rules next at EndOfSequence holds = moves_row g 1 _ _ at (0x10 ∷ []) refl (omega arith, tt) holds
moves_code g unsupported rules next at Auxiliary holds = moves_row g 1 _ _ at (0x20 ∷ []) refl (omega arith, tt) holds
moves_code g unsupported rules next at Padding holds = moves_row g 1 _ _ at (0x30 ∷ []) refl (omega arith, tt) holds
moves_code g unsupported rules next at LowDelayPicture holds = moves_row g 1 _ _ at (0xC8 ∷ []) refl (omega arith, tt) holds
