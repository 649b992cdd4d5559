-- What rows need, and what is left behind their bytes.
use Rattle.std.proofs.Common.{◌≡◌, ℕ, ◌+◌, ◌*◌, ◌<◌, ◌≤◌, suc, get_or, not, false, List, [], ◌∷◌, ◌++◌, length, take, Option, Some, None, Ok, Err, refl, ap, ◌∙◌, arith}
use Rattle.std.specs.List.{AllByRecursion}
use Rattle.std.proofs.lemmas.Bool.{le-ltb, lt-ltb}
use Rattle.std.proofs.lemmas.List.{length-append, take_at, drop_at}
use Rattle.bit_codes.specs.declared.CodeFault.TheVariants as codes
use Rattle.bit_codes.specs.Bits.{bits_of, bytes_of}
use Rattle.bit_codes.proofs.BitLemmas.{length-bits}
use Rattle.bit_codes.proofs.ByteLemmas.{bytes_of-bits_of}
use Rattle.field_rows.specs.Rows.{some_bytes, Value, Bytes, Rule, Rows, done, row, ◌>>=◌, read, field_at, spelled, first_broken}
use Rattle.field_rows.proofs.Pieces.{read-more}
use Rattle.field_rows.proofs.Reading.{read-bind}
use Rattle.field_rows.proofs.Words.{split-bits}
use Rattle.run_theory.specs.Grammar.{Grammar, Final, bytes_at, is_settled_by}
use Rattle.run_theory.specs.Begun.{Needs, Moves}
use Rattle.run_theory.proofs.GrammarLaws.{IsGrammar, bytes_at-append}

-- fewer bytes than a field has
pub needs_row : {Z R U : Type 0} (g : Grammar Z R U) → IsGrammar g → (n : ℕ) (at : Option ℕ) (rules : Value → List (Rule R)) (next : Value → Rows R U) → Needs g (row (some_bytes n) at rules next) n
unfolding read field_at spelled
needs_row g laws n at rules next = record { needs = λ place bytes short. rw (lt-ltb (length (bits_of bytes)) (8 * n) (omega (arith, length-bits bytes))) (ap not laws.short) }

-- a unit that may end the stream needs a byte behind it
pub needs_last : {Z R U : Type 0} (g : Grammar Z R U) (unit : U) → g.behind unit ≡ Final → Needs g (done unit) 1
unfolding read
needs_last g unit may = record { needs = λ place bytes short. none bytes place short }
  where
    none : (bytes : List ℕ) (place : ℕ) → length bytes < 1 → is_settled_by g (read g.reason_of (done unit) (bytes_at place bytes)) ≡ false
    none [] place short = rw may refl
    none (b ∷ bytes) place short = absurd (omega arith)

-- behind the bytes of a field whose rules hold
pub moves_row : {Z R U : Type 0} (g : Grammar Z R U) (n : ℕ) (rules : Value → List (Rule R)) (next : Value → Rows R U) (place : ℕ) (piece : List ℕ) → length piece ≡ n → AllByRecursion (λ b. b < 256) piece → first_broken (rules (Bytes piece)) ≡ None
    → Moves g (row (some_bytes n) None rules next) place piece (next (Bytes piece))
unfolding read field_at spelled
moves_row g n rules next place piece long fits holds = record {
  moves = λ more.
      let bytes = piece ++ more in
      let le : n ≤ length bytes = omega (arith, length-append piece more) in
      let q = split-bits n bytes le in
      rw (le-ltb (length (bits_of bytes)) (8 * n) (omega (arith, length-bits bytes)), q.0, q.1, take_at piece more n long, drop_at piece more n long, bytes_of-bits_of piece fits, holds)
      (ap (λ p. read g.reason_of (next (Bytes piece)) (record { place = p; rest = bits_of more })) (omega arith));
}

-- behind the bytes of a group
pub moves_group : {Z R U A : Type 0} (g : Grammar Z R U) (group : Rows R A) (next : A → Rows R U) (place : ℕ) (piece : List ℕ) (a : A) → read g.reason_of group (bytes_at place piece) ≡ Ok (a, bytes_at (place + length piece) [])
    → Moves g (group >>= next) place piece (next a)
moves_group g group next place piece a e = record {
  moves = λ more.
      let far = ap (read g.reason_of group) (bytes_at-append place piece more)
      ∙ read-more g.reason_of group (bytes_at place piece) a (bytes_at (place + length piece) []) (bits_of more) (record { whole = omega (arith, length-bits piece) }) e in
      read-bind g.reason_of group next (bytes_at place (piece ++ more)) ∙ rw far refl;
}

-- behind the bytes of a field that no rule looks at and that decides nothing
pub moves_blind : {Z R U : Type 0} (g : Grammar Z R U) (n : ℕ) (rules : Value → List (Rule R)) (next : Value → Rows R U) (place : ℕ) (piece : List ℕ) (others : Rows R U) → length piece ≡ n → ((v : Value) → first_broken (rules v) ≡ None) → ((v : Value) → next v ≡ others)
    → Moves g (row (some_bytes n) None rules next) place piece others
unfolding read field_at spelled
moves_blind g n rules next place piece others long holds same = record {
  moves = λ more.
      let bytes = piece ++ more in
      let le : n ≤ length bytes = omega (arith, length-append piece more) in
      let q = split-bits n bytes le in
      rw (le-ltb (length (bits_of bytes)) (8 * n) (omega (arith, length-bits bytes)), q.1, drop_at piece more n long, holds (Bytes (bytes_of (take (8 * n) (bits_of bytes)))), same (Bytes (bytes_of (take (8 * n) (bits_of bytes)))))
      (ap (λ p. read g.reason_of others (record { place = p; rest = bits_of more })) (omega arith));
}

-- a field that is short, and one that breaks a rule
pub short_row : {Z R U : Type 0} (g : Grammar Z R U) (n : ℕ) (rules : Value → List (Rule R)) (next : Value → Rows R U) (place : ℕ) (bytes : List ℕ) → length bytes < n
    → read g.reason_of (row (some_bytes n) None rules next) (bytes_at place bytes) ≡ Err (record { place = 8 * place; reason = g.reason_of codes.Short })
unfolding read field_at spelled
short_row g n rules next place bytes short = rw (lt-ltb (length (bits_of bytes)) (8 * n) (omega (arith, length-bits bytes))) refl

pub broken_row : {Z R U : Type 0} (g : Grammar Z R U) (n : ℕ) (rules : Value → List (Rule R)) (next : Value → Rows R U) (place : ℕ) (piece more : List ℕ) (reason : R) → length piece ≡ n → AllByRecursion (λ b. b < 256) piece → first_broken (rules (Bytes piece)) ≡ Some reason
    → read g.reason_of (row (some_bytes n) None rules next) (bytes_at place (piece ++ more)) ≡ Err (record { place = 8 * place; reason = reason })
unfolding read field_at spelled
broken_row g n rules next place piece more reason long fits broken =
    let bytes = piece ++ more in
    let le : n ≤ length bytes = omega (arith, length-append piece more) in
    let q = split-bits n bytes le in
    rw (le-ltb (length (bits_of bytes)) (8 * n) (omega (arith, length-bits bytes)), q.0, q.1, take_at piece more n long, drop_at piece more n long, bytes_of-bits_of piece fits, broken) refl

pub all_fit : (bytes : List ℕ) → ((i : ℕ) → get_or bytes i 0 < 256) → AllByRecursion (λ b. b < 256) bytes
all_fit [] f = tt
all_fit (b ∷ bytes) f = (f 0, all_fit bytes (λ i. f (suc i)))
