-- The code of an allowed number has at most 65 bits, and so many fields have at most so many times as many.
use Rattle.std.proofs.Common.{◌≡◌, ℕ, zero, suc, ◌+◌, ◌*◌, ◌^◌, ◌<◌, ◌≤◌, List, [], ◌∷◌, ◌++◌, length, inl, inr, arith}
use Rattle.std.specs.List.{AllByRecursion}
use Rattle.std.proofs.Math.Pow.{pow_mono}
use Rattle.std.proofs.Math.Nat.{pow-succ'}
use Rattle.std.proofs.lemmas.Bool.{cases_lt}
use Rattle.std.proofs.lemmas.List.{length-append}
use Rattle.std.proofs.lemmas.Nat.{leading_length}
use Rattle.bit_codes.specs.Codes.{code_of}
use Rattle.bit_codes.proofs.CodeOf.{length-code_of}
use Rattle.field_rows.specs.Rows.{Spelling, a_number, a_flag, Value, Number, Flag, Bytes, Rows, done, row}
use Rattle.field_rows.specs.Given.{written_as, value_bits, IsOfKind, AreOfKind}

-- a power of two up to 2 ^ 33 + 1 has an exponent up to 33
small_exponent : (k : ℕ) → 2 ^ k ≤ 2 ^ 33 + 1 → k ≤ 33
small_exponent k le = elim (cases_lt 33 k) [ inl lt ↦ absurd (let great : 2 ^ 34 ≤ 2 ^ k = pow_mono {i = 34} {j = k} (omega arith) in omega arith) | inr near ↦ near ]

by_digits : (n d : ℕ) → n < 2 ^ 32 → n + 1 < 2 ^ d → 2 ^ d ≤ 2 * (n + 1) + 1 → length (code_of n) ≤ 65
by_digits n zero lt above below = absurd (omega arith)
by_digits n (suc k) lt above below =
    let power : 2 ^ suc k ≡ 2 * 2 ^ k = pow-succ' 2 k in
    let near = small_exponent (suc k) (omega arith) in
    omega (arith, length-code_of k n (omega arith) (omega arith) (omega arith))

pub code_short : (n : ℕ) → n < 2 ^ 32 → length (code_of n) ≤ 65
code_short n lt = let d = leading_length 64 (n + 1) (omega arith) in by_digits n d.0 lt d.2 d.3

-- ---- fields that are no bytes

abbrev pub IsNoBytes : Value → Type 0
IsNoBytes (Bytes bytes) = ⊥
IsNoBytes other = Unit {0}

-- so many fields at most, none of them bytes
pub record AreFew (n : ℕ) (vs : List Value) : Type 0 where
  pub each : AllByRecursion IsNoBytes vs
  pub count : length vs ≤ n

each-append : (vs ws : List Value) → AllByRecursion IsNoBytes vs → AllByRecursion IsNoBytes ws → AllByRecursion IsNoBytes (vs ++ ws)
each-append [] ws f g = g
each-append (v ∷ vs) ws f g = (f.0, each-append vs ws f.1 g)

pub AreFew-append : (m n : ℕ) (vs ws : List Value) → AreFew m vs → AreFew n ws → AreFew (m + n) (vs ++ ws)
AreFew-append m n vs ws f g = record { each = each-append vs ws f.each g.each; count = omega (arith, f.count, g.count, length-append vs ws) }

field_short : (s : Spelling) (v : Value) → IsNoBytes v → IsOfKind s v → length (written_as v) ≤ 65
field_short a_number (Number k) f h = code_short k h
field_short a_flag (Flag b) f h = omega arith
field_short s (Bytes bytes) f h = absurd f
field_short s v f h = absurd h

pub kinds_short : {R A : Type 0} (rows : Rows R A) (vs : List Value) → AllByRecursion IsNoBytes vs → AreOfKind rows vs → length (value_bits vs) ≤ 65 * length vs
kinds_short rows [] f k = omega arith
kinds_short (done a) (v ∷ vs) f k = absurd cc
kinds_short (row s at rules next) (v ∷ vs) f k = omega (arith, length-append (written_as v) (value_bits vs), field_short s v f.0 k.0, kinds_short (next v) vs f.1 k.1)

-- so many fields of their rows' kinds have at most so many bits
pub few_short : {R A : Type 0} (n : ℕ) (rows : Rows R A) (vs : List Value) → AreFew n vs → AreOfKind rows vs → length (value_bits vs) ≤ 65 * n
few_short n rows vs f k = omega (arith, kinds_short rows vs f.each k, f.count)
