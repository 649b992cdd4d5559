-- Rows behind which a byte begins.
use Rattle.std.proofs.Common.{◌≡◌, ℕ, ◌+◌, ◌-◌, ◌*◌, ◌/◌, ◌%◌, ◌≤◌, min, Bool, true, false, cond, List, [], ◌∷◌, length, drop, Option, Some, None, Result, Ok, Err, refl, sym, ap, subst, ◌∙◌, arith}
use Rattle.std.proofs.lemmas.List.{length-append, drop_at}
use Rattle.bit_codes.specs.declared.CodeFault.{CodeFault}
use Rattle.bit_codes.specs.Bits.{Cursor, bits_of, at_byte_end}
use Rattle.bit_codes.proofs.BitLemmas.{length-bits}
use Rattle.field_rows.specs.Rows.{Value, Number, Flag, Bytes, Skipped, Here, Rule, Rows, done, row, ◌>>=◌, Fault, read, and_then, reading_unless, first_broken, byte_end, whole_bytes, bytes_under, word_under, byte_under, check_at, some_bytes, renamed}
use Rattle.field_rows.specs.Standing.{StandsAt, Stand}
use Rattle.field_rows.specs.Moved.{renamed_answer}
use Rattle.field_rows.proofs.Reading.{read-bind, read-done, read-byte_end}
use Rattle.field_rows.proofs.Answers.{found_fields, Stand-read}
use Rattle.field_rows.proofs.Pieces.{read-along}
use Rattle.field_rows.proofs.Moves.{read-renamed}
use Rattle.field_rows.proofs.Words.{read-check_at, split-bits}
use Rattle.run_theory.specs.Grammar.{bytes_at}

-- From a byte's first bit on, these rows end before one.
pub record EndsWhole {R A : Type 0} (reason_of : CodeFault → R) (rows : Rows R A) : Type 0 where
  pub ends : (c behind : Cursor) (a : A) → c.place % 8 ≡ 0 → (c.place + length c.rest) % 8 ≡ 0 → read reason_of rows c ≡ Ok (a, behind) → behind.place % 8 ≡ 0

-- the bits end where they did
pub along-whole : {R A : Type 0} (reason_of : CodeFault → R) (rows : Rows R A) (c behind : Cursor) (a : A) → (c.place + length c.rest) % 8 ≡ 0 → read reason_of rows c ≡ Ok (a, behind) → (behind.place + length behind.rest) % 8 ≡ 0
along-whole reason_of rows c behind a whole e =
    let f = read-along reason_of rows c a behind e in
    let n : length c.rest ≡ length f.text + length behind.rest = ap (λ (l : List Bool). length l) f.parts ∙ length-append f.text behind.rest in
    omega (arith, f.along)

same_behind : {A : Type 0} (R : Type 0) (a b : A) (c d : Cursor) → (let r : Result (A × Cursor) (Fault R) = Ok (a, c) in r) ≡ Ok (b, d) → c ≡ d
same_behind {A = A} R a b c d e = let both : (a, c) ≡ (b, d) = cc in ap (λ (x : A × Cursor). x.1) both

pub EndsWhole-done : {R A : Type 0} (reason_of : CodeFault → R) (a : A) → EndsWhole reason_of (done a)
EndsWhole-done {R = R} reason_of a = record { ends = λ c behind b aligned whole e. subst (λ (x : Cursor). x.place % 8 ≡ 0) (same_behind R a b c behind (sym (read-done reason_of a c) ∙ e)) aligned }

pub EndsWhole-bind : {R A B : Type 0} (reason_of : CodeFault → R) (rows : Rows R A) (next : A → Rows R B) → EndsWhole reason_of rows → ((a : A) → EndsWhole reason_of (next a)) → EndsWhole reason_of (rows >>= next)
EndsWhole-bind {R = R} {A = A} {B = B} reason_of rows next f g = record { ends = λ c behind b aligned whole e. by c behind b aligned whole (read reason_of rows c) refl (sym (read-bind reason_of rows next c) ∙ e) }
  where
    by : (c behind : Cursor) (b : B) → c.place % 8 ≡ 0 → (c.place + length c.rest) % 8 ≡ 0 → (r : Result (A × Cursor) (Fault R)) → read reason_of rows c ≡ r → and_then r (λ x. read reason_of (next x.0) x.1) ≡ Ok (b, behind) → behind.place % 8 ≡ 0
    by c behind b aligned whole (Ok x) e k = (g x.0).ends x.1 behind b (f.ends c x.1 x.0 aligned whole e) (along-whole reason_of rows c x.1 x.0 whole e) k
    by c behind b aligned whole (Err fault) e k = absurd cc

pub EndsWhole-if : {R A : Type 0} (reason_of : CodeFault → R) (b : Bool) (rows others : Rows R A) → EndsWhole reason_of rows → EndsWhole reason_of others → EndsWhole reason_of (cond b rows others)
EndsWhole-if reason_of true rows others f g = f
EndsWhole-if reason_of false rows others f g = g

-- however its fields end, a byte's end follows them
pub EndsWhole-whole_bytes : {R A : Type 0} (reason_of : CodeFault → R) (rows : Rows R A) → EndsWhole reason_of (whole_bytes rows)
unfolding whole_bytes
EndsWhole-whole_bytes {R = R} {A = A} reason_of rows = record { ends = λ c behind b aligned whole e. by c behind b whole (read reason_of rows c) refl (sym (read-bind reason_of rows (λ a. byte_end >>= λ skipped. done a) c) ∙ e) }
  where
    at_end : (p n : ℕ) → (p + n) % 8 ≡ 0 → (p + min ((8 - p % 8) % 8) n) % 8 ≡ 0
    at_end p n h = omega arith

    by : (c behind : Cursor) (b : A) → (c.place + length c.rest) % 8 ≡ 0 → (r : Result (A × Cursor) (Fault R)) → read reason_of rows c ≡ r → and_then r (λ x. read reason_of (byte_end >>= λ skipped. done x.0) x.1) ≡ Ok (b, behind) → behind.place % 8 ≡ 0
    by c behind b whole (Ok x) e k =
        let mid = along-whole reason_of rows c x.1 x.0 whole e in
        let here : read reason_of (byte_end >>= λ skipped. done x.0) x.1 ≡ Ok (x.0, at_byte_end x.1) = read-bind reason_of byte_end (λ skipped. done x.0) x.1 ∙ rw (read-byte_end reason_of x.1) (read-done reason_of x.0 (at_byte_end x.1)) in
        let at : at_byte_end x.1 ≡ behind = same_behind R x.0 b (at_byte_end x.1) behind (sym here ∙ k) in
        subst (λ (y : Cursor). y.place % 8 ≡ 0) at (at_end x.1.place (length x.1.rest) mid)
    by c behind b whole (Err fault) e k = absurd cc

-- a field of bytes
pub EndsWhole-row : {R A : Type 0} (reason_of : CodeFault → R) (n : ℕ) (at : Option ℕ) (rules : Value → List (Rule R)) (next : Value → Rows R A) → ((v : Value) → EndsWhole reason_of (next v)) → EndsWhole reason_of (row (some_bytes n) at rules next)
EndsWhole-row {R = R} {A = A} reason_of n at rules next f = record { ends = λ c behind a aligned whole e. let g = found_fields reason_of (row (some_bytes n) at rules next) c a behind e in by c behind a aligned whole g.0 g.1 }
  where
    long : (v : Value) (c mid : Cursor) → StandsAt (some_bytes n) v c mid → mid.place ≡ c.place + 8 * n
    long (Bytes bytes) c mid g = omega (arith, g.along, g.spelled.0, ap (λ (t : List Bool). length t) g.spelled.2, length-bits bytes)
    long (Number m) c mid g = absurd g.spelled
    long (Flag b) c mid g = absurd g.spelled
    long (Skipped bits) c mid g = absurd g.spelled
    long (Here place) c mid g = absurd g.spelled

    by : (c behind : Cursor) (a : A) → c.place % 8 ≡ 0 → (c.place + length c.rest) % 8 ≡ 0 → (vs : List Value) → Stand (row (some_bytes n) at rules next) vs c a behind → behind.place % 8 ≡ 0
    by c behind a aligned whole [] g = absurd g
    by c behind a aligned whole (v ∷ vs) g =
        let mid = g.0 in
        let far = long v c mid g.1 in
        let n : length c.rest ≡ length g.1.text + length mid.rest = ap (λ (l : List Bool). length l) g.1.parts ∙ length-append g.1.text mid.rest in
        (f v).ends mid behind a (omega arith) (omega (arith, g.1.along)) (Stand-read reason_of (next v) vs mid a behind g.3)

pub EndsWhole-bytes_under : {R : Type 0} (reason_of : CodeFault → R) (n : ℕ) (rules : List ℕ → List (Rule R)) → EndsWhole reason_of (bytes_under n rules)
unfolding bytes_under
EndsWhole-bytes_under reason_of n rules = EndsWhole-row reason_of n None _ _ (λ v. EndsWhole-done reason_of _)

pub EndsWhole-word_under : {R : Type 0} (reason_of : CodeFault → R) (rules : ℕ → List (Rule R)) → EndsWhole reason_of (word_under rules)
unfolding word_under
EndsWhole-word_under reason_of rules = EndsWhole-row reason_of 4 None _ _ (λ v. EndsWhole-done reason_of _)

pub EndsWhole-byte_under : {R : Type 0} (reason_of : CodeFault → R) (rules : ℕ → List (Rule R)) → EndsWhole reason_of (byte_under rules)
unfolding byte_under
EndsWhole-byte_under reason_of rules = EndsWhole-row reason_of 1 None _ _ (λ v. EndsWhole-done reason_of _)

-- a check of no bits
pub EndsWhole-check_at : {R : Type 0} (reason_of : CodeFault → R) (place : ℕ) (rules : ℕ → List (Rule R)) → EndsWhole reason_of (check_at place rules)
EndsWhole-check_at {R = R} reason_of place rules = record { ends = λ c behind a aligned whole e. by c behind a aligned (first_broken (rules c.place)) (sym (read-check_at reason_of place rules c) ∙ e) }
  where
    by : (c behind : Cursor) (a : ℕ) → c.place % 8 ≡ 0 → (broken : Option R) → (let r : Result (ℕ × Cursor) (Fault R) = reading_unless place broken (Ok (c.place, c)) in r) ≡ Ok (a, behind) → behind.place % 8 ≡ 0
    by c behind a aligned None k = subst (λ (x : Cursor). x.place % 8 ≡ 0) (same_behind R c.place a c behind k) aligned
    by c behind a aligned (Some reason) k = absurd cc

-- the same rows under other names of reasons
pub EndsWhole-renamed : {R S A : Type 0} (name : R → S) (reason_of : CodeFault → R) (others : CodeFault → S) → ((e : CodeFault) → others e ≡ name (reason_of e)) → (rows : Rows R A) → EndsWhole reason_of rows → EndsWhole others (renamed name rows)
EndsWhole-renamed {R = R} {S = S} {A = A} name reason_of others same rows f = record { ends = λ c behind a aligned whole e. by c behind a aligned whole (read reason_of rows c) refl (sym (read-renamed name reason_of others same rows c) ∙ e) }
  where
    by : (c behind : Cursor) (a : A) → c.place % 8 ≡ 0 → (c.place + length c.rest) % 8 ≡ 0 → (r : Result (A × Cursor) (Fault R)) → read reason_of rows c ≡ r → renamed_answer name r ≡ Ok (a, behind) → behind.place % 8 ≡ 0
    by c behind a aligned whole (Ok x) e k = subst (λ (y : Cursor). y.place % 8 ≡ 0) (same_behind S x.0 a x.1 behind k) (f.ends c x.1 x.0 aligned whole e)
    by c behind a aligned whole (Err fault) e k = absurd cc

pub ruleset ends_whole = (EndsWhole-done, EndsWhole-bind, EndsWhole-if, EndsWhole-whole_bytes, EndsWhole-bytes_under, EndsWhole-word_under, EndsWhole-byte_under, EndsWhole-check_at)

-- Bytes that such rows take: the cursor behind them stands before a byte.
pub behind-bytes : {R A : Type 0} (reason_of : CodeFault → R) (rows : Rows R A) (place : ℕ) (bytes : List ℕ) (a : A) (behind : Cursor) → read reason_of rows (bytes_at place bytes) ≡ Ok (a, behind) → behind.place % 8 ≡ 0
    → (n : ℕ) × (n ≤ length bytes) × (behind ≡ bytes_at (place + n) (drop n bytes))
behind-bytes reason_of rows place bytes a behind e aligned =
    let f = read-along reason_of rows (bytes_at place bytes) a behind e in
    let n = length f.text / 8 in
    let eight : length f.text ≡ 8 * n = omega (arith, f.along) in
    let total : 8 * length bytes ≡ length f.text + length behind.rest = sym (length-bits bytes) ∙ ap (λ (l : List Bool). length l) f.parts ∙ length-append f.text behind.rest in
    let le : n ≤ length bytes = omega arith in
    let rest : behind.rest ≡ bits_of (drop n bytes) = sym (drop_at f.text behind.rest (8 * n) eight) ∙ sym (ap (drop (8 * n)) f.parts) ∙ (split-bits n bytes le).1 in
    let at : behind.place ≡ 8 * (place + n) = omega (arith, f.along) in
    let make : ℕ → List Bool → Cursor = λ p r. record { place = p; rest = r } in
    (n, le, ap (λ p. make p behind.rest) at ∙ ap (λ r. make (8 * (place + n)) r) rest)
