-- Groups of fields that pass, one after the other, and what is written for them.
use Rattle.std.proofs.Common.{inl, inr, ◌≡◌, ℕ, ◌+◌, ◌-◌, ◌*◌, ◌/◌, ◌%◌, ◌≤◌, Bool, true, false, List, [], ◌∷◌, ◌++◌, length, Some, None, Result, Ok, Err, refl, sym, ap, subst, ◌∙◌, append_assoc, arith, ◌<◌}
use Rattle.std.specs.Int.{is_in_range}
use Rattle.std.proofs.lemmas.Bool.{le-leb, lt-leb, cases_lt}
use Rattle.std.proofs.lemmas.List.{append-nil, length-append, length-replicate}
use Rattle.bit_codes.specs.declared.CodeFault.{CodeFault}
use Rattle.bit_codes.specs.Bits.{Cursor, cursor_at, bits_of, at_byte_end, zeros_to_byte_end}
use Rattle.bit_codes.proofs.BitLemmas.{length-bits}
use Rattle.bit_codes.proofs.Numbers.{bits_of-append}
use Rattle.field_rows.specs.Rows.{Value, Number, ◌or_else◌, Rule, first_broken, Rows, done, row, ◌>>=◌, Fault, read, whole_bytes, flag, flag_set, number, number_under, within, Flag, if_set}
use Rattle.field_rows.specs.Given.{checked, value_bits, AreOfKind, Pass, Fail}
use Rattle.field_rows.proofs.Written.{asked_ok, checked-bind, read-written}
use Rattle.field_rows.proofs.Pieces.{read-whole}

pub AreOfKind-bind : {R A B : Type 0} (rows : Rows R A) (next : A → Rows R B) (vs ws : List Value) (a : A) → AreOfKind rows vs → checked rows vs ≡ Ok (a, []) → AreOfKind (next a) ws → AreOfKind (rows >>= next) (vs ++ ws)
unfolding checked ◌>>=◌
AreOfKind-bind {A = A} (done made) next vs ws a k e f =
    let both : (made, vs) ≡ (a, []) = cc in
    let same : made ≡ a = ap (λ (x : A × List Value). x.0) both in
    let none : vs ++ ws ≡ ws = ap (λ (x : A × List Value). x.1 ++ ws) both in
    subst (λ (t : List Value). AreOfKind (next made) t) (sym none) (subst (λ (x : A). AreOfKind (next x) ws) (sym same) f)
AreOfKind-bind (row s at rules more) next [] ws a k e f = absurd k
AreOfKind-bind (row s at rules more) next (v ∷ vs) ws a k e f = (k.0, AreOfKind-bind (more v) next vs ws a k.1 (asked_ok (first_broken (rules v)) (checked (more v) vs) (a, []) e).1 f)

-- nothing follows
pub passed_alone : {R A : Type 0} (rows : Rows R A) (vs : List Value) (a : A) → Pass rows vs a → checked rows vs ≡ Ok (a, [])
passed_alone rows vs a p = ap (checked rows) (sym (append-nil vs)) ∙ p.passed []

pub Pass-bind : {R A B : Type 0} (rows : Rows R A) (next : A → Rows R B) (vs ws : List Value) (a : A) (b : B) → Pass rows vs a → Pass (next a) ws b → Pass (rows >>= next) (vs ++ ws) b
Pass-bind rows next vs ws a b p q = record {
  passed = λ more. ap (checked (rows >>= next)) (append_assoc vs ws more) ∙ checked-bind rows next (vs ++ (ws ++ more)) ∙ rw (p.passed (ws ++ more)) (q.passed more);
}

-- the kinds of groups, one after the other
pub kinds-bind : {R A B : Type 0} (rows : Rows R A) (next : A → Rows R B) (vs ws : List Value) (a : A) → Pass rows vs a → AreOfKind rows vs → AreOfKind (next a) ws → AreOfKind (rows >>= next) (vs ++ ws)
kinds-bind rows next vs ws a p k l = AreOfKind-bind rows next vs ws a k (passed_alone rows vs a p) l

-- the first group that fails
pub Fail-first : {R A B : Type 0} (rows : Rows R A) (next : A → Rows R B) (vs ws : List Value) (reason : R) → Fail rows vs reason → Fail (rows >>= next) (vs ++ ws) reason
Fail-first rows next vs ws reason f = record {
  failed = λ more. ap (checked (rows >>= next)) (append_assoc vs ws more) ∙ checked-bind rows next (vs ++ (ws ++ more)) ∙ rw (f.failed (ws ++ more)) refl;
}

pub Fail-later : {R A B : Type 0} (rows : Rows R A) (next : A → Rows R B) (vs ws : List Value) (a : A) (reason : R) → Pass rows vs a → Fail (next a) ws reason → Fail (rows >>= next) (vs ++ ws) reason
Fail-later rows next vs ws a reason p f = record {
  failed = λ more. ap (checked (rows >>= next)) (append_assoc vs ws more) ∙ checked-bind rows next (vs ++ (ws ++ more)) ∙ rw (p.passed (ws ++ more)) (f.failed more);
}

pub failed_alone : {R A : Type 0} (rows : Rows R A) (vs : List Value) (reason : R) → Fail rows vs reason → checked rows vs ≡ Err reason
failed_alone rows vs reason f = ap (checked rows) (sym (append-nil vs)) ∙ f.failed []

-- what passes is read from what is written, whatever follows
pub Pass-read : {R A : Type 0} (reason_of : CodeFault → R) (rows : Rows R A) (vs : List Value) (a : A) (rest : List Bool) → Pass rows vs a → AreOfKind rows vs
    → read reason_of rows (record { place = 0; rest = value_bits vs ++ rest }) ≡ Ok (a, record { place = length (value_bits vs); rest = rest })
Pass-read {R = R} {A = A} reason_of rows vs a rest p k =
    read-written reason_of rows vs 0 rest a k (passed_alone rows vs a p)
    ∙ ap (λ (n : ℕ). let r : Result (A × Cursor) (Fault R) = Ok (a, record { place = n; rest = rest }) in r) (omega arith)

-- so many zeros fill the last byte
pub length-zeros : (n : ℕ) → length (zeros_to_byte_end n) ≡ (8 - n % 8) % 8
length-zeros n = length-replicate ((8 - n % 8) % 8) false

-- bytes that are the written fields and zeros to the byte's end are taken whole, and any bytes may follow
pub Pass-read_bytes : {R A : Type 0} (reason_of : CodeFault → R) (rows : Rows R A) (vs : List Value) (a : A) (bytes more : List ℕ) → Pass rows vs a → AreOfKind rows vs → bits_of bytes ≡ value_bits vs ++ zeros_to_byte_end (length (value_bits vs))
    → read reason_of (whole_bytes rows) (cursor_at (bytes ++ more) 0) ≡ Ok (a, cursor_at (bytes ++ more) (8 * length bytes))
Pass-read_bytes {R = R} {A = A} reason_of rows vs a bytes more p k e =
    let n = length (value_bits vs) in
    let rest = zeros_to_byte_end n ++ bits_of more in
    let parts : bits_of (bytes ++ more) ≡ value_bits vs ++ rest = bits_of-append bytes more ∙ ap (λ (t : List Bool). t ++ bits_of more) e ∙ append_assoc (value_bits vs) (zeros_to_byte_end n) (bits_of more) in
    let mid : Cursor = record { place = n; rest = rest } in
    let front : read reason_of rows (cursor_at (bytes ++ more) 0) ≡ Ok (a, mid) = ap (λ (t : List Bool). read reason_of rows (record { place = 0; rest = t })) parts ∙ Pass-read reason_of rows vs a rest p k in
    let total : 8 * length bytes ≡ n + (8 - n % 8) % 8 = omega (arith, length-bits bytes, ap (λ (t : List Bool). length t) e, length-append (value_bits vs) (zeros_to_byte_end n), length-zeros n) in
    let left : (8 - n % 8) % 8 ≤ length rest = omega (arith, length-append (zeros_to_byte_end n) (bits_of more), length-zeros n) in
    let behind : 8 * ((at_byte_end mid).place / 8) ≡ 8 * length bytes = omega arith in
    (read-whole reason_of rows (bytes ++ more) a mid front).0 ∙ ap (λ (k : ℕ). let r : Result (A × Cursor) (Fault R) = Ok (a, cursor_at (bytes ++ more) k) in r) behind

-- ---- single rows, and one field before others

pub Pass-done : {R A : Type 0} (a : A) → Pass {R = R} (done a) [] a
unfolding checked
Pass-done a = record { passed = λ more. refl }

pub Pass-number : {R : Type 0} (n : ℕ) → Pass {R = R} number (Number n ∷ []) n
unfolding checked number
Pass-number n = record { passed = λ more. refl }

pub Pass-number_under : {R : Type 0} (rules : ℕ → List (Rule R)) (n : ℕ) → first_broken (rules n) ≡ None → Pass (number_under rules) (Number n ∷ []) n
unfolding checked number_under
Pass-number_under rules n e = record { passed = λ more. rw e refl }

pub Pass-within : {R : Type 0} (low high : ℕ) (reason : R) (n : ℕ) → low ≤ n → n ≤ high → Pass (within low high reason) (Number n ∷ []) n
unfolding within number_under
Pass-within low high reason n l u = Pass-number_under (λ v. (is_in_range low high v or_else reason) ∷ []) n (rw (in_range low high n l u) refl)
  where
    in_range : (low high n : ℕ) → low ≤ n → n ≤ high → is_in_range low high n ≡ true
    in_range low high n l u = rw (le-leb low n l, le-leb n high u) refl

pub Pass-flag : {R : Type 0} (b : Bool) → Pass {R = R} flag (Flag b ∷ []) b
unfolding checked flag
Pass-flag b = record { passed = λ more. refl }

pub Pass-flag_set : {R : Type 0} (reason : R) → Pass (flag_set reason) (Flag true ∷ []) true
unfolding checked flag_set
Pass-flag_set reason = record { passed = λ more. refl }

pub Pass-then : {R A B : Type 0} (rows : Rows R A) (next : A → Rows R B) (v : Value) (ws : List Value) (a : A) (b : B) → Pass rows (v ∷ []) a → Pass (next a) ws b → Pass (rows >>= next) (v ∷ ws) b
Pass-then rows next v ws a b p q = Pass-bind rows next (v ∷ []) ws a b p q

-- ---- single rows whose rule is broken

pub Fail-number_under : {R : Type 0} (rules : ℕ → List (Rule R)) (n : ℕ) (reason : R) → first_broken (rules n) ≡ Some reason → Fail (number_under rules) (Number n ∷ []) reason
unfolding checked number_under
Fail-number_under rules n reason e = record { failed = λ more. rw e refl }

pub Fail-within : {R : Type 0} (low high : ℕ) (reason : R) (n : ℕ) → is_in_range low high n ≡ false → Fail (within low high reason) (Number n ∷ []) reason
unfolding within number_under
Fail-within low high reason n e = Fail-number_under (λ v. (is_in_range low high v or_else reason) ∷ []) n reason (rw e refl)

pub below_range : (low high n : ℕ) → n < low → is_in_range low high n ≡ false
below_range low high n h = rw (lt-leb low n h) refl

pub above_range : (low high n : ℕ) → high < n → is_in_range low high n ≡ false
above_range low high n h = elim (cases_lt n low) [ inl lt ↦ below_range low high n lt | inr le ↦ rw (le-leb low n le, lt-leb n high h) refl ]

pub Pass-if_set : {R A : Type 0} (rows : Rows R A) (vs : List Value) (a : A) → Pass rows vs a → Pass (if_set true rows) vs (Some a)
unfolding if_set
Pass-if_set rows vs a p = subst (λ (t : List Value). Pass (rows >>= λ x. done (Some x)) t (Some a)) (append-nil vs) (Pass-bind rows (λ x. done (Some x)) vs [] a (Some a) p (Pass-done (Some a)))

pub Pass-if_not_set : {R A : Type 0} (rows : Rows R A) → Pass (if_set false rows) [] None
unfolding if_set
Pass-if_not_set rows = Pass-done None
