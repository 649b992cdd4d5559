-- Values that are dealt out, one list of quantisers after another.
use Rattle.std.proofs.Common.{◌≡◌, ℕ, zero, suc, ◌+◌, ◌-◌, ◌^◌, ◌<◌, ◌≤◌, Bool, true, false, ◌&&◌, List, [], ◌∷◌, ◌++◌, length, map, replicate, get_or, refl, sym, ap, ◌∙◌, inl, inr, arith, zero-add, ℤ, pos, unsigned_abs}
use Rattle.std.specs.Prelude.{nat_le}
use Rattle.std.specs.List.{AllByRecursion}
use Rattle.std.proofs.lemmas.Bool.{cases_lt}
use Rattle.std.proofs.lemmas.List.{get_or-map, length-map, length-replicate, get_or_append_left, get_or-append-add}
use Rattle.std.proofs.lemmas.Bool.Decides.{nat_tests}
use Rattle.bounded_blocks.specs.Reading.{value_at, values, left_after}
use Rattle.bounded_blocks.specs.Parts.{IsSmall, HasHuge, ReadsValues}
use Rattle.quant_factors.specs.Factors.{inverse_of}
use Rattle.quant_factors.proofs.QuantLemmas.{magnitude_kept}
use Rattle.slice_decoder.specs.Slice.{are_small, dequantised}
use Rattle.slice_decoder.specs.Dealing.{dealt, behind}

pub dealt-append : (block : List Bool) (qs rs : List ℕ) → dealt block (qs ++ rs) ≡ dealt block qs ++ dealt (behind block qs) rs
dealt-append block [] rs = refl
dealt-append block (q ∷ qs) rs = ap (λ vs. inverse_of (value_at block).0 q ∷ vs) (dealt-append (value_at block).1 qs rs)

pub behind-append : (block : List Bool) (qs rs : List ℕ) → behind block (qs ++ rs) ≡ behind (behind block qs) rs
behind-append block [] rs = refl
behind-append block (q ∷ qs) rs = behind-append (value_at block).1 qs rs

pub length-dealt : (block : List Bool) (qs : List ℕ) → length (dealt block qs) ≡ length qs
length-dealt block [] = refl
length-dealt block (q ∷ qs) = ap (λ n. suc n) (length-dealt (value_at block).1 qs)

-- of so many values, each by its quantiser
pub dequantised-values : (block : List Bool) (qs : List ℕ) (n : ℕ) → n ≡ length qs → dequantised (values n block) qs ≡ dealt block qs
dequantised-values block [] n is = rw is refl
dequantised-values block (q ∷ qs) zero is = absurd (omega (arith, is))
dequantised-values block (q ∷ qs) (suc n) is = ap (λ vs. inverse_of (value_at block).0 q ∷ vs) (dequantised-values (value_at block).1 qs n (omega (arith, is)))

pub dealt-replicate : (block : List Bool) (n q : ℕ) → dealt block (replicate n q) ≡ map (λ v. inverse_of v q) (values n block)
dealt-replicate block zero q = refl
dealt-replicate block (suc n) q = ap (λ vs. inverse_of (value_at block).0 q ∷ vs) (dealt-replicate (value_at block).1 n q)

pub behind-replicate : (block : List Bool) (n q : ℕ) → behind block (replicate n q) ≡ left_after n block
behind-replicate block zero q = refl
behind-replicate block (suc n) q = behind-replicate (value_at block).1 n q

-- ---- how large they are

and-assoc : (a b c : Bool) → (a && (b && c)) ≡ ((a && b) && c)
and-assoc true b c = refl
and-assoc false b c = refl

pub and-left : (a b : Bool) → (a && b) ≡ true → a ≡ true
and-left true b h = refl
and-left false b h = h

pub and-right : (a b : Bool) → (a && b) ≡ true → b ≡ true
and-right true b h = h
and-right false b h = cc

and-false : (a b : Bool) → b ≡ false → (a && b) ≡ false
and-false true b h = h
and-false false b h = refl

and-false_left : (a b : Bool) → a ≡ false → (a && b) ≡ false
and-false_left true b h = cc
and-false_left false b h = refl

pub le_tested : (m n : ℕ) → nat_le m n ≡ true → m ≤ n
le_tested m n h = grind (arith, nat_tests)

le_tests : (m n : ℕ) → m ≤ n → nat_le m n ≡ true
le_tests m n h = grind (arith, nat_tests)

lt_tests : (m n : ℕ) → n < m → nat_le m n ≡ false
lt_tests m n h = grind (arith, nat_tests)

pub are_small-append : (xs ys : List ℤ) → are_small (xs ++ ys) ≡ (are_small xs && are_small ys)
are_small-append [] ys = refl
are_small-append (x ∷ xs) ys = ap (λ b. nat_le (unsigned_abs x) (2 ^ 36) && b) (are_small-append xs ys) ∙ and-assoc (nat_le (unsigned_abs x) (2 ^ 36)) (are_small xs) (are_small ys)

pub are_small-at : (xs : List ℤ) (k : ℕ) → are_small xs ≡ true → unsigned_abs (get_or xs k (pos 0)) ≤ 2 ^ 36
are_small-at [] k h = omega arith
are_small-at (x ∷ xs) zero h = le_tested (unsigned_abs x) (2 ^ 36) (and-left _ _ h)
are_small-at (x ∷ xs) (suc k) h = are_small-at xs k (and-right (nat_le (unsigned_abs x) (2 ^ 36)) _ h)

pub not_small-at : (xs : List ℤ) (k : ℕ) → k < length xs → 2 ^ 36 < unsigned_abs (get_or xs k (pos 0)) → are_small xs ≡ false
not_small-at [] k lt large = absurd (omega arith)
not_small-at (x ∷ xs) zero lt large = and-false_left _ (are_small xs) (lt_tests (unsigned_abs x) (2 ^ 36) large)
not_small-at (x ∷ xs) (suc k) lt large = and-false (nat_le (unsigned_abs x) (2 ^ 36)) _ (not_small-at xs k (omega arith) large)

pub are_small-all : (xs : List ℤ) → ((k : ℕ) → k < length xs → unsigned_abs (get_or xs k (pos 0)) ≤ 2 ^ 36) → are_small xs ≡ true
are_small-all [] h = refl
are_small-all (x ∷ xs) h =
    ap (λ b. b && are_small xs) (le_tests (unsigned_abs x) (2 ^ 36) (h 0 (omega arith)))
    ∙ are_small-all xs (λ k lt. h (suc k) (omega arith))

-- where a quantised value is too large, so is what it stands for
pub huge-not_small : (vs : List ℤ) (q : ℕ) → q ≤ 127 → (AllByRecursion IsSmall vs → ⊥) → are_small (map (λ v. inverse_of v q) vs) ≡ false
huge-not_small [] q le huge = absurd (huge tt)
huge-not_small (v ∷ vs) q le huge = elim (cases_lt (2 ^ 36) (unsigned_abs v)) [
  | inl large ↦ and-false_left _ _ (lt_tests (unsigned_abs (inverse_of v q)) (2 ^ 36) (omega (arith, magnitude_kept v q le)))
  | inr small ↦ and-false _ _ (huge-not_small vs q le (λ all. huge (small, all)))
]

-- ---- a row

pub row-false : (block : List Bool) (n q : ℕ) → q ≤ 127 → HasHuge n block → are_small (dealt block (replicate n q)) ≡ false
row-false block n q le huge = rw dealt-replicate (huge-not_small (values n block) q le huge)

pub row-small : (block left : List Bool) (n q : ℕ) (vs : List ℤ) → ReadsValues n block vs left → are_small (map (λ v. inverse_of v q) vs) ≡ are_small (dealt block (replicate n q))
row-small block left n q vs reads = ap (λ vs. are_small (map (λ v. inverse_of v q) vs)) (sym reads.same) ∙ ap are_small (sym (dealt-replicate block n q))

pub row-at : (block left : List Bool) (n q k : ℕ) (vs : List ℤ) → ReadsValues n block vs left → k < length vs → inverse_of (get_or vs k (pos 0)) q ≡ get_or (dealt block (replicate n q)) k (pos 0)
row-at block left n q k vs reads lt =
    sym (get_or-map (λ v. inverse_of v q) vs k (pos 0) (pos 0) lt)
    ∙ ap (λ vs. get_or (map (λ v. inverse_of v q) vs) k (pos 0)) (sym reads.same)
    ∙ ap (λ vs. get_or vs k (pos 0)) (sym (dealt-replicate block n q))

pub row-behind : (block left : List Bool) (n q : ℕ) (vs : List ℤ) → ReadsValues n block vs left → left ≡ behind block (replicate n q)
row-behind block left n q vs reads = sym (behind-replicate block n q ∙ reads.behind)

pub large_there : (vs : List ℤ) (q k : ℕ) → k < length vs → 2 ^ 36 < unsigned_abs (inverse_of (get_or vs k (pos 0)) q) → are_small (map (λ v. inverse_of v q) vs) ≡ false
large_there vs q k lt large =
    not_small-at (map (λ v. inverse_of v q) vs) k (rw length-map lt) (rw (get_or-map (λ v. inverse_of v q) vs k (pos 0) (pos 0) lt) large)

pub none_large : (vs : List ℤ) (q : ℕ) → ((k : ℕ) → k < length vs → unsigned_abs (inverse_of (get_or vs k (pos 0)) q) ≤ 2 ^ 36) → are_small (map (λ v. inverse_of v q) vs) ≡ true
none_large vs q h =
    are_small-all (map (λ v. inverse_of v q) vs)
    (λ k lt. let inside : k < length vs = omega (arith, lt, length-map vs (λ v. inverse_of v q)) in
    rw (get_or-map (λ v. inverse_of v q) vs k (pos 0) (pos 0) inside) (h k inside))

-- ---- one list of quantisers after another

pub more-small : (block block' : List Bool) (qs rs : List ℕ) (good : Bool) → are_small (dealt block qs) ≡ true → block' ≡ behind block qs → good ≡ are_small (dealt block' rs) → good ≡ are_small (dealt block (qs ++ rs))
more-small block block' qs rs good small left is =
    is
    ∙ ap (λ b. are_small (dealt b rs)) left
    ∙ sym (ap are_small (dealt-append block qs rs) ∙ are_small-append (dealt block qs) (dealt (behind block qs) rs) ∙ ap (λ b. b && are_small (dealt (behind block qs) rs)) small)

pub more-behind : (block block' left : List Bool) (qs rs : List ℕ) → block' ≡ behind block qs → left ≡ behind block' rs → left ≡ behind block (qs ++ rs)
more-behind block block' left qs rs is then = then ∙ ap (λ b. behind b rs) is ∙ sym (behind-append block qs rs)

pub more-old : (block : List Bool) (qs rs : List ℕ) (k : ℕ) → k < length qs → get_or (dealt block qs) k (pos 0) ≡ get_or (dealt block (qs ++ rs)) k (pos 0)
more-old block qs rs k lt =
    let inside : k < length (dealt block qs) = omega (arith, lt, length-dealt block qs) in
    sym (ap (λ vs. get_or vs k (pos 0)) (dealt-append block qs rs) ∙ get_or_append_left (dealt block qs) (dealt (behind block qs) rs) (pos 0) k inside)

pub more-new : (block block' : List Bool) (qs rs : List ℕ) (k : ℕ) → block' ≡ behind block qs → get_or (dealt block' rs) k (pos 0) ≡ get_or (dealt block (qs ++ rs)) (length qs + k) (pos 0)
more-new block block' qs rs k is =
    ap (λ b. get_or (dealt b rs) k (pos 0)) is
    ∙ sym (
    ap (λ vs. get_or vs (length qs + k) (pos 0)) (dealt-append block qs rs)
    ∙ ap (λ n. get_or (dealt block qs ++ dealt (behind block qs) rs) (n + k) (pos 0)) (sym (length-dealt block qs))
    ∙ get_or-append-add (dealt block qs) (dealt (behind block qs) rs) k (pos 0)
    )

pub replicate-add : (m n q : ℕ) → replicate (m + n) q ≡ replicate m q ++ replicate n q
replicate-add zero n q = ap (λ k. replicate k q) (zero-add n)
replicate-add (suc m) n q =
    let next : suc m + n ≡ suc (m + n) = omega arith in
    ap (λ k. replicate k q) next ∙ ap (λ qs. q ∷ qs) (replicate-add m n q)

-- ---- one quantiser, so many times

pub grow-small : (block block' : List Bool) (m n total q : ℕ) (good : Bool) → total ≡ m + n → are_small (dealt block (replicate m q)) ≡ true → block' ≡ behind block (replicate m q) → good ≡ are_small (dealt block' (replicate n q)) → good ≡ are_small (dealt block (replicate total q))
grow-small block block' m n total q good sum small left is =
    more-small block block' (replicate m q) (replicate n q) good small left is
    ∙ ap (λ qs. are_small (dealt block qs)) (sym (ap (λ k. replicate k q) sum ∙ replicate-add m n q))

pub grow-behind : (block block' left : List Bool) (m n total q : ℕ) → total ≡ m + n → block' ≡ behind block (replicate m q) → left ≡ behind block' (replicate n q) → left ≡ behind block (replicate total q)
grow-behind block block' left m n total q sum is then =
    more-behind block block' left (replicate m q) (replicate n q) is then
    ∙ ap (behind block) (sym (ap (λ k. replicate k q) sum ∙ replicate-add m n q))

pub grow-old : (block : List Bool) (m n total q k : ℕ) → total ≡ m + n → k < m → get_or (dealt block (replicate m q)) k (pos 0) ≡ get_or (dealt block (replicate total q)) k (pos 0)
grow-old block m n total q k sum lt =
    more-old block (replicate m q) (replicate n q) k (omega (arith, lt, length-replicate m q))
    ∙ ap (λ qs. get_or (dealt block qs) k (pos 0)) (sym (ap (λ k. replicate k q) sum ∙ replicate-add m n q))

pub grow-new : (block block' : List Bool) (m n total q k j : ℕ) → total ≡ m + n → j ≡ m + k → block' ≡ behind block (replicate m q) → get_or (dealt block' (replicate n q)) k (pos 0) ≡ get_or (dealt block (replicate total q)) j (pos 0)
grow-new block block' m n total q k j sum place is =
    more-new block block' (replicate m q) (replicate n q) k is
    ∙ ap (λ i. get_or (dealt block (replicate m q ++ replicate n q)) (i + k) (pos 0)) (length-replicate m q)
    ∙ ap (λ i. get_or (dealt block (replicate m q ++ replicate n q)) i (pos 0)) (sym place)
    ∙ ap (λ qs. get_or (dealt block qs) j (pos 0)) (sym (ap (λ k. replicate k q) sum ∙ replicate-add m n q))

-- one that is too large is one of all
pub stopped : (block block' : List Bool) (m n total q : ℕ) → m + n ≤ total → are_small (dealt block (replicate m q)) ≡ true → block' ≡ behind block (replicate m q) → false ≡ are_small (dealt block' (replicate n q)) → false ≡ are_small (dealt block (replicate total q))
stopped block block' m n total q le small left is =
    let whole : total ≡ m + n + (total - (m + n)) = omega arith in
    let here : false ≡ are_small (dealt block (replicate (m + n) q)) = grow-small block block' m n (m + n) q false refl small left is in
    sym (
    ap (λ k. are_small (dealt block (replicate k q))) whole
    ∙ ap (λ qs. are_small (dealt block qs)) (replicate-add (m + n) (total - (m + n)) q)
    ∙ ap are_small (dealt-append block (replicate (m + n) q) (replicate (total - (m + n)) q))
    ∙ are_small-append (dealt block (replicate (m + n) q)) _
    ∙ ap (λ b. b && are_small (dealt (behind block (replicate (m + n) q)) (replicate (total - (m + n)) q))) (sym here)
    )
