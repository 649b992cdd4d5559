-- Values that are listed, row by row and place by place.
use Rattle.std.proofs.Common.{◌≡◌, ◌∙◌, sym, ap, ℕ, zero, suc, ◌+◌, ◌*◌, ◌<◌, List, [], ◌∷◌, ◌++◌, length, take, set, map, append_assoc, arith, ℤ}
use Rattle.std.specs.List.{flat_map, range_with_len}
use Rattle.std.proofs.lemmas.List.{append-nil, take_more_set}
use Rattle.std.proofs.lemmas.List.FromFn.{map-range_with_len_more}

pub flat_more : {A : Type 0} (f : ℕ → List A) (a n j : ℕ) → a + n ≡ j → flat_map f (range_with_len a (n + 1)) ≡ flat_map f (range_with_len a n) ++ f j
flat_more f a zero j e = ap (λ (k : ℕ). f k ++ []) (let k : a ≡ j = omega arith in k) ∙ append-nil (f j)
flat_more f a (suc n) j e =
    let one : suc n + 1 ≡ suc (n + 1) = omega arith in
    ap (λ (k : ℕ). flat_map f (range_with_len a k)) one
    ∙ ap (λ t. f a ++ t) (flat_more f (a + 1) n j (omega arith))
    ∙ sym (append_assoc (f a) (flat_map f (range_with_len (a + 1) n)) (f j))

-- a value put behind those so far
pub listed_one : (out old before : List ℤ) (from place : ℕ) (v w : ℤ) (g : ℕ → ℤ) (a n x : ℕ) → place < length out → take place out ≡ old ++ (before ++ map g (range_with_len a n)) → v ≡ w → w ≡ g x → a + n ≡ x
    → take (place + 1) (set out place v) ≡ old ++ (before ++ map g (range_with_len a (n + 1)))
listed_one out old before from place v w g a n x lt so_far e is at =
    take_more_set out place v lt
    ∙ ap (λ (t : List ℤ). t ++ v ∷ []) so_far
    ∙ append_assoc old (before ++ map g (range_with_len a n)) (v ∷ [])
    ∙ ap (λ (t : List ℤ). old ++ t) (append_assoc before (map g (range_with_len a n)) (v ∷ []))
    ∙ ap (λ t. old ++ (before ++ (map g (range_with_len a n) ++ t ∷ []))) (e ∙ is)
    ∙ sym (ap (λ (t : List ℤ). old ++ (before ++ t)) (map-range_with_len_more g a n x at))

pub next_row : (k w : ℕ) → (k + 1) * w ≡ k * w + w
next_row k w = grind arith

pub turned : (a b : ℕ) → a * b ≡ b * a
turned a b = grind arith
