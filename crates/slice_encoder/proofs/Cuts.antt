-- Where bands end that stand one behind the other, and what their places hold.
use Rattle.std.proofs.Common.{◌≡◌, ◌∙◌, ap, sym, ℕ, zero, suc, ◌+◌, ◌-◌, ◌<◌, ◌≤◌, min, List, ◌++◌, length, take, drop, get_or, arith, inl, inr, ℤ, pos}
use Rattle.std.specs.Prelude.{slice_index}
use borrow.Rule.Slice.PartMut.{put_mid}
use Rattle.std.proofs.lemmas.Slice.{take-put_mid, drop-put_mid}
use Rattle.std.proofs.Math.Seq.{take-append_seam}
use Rattle.std.proofs.lemmas.List.{length-append, take-append-drop, length-take, length-drop, get_or-take, get_or_append_left, get_or-append_right}
use Rattle.std.proofs.lemmas.Bool.{cases_eq}
use Rattle.slice_encoder.specs.declared.limits.RowKey.{RowKey}
use Rattle.slice_encoder.specs.Limits.{limit_at, padded_count, places_in, quantiser_in, IsCut, IsLimitPart}

rise_by : (ends : List ℕ) (last a d : ℕ) → ((k : ℕ) → 1 ≤ k → k ≤ last → slice_index ends (k - 1) ≤ slice_index ends k) → a + d ≤ last → slice_index ends a ≤ slice_index ends (a + d)
rise_by ends last a zero rise le = let same : a ≡ a + 0 = omega arith in omega (arith, ap (λ (k : ℕ). slice_index ends k) same)
rise_by ends last a (suc d) rise le =
    let before : a + suc d - 1 ≡ a + d = omega arith in
    omega (arith, rise_by ends last a d rise (omega (arith, le)), rise (a + suc d) (omega arith) le, ap (λ (k : ℕ). slice_index ends k) before)

pub rises : (ends : List ℕ) (last a b : ℕ) → ((k : ℕ) → 1 ≤ k → k ≤ last → slice_index ends (k - 1) ≤ slice_index ends k) → a ≤ b → b ≤ last → slice_index ends a ≤ slice_index ends b
rises ends last a b rise le most =
    let whole : a + (b - a) ≡ b = omega (arith, le) in
    omega (arith, rise_by ends last a (b - a) rise (omega (arith, le, most)), ap (λ (k : ℕ). slice_index ends k) whole)

pub cut_rises : (key : RowKey) → IsCut key → (a b : ℕ) → a ≤ b → b ≤ key.front → slice_index key.ends a ≤ slice_index key.ends b
cut_rises key cut a b le most = rises key.ends key.front a b cut.rise le most

-- one band more is filled
pub band_filled : (key : RowKey) (index g k n from to : ℕ) (limit : ℤ) (old new : ℕ → ℤ) → IsCut key → 1 ≤ n → n ≤ key.front → from ≡ slice_index key.ends (n - 1) → to ≡ slice_index key.ends n
    → limit ≡ pos (min (limit_at (k + 1) (quantiser_in key index n)) g)
    → ((p : ℕ) → from ≤ p → p < to → new p ≡ limit) → ((p : ℕ) → p < from → new p ≡ old p)
    → ((b p : ℕ) → 1 ≤ b → b < n → slice_index key.ends (b - 1) ≤ p → p < slice_index key.ends b → old p ≡ pos (min (limit_at (k + 1) (quantiser_in key index b)) g))
    → (b p : ℕ) → 1 ≤ b → b < n + 1 → slice_index key.ends (b - 1) ≤ p → p < slice_index key.ends b → new p ≡ pos (min (limit_at (k + 1) (quantiser_in key index b)) g)
band_filled key index g k n from to limit old new cut some most from_is to_is limit_is inside before so_far b p one le low high = elim (cases_eq b n) [
  | inl same ↦
      inside p (omega (arith, low, from_is, ap (λ (j : ℕ). slice_index key.ends (j - 1)) same)) (omega (arith, high, to_is, ap (λ (j : ℕ). slice_index key.ends j) same))
      ∙ limit_is ∙ ap (λ (j : ℕ). pos (min (limit_at (k + 1) (quantiser_in key index j)) g)) (sym same)
  | inr other ↦ before p (omega (arith, high, from_is, cut_rises key cut b (n - 1) (omega (arith, le, other)) (omega (arith, most)))) ∙ so_far b p one (omega (arith, le, other)) low high
]

-- and the places behind the last one
pub part_filled : (key : RowKey) (index g k from : ℕ) (old new : ℕ → ℤ) → IsCut key → from ≡ places_in key
    → ((p : ℕ) → from ≤ p → p < padded_count from → new p ≡ pos g) → ((p : ℕ) → p < from → new p ≡ old p)
    → ((b p : ℕ) → 1 ≤ b → b < key.front + 1 → slice_index key.ends (b - 1) ≤ p → p < slice_index key.ends b → old p ≡ pos (min (limit_at (k + 1) (quantiser_in key index b)) g))
    → IsLimitPart new g key index k
part_filled key index g k from old new cut from_is inside before so_far = record {
  bands = λ b p one le low high. before p (omega (arith, high, from_is, cut_rises key cut b key.front le (omega arith))) ∙ so_far b p one (omega (arith, le)) low high;
  rest = λ p low high. inside p (omega (arith, low, from_is)) (omega (arith, high, ap padded_count from_is));
}

-- the same limits at the places that a row has
pub part_same : (key : RowKey) (index g k : ℕ) (old new : ℕ → ℤ) → IsCut key → ((p : ℕ) → p < padded_count (places_in key) → new p ≡ old p) → IsLimitPart old g key index k → IsLimitPart new g key index k
part_same key index g k old new cut same part = record {
  bands = λ b p one le low high. same p (omega (arith, high, cut_rises key cut b key.front le (omega arith))) ∙ part.bands b p one le low high;
  rest = λ p low high. same p high ∙ part.rest p low high;
}

-- ---- a part written of a list

module _ {X : Type 0} (a k : ℕ) (xs ys : List X) (none : X) (room : a + k ≤ length xs) (whole : length ys ≡ k) where
  front_is : take (a + k) (put_mid a k xs ys) ≡ take a xs ++ ys
  front_is = take-put_mid a k xs ys (a + k) (omega (arith, whole)) (omega (arith, room))

  front_at : (j : ℕ) → j < a + k → get_or (put_mid a k xs ys) j none ≡ get_or (take a xs ++ ys) j none
  front_at j lt = sym (get_or-take (a + k) (put_mid a k xs ys) j none lt) ∙ ap (λ (t : List X). get_or t j none) front_is

  pub put_inside : (p : ℕ) → p < k → get_or (put_mid a k xs ys) (a + p) none ≡ get_or ys p none
  put_inside p lt =
      let back : a + p - a ≡ p = omega arith in
      front_at (a + p) (omega (arith, lt)) ∙ get_or-append_right (take a xs) ys a (a + p) none (length-take_most a xs (omega (arith, room))) (omega arith) ∙ ap (λ (j : ℕ). get_or ys j none) back
    where
      length-take_most : (n : ℕ) (zs : List X) → n ≤ length zs → length (take n zs) ≡ n
      length-take_most n zs le = omega (arith, le, length-take n zs)

  pub put_before : (j : ℕ) → j < a → get_or (put_mid a k xs ys) j none ≡ get_or xs j none
  put_before j lt = front_at j (omega (arith, lt)) ∙ get_or_append_left (take a xs) ys none j (omega (arith, lt, room, length-take a xs)) ∙ get_or-take a xs j none lt

  pub put_length : length (put_mid a k xs ys) ≡ length xs
  put_length =
      let n : ℕ = a + k in
      let P : List X = put_mid a k xs ys in
      let back : length (take n P) + length (drop n P) ≡ length P = sym (length-append (take n P) (drop n P)) ∙ ap (λ (t : List X). length t) (take-append-drop n P) in
      let front : length (take n P) ≡ length (take a xs) + length ys = ap (λ (t : List X). length t) front_is ∙ length-append (take a xs) ys in
      let end : length (drop n P) ≡ length (drop n xs) = ap (λ (t : List X). length t) (drop-put_mid a k xs ys n (omega arith) (omega (arith, room)) whole) in
      omega (arith, room, whole, back, front, end, length-take a xs, length-drop n xs)

  -- as a list lends it
  pub written_back : (lent : List X) (len : ℕ) → lent ≡ xs → len ≡ length xs → take len (put_mid a k lent ys ++ drop (length (put_mid a k lent ys)) xs) ≡ put_mid a k xs ys
  written_back lent len is len_is =
      let P : List X = put_mid a k lent ys in
      let all : len ≡ length P = omega (arith, len_is, put_length, ap (λ (t : List X). length (put_mid a k t ys)) is) in
      ap (λ (n : ℕ). take n (P ++ drop (length P) xs)) all ∙ take-append_seam P (drop (length P) xs) ∙ ap (λ (t : List X). put_mid a k t ys) is

  pub back_inside : (lent : List X) (len : ℕ) → lent ≡ xs → len ≡ length xs → (p : ℕ) → p < k → get_or (take len (put_mid a k lent ys ++ drop (length (put_mid a k lent ys)) xs)) (a + p) none ≡ get_or ys p none
  back_inside lent len is len_is p lt = ap (λ (t : List X). get_or t (a + p) none) (written_back lent len is len_is) ∙ put_inside p lt

  pub back_before : (lent : List X) (len : ℕ) → lent ≡ xs → len ≡ length xs → (j : ℕ) → j < a → get_or (take len (put_mid a k lent ys ++ drop (length (put_mid a k lent ys)) xs)) j none ≡ get_or xs j none
  back_before lent len is len_is j lt = ap (λ (t : List X). get_or t j none) (written_back lent len is len_is) ∙ put_before j lt

-- how long the part is that is lent
pub part_length : {X : Type 0} (a k : ℕ) (xs : List X) → a + k ≤ length xs → length (take k (drop a xs)) ≡ k
part_length a k xs room = omega (arith, room, length-take k (drop a xs), length-drop a xs)
