-- The magnitudes that were taken of a slice's coefficients are those of its values.
use Rattle.std.proofs.Common.{◌≡◌, ◌∙◌, ap, sym, refl, ℕ, zero, suc, ◌+◌, ◌-◌, ◌*◌, ◌/◌, ◌%◌, ◌<◌, ◌≤◌, min, List, [], ◌∷◌, ◌++◌, length, map, take, drop, get_or, arith, inl, inr, ℤ, pos}
use Rattle.std.specs.Prelude.{slice_index, unsigned_abs}
use Rattle.std.specs.List.{flat_map, range_with_len}
use Rattle.std.proofs.lemmas.List.{map-append, length-take, length-drop, get_or-take, get_or-drop}
use Rattle.quant_factors.specs.Factors.{factor_of, forward_of}
use Rattle.quant_factors.specs.Weights.{Weights, band_quantiser}
use Rattle.quant_factors.proofs.QuantLemmas.{abs-forward}
use Rattle.slice_geometry.specs.SliceOrder.{level_of, orient_of}
use Rattle.slice_geometry.proofs.NumberedBands.{index-numbered}
use Rattle.slice_encoder.specs.Gathering.{GatheredSeen, IsGatheredSound, piece_of, quantised, quantised_piece, quantised_pair, in_turn, outside_of, gathered_values, gathered_pairs}
use Rattle.slice_encoder.specs.Sizes.{SizesSeen, sizes_of, quantised_sizes, AreSizes, turn_at}
use Rattle.slice_encoder.proofs.Listed.{flat_more}
use Rattle.slice_encoder.proofs.Cuts.{rises}
use Rattle.slice_encoder.proofs.PieceByPiece.{turn_even, turn_odd}
use Rattle.slice_encoder.proofs.SizeLists as sizes
use Rattle.std.proofs.lemmas.Bool.{cases_lt, cases_eq}
use Rattle.slice_encoder.specs.Limits.{AreSizesTo}

-- lists as great, quantised
pub same_quantised : (q : ℕ) (xs ys : List ℤ) → length xs ≡ length ys → ((p : ℕ) → p < length xs → unsigned_abs (get_or xs p (pos 0)) ≡ unsigned_abs (get_or ys p (pos 0))) → map unsigned_abs (quantised q xs) ≡ map unsigned_abs (quantised q ys)
same_quantised q [] [] count same = refl
same_quantised q [] (y ∷ ys) count same = absurd (omega (arith, count))
same_quantised q (x ∷ xs) [] count same = absurd (omega (arith, count))
same_quantised q (x ∷ xs) (y ∷ ys) count same =
    let first : unsigned_abs (forward_of x q) ≡ unsigned_abs (forward_of y q) = abs-forward x q ∙ ap (λ (n : ℕ). 4 * n / factor_of q) (same 0 (omega arith)) ∙ sym (abs-forward y q) in
    ap (λ (n : ℕ). n ∷ map unsigned_abs (quantised q xs)) first ∙ ap (λ (t : List ℕ). unsigned_abs (forward_of y q) ∷ t) (same_quantised q xs ys (omega (arith, count)) (λ p lt. same (suc p) (omega (arith, lt))))

-- band by band
pub same_bands : (f g : ℕ → List ℤ) (n : ℕ) → ((k : ℕ) → 1 ≤ k → k ≤ n → map unsigned_abs (f k) ≡ map unsigned_abs (g k)) → map unsigned_abs (flat_map f (range_with_len 1 n)) ≡ map unsigned_abs (flat_map g (range_with_len 1 n))
same_bands f g zero same = refl
same_bands f g (suc n) same =
    let next : suc n ≡ n + 1 = omega arith in
    let front = same_bands f g n (λ k one le. same k one (omega (arith, le))) in
    ap (λ (k : ℕ). map unsigned_abs (flat_map f (range_with_len 1 k))) next
    ∙ ap (map unsigned_abs) (flat_more f 1 n (n + 1) (omega arith))
    ∙ map-append unsigned_abs (flat_map f (range_with_len 1 n)) (f (n + 1))
    ∙ ap (λ (t : List ℕ). t ++ map unsigned_abs (f (n + 1))) front
    ∙ ap (λ (t : List ℕ). map unsigned_abs (flat_map g (range_with_len 1 n)) ++ t) (same (n + 1) (omega arith) (omega arith))
    ∙ sym (map-append unsigned_abs (flat_map g (range_with_len 1 n)) (g (n + 1)))
    ∙ sym (ap (map unsigned_abs) (flat_more g 1 n (n + 1) (omega arith)))
    ∙ sym (ap (λ (k : ℕ). map unsigned_abs (flat_map g (range_with_len 1 k))) next)

-- a band's quantiser by its entry, where an entry past 127 stands as 127
pub quantiser_same : (matrix : Weights) (index k entry : ℕ) → index ≤ 127 → entry ≡ min (slice_index matrix.entries k) 127 → index - entry ≡ band_quantiser matrix index (level_of k) (orient_of k)
quantiser_same matrix index k entry le is = omega (arith, le, is, ap (λ (j : ℕ). slice_index matrix.entries j) (index-numbered k))

module _ (s : SizesSeen) (g : GatheredSeen) (matrix : Weights) (depth : s.depth ≡ g.depth) (entries : (k : ℕ) → 1 ≤ k → k ≤ 3 * g.depth → slice_index s.entries k ≡ min (slice_index matrix.entries k) 127)
    (rise : (k : ℕ) → 1 ≤ k → k ≤ 3 * g.depth → slice_index g.ends (k - 1) ≤ slice_index g.ends k) (least : (k : ℕ) → k ≤ 3 * g.depth → slice_index g.ends 0 ≤ slice_index g.ends k)
    (whole : (k : ℕ) → k ≤ 3 * g.depth → slice_index g.ends k ≤ slice_index g.ends (3 * g.depth)) (inside : slice_index g.ends (3 * g.depth) ≤ length g.values) where
  -- of one component
  pub one_taken : ((k : ℕ) → k ≤ 3 * g.depth → slice_index s.ends k ≡ 1 * (slice_index g.ends k - slice_index g.ends 0)) → slice_index g.ends (3 * g.depth) - slice_index g.ends 0 ≤ length s.values
      → ((p : ℕ) → p < slice_index g.ends (3 * g.depth) - slice_index g.ends 0 → unsigned_abs (get_or s.values p (pos 0)) ≡ unsigned_abs (get_or (outside_of g) p (pos 0))) → AreSizes s (gathered_values g matrix)
  one_taken ends room seen index le =
      ap (λ (n : ℕ). map unsigned_abs (flat_map (quantised_sizes s index) (range_with_len 1 (3 * n)))) depth
      ∙ same_bands (quantised_sizes s index) (quantised_piece g matrix index) (3 * g.depth) (λ k one most.
      let q : ℕ = band_quantiser matrix index (level_of k) (orient_of k) in
      let b : ℕ = slice_index g.ends 0 in
      let e : ℕ = slice_index g.ends (3 * g.depth) in
      let a : ℕ = slice_index s.ends (k - 1) in
      let n : ℕ = slice_index s.ends k - a in
      let c : ℕ = slice_index g.ends (k - 1) in
      let m : ℕ = slice_index g.ends k - c in
      let a_is = ends (k - 1) (omega (arith, most)) in
      let n_is = ends k most in
      let order = rise k one most in
      let low = least (k - 1) (omega (arith, most)) in
      let high = whole k most in
      let long : length (take n (drop a s.values)) ≡ n = omega (arith, a_is, n_is, order, low, high, room, length-take n (drop a s.values), length-drop a s.values) in
      ap (λ (j : ℕ). map unsigned_abs (quantised j (sizes_of s k))) (quantiser_same matrix index k (slice_index s.entries k) le (entries k one most))
      ∙ same_quantised q (sizes_of s k) (piece_of g k) (omega (arith, long, a_is, n_is, order, low, high, inside, length-take m (drop c g.values), length-drop c g.values)) (λ p lt.
      let here : p < n = omega (arith, lt, long) in
      let at : b + (a + p) ≡ c + p = omega (arith, a_is, low) in
      ap unsigned_abs (get_or-take n (drop a s.values) p (pos 0) here ∙ get_or-drop a s.values p (pos 0))
      ∙ seen (a + p) (omega (arith, here, a_is, n_is, order, low, high))
      ∙ ap unsigned_abs (get_or-take (e - b) (drop b g.values) (a + p) (pos 0) (omega (arith, here, a_is, n_is, order, low, high)) ∙ get_or-drop b g.values (a + p) (pos 0)
      ∙ ap (λ (j : ℕ). get_or g.values j (pos 0)) at ∙ sym (get_or-drop c g.values p (pos 0)) ∙ sym (get_or-take m (drop c g.values) p (pos 0) (omega (arith, here, a_is, n_is, order, low))))))

-- the first band ends before all others
pub ends_least : (g : GatheredSeen) → IsGatheredSound g → (k : ℕ) → k ≤ 3 * g.depth → slice_index g.ends 0 ≤ slice_index g.ends k
ends_least g sound k le = rises g.ends (3 * g.depth) 0 k sound.rise (omega arith) le

-- ---- two components in turn

pub turn_quantised : (q : ℕ) (vs ws : List ℤ) → quantised q (in_turn vs ws) ≡ in_turn (quantised q vs) (quantised q ws)
turn_quantised q [] ws = refl
turn_quantised q (v ∷ vs) [] = refl
turn_quantised q (v ∷ vs) (w ∷ ws) = ap (λ (t : List ℤ). forward_of v q ∷ forward_of w q ∷ t) (turn_quantised q vs ws)

pub turn_length : (vs ws : List ℤ) → length ws ≡ length vs → length (in_turn vs ws) ≡ 2 * length vs
turn_length [] ws same = refl
turn_length (v ∷ vs) [] same = absurd (omega (arith, same))
turn_length (v ∷ vs) (w ∷ ws) same = omega (arith, turn_length vs ws (omega (arith, same)))

-- Parts of two lists in turn are a part of both in turn.
module _ (vs ws xs ys : List ℤ) (from : ℕ) (same : length ys ≡ length xs) (one : (i : ℕ) → i < length xs → get_or vs (from + i) (pos 0) ≡ get_or xs i (pos 0))
    (two : (i : ℕ) → i < length xs → get_or ws (from + i) (pos 0) ≡ get_or ys i (pos 0)) where
  pub part_in_turn : (p : ℕ) → p < 2 * length xs → turn_at vs ws (2 * from + p) ≡ get_or (in_turn xs ys) p (pos 0)
  part_in_turn p lt = elim (cases_eq (p % 2) 0) [
    | inl even ↦
        let i : ℕ = p / 2 in
        let here : p ≡ 2 * i = omega (arith, even) in
        let there : 2 * from + p ≡ 2 * (from + i) = omega (arith, even) in
        ap (turn_at vs ws) there ∙ sizes.turn_even vs ws (from + i) ∙ one i (omega (arith, lt)) ∙ sym (turn_even xs ys i (pos 0) same) ∙ ap (λ (n : ℕ). get_or (in_turn xs ys) n (pos 0)) (sym here)
    | inr odd ↦
        let i : ℕ = p / 2 in
        let here : p ≡ 2 * i + 1 = omega (arith, odd) in
        let there : 2 * from + p ≡ 2 * (from + i) + 1 = omega (arith, odd) in
        ap (turn_at vs ws) there ∙ sizes.turn_odd vs ws (from + i) ∙ two i (omega (arith, lt)) ∙ sym (turn_odd xs ys i (pos 0) same) ∙ ap (λ (n : ℕ). get_or (in_turn xs ys) n (pos 0)) (sym here)
  ]

-- what stands at a place of a band
pub piece_place : (g : GatheredSeen) (k : ℕ) → 1 ≤ k → slice_index g.ends 0 ≤ slice_index g.ends (k - 1) → slice_index g.ends (k - 1) ≤ slice_index g.ends k → slice_index g.ends k ≤ slice_index g.ends (3 * g.depth) → (i : ℕ) → i < slice_index g.ends k - slice_index g.ends (k - 1)
    → get_or (outside_of g) (slice_index g.ends (k - 1) - slice_index g.ends 0 + i) (pos 0) ≡ get_or (piece_of g k) i (pos 0)
piece_place g k one low order high i lt =
    let b : ℕ = slice_index g.ends 0 in
    let e : ℕ = slice_index g.ends (3 * g.depth) in
    let c : ℕ = slice_index g.ends (k - 1) in
    let m : ℕ = slice_index g.ends k - c in
    let at : b + (c - b + i) ≡ c + i = omega (arith, low) in
    get_or-take (e - b) (drop b g.values) (c - b + i) (pos 0) (omega (arith, lt, low, order, high)) ∙ get_or-drop b g.values (c - b + i) (pos 0)
    ∙ ap (λ (j : ℕ). get_or g.values j (pos 0)) at ∙ sym (get_or-drop c g.values i (pos 0)) ∙ sym (get_or-take m (drop c g.values) i (pos 0) lt)

pub piece_length : (g : GatheredSeen) (k : ℕ) → slice_index g.ends k ≤ length g.values → length (piece_of g k) ≡ slice_index g.ends k - slice_index g.ends (k - 1)
piece_length g k inside =
    let c : ℕ = slice_index g.ends (k - 1) in
    omega (arith, inside, length-take (slice_index g.ends k - c) (drop c g.values), length-drop c g.values)

module _ (s : SizesSeen) (g h : GatheredSeen) (matrix : Weights) (depth : s.depth ≡ g.depth) (entries : (k : ℕ) → 1 ≤ k → k ≤ 3 * g.depth → slice_index s.entries k ≡ min (slice_index matrix.entries k) 127) (sound : IsGatheredSound g) (other : IsGatheredSound h)
    (depths : h.depth ≡ g.depth) (least : (k : ℕ) → k ≤ 3 * g.depth → slice_index g.ends 0 ≤ slice_index g.ends k) (alike : (k : ℕ) → k ≤ 3 * g.depth → slice_index h.ends k ≡ slice_index g.ends k) where
  pub two_taken : ((k : ℕ) → k ≤ 3 * g.depth → slice_index s.ends k ≡ 2 * (slice_index g.ends k - slice_index g.ends 0)) → 2 * (slice_index g.ends (3 * g.depth) - slice_index g.ends 0) ≤ length s.values
      → ((p : ℕ) → p < 2 * (slice_index g.ends (3 * g.depth) - slice_index g.ends 0) → unsigned_abs (get_or s.values p (pos 0)) ≡ unsigned_abs (turn_at (outside_of g) (outside_of h) p)) → AreSizes s (gathered_pairs g h matrix)
  two_taken ends room seen index le =
      ap (λ (n : ℕ). map unsigned_abs (flat_map (quantised_sizes s index) (range_with_len 1 (3 * n)))) depth
      ∙ same_bands (quantised_sizes s index) (quantised_pair g h matrix index) (3 * g.depth) (λ k one most.
      let q : ℕ = band_quantiser matrix index (level_of k) (orient_of k) in
      let b : ℕ = slice_index g.ends 0 in
      let a : ℕ = slice_index s.ends (k - 1) in
      let n : ℕ = slice_index s.ends k - a in
      let c : ℕ = slice_index g.ends (k - 1) in
      let from : ℕ = c - b in
      let xs = piece_of g k in
      let ys = piece_of h k in
      let a_is = ends (k - 1) (omega (arith, most)) in
      let n_is = ends k most in
      let order = sound.rise k one most in
      let low = least (k - 1) (omega (arith, most)) in
      let high = sound.whole k most in
      let first : length xs ≡ slice_index g.ends k - c = piece_length g k (sound.inside k most) in
      let before = alike (k - 1) (omega (arith, most)) in
      let here = alike k most in
      let start = alike 0 (omega arith) in
      let last : slice_index h.ends (3 * h.depth) ≡ slice_index g.ends (3 * g.depth) = ap (λ (d : ℕ). slice_index h.ends (3 * d)) depths ∙ alike (3 * g.depth) (omega arith) in
      let second : length ys ≡ slice_index h.ends k - slice_index h.ends (k - 1) = piece_length h k (other.inside k (omega (arith, most, depths))) in
      let same : length ys ≡ length xs = omega (arith, first, second, before, here) in
      let long : length (take n (drop a s.values)) ≡ n = omega (arith, a_is, n_is, order, low, high, room, length-take n (drop a s.values), length-drop a s.values) in
      ap (λ (j : ℕ). map unsigned_abs (quantised j (sizes_of s k))) (quantiser_same matrix index k (slice_index s.entries k) le (entries k one most))
      ∙ same_quantised q (sizes_of s k) (in_turn xs ys) (omega (arith, long, a_is, n_is, order, low, turn_length xs ys same, first)) (λ p lt.
      let inner : p < n = omega (arith, lt, long) in
      let at : a + p ≡ 2 * from + p = omega (arith, a_is) in
      ap unsigned_abs (get_or-take n (drop a s.values) p (pos 0) inner ∙ get_or-drop a s.values p (pos 0))
      ∙ seen (a + p) (omega (arith, inner, a_is, n_is, order, low, high))
      ∙ ap unsigned_abs (ap (turn_at (outside_of g) (outside_of h)) at
      ∙ part_in_turn (outside_of g) (outside_of h) xs ys from same (λ i li. piece_place g k one low order high i (omega (arith, li, first)))
      (λ i li. ap (λ (j : ℕ). get_or (outside_of h) (j + i) (pos 0)) (omega (arith, before, start))
      ∙ piece_place h k one (omega (arith, low, before, start)) (omega (arith, order, before, here)) (omega (arith, high, here, last)) i (omega (arith, li, first, before, here))) p (omega (arith, inner, a_is, n_is, order, low, first))))
      ∙ ap (map unsigned_abs) (turn_quantised q xs ys))

-- ---- what is held

-- Magnitudes m of the first places were put, cut at g, and those behind them stay.
module _ (end g : ℕ) (m : ℕ → ℕ) (old new : List ℤ) (put : (p : ℕ) → p < end → get_or new p (pos 0) ≡ pos (min (m p) g)) (rest : (p : ℕ) → end ≤ p → get_or new p (pos 0) ≡ get_or old p (pos 0)) where
  pub all_put : length new ≡ length old → AreSizesTo g old → AreSizesTo g new
  all_put same all p lt = elim (cases_lt p end) [
    | inl here ↦ (min (m p) g, put p here, omega arith)
    | inr behind ↦
        let before = all p (omega (arith, lt, same)) in
        (before.0, rest p behind ∙ before.1, before.2)
  ]

module _ (end g top : ℕ) (m : ℕ → ℕ) (new : List ℤ) (put : (p : ℕ) → p < end → get_or new p (pos 0) ≡ pos (min (m p) g)) (le : top ≤ g) (most : (p : ℕ) → p < end → m p ≤ top) where
  pub put_whole : (p : ℕ) → p < end → unsigned_abs (get_or new p (pos 0)) ≡ m p
  put_whole p lt = ap unsigned_abs (put p lt) ∙ omega (arith, le, most p lt)

  pub top_put : AreSizesTo top (take end new)
  top_put p lt =
      let here : p < end = omega (arith, lt, length-take end new) in
      (m p, get_or-take end new p (pos 0) here ∙ put p here ∙ ap pos (omega (arith, le, most p here)), most p here)
