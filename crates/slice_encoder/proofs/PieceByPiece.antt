-- A place of pieces that stand one behind the other.
use Rattle.std.proofs.Common.{◌≡◌, ◌≢◌, ◌∙◌, sym, ap, refl, ℕ, zero, suc, ◌+◌, ◌-◌, ◌*◌, ◌/◌, ◌%◌, ◌<◌, ◌≤◌, List, [], ◌∷◌, ◌++◌, length, drop, get_or, arith, ℤ, pos}
use Rattle.std.specs.Prelude.{slice_index}
use Rattle.std.specs.List.{flat_map, range_with_len}
use Rattle.std.proofs.lemmas.List.{get_or_append_left, length-append, length-take, length-drop}
use Rattle.std.proofs.Math.Seq.{get_or-append_right}
use Rattle.quant_factors.specs.Weights.{Weights, band_quantiser}
use Rattle.slice_geometry.specs.SliceOrder.{level_of, orient_of}
use Rattle.slice_encoder.specs.Gathering.{in_turn, GatheredSeen, IsGatheredSound, piece_of, quantised_piece, gathered_values, gathered_pairs}
use Rattle.slice_encoder.proofs.Gathers.{turn_append, length_quantised}

-- in the first of them
pub in_first : (p : ℕ → List ℤ) (k n left : ℕ) (d : ℤ) → 1 ≤ n → left < length (p k) → get_or (flat_map p (range_with_len k n)) left d ≡ get_or (p k) left d
in_first p k zero left d some lt = absurd (omega (arith, some))
in_first p k (suc n) left d some lt = get_or_append_left (p k) (flat_map p (range_with_len (k + 1) n)) d left lt

-- and behind it
pub behind_first : (p : ℕ → List ℤ) (k n left : ℕ) (d : ℤ) → 1 ≤ n → length (p k) ≤ left
    → get_or (flat_map p (range_with_len k n)) left d ≡ get_or (flat_map p (range_with_len (k + 1) (n - 1))) (left - length (p k)) d
behind_first p k zero left d some le = absurd (omega (arith, some))
behind_first p k (suc n) left d some le =
    let less : suc n - 1 ≡ n = omega arith in
    get_or-append_right (p k) (flat_map p (range_with_len (k + 1) n)) left d le
    ∙ sym (ap (λ (m : ℕ). get_or (flat_map p (range_with_len (k + 1) m)) (left - length (p k)) d) less)

-- ---- in turn

-- a place of two lists in turn is one of the first or of the second
pub turn_even : (vs ws : List ℤ) (i : ℕ) (d : ℤ) → length ws ≡ length vs → get_or (in_turn vs ws) (2 * i) d ≡ get_or vs i d
turn_even [] ws i d same = refl
turn_even (v ∷ vs) [] i d same = absurd (omega (arith, same))
turn_even (v ∷ vs) (w ∷ ws) zero d same = refl
turn_even (v ∷ vs) (w ∷ ws) (suc i) d same =
    let two : 2 * suc i ≡ suc (suc (2 * i)) = omega arith in
    ap (λ (n : ℕ). get_or (v ∷ w ∷ in_turn vs ws) n d) two ∙ turn_even vs ws i d (omega (arith, same))

pub turn_odd : (vs ws : List ℤ) (i : ℕ) (d : ℤ) → length ws ≡ length vs → get_or (in_turn vs ws) (2 * i + 1) d ≡ get_or ws i d
turn_odd [] [] i d same = refl
turn_odd [] (w ∷ ws) i d same = absurd (omega (arith, same))
turn_odd (v ∷ vs) [] i d same = absurd (omega (arith, same))
turn_odd (v ∷ vs) (w ∷ ws) zero d same = refl
turn_odd (v ∷ vs) (w ∷ ws) (suc i) d same =
    let two : 2 * suc i + 1 ≡ suc (suc (2 * i + 1)) = omega arith in
    ap (λ (n : ℕ). get_or (v ∷ w ∷ in_turn vs ws) n d) two ∙ turn_odd vs ws i d (omega (arith, same))

-- pieces in turn are the whole lists in turn
pub turns_joined : (p q : ℕ → List ℤ) (a n : ℕ) → ((k : ℕ) → a ≤ k → k < a + n → length (q k) ≡ length (p k))
    → flat_map (λ k. in_turn (p k) (q k)) (range_with_len a n) ≡ in_turn (flat_map p (range_with_len a n)) (flat_map q (range_with_len a n))
turns_joined p q a zero same = refl
turns_joined p q a (suc n) same =
    ap (λ (t : List ℤ). in_turn (p a) (q a) ++ t) (turns_joined p q (a + 1) n (λ k le lt. same k (omega arith) (omega arith)))
    ∙ sym (turn_append (p a) (q a) (flat_map p (range_with_len (a + 1) n)) (flat_map q (range_with_len (a + 1) n)) (sym (same a (omega arith) (omega arith))))

pub joined_lengths : (p q : ℕ → List ℤ) (a n : ℕ) → ((k : ℕ) → a ≤ k → k < a + n → length (q k) ≡ length (p k))
    → length (flat_map q (range_with_len a n)) ≡ length (flat_map p (range_with_len a n))
joined_lengths p q a zero same = refl
joined_lengths p q a (suc n) same =
    omega (
      arith,
      length_joined p a n,
      length_joined q a n,
      same a (omega arith) (omega arith),
      joined_lengths p q (a + 1) n (λ k le lt. same k (omega arith) (omega arith)),
    )
  where
    length_joined : (r : ℕ → List ℤ) (a n : ℕ) → length (flat_map r (range_with_len a (suc n))) ≡ length (r a) + length (flat_map r (range_with_len (a + 1) n))
    length_joined r a n = length-append (r a) (flat_map r (range_with_len (a + 1) n))

-- ---- of two components

-- the pieces that were gathered have the sizes that their ends tell
piece_size : (g : GatheredSeen) → IsGatheredSound g → (k : ℕ) → 1 ≤ k → k ≤ 3 * g.depth → length (piece_of g k) ≡ slice_index g.ends k - slice_index g.ends (k - 1)
piece_size g sound k some le =
    let from : ℕ = slice_index g.ends (k - 1) in
    let n : ℕ = slice_index g.ends k - from in
    omega (arith, length-take n (drop from g.values), length-drop from g.values, sound.inside k le)

module _ (g h : GatheredSeen) (matrix : Weights) (index : ℕ) (one : IsGatheredSound g) (two : IsGatheredSound h) (depth : h.depth ≡ g.depth) (ends : (k : ℕ) → k ≤ 3 * g.depth → slice_index h.ends k ≡ slice_index g.ends k) where
  same_size : (k : ℕ) → 1 ≤ k → k < 1 + 3 * g.depth → length (quantised_piece h matrix index k) ≡ length (quantised_piece g matrix index k)
  same_size k some lt =
      omega (
        arith,
        length_quantised (band_quantiser matrix index (level_of k) (orient_of k)) (piece_of h k),
        length_quantised (band_quantiser matrix index (level_of k) (orient_of k)) (piece_of g k),
        piece_size g one k some (omega (arith, lt)),
        piece_size h two k some (omega (arith, lt, depth)),
        ends k (omega (arith, lt)),
        ends (k - 1) (omega (arith, lt)),
      )

  second_is : flat_map (quantised_piece h matrix index) (range_with_len 1 (3 * g.depth)) ≡ gathered_values h matrix index
  second_is = sym (ap (λ (n : ℕ). flat_map (quantised_piece h matrix index) (range_with_len 1 (3 * n))) depth)

  in_turns : gathered_pairs g h matrix index ≡ in_turn (gathered_values g matrix index) (flat_map (quantised_piece h matrix index) (range_with_len 1 (3 * g.depth)))
  in_turns = turns_joined (quantised_piece g matrix index) (quantised_piece h matrix index) 1 (3 * g.depth) same_size

  lengths : length (flat_map (quantised_piece h matrix index) (range_with_len 1 (3 * g.depth))) ≡ length (gathered_values g matrix index)
  lengths = joined_lengths (quantised_piece g matrix index) (quantised_piece h matrix index) 1 (3 * g.depth) same_size

  -- a value of theirs in turn is one of the first's, or of the second's
  pub pair_even : (place : ℕ) → place % 2 ≡ 0 → get_or (gathered_pairs g h matrix index) place (pos 0) ≡ get_or (gathered_values g matrix index) (place / 2) (pos 0)
  pair_even place even =
      let half : place ≡ 2 * (place / 2) = omega (arith, even) in
      ap (λ (t : List ℤ). get_or t place (pos 0)) in_turns
      ∙ ap (λ (n : ℕ). get_or (in_turn (gathered_values g matrix index) (flat_map (quantised_piece h matrix index) (range_with_len 1 (3 * g.depth)))) n (pos 0)) half
      ∙ turn_even (gathered_values g matrix index) (flat_map (quantised_piece h matrix index) (range_with_len 1 (3 * g.depth))) (place / 2) (pos 0) lengths

  pub pair_odd : (place : ℕ) → place % 2 ≢ 0 → get_or (gathered_pairs g h matrix index) place (pos 0) ≡ get_or (gathered_values h matrix index) (place / 2) (pos 0)
  pair_odd place odd =
      let half : place ≡ 2 * (place / 2) + 1 = omega (arith, odd) in
      ap (λ (t : List ℤ). get_or t place (pos 0)) in_turns
      ∙ ap (λ (n : ℕ). get_or (in_turn (gathered_values g matrix index) (flat_map (quantised_piece h matrix index) (range_with_len 1 (3 * g.depth)))) n (pos 0)) half
      ∙ turn_odd (gathered_values g matrix index) (flat_map (quantised_piece h matrix index) (range_with_len 1 (3 * g.depth))) (place / 2) (pos 0) lengths
      ∙ ap (λ (t : List ℤ). get_or t (place / 2) (pos 0)) second_is
