-- How many values a slice has outside the lowest subbands, and so how long their codes are at most.
use Rattle.std.proofs.Common.{◌≡◌, ap, ℕ, zero, suc, ◌+◌, ◌-◌, ◌*◌, ◌^◌, ◌≤◌, List, [], ◌∷◌, length, take, drop, arith, ℤ}
use Rattle.std.specs.Prelude.{slice_index}
use Rattle.std.specs.List.{All, flat_map, range_with_len}
use Rattle.std.proofs.lemmas.List.{length-append, length-map, length-take, length-drop}
use Rattle.slice_geometry.specs.SliceOrder.{level_of, orient_of}
use Rattle.quant_factors.specs.Factors.{forward_of}
use Rattle.quant_factors.specs.Weights.{Weights, band_quantiser}
use Rattle.slice_encoder.specs.declared.looks.Look.{Look}
use Rattle.slice_encoder.specs.BlockValues.{IsIn32}
use Rattle.slice_encoder.specs.Looks.{IsLook, IsFew}
use Rattle.slice_encoder.specs.TrialLaws.{AreSmallValues}
use Rattle.slice_encoder.specs.Gathering.{GatheredSeen, IsGatheredSound, quantised, quantised_piece, quantised_pair, in_turn, gathered_values, gathered_pairs}
use Rattle.slice_encoder.proofs.Listed.{flat_more}
use Rattle.slice_encoder.proofs.JoinedLooks.{look_few}
use Rattle.slice_encoder.proofs.SmallValues.{values_small, pairs_small}

quantised_count : (q : ℕ) (vs : List ℤ) → length (quantised q vs) ≡ length vs
quantised_count q vs = length-map vs (λ v. forward_of v q)

turn_count : (vs ws : List ℤ) → length (in_turn vs ws) ≤ 2 * length vs
turn_count [] ws = omega arith
turn_count (v ∷ vs) [] = omega arith
turn_count (v ∷ vs) (w ∷ ws) = omega (arith, turn_count vs ws)

module _ (matrix : Weights) (index : ℕ) (g : GatheredSeen) (sound : IsGatheredSound g) where
  piece_count : (k : ℕ) → 1 ≤ k → k ≤ 3 * g.depth → length (quantised_piece g matrix index k) ≡ slice_index g.ends k - slice_index g.ends (k - 1)
  piece_count k one le =
      let a : ℕ = slice_index g.ends (k - 1) in
      let n : ℕ = slice_index g.ends k - a in
      omega (
        arith,
        sound.inside k le,
        sound.rise k one le,
        quantised_count (band_quantiser matrix index (level_of k) (orient_of k)) (take n (drop a g.values)),
        length-take n (drop a g.values),
        length-drop a g.values,
      )

  pub values_count : (n : ℕ) → n ≤ 3 * g.depth → length (flat_map (quantised_piece g matrix index) (range_with_len 1 n)) + slice_index g.ends 0 ≤ slice_index g.ends n
  values_count zero le = omega arith
  values_count (suc n) le =
      let next : suc n ≡ n + 1 = omega arith in
      let before : n + 1 - 1 ≡ n = omega arith in
      omega (
        arith,
        ap (λ (k : ℕ). length (flat_map (quantised_piece g matrix index) (range_with_len 1 k))) next,
        ap (λ (t : List ℤ). length t) (flat_more (quantised_piece g matrix index) 1 n (n + 1) (omega arith)),
        length-append (flat_map (quantised_piece g matrix index) (range_with_len 1 n)) (quantised_piece g matrix index (n + 1)),
        values_count n (omega (arith, le)),
        piece_count (n + 1) (omega arith) (omega (arith, le)),
        sound.rise (n + 1) (omega arith) (omega (arith, le)),
        ap (λ (k : ℕ). slice_index g.ends k) before,
        ap (λ (k : ℕ). slice_index g.ends k) next,
      )

  pub pairs_count : (h : GatheredSeen) (n : ℕ) → n ≤ 3 * g.depth → length (flat_map (quantised_pair g h matrix index) (range_with_len 1 n)) + 2 * slice_index g.ends 0 ≤ 2 * slice_index g.ends n
  pairs_count h zero le = omega arith
  pairs_count h (suc n) le =
      let next : suc n ≡ n + 1 = omega arith in
      let before : n + 1 - 1 ≡ n = omega arith in
      omega (
        arith,
        ap (λ (k : ℕ). length (flat_map (quantised_pair g h matrix index) (range_with_len 1 k))) next,
        ap (λ (t : List ℤ). length t) (flat_more (quantised_pair g h matrix index) 1 n (n + 1) (omega arith)),
        length-append (flat_map (quantised_pair g h matrix index) (range_with_len 1 n)) (quantised_pair g h matrix index (n + 1)),
        pairs_count h n (omega (arith, le)),
        turn_count (quantised_piece g matrix index (n + 1)) (quantised_piece h matrix index (n + 1)),
        piece_count (n + 1) (omega arith) (omega (arith, le)),
        sound.rise (n + 1) (omega arith) (omega (arith, le)),
        ap (λ (k : ℕ). slice_index g.ends k) before,
        ap (λ (k : ℕ). slice_index g.ends k) next,
      )

-- ---- and their codes

small : (vs : List ℤ) → All IsIn32 vs → AreSmallValues vs
small vs are k d lt = omega (arith, are k d lt)

few : (l : Look) (vs : List ℤ) → IsLook l vs → All IsIn32 vs → length vs ≤ 2 ^ 33 → IsFew l
few l vs look are le = record { codes = omega (arith, look_few l vs look (small vs are), le); last = omega (arith, look.most, le) }

module _ (matrix : Weights) (index : ℕ) (le : index ≤ 127) (l : Look) (g : GatheredSeen) (sound : IsGatheredSound g) where
  pub few_values : IsLook l (gathered_values g matrix index) → IsFew l
  few_values look =
      few l (gathered_values g matrix index) look (values_small matrix index le g sound) (omega (arith, values_count matrix index g sound (3 * g.depth) (omega arith), sound.inside (3 * g.depth) (omega arith), sound.few))

  pub few_pairs : (h : GatheredSeen) → IsGatheredSound h → IsLook l (gathered_pairs g h matrix index) → IsFew l
  few_pairs h other look =
      few l (gathered_pairs g h matrix index) look (pairs_small matrix index le g h sound other) (omega (arith, pairs_count matrix index g sound h (3 * g.depth) (omega arith), sound.inside (3 * g.depth) (omega arith), sound.few))
