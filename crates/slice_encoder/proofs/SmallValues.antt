-- The values of gathered coefficients are small.
use Rattle.std.proofs.Common.{ℕ, ◌-◌, ◌*◌, ◌^◌, ◌≤◌, List, [], ◌∷◌, drop, arith, ℤ}
use Rattle.std.specs.Prelude.{slice_index}
use Rattle.std.specs.List.{All, range_with_len}
use Rattle.std.proofs.lemmas.List.Elements.{All-nil, All-cons, All-head, All-tail, All-take, All-drop}
use Rattle.planes.specs.Numbers.{Within}
use Rattle.slice_geometry.specs.SliceOrder.{level_of, orient_of}
use Rattle.quant_factors.specs.Factors.{forward_of}
use Rattle.quant_factors.specs.Weights.{Weights, band_quantiser}
use Rattle.slice_encoder.specs.BlockValues.{IsIn32}
use Rattle.slice_encoder.specs.Gathering.{GatheredSeen, IsGatheredSound, piece_of, quantised, quantised_piece, quantised_pair, in_turn, gathered_values, gathered_pairs}
use Rattle.slice_encoder.proofs.Coarsest.{all_joined, all_all}
use Rattle.slice_encoder.proofs.Near.{within_abs}
use Rattle.slice_encoder.proofs.PlaceByPlace.{forward_small}

in32 : (v : ℤ) (q : ℕ) → q ≤ 127 → Within (2 ^ 27) v → IsIn32 (forward_of v q)
in32 v q le near = omega (arith, forward_small v q le, within_abs (2 ^ 27) v near)

quantised_small : (q : ℕ) (vs : List ℤ) → q ≤ 127 → All (Within (2 ^ 27)) vs → All IsIn32 (quantised q vs)
quantised_small q [] le near = All-nil IsIn32
quantised_small q (v ∷ vs) le near = All-cons IsIn32 (forward_of v q) (quantised q vs) (in32 v q le (All-head (Within (2 ^ 27)) v vs near)) (quantised_small q vs le (All-tail (Within (2 ^ 27)) v vs near))

turn_small : (vs ws : List ℤ) → All IsIn32 vs → All IsIn32 ws → All IsIn32 (in_turn vs ws)
turn_small [] ws first second = All-nil IsIn32
turn_small (v ∷ vs) [] first second = All-nil IsIn32
turn_small (v ∷ vs) (w ∷ ws) first second =
    All-cons IsIn32 v (w ∷ in_turn vs ws) (All-head IsIn32 v vs first) (All-cons IsIn32 w (in_turn vs ws) (All-head IsIn32 w ws second) (turn_small vs ws (All-tail IsIn32 v vs first) (All-tail IsIn32 w ws second)))

module _ (matrix : Weights) (index : ℕ) (le : index ≤ 127) where
  piece_small : (g : GatheredSeen) → IsGatheredSound g → (k : ℕ) → All IsIn32 (quantised_piece g matrix index k)
  piece_small g sound k =
      let from : ℕ = slice_index g.ends (k - 1) in
      quantised_small (band_quantiser matrix index (level_of k) (orient_of k)) (piece_of g k) (omega (arith, le))
      (All-take (Within (2 ^ 27)) (slice_index g.ends k - from) (drop from g.values) (All-drop (Within (2 ^ 27)) from g.values sound.small))

  pub values_small : (g : GatheredSeen) → IsGatheredSound g → All IsIn32 (gathered_values g matrix index)
  values_small g sound =
      all_joined IsIn32 (quantised_piece g matrix index) (range_with_len 1 (3 * g.depth)) (all_all (λ k. All IsIn32 (quantised_piece g matrix index k)) (piece_small g sound) (range_with_len 1 (3 * g.depth)))

  pub pairs_small : (g h : GatheredSeen) → IsGatheredSound g → IsGatheredSound h → All IsIn32 (gathered_pairs g h matrix index)
  pairs_small g h sound other =
      all_joined IsIn32 (quantised_pair g h matrix index) (range_with_len 1 (3 * g.depth))
      (all_all (λ k. All IsIn32 (quantised_pair g h matrix index k)) (λ k. turn_small (quantised_piece g matrix index k) (quantised_piece h matrix index k) (piece_small g sound k) (piece_small h other k)) (range_with_len 1 (3 * g.depth)))
