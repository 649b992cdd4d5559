-- What is listed of gathered coefficients are the lists of the slice, and what they need is bounded so.
use Rattle.std.proofs.Common.{◌≡◌, ◌∙◌, refl, sym, ap, subst, ℕ, ◌+◌, ◌-◌, ◌*◌, ◌<◌, ◌≤◌, Bool, true, false, List, [], ◌∷◌, length, arith, ℤ}
use Rattle.std.specs.Prelude.{slice_index}
use Rattle.std.specs.List.{flat_map, range_with_len}
use Rattle.planes.specs.Raster.{at}
use Rattle.planes.specs.declared.Rect.{Rect}
use Rattle.quant_factors.specs.Weights.{Weights, band_quantiser}
use Rattle.slice_geometry.specs.SliceOrder.{level_rect, area, place_count, level_of, orient_of, numbered}
use Rattle.slice_encoder.specs.declared.bounding.Lower.{Lower}
use Rattle.slice_encoder.specs.declared.gathered.GatheredSlice.{GatheredSlice}
use Rattle.slice_encoder.specs.Trials.{CodedComponent, CodedPicture, luma_of, c1_of, c2_of}
use Rattle.slice_encoder.specs.Choice.{needs_fit, fits}
use Rattle.slice_encoder.specs.LowNeeds.{may_fit}
use Rattle.slice_encoder.specs.Gathering.{raw_part, raw_before, GatheredSeen, AreGathered, piece_of, quantised, quantised_piece, in_turn, high_part, high_reach, high_pair, high_pairs_reach, quantised_pair, gathered_pairs, gathered_reach, gathered_pairs_reach, behind_lowest, reach}
use Rattle.slice_encoder.specs.GatheredSlices.{AreAllGathered, lowest_luma, lowest_colour, gathered_low}
use Rattle.slice_encoder.specs.Tries.{tried_lists}
use Rattle.slice_encoder.specs.FirstResiduals.{AreFirst, bits_beyond_one}
use Rattle.planes.specs.declared.ThreePlanes.{ThreePlanes}
use Rattle.slice_encoder.specs.declared.first_residuals.FirstResiduals.{FirstResiduals}
use Rattle.slice_encoder.proofs.Parts.{reach_of}
use Rattle.std.proofs.lemmas.List.{length-append}
use Rattle.planes.specs.Subbands.{BandStack}
use Rattle.slice_geometry.specs.declared.Size.{Size}
use Rattle.slice_geometry.specs.Slicing.{Slicing}
use Rattle.slice_encoder.proofs.BandParts.{length_rect}
use Rattle.slice_encoder.proofs.LowBounds.{less_fits, more_does_not_fit}
use Rattle.slice_encoder.proofs.Gathers.{first_count, raw_count, raw_within}
use Rattle.slice_encoder.proofs.Reaches.{flat_same, bands_fall, pairs_fall, lowest_rises}
use Rattle.slice_encoder.proofs.FirstPlaces.{both, beyond_falls, reach_no_greater}

module _ (c : CodedComponent) (index sx sy : ℕ) (g : GatheredSeen) (gathered : AreGathered c.slicing c.size c.bands sx sy g) where
  pub first_end : slice_index g.ends 0 ≡ area (level_rect c.slicing c.size sx sy 0)
  first_end = gathered.ends 0 (omega arith) ∙ first_count c.slicing c.size c.bands sx sy

  pub last_end : slice_index g.ends (3 * g.depth) ≡ place_count c.slicing c.size sx sy
  last_end = ap (λ (n : ℕ). slice_index g.ends (3 * n)) gathered.depth ∙ gathered.ends (3 * c.slicing.depth) (omega arith) ∙ raw_count c.slicing c.size c.bands sx sy c.slicing.depth

  pub first_within : area (level_rect c.slicing c.size sx sy 0) ≤ place_count c.slicing c.size sx sy
  first_within =
      omega (
        arith,
        first_count c.slicing c.size c.bands sx sy,
        raw_count c.slicing c.size c.bands sx sy c.slicing.depth,
        raw_within c.slicing c.size c.bands sx sy 1 (3 * c.slicing.depth + 1) (omega arith),
      )

  piece_here : (k : ℕ) → 1 ≤ k → k < 1 + 3 * c.slicing.depth → quantised_piece g c.matrix index k ≡ high_part c index sx sy k
  piece_here k some lt = ap (quantised (band_quantiser c.matrix index (level_of k) (orient_of k))) (gathered.pieces k some (omega arith))

  pub pieces_are : flat_map (quantised_piece g c.matrix index) (range_with_len 1 (3 * g.depth)) ≡ flat_map (high_part c index sx sy) (range_with_len 1 (3 * c.slicing.depth))
  pieces_are =
      ap (λ (n : ℕ). flat_map (quantised_piece g c.matrix index) (range_with_len 1 (3 * n))) gathered.depth
      ∙ flat_same (quantised_piece g c.matrix index) (high_part c index sx sy) 1 (3 * c.slicing.depth) piece_here

  pub reach_is : gathered_reach g c.matrix index ≡ high_reach c index sx sy
  reach_is = ap (λ (t : List ℤ). reach t 0) pieces_are

same_lengths : (s : Slicing) (size : Size) (a b : BandStack) (sx sy : ℕ) (ks : List ℕ) → length (flat_map (raw_part s size a sx sy) ks) ≡ length (flat_map (raw_part s size b sx sy) ks)
same_lengths s size a b sx sy [] = refl
same_lengths s size a b sx sy (k ∷ ks) =
    let r : Rect = level_rect s size sx sy (level_of k) in
    omega (
      arith,
      length-append (raw_part s size a sx sy k) (flat_map (raw_part s size a sx sy) ks),
      length-append (raw_part s size b sx sy k) (flat_map (raw_part s size b sx sy) ks),
      length_rect (at (numbered a k)) r,
      length_rect (at (numbered b k)) r,
      same_lengths s size a b sx sy ks,
    )

module _ (j : CodedPicture) (index sx sy : ℕ) (one two : GatheredSeen) (gathered1 : AreGathered j.slicing j.frame.colour j.coefficients.c1 sx sy one) (gathered2 : AreGathered j.slicing j.frame.colour j.coefficients.c2 sx sy two) where
  pub ends_same : (k : ℕ) → k ≤ 3 * one.depth → slice_index two.ends k ≡ slice_index one.ends k
  ends_same k le =
      let lt : k < 3 * j.slicing.depth + 1 = omega (arith, le, gathered1.depth) in
      gathered2.ends k lt ∙ raw_lengths (k + 1) ∙ sym (gathered1.ends k lt)
    where
      raw_lengths : (n : ℕ) → length (raw_before j.slicing j.frame.colour j.coefficients.c2 sx sy n) ≡ length (raw_before j.slicing j.frame.colour j.coefficients.c1 sx sy n)
      raw_lengths n = same_lengths j.slicing j.frame.colour j.coefficients.c2 j.coefficients.c1 sx sy (range_with_len 0 n)

  pairs_here : (k : ℕ) → 1 ≤ k → k < 1 + 3 * j.slicing.depth → in_turn (quantised_piece one j.matrix index k) (quantised_piece two j.matrix index k) ≡ high_pair j index sx sy k
  pairs_here k some lt =
      ap (λ (t : List ℤ). in_turn t (quantised_piece two j.matrix index k)) (piece_here (c1_of j) index sx sy one gathered1 k some lt)
      ∙ ap (in_turn (high_part (c1_of j) index sx sy k)) (piece_here (c2_of j) index sx sy two gathered2 k some lt)

  pub pairs_are_high : gathered_pairs one two j.matrix index ≡ flat_map (high_pair j index sx sy) (range_with_len 1 (3 * j.slicing.depth))
  pairs_are_high =
      ap (λ (n : ℕ). flat_map (quantised_pair one two j.matrix index) (range_with_len 1 (3 * n))) gathered1.depth
      ∙ flat_same (quantised_pair one two j.matrix index) (high_pair j index sx sy) 1 (3 * j.slicing.depth) pairs_here

  pub pairs_reach_is : gathered_pairs_reach one two j.matrix index ≡ high_pairs_reach j index sx sy
  pairs_reach_is = ap (λ (t : List ℤ). reach t 0) pairs_are_high

-- ---- bounds

module _ (j : CodedPicture) (sx sy : ℕ) (g : GatheredSlice) (gathered : AreAllGathered j sx sy g) where
  pub low_is : (f : FirstResiduals) (index : ℕ) → gathered_low g f j.matrix index ≡ reach_of j f sx sy index
  low_is f index =
      let q : ℕ = band_quantiser j.matrix index 0 0 in
      let one = area (level_rect j.slicing j.frame.luma sx sy 0) in
      let two = area (level_rect j.slicing j.frame.colour sx sy 0) in
      let more = bits_beyond_one f.c1 q + bits_beyond_one f.c2 q in
      let more_luma = bits_beyond_one f.luma q in
      both (gathered_low g f j.matrix index).luma (reach_of j f sx sy index).luma (gathered_low g f j.matrix index).colour (reach_of j f sx sy index).colour
      (ap (λ (n : ℕ). behind_lowest (n + more_luma) (gathered_reach g.luma j.matrix index) - 3) (first_end (luma_of j) index sx sy g.luma gathered.luma)
      ∙ ap (λ (n : ℕ). behind_lowest (one + more_luma) n - 3) (reach_is (luma_of j) index sx sy g.luma gathered.luma))
      (ap (λ (n : ℕ). behind_lowest (2 * n + more) (gathered_pairs_reach g.c1 g.c2 j.matrix index) - 3) (first_end (c1_of j) index sx sy g.c1 gathered.c1)
      ∙ ap (λ (n : ℕ). behind_lowest (2 * two + more) n - 3) (pairs_reach_is j index sx sy g.c1 g.c2 gathered.c1 gathered.c2))

  module _ (kept : ThreePlanes) (f : FirstResiduals) (first : AreFirst j sx sy kept f) where
    -- an index that fits may fit
    pub fit_may : (bytes index : ℕ) → fits bytes (tried_lists j kept sx sy index) ≡ true → may_fit bytes (gathered_low g f j.matrix index) ≡ true
    fit_may bytes index fit =
        let low = reach_no_greater j kept f sx sy first index in
        subst (λ (l : Lower). may_fit bytes l ≡ true) (sym (low_is f index)) (less_fits bytes _ _ _ _ low.0 low.1 fit)

    -- and one that may not doesn't
    pub low_refutes : (bytes index : ℕ) → may_fit bytes (gathered_low g f j.matrix index) ≡ false → fits bytes (tried_lists j kept sx sy index) ≡ false
    low_refutes bytes index refused =
        let low = reach_no_greater j kept f sx sy first index in
        more_does_not_fit bytes _ _ _ _ low.0 low.1 (subst (λ (l : Lower). may_fit bytes l ≡ false) (low_is f index) refused)

-- ---- whatever is gathered, the bounds don't rise with the index

reach_below : (g : GatheredSeen) (matrix : Weights) (i k : ℕ) → i ≤ k → k ≤ 127 → gathered_reach g matrix k ≤ gathered_reach g matrix i
reach_below g matrix i k le most = bands_fall matrix (piece_of g) i k le most (range_with_len 1 (3 * g.depth)) 0 0 (omega arith)

pairs_below : (g h : GatheredSeen) (matrix : Weights) (i k : ℕ) → i ≤ k → k ≤ 127 → gathered_pairs_reach g h matrix k ≤ gathered_pairs_reach g h matrix i
pairs_below g h matrix i k le most = pairs_fall matrix (piece_of g) (piece_of h) i k le most (range_with_len 1 (3 * g.depth)) 0 0 (omega arith)

pub low_refuted_below : (g : GatheredSlice) (f : FirstResiduals) (matrix : Weights) (bytes i k : ℕ) → i ≤ k → k ≤ 127 → may_fit bytes (gathered_low g f matrix k) ≡ false → may_fit bytes (gathered_low g f matrix i) ≡ false
low_refuted_below g f matrix bytes i k le most refused =
    let p : ℕ = band_quantiser matrix i 0 0 in
    let q : ℕ = band_quantiser matrix k 0 0 in
    let below : q ≤ 127 = omega (arith, most) in
    let rises : p ≤ q = omega (arith, le) in
    let fall = λ (r : ℤ). beyond_falls r p q rises below in
    more_does_not_fit bytes _ _ _ _
    (omega (arith, lowest_rises (lowest_luma g f q) (lowest_luma g f p) _ _ (omega (arith, fall f.luma)) (reach_below g.luma matrix i k le most)))
    (omega (arith, lowest_rises (lowest_colour g f q) (lowest_colour g f p) _ _ (omega (arith, fall f.c1, fall f.c2)) (pairs_below g.c1 g.c2 matrix i k le most)))
    refused

pub gathered_may : (bytes : ℕ) (found low : Lower) (b : Bool) → found ≡ low → needs_fit bytes found.luma found.colour ≡ b → may_fit bytes low ≡ b
gathered_may bytes found low b e fit = subst (λ (l : Lower). may_fit bytes l ≡ b) e fit
