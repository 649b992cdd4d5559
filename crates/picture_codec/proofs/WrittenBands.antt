-- A component whose values were quantised and dequantised, band by band.
use Rattle.std.proofs.Common.{◌≡◌, ◌∙◌, sym, ap, refl, ℕ, zero, suc, ◌+◌, ◌-◌, ◌<◌, ◌≤◌, List, get_or, take, false, cond, eqb, arith, inl, ℤ, ◌+ℤ◌, ◌-ℤ◌}
use Rattle.std.proofs.lemmas.Int.{ints}
use Rattle.std.proofs.lemmas.List.{get_or-take}
use Rattle.planes.specs.Raster.{Grid}
use Rattle.planes.specs.Subbands.{BandExists}
use Rattle.dc_prediction.specs.Prediction.{prediction, restored, AllLookedAt}
use Rattle.dc_prediction.proofs.Bands.{is_restored}
use Rattle.dc_prediction.proofs.PredictionLemmas.{prediction_same}
use Rattle.quant_factors.specs.Factors.{inverse_of, forward_of}
use Rattle.quant_factors.specs.Weights.{band_quantiser}
use Rattle.quant_factors.proofs.QuantLemmas.{lossless}
use Rattle.slice_geometry.specs.declared.Size.{Size}
use Rattle.slice_geometry.specs.Slicing.{slice_number}
use Rattle.slice_geometry.specs.Geometry.{band_size, holding}
use Rattle.slice_encoder.specs.Loop.{residual_of, restored_value}
use Rattle.slice_encoder.specs.Trials.{CodedComponent, coefficient, restored_after, value_of}
use Rattle.slice_encoder.proofs.Holders.{holder_rises, rest_same}
use Rattle.slice_encoder.proofs.Continues.{restored_after-at}
use Rattle.picture_codec.proofs.WrittenValues.{place}

-- a band that is restored inside is the restored one there
module _ (r g : Grid) (h w : ℕ) (is : (y x : ℕ) → y < h → x < w → g y x ≡ r y x +ℤ prediction g y x) where
  abbrev Same : ℕ → ℕ → Type 0
  Same y x = restored r y x ≡ g y x

  same_so_far : (n y x : ℕ) → y + x < n → y < h → x < w → Same y x
  same_so_far zero y x lt hy hx = absurd (omega arith)
  same_so_far (suc n) y x lt hy hx =
      let around : AllLookedAt Same y x = record {
        left = λ some. same_so_far n y (x - 1) (omega arith) hy (omega arith);
        above = λ some. same_so_far n (y - 1) x (omega arith) (omega arith) hx;
        corner = λ some more. same_so_far n (y - 1) (x - 1) (omega arith) (omega arith) (omega arith);
      } in
      is_restored r y x ∙ ap (λ p. r y x +ℤ p) (prediction_same (restored r) g y x around) ∙ sym (is y x hy hx)

  pub restored_inside : (y x : ℕ) → y < h → x < w → restored r y x ≡ g y x
  restored_inside y x hy hx = same_so_far (y + x + 1) y x (omega arith) hy hx

turned : (a p i r : ℤ) → a ≡ p +ℤ i → r ≡ i → a ≡ r +ℤ p
turned a p i r e f = omega (arith, ints, e, f)

back : (k p : ℤ) → p +ℤ (k -ℤ p) ≡ k
back k p = omega (arith, ints)

-- a component of which a decoder has these values
module _ (c : CodedComponent) (indices : List ℕ) (values : ℕ → ℕ → Grid) where
  -- the slice that holds a place of a band
  abbrev holder : ℕ → ℕ → ℕ → ℕ
  holder level y x =
      let band = band_size c.slicing.depth level c.size in
      slice_number c.slicing (holding c.slicing.slices_x band.w x) (holding c.slicing.slices_y band.h y)

  abbrev quantiser : ℕ → ℕ → ℕ → ℕ → ℕ
  quantiser level orient y x = band_quantiser c.matrix (get_or indices (holder level y x) 0) level orient

  -- Each value is what was written of its place, dequantised.
  abbrev pub AreDequantised : Type 0
  AreDequantised = (level orient y x : ℕ) → BandExists c.slicing.depth level orient → y < (band_size c.slicing.depth level c.size).h → x < (band_size c.slicing.depth level c.size).w
      → values level orient y x
      ≡ inverse_of (value_of c (restored_after c (take (holder level y x + 1) indices)) (get_or indices (holder level y x) 0) (place level orient y x)) (quantiser level orient y x)

  module _ (are : AreDequantised) where
    pub higher_is : (level orient y x : ℕ) → BandExists c.slicing.depth level orient → 1 ≤ level → y < (band_size c.slicing.depth level c.size).h → x < (band_size c.slicing.depth level c.size).w
        → values level orient y x ≡ inverse_of (forward_of (coefficient c level orient y x) (quantiser level orient y x)) (quantiser level orient y x)
    higher_is level orient y x exists some hy hx =
        let q = quantiser level orient y x in
        let g = restored_after c (take (holder level y x + 1) indices) in
        let test : eqb level 0 ≡ false = grind (arith, some) in
        are level orient y x exists hy hx
        ∙ ap (λ b. inverse_of (cond b (residual_of (coefficient c 0 0 y x) q (prediction g y x)) (forward_of (coefficient c level orient y x) q)) q) test

    pub higher_lossless : (level orient y x : ℕ) → BandExists c.slicing.depth level orient → 1 ≤ level → y < (band_size c.slicing.depth level c.size).h → x < (band_size c.slicing.depth level c.size).w
        → quantiser level orient y x ≡ 0 → values level orient y x ≡ coefficient c level orient y x
    higher_lossless level orient y x exists some hy hx none =
        higher_is level orient y x exists some hy hx
        ∙ ap (λ (q : ℕ). inverse_of (forward_of (coefficient c level orient y x) q) q) none
        ∙ lossless (coefficient c level orient y x)

    abbrev band : Size
    band = band_size c.slicing.depth 0 c.size

    -- a prediction looks at this slice and at earlier ones
    front_same : (y x : ℕ) → y < band.h → x < band.w → prediction (restored_after c (take (holder 0 y x + 1) indices)) y x ≡ prediction (restored_after c indices) y x
    front_same y x hy hx =
        let n : ℕ = holder 0 y x in
        let front = take (n + 1) indices in
        let one = λ (j i : ℕ) (lj : j ≤ y) (li : i ≤ x).
        rest_same c front indices j i (omega arith) (omega arith)
        (λ m le. get_or-take (n + 1) indices m 0 (omega (arith, holder_rises c.slicing c.size j i y x hy hx lj li))) in
        prediction_same (restored_after c front) (restored_after c indices) y x (record {
          left = λ some. one y (x - 1) (omega arith) (omega arith);
          above = λ some. one (y - 1) x (omega arith) (omega arith);
          corner = λ some more. one (y - 1) (x - 1) (omega arith) (omega arith);
        })

    pub lowest_is : (y x : ℕ) → y < band.h → x < band.w → restored (values 0 0) y x ≡ restored_after c indices y x
    lowest_is y x hy hx =
        restored_inside (values 0 0) (restored_after c indices) band.h band.w
        (λ j i hj hi.
        let q = quantiser 0 0 j i in
        let p = prediction (restored_after c indices) j i in
        turned (restored_after c indices j i) p (inverse_of (residual_of (coefficient c 0 0 j i) q p) q) (values 0 0 j i)
        (restored_after-at c indices j i)
        (are 0 0 j i (inl (refl, refl)) hj hi ∙ ap (λ v. inverse_of (residual_of (coefficient c 0 0 j i) q v) q) (front_same j i hj hi)))
        y x hy hx

    pub lowest_lossless : (y x : ℕ) → y < band.h → x < band.w → quantiser 0 0 y x ≡ 0 → restored (values 0 0) y x ≡ coefficient c 0 0 y x
    lowest_lossless y x hy hx none =
        let p = prediction (restored_after c indices) y x in
        let k = coefficient c 0 0 y x in
        lowest_is y x hy hx
        ∙ restored_after-at c indices y x
        ∙ ap (λ (q : ℕ). restored_value k q p) none
        ∙ ap (λ v. p +ℤ v) (lossless (k -ℤ p))
        ∙ back k p
