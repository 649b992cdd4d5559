-- New bands are ready for every slice.
use Rattle.std.proofs.Common.{◌≡◌, ℕ, zero, suc, ◌-◌, [], replicate, get_or, ℤ, pos, refl, sym, ap, subst, ◌∙◌, inl, arith}
use Rattle.std.proofs.lemmas.Int.{ints}
use Rattle.planes.specs.Numbers.{Within}
use Rattle.planes.specs.Raster.{at}
use Rattle.planes.specs.Subbands.{BandStack, band_of, AreZeroBands}
use Rattle.planes.proofs.BandLemmas.{HaveSizes-zero}
use Rattle.dc_prediction.specs.Prediction.{reach}
use Rattle.slice_geometry.specs.declared.Size.{Size}
use Rattle.slice_geometry.specs.Slicing.{Slicing}
use Rattle.slice_geometry.specs.Geometry.{padded_length}
use Rattle.slice_decoder.specs.Decoded.{IsReady}

zero_in_row : (w x : ℕ) → get_or (replicate w (pos 0)) x (pos 0) ≡ pos 0
zero_in_row zero x = refl
zero_in_row (suc w) zero = refl
zero_in_row (suc w) (suc x) = zero_in_row w x

pub at-zeros : (w h y x : ℕ) → get_or (get_or (replicate h (replicate w (pos 0))) y []) x (pos 0) ≡ pos 0
at-zeros w zero y x = refl
at-zeros w (suc h) zero x = zero_in_row w x
at-zeros w (suc h) (suc y) x = at-zeros w h y x

zero_within : (z : ℤ) (m : ℕ) → z ≡ pos 0 → Within m z
zero_within z m is = let P : ℤ → Type 0 = λ z. Within m z in subst P (sym is) (record { low = omega (arith, ints); high = omega (arith, ints) })

pub ready-zero : (s : Slicing) (size : Size) (sx sy depth w h : ℕ) (b : BandStack) → depth ≡ s.depth → w ≡ padded_length s.depth size.w → h ≡ padded_length s.depth size.h → AreZeroBands b depth w h → IsReady s size sx sy b
ready-zero s size sx sy depth w h b depth_is w_is h_is new =
    let P : ℕ → ℕ → ℕ → Type 0 = λ d w h. AreZeroBands b d w h in
    let made : P s.depth (padded_length s.depth size.w) (padded_length s.depth size.h) = subst (λ (k : ℕ). P s.depth (padded_length s.depth size.w) k) h_is (subst (λ (k : ℕ). P s.depth k h) w_is (subst (λ (k : ℕ). P k w h) depth_is new)) in
    let none : (y x : ℕ) → at (band_of b 0 0) y x ≡ pos 0 = λ y x. ap (λ r. at r y x) (made.each 0 0 (inl (refl, refl))) ∙ at-zeros _ _ y x in
    record {
      depth = made.same_depth;
      sizes = HaveSizes-zero b s.depth (padded_length s.depth size.w) (padded_length s.depth size.h) made;
      outside = λ y x here. record {
        left = λ some out. zero_within _ (reach y (x - 1)) (none y (x - 1));
        above = λ some out. zero_within _ (reach (y - 1) x) (none (y - 1) x);
        corner = λ below right out. zero_within _ (reach (y - 1) (x - 1)) (none (y - 1) (x - 1));
      };
    }
