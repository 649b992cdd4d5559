-- Bands that show the same are taken alike, and have the same samples.
use Rattle.std.proofs.Common.{◌≡◌, ℕ, suc, ◌≤◌, inl, inr, refl, sym, ap, subst, ◌∙◌, arith}
use Rattle.std.specs.Prelude.{ℤ}
use Rattle.bit_codes.specs.declared.TheConstants.{MAX_MAGNITUDE}
use Rattle.planes.specs.Numbers.{Within}
use Rattle.planes.specs.Subbands.{BandStack, BandExists, subband_length}
use Rattle.dc_prediction.specs.Prediction.{reach}
use Rattle.slice_geometry.specs.declared.Size.{Size}
use Rattle.slice_geometry.specs.Slicing.{Slicing}
use Rattle.slice_geometry.specs.Geometry.{padded_length, band_size}
use Rattle.slice_store.specs.Gathered.{ShowTheSame}
use Rattle.lifting.specs.declared.Wavelet.{Wavelet}
use Rattle.lifting.specs.Transform.{synthesis}
use Rattle.lifting.specs.Bands.{coefficients_of}
use Rattle.lifting.specs.Ranges.{SameBands}
use Rattle.lifting.proofs.Inside.{synthesis_same}
use Rattle.lifting.proofs.Levels as levels
use Rattle.picture_codec.specs.Pictures.{sample_of}
use Rattle.picture_codec.specs.Samples.{samples_by}
use Rattle.picture_codec.specs.Decoding.{AreTaken, synthesised}
use Rattle.picture_codec.proofs.Sizes.{padded_whole, padded_covers}
use Rattle.picture_codec.proofs.Tables.{tabulated_same}

module _ (s : Slicing) (size : Size) (n : ℕ) (a b : BandStack) (taken : AreTaken s size n a) (same : ShowTheSame a b) where
  there : (level orient : ℕ) → BandExists s.depth level orient → BandExists a.depth level orient
  there level orient e = subst (λ (d : ℕ). BandExists d level orient) (sym taken.depth) e

  back : (level orient : ℕ) → BandExists b.depth level orient → BandExists a.depth level orient
  back level orient e = subst (λ (d : ℕ). BandExists d level orient) same.same_depth e

  pub same_taken : AreTaken s size n b
  same_taken = record {
    depth = same.same_depth ∙ taken.depth;
    sizes = record {
      widths = λ level orient e.
          same.widths level orient (back level orient e) ∙ taken.sizes.widths level orient (back level orient e)
          ∙ ap (λ (d : ℕ). subband_length d level (padded_length s.depth size.w)) (sym same.same_depth);
      heights = λ level orient e.
          same.heights level orient (back level orient e) ∙ taken.sizes.heights level orient (back level orient e)
          ∙ ap (λ (d : ℕ). subband_length d level (padded_length s.depth size.h)) (sym same.same_depth);
    };
    lowest = λ y x ly lx held.
        subst (λ (v : ℤ). Within (reach y x) v) (sym (same.places 0 0 y x (inl (refl, refl)))) (taken.lowest y x ly lx held);
    upper = λ level orient y x e some ly lx held.
        subst (λ (v : ℤ). Within MAX_MAGNITUDE v) (sym (same.places level orient y x (there level orient e))) (taken.upper level orient y x e some ly lx held);
  }

-- their coefficients, at all places
pub same_coefficients : (h w : ℕ) (a b : BandStack) → ShowTheSame a b → SameBands h w a.depth (coefficients_of b) (coefficients_of a)
same_coefficients h w a b same = record {
  ll = λ y x ly lx. same.places 0 0 y x (inl (refl, refl));
  hl = λ m lt y x ly lx. same.places (suc m) 1 y x (inr (omega arith, omega (arith, lt), omega arith, omega arith));
  lh = λ m lt y x ly lx. same.places (suc m) 2 y x (inr (omega arith, omega (arith, lt), omega arith, omega arith));
  hh = λ m lt y x ly lx. same.places (suc m) 3 y x (inr (omega arith, omega (arith, lt), omega arith, omega arith));
}

pub same_synthesised : (wavelet : Wavelet) (size : Size) (depth : ℕ) (a b : BandStack) → a.depth ≤ 4 → ShowTheSame a b → synthesised wavelet size depth b ≡ synthesised wavelet size depth a
unfolding synthesised
same_synthesised wavelet size depth a b low same =
    let h : ℕ = (band_size a.depth 0 size).h in
    let w : ℕ = (band_size a.depth 0 size).w in
    ap (λ (d : ℕ). samples_by size (λ y x. sample_of depth (synthesis wavelet (band_size d 0 size).h (band_size d 0 size).w (coefficients_of b) d y x))) same.same_depth
    ∙ tabulated_same size (λ y x. sample_of depth (synthesis wavelet h w (coefficients_of b) a.depth y x)) (λ y x. sample_of depth (synthesis wavelet h w (coefficients_of a) a.depth y x))
    (λ y x y_in x_in. ap (λ (v : ℤ). sample_of depth v)
    (synthesis_same wavelet h w a.depth (coefficients_of b) (coefficients_of a) (same_coefficients h w a b same) a.depth (omega arith) y x
    (omega (arith, y_in, padded_covers a.depth size.h low, levels.whole_size (padded_length a.depth size.h) a.depth (padded_whole a.depth size.h low)))
    (omega (arith, x_in, padded_covers a.depth size.w low, levels.whole_size (padded_length a.depth size.w) a.depth (padded_whole a.depth size.w low)))))
