-- Bands that show the same.
use Rattle.std.proofs.Common.{◌≡◌, ◌∙◌, sym, ap, subst, refl, inl, inr, ℕ, suc, ◌≤◌, arith}
use Rattle.std.specs.Prelude.{ℤ, pos, replicate, List, length, drop, ◌++◌}
use Rattle.std.proofs.lemmas.List.{length-replicate, length-append, length-drop, length-take-le}
use Rattle.planes.specs.Raster.{Raster, height, over}
use Rattle.planes.specs.Subbands.{BandStack, BandExists, subband_length, AgreeInSizes, AreZeroBands}
use Rattle.slice_store.specs.Gathered.{ShowTheSame}
use Rattle.slice_geometry.specs.declared.Size.{Size}
use Rattle.slice_geometry.specs.Geometry.{band_size}
use Rattle.lifting.specs.declared.Wavelet.{Wavelet}
use Rattle.lifting.specs.Transform.{synthesis}
use Rattle.lifting.specs.Bands.{coefficients_of}
use Rattle.lifting.specs.Ranges.{SameBands}
use Rattle.lifting.specs.LowerSamples.{rounded}
use Rattle.lifting.proofs.Inside.{synthesis_same}
use Rattle.picture_codec.specs.Pictures.{sample_of}
use Rattle.picture_codec.specs.Samples.{SamplesSeen, samples_by}
use Rattle.picture_codec.proofs.Tables.{tabulated_same}
use Rattle.proxy_picture.specs.Proxy.{levels_made, levels_left, shift_left_out, reduced_size}
use Rattle.proxy_picture.specs.Making.{reduced, reduced_in, AreSized, AreForWidening}
use Rattle.proxy_picture.specs.declared.widened.WidenedBands.{WidenedBands}
use Rattle.proxy_picture.proofs.Lengths.{made_few, level_covers}

module _ (a b : BandStack) (same : ShowTheSame a b) where
  -- they have the same sizes
  pub sizes_same : (depth w h : ℕ) → AreSized depth w h a → AreSized depth w h b
  sizes_same depth w h sized = record {
    same_depth = same.same_depth ∙ sized.same_depth;
    sizes = record {
      widths = λ level orient e. same.widths level orient (there level orient e) ∙ sized.sizes.widths level orient (there level orient e) ∙ ap (λ (d : ℕ). subband_length d level w) (sym same.same_depth);
      heights = λ level orient e. same.heights level orient (there level orient e) ∙ sized.sizes.heights level orient (there level orient e) ∙ ap (λ (d : ℕ). subband_length d level h) (sym same.same_depth);
    };
  }
    where
      there : (level orient : ℕ) → BandExists b.depth level orient → BandExists a.depth level orient
      there level orient e = subst (λ (d : ℕ). BandExists d level orient) same.same_depth e

  -- they hold the same coefficients
  same_held : (h w : ℕ) → SameBands h w a.depth (coefficients_of b) (coefficients_of a)
  same_held h w = record {
    ll = λ y x y_in x_in. same.places 0 0 y x (inl (refl, refl));
    hl = λ n lt y x y_in x_in. same.places (suc n) 1 y x (inr (omega arith, omega arith, omega arith, omega arith));
    lh = λ n lt y x y_in x_in. same.places (suc n) 2 y x (inr (omega arith, omega arith, omega arith, omega arith));
    hh = λ n lt y x y_in x_in. same.places (suc n) 3 y x (inr (omega arith, omega arith, omega arith, omega arith));
  }

  -- so the samples of a component's proxy are the same
  pub reduced_same : (k : Wavelet) (level : ℕ) (size : Size) (bits : ℕ) → a.depth ≤ 4 → reduced k level size bits b ≡ reduced k level size bits a
  unfolding reduced_in
  reduced_same k level size bits low =
      let d = a.depth in
      let lowest = band_size d 0 size in
      let n = levels_made level d in
      let kept = reduced_size (levels_left level d) size in
      let shift = shift_left_out k (levels_left level d) in
      let by : ℕ → SamplesSeen = λ e. samples_by (reduced_size (levels_left level e) size) (λ y x. sample_of bits (rounded (shift_left_out k (levels_left level e))
      (synthesis k (band_size e 0 size).h (band_size e 0 size).w (coefficients_of b) (levels_made level e) y x))) in
      ap by same.same_depth
      ∙ tabulated_same kept (λ y x. sample_of bits (rounded shift (synthesis k lowest.h lowest.w (coefficients_of b) n y x))) (λ y x. sample_of bits (rounded shift (synthesis k lowest.h lowest.w (coefficients_of a) n y x)))
      (λ y x y_in x_in. ap (λ v. sample_of bits (rounded shift v))
      (synthesis_same k lowest.h lowest.w d (coefficients_of b) (coefficients_of a) (same_held lowest.h lowest.w) n (made_few level d) y x
      (omega (arith, y_in, level_covers d n size.h low (made_few level d)))
      (omega (arith, x_in, level_covers d n size.w low (made_few level d)))))

-- bands of one size are of the sizes of others of it
pub sized_agree : (a b : BandStack) (depth w h : ℕ) → AreSized depth w h a → AreSized depth w h b → AgreeInSizes a b
sized_agree a b depth w h first second = record {
  same_depth = first.same_depth ∙ sym second.same_depth;
  widths = λ level orient e. first.sizes.widths level orient e ∙ ap (λ (d : ℕ). subband_length d level w) (first.same_depth ∙ sym second.same_depth) ∙ sym (second.sizes.widths level orient (there level orient e));
  heights = λ level orient e. first.sizes.heights level orient e ∙ ap (λ (d : ℕ). subband_length d level h) (first.same_depth ∙ sym second.same_depth) ∙ sym (second.sizes.heights level orient (there level orient e));
}
  where
    there : (level orient : ℕ) → BandExists a.depth level orient → BandExists b.depth level orient
    there level orient e = subst (λ (d : ℕ). BandExists d level orient) (first.same_depth ∙ sym second.same_depth) e

-- where bands have two sizes, others of the first have the second too
pub sized_as : (a b : BandStack) (depth w h v g : ℕ) → AreSized depth w h a → AreSized a.depth v g a → AreSized depth w h b → AreSized a.depth v g b
sized_as a b depth w h v g first other second = record {
  same_depth = deep;
  sizes = record {
    widths = λ level orient e. second.sizes.widths level orient e ∙ ap (λ (d : ℕ). subband_length d level w) deep ∙ sym (first.sizes.widths level orient (there level orient e)) ∙ other.sizes.widths level orient (there level orient e) ∙ ap (λ (d : ℕ). subband_length d level v) (sym deep);
    heights = λ level orient e. second.sizes.heights level orient e ∙ ap (λ (d : ℕ). subband_length d level h) deep ∙ sym (first.sizes.heights level orient (there level orient e)) ∙ other.sizes.heights level orient (there level orient e) ∙ ap (λ (d : ℕ). subband_length d level g) (sym deep);
  };
}
  where
    deep : b.depth ≡ a.depth
    deep = second.same_depth ∙ sym first.same_depth

    there : (level orient : ℕ) → BandExists b.depth level orient → BandExists a.depth level orient
    there level orient e = subst (λ (d : ℕ). BandExists d level orient) deep e

-- zeros of a size have it
pub zeros_sized : (b : BandStack) (depth w h : ℕ) → AreZeroBands b depth w h → AreSized depth w h b
zeros_sized b depth w h zero = record {
  same_depth = zero.same_depth;
  sizes = record {
    widths = λ level orient e. ap (λ (p : Raster ℤ). p.w) (zero.each level orient (there level orient e)) ∙ ap (λ (d : ℕ). subband_length d level w) (sym zero.same_depth);
    heights = λ level orient e.
        ap (λ (p : Raster ℤ). height p) (zero.each level orient (there level orient e))
        ∙ length-replicate (subband_length depth level h) (replicate (subband_length depth level w) (pos 0))
        ∙ ap (λ (d : ℕ). subband_length d level h) (sym zero.same_depth);
  };
}
  where
    there : (level orient : ℕ) → BandExists b.depth level orient → BandExists depth level orient
    there level orient e = subst (λ (d : ℕ). BandExists d level orient) zero.same_depth e

-- what is for the widening of bands of one size is for that of those of another, where bands have both
pub widening_as : (a : BandStack) (depth w h v g : ℕ) (widened : WidenedBands) → AreSized depth w h a → AreSized a.depth v g a → AreForWidening depth w h widened → AreForWidening a.depth v g widened
widening_as a depth w h v g widened first other are = record {
  rowless = are.rowless;
  made = λ is_made. sized_as a widened.bands depth w h v g first other (are.made is_made);
  late = λ not_made. sized_as a widened.late depth w h v g first other (are.late not_made);
  row = are.row;
}

-- a row that is written in its place keeps its length
pub length_over : {X : Type 0} (row new : List X) → length (over row new) ≡ length row
length_over row new = length-take-le (length row) (new ++ drop (length new) row) (omega (arith, length-append new (drop (length new) row), length-drop (length new) row))
