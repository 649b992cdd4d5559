-- The lowest band beside slices that show the others.
use Rattle.std.proofs.Common.{◌≡◌, ◌≢◌, ◌∙◌, refl, sym, ap, subst, ℕ, ◌+◌, ◌-◌, ◌*◌, ◌^◌, ◌<◌, ◌≤◌, List, ℤ, pos, length, arith, inl, inr}
use Rattle.std.proofs.lemmas.Bool.Decides.{nat_tests}
use Rattle.std.proofs.lemmas.List.{get_or-set_same, get_or-set_other, length-set}
use Rattle.planes.specs.Bounded.{IsPlaneWithin, AreBandsWithin}
use Rattle.planes.specs.Raster.{Raster, height, at}
use Rattle.planes.specs.Subbands.{BandStack, BandExists, band_index, band_of, with_band, no_band, subband_length, AgreeInSizes, HaveSizes}
use Rattle.slice_store.specs.declared.short_bands.ShortBands.{ShortBands}
use Rattle.slice_geometry.specs.Geometry.{padded_length}
use Rattle.slice_store.specs.Store.{Store}
use Rattle.slice_store.specs.Writing.{with_numbers}
use Rattle.slice_store.specs.ShortBands.{short_stack, shorts_of, IsShortSound}
use Rattle.slice_store.specs.Gathered.{ShowTheSame}
use Rattle.slice_store.proofs.Stacked.{length-counted, width_shown, height_shown}

index_some : (level orient : ℕ) → 1 ≤ level → 1 ≤ orient → band_index level orient ≢ 0
index_some level orient one some = let k : band_index level orient ≡ 3 * level + orient - 3 = grind (arith, nat_tests) in rw k (omega arith)

-- in any stack
pub lowest_of : (b : BandStack) (p : Raster ℤ) → 0 < length b.bands → band_of (with_band b 0 0 p) 0 0 ≡ p
lowest_of b p there = get_or-set_same b.bands 0 p no_band there

pub upper_of : (b : BandStack) (p : Raster ℤ) (level orient : ℕ) → 1 ≤ level → 1 ≤ orient → band_of (with_band b 0 0 p) level orient ≡ band_of b level orient
upper_of b p level orient one some = get_or-set_other b.bands 0 (band_index level orient) p no_band (index_some level orient one some)

pub some_bands : (s : Store ℤ) → 0 < length (shorts_of s).bands
some_bands s = rw (length-counted _ 0 (3 * s.slicing.depth + 1)) (omega arith)

pub stack_count : (b : ShortBands) → length (short_stack b).bands ≡ 3 * b.slices.slicing.depth + 1
stack_count b = length-set (shorts_of b.slices).bands 0 b.lowest ∙ length-counted _ 0 (3 * b.slices.slicing.depth + 1)

pub short_lowest : (b : ShortBands) → band_of (short_stack b) 0 0 ≡ b.lowest
short_lowest b = lowest_of (shorts_of b.slices) b.lowest (some_bands b.slices)

pub short_upper : (b : ShortBands) (level orient : ℕ) → 1 ≤ level → 1 ≤ orient → band_of (short_stack b) level orient ≡ band_of (shorts_of b.slices) level orient
short_upper b level orient one some = upper_of (shorts_of b.slices) b.lowest level orient one some

-- what holds of the lowest band, and of all others, holds of each
pub each_band : (depth : ℕ) (P : ℕ → ℕ → Type 0) → P 0 0 → ((level orient : ℕ) → BandExists depth level orient → 1 ≤ level → 1 ≤ orient → P level orient) → (level orient : ℕ) → BandExists depth level orient → P level orient
each_band depth P lowest upper level orient (inl e) = subst (λ (l : ℕ). P l orient) (sym e.0) (subst (λ (o : ℕ). P 0 o) (sym e.1) lowest)
each_band depth P lowest upper level orient (inr e) = upper level orient (inr e) e.0 e.2

-- other numbers in the slices
pub short_kept : (b : ShortBands) (numbers : List ℤ) → IsShortSound b → IsShortSound (record { lowest = b.lowest; slices = with_numbers b.slices numbers })
short_kept b numbers sound =
    let t : ShortBands = record { lowest = b.lowest; slices = with_numbers b.slices numbers } in
    let depth : ℕ = b.slices.slicing.depth in
    record {
      sizes = record {
        widths = each_band depth (λ level orient. (band_of (short_stack t) level orient).w ≡ subband_length depth level (padded_length depth b.slices.size.w))
            (ap (λ (p : Raster ℤ). p.w) (short_lowest t ∙ sym (short_lowest b)) ∙ sound.sizes.widths 0 0 (inl (refl, refl)))
            (λ level orient e one some. ap (λ (p : Raster ℤ). p.w) (short_upper t level orient one some) ∙ width_shown (λ z. z) (pos 0) t.slices level orient e);
        heights = each_band depth (λ level orient. height (band_of (short_stack t) level orient) ≡ subband_length depth level (padded_length depth b.slices.size.h))
            (ap (λ (p : Raster ℤ). height p) (short_lowest t ∙ sym (short_lowest b)) ∙ sound.sizes.heights 0 0 (inl (refl, refl)))
            (λ level orient e one some. ap (λ (p : Raster ℤ). height p) (short_upper t level orient one some) ∙ height_shown (λ z. z) (pos 0) t.slices level orient e);
      };
      narrow = sound.narrow;
      whole = sound.whole;
    }

module _ (b : ShortBands) (sizes : HaveSizes (shorts_of b.slices) (padded_length b.slices.slicing.depth b.slices.size.w) (padded_length b.slices.slicing.depth b.slices.size.h)) (sound : IsShortSound b) (wide : BandStack) (agree : AgreeInSizes (short_stack b) wide) where
  shorts_width : (level orient : ℕ) → BandExists b.slices.slicing.depth level orient → (band_of (shorts_of b.slices) level orient).w ≡ (band_of wide level orient).w
  shorts_width level orient e = sizes.widths level orient e ∙ sym (sound.sizes.widths level orient e) ∙ agree.widths level orient e

  shorts_height : (level orient : ℕ) → BandExists b.slices.slicing.depth level orient → height (band_of (shorts_of b.slices) level orient) ≡ height (band_of wide level orient)
  shorts_height level orient e = sizes.heights level orient e ∙ sym (sound.sizes.heights level orient e) ∙ agree.heights level orient e

  pub shorts_agree : AgreeInSizes (shorts_of b.slices) wide
  shorts_agree = record { same_depth = agree.same_depth; widths = shorts_width; heights = shorts_height }

  -- the wide bands have what the slices show, and then the lowest
  module _ (mid : BandStack) (same : ShowTheSame (shorts_of b.slices) mid) (there : 0 < length mid.bands) where
    pub lowest_width : b.lowest.w ≡ (band_of mid 0 0).w
    lowest_width = sym (ap (λ (p : Raster ℤ). p.w) (short_lowest b)) ∙ agree.widths 0 0 (inl (refl, refl)) ∙ sym (shorts_width 0 0 (inl (refl, refl))) ∙ sym (same.widths 0 0 (inl (refl, refl)))

    pub lowest_height : height b.lowest ≡ height (band_of mid 0 0)
    lowest_height = sym (ap (λ (p : Raster ℤ). height p) (short_lowest b)) ∙ agree.heights 0 0 (inl (refl, refl)) ∙ sym (shorts_height 0 0 (inl (refl, refl))) ∙ sym (same.heights 0 0 (inl (refl, refl)))

    lowest_is : band_of (with_band mid 0 0 b.lowest) 0 0 ≡ band_of (short_stack b) 0 0
    lowest_is = lowest_of mid b.lowest there ∙ sym (short_lowest b)

    pub shows_all : ShowTheSame (short_stack b) (with_band mid 0 0 b.lowest)
    shows_all = record {
      same_depth = same.same_depth;
      widths = each_band b.slices.slicing.depth (λ level orient. (band_of (with_band mid 0 0 b.lowest) level orient).w ≡ (band_of (short_stack b) level orient).w)
          (ap (λ (p : Raster ℤ). p.w) lowest_is)
          (λ level orient e one some. ap (λ (p : Raster ℤ). p.w) (upper_of mid b.lowest level orient one some) ∙ same.widths level orient e ∙ sym (ap (λ (p : Raster ℤ). p.w) (short_upper b level orient one some)));
      heights = each_band b.slices.slicing.depth (λ level orient. height (band_of (with_band mid 0 0 b.lowest) level orient) ≡ height (band_of (short_stack b) level orient))
          (ap (λ (p : Raster ℤ). height p) lowest_is)
          (λ level orient e one some. ap (λ (p : Raster ℤ). height p) (upper_of mid b.lowest level orient one some) ∙ same.heights level orient e ∙ sym (ap (λ (p : Raster ℤ). height p) (short_upper b level orient one some)));
      places = λ level orient y x e. each_band b.slices.slicing.depth (λ level orient. at (band_of (with_band mid 0 0 b.lowest) level orient) y x ≡ at (band_of (short_stack b) level orient) y x)
          (ap (λ (p : Raster ℤ). at p y x) lowest_is)
          (λ level orient e one some. ap (λ (p : Raster ℤ). at p y x) (upper_of mid b.lowest level orient one some) ∙ same.places level orient y x e ∙ sym (ap (λ (p : Raster ℤ). at p y x) (short_upper b level orient one some)))
          level orient e;
    }

    pub all_narrow : AreBandsWithin (pos (2 ^ 18)) mid → AreBandsWithin (pos (2 ^ 18)) (with_band mid 0 0 b.lowest)
    all_narrow within level orient e =
        each_band mid.depth (λ level orient. IsPlaneWithin (pos (2 ^ 18)) (band_of (with_band mid 0 0 b.lowest) level orient))
        (subst (λ (p : Raster ℤ). IsPlaneWithin (pos (2 ^ 18)) p) (sym (lowest_of mid b.lowest there)) sound.narrow)
        (λ level orient e one some. subst (λ (p : Raster ℤ). IsPlaneWithin (pos (2 ^ 18)) p) (sym (upper_of mid b.lowest level orient one some)) (within level orient e))
        level orient e
