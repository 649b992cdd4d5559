-- The bands that analysis leaves are the definition's, at each place of each band.
use Rattle.std.proofs.Common.{◌≡◌, ℕ, zero, suc, ◌+◌, ◌-◌, ◌*◌, ◌/◌, ◌%◌, ◌^◌, ◌<◌, ◌≤◌, List, [], ◌∷◌, ◌++◌, length, get_or, map, inl, inr, cond, eqb, false, refl, sym, ap, subst, ◌∙◌, arith, ℤ, pos}
use Rattle.std.specs.Prelude.{◌-ℤ◌, min}
use Rattle.std.specs.List.{flat_map, range_with_len}
use Rattle.std.proofs.lemmas.Int.{ints}
use Rattle.std.proofs.lemmas.Bool.{cases_lt}
use Rattle.std.proofs.lemmas.List.{get_or_append_left, get_or-append-add, get_or_past}
use Rattle.std.proofs.lemmas.List.FromFn.{get_or-map-range_with_len}
use Rattle.std.proofs.Math.Nat.{pow-suc, pow-le-pow_right}
use Rattle.planes.specs.Numbers.{Within}
use Rattle.planes.specs.Raster.{Raster, Grid, height, row_of, at}
use Rattle.planes.specs.Subbands.{BandStack, BandExists, band_of, band_index, subband_length, HaveSizes}
use Rattle.slice_geometry.specs.declared.Size.{Size}
use Rattle.slice_geometry.specs.Slicing.{Slicing}
use Rattle.slice_geometry.specs.Geometry.{padded_length, band_size}
use Rattle.lifting.specs.declared.Wavelet.{Wavelet}
use Rattle.lifting.specs.Transform.{Coefficients, analysis}
use Rattle.lifting.specs.Ranges.{GridWithin, SameInside, SameBands, BandsWithin}
use Rattle.lifting.specs.Bands.{coefficients_of, lowest, HoldAnalysis, SameSizes}
use Rattle.lifting.proofs.Levels as levels
use Rattle.lifting.proofs.Inside.{analysis_same}
use Rattle.lifting.proofs.GivenBack.{held_bounded}
use Rattle.transform_params.specs.Params.{Params}
use Rattle.picture_codec.specs.Samples.{SamplesSeen}
use Rattle.picture_codec.specs.Encoding.{centred, raster_from, level_bands, bands_from, analysed_bands}
use Rattle.picture_codec.specs.EncoderInside.{AreRowsWhole, AreWhole}
use Rattle.slice_encoder.proofs.Made.{zero_within}
use Rattle.picture_codec.proofs.Sizes.{padded_whole}

-- ---- bands that are tabulated

pub raster_at : (w h : ℕ) (g : Grid) (y x : ℕ) → y < h → x < w → at (raster_from w h g) y x ≡ g y x
raster_at w h g y x ly lx =
    ap (λ r. get_or r x (pos 0)) (get_or-map-range_with_len (λ j. map (g j) (range_with_len 0 w)) 0 h y y [] ly (omega arith))
    ∙ get_or-map-range_with_len (g y) 0 w x x (pos 0) lx (omega arith)

-- one of three, and three more for each number
one_of_three : {X : Type 0} (f : ℕ → List X) (d : X) → ((i : ℕ) → length (f i) ≡ 3) → (n a m k : ℕ) → n < m → k < 3 → get_or (flat_map f (range_with_len a m)) (3 * n + k) d ≡ get_or (f (a + n)) k d
one_of_three f d three n a zero k lt few = absurd (omega arith)
one_of_three f d three zero a (suc m) k lt few =
    let first : 3 * 0 + k ≡ k = omega arith in
    let same : a ≡ a + 0 = omega arith in
    ap (λ i. get_or (f a ++ flat_map f (range_with_len (a + 1) m)) i d) first
    ∙ (get_or_append_left (f a) (flat_map f (range_with_len (a + 1) m)) d k (omega (arith, three a))
    ∙ ap (λ i. get_or (f i) k d) same)
one_of_three f d three (suc n) a (suc m) k lt few =
    let more : 3 * suc n + k ≡ length (f a) + (3 * n + k) = omega (arith, three a) in
    let next : a + 1 + n ≡ a + suc n = omega arith in
    ap (λ i. get_or (f a ++ flat_map f (range_with_len (a + 1) m)) i d) more
    ∙ (get_or-append-add (f a) (flat_map f (range_with_len (a + 1) m)) (3 * n + k) d
    ∙ (one_of_three f d three n (a + 1) m k (omega arith) few
    ∙ ap (λ i. get_or (f i) k d) next))

module _ (depth : ℕ) (size : Size) (c : Coefficients) where
  pub upper_band : (n orient : ℕ) → n < depth → 1 ≤ orient → orient ≤ 3 → band_of (bands_from depth size c) (suc n) orient ≡ get_or (level_bands depth size c (suc n)) (orient - 1) (record { w = 0; rows = [] })
  upper_band n orient lt some most =
      let test : eqb (suc n) 0 ≡ false = grind arith in
      let at_place : band_index (suc n) orient ≡ suc (3 * n + (orient - 1)) = ap (λ b. cond b 0 (3 * suc n + orient - 3)) test ∙ omega arith in
      let next : 1 + n ≡ suc n = omega arith in
      let lowest_band : Raster ℤ = raster_from (band_size depth 0 size).w (band_size depth 0 size).h c.ll in
      ap (λ i. get_or (lowest_band ∷ flat_map (level_bands depth size c) (range_with_len 1 depth)) i (record { w = 0; rows = [] })) at_place
      ∙ (one_of_three (level_bands depth size c) (record { w = 0; rows = [] }) (λ i. refl) n 1 depth (orient - 1) lt (omega arith)
      ∙ ap (λ i. get_or (level_bands depth size c i) (orient - 1) (record { w = 0; rows = [] })) next)

  pub lowest_at : (y x : ℕ) → y < (band_size depth 0 size).h → x < (band_size depth 0 size).w → at (band_of (bands_from depth size c) 0 0) y x ≡ c.ll y x
  lowest_at y x ly lx = raster_at (band_size depth 0 size).w (band_size depth 0 size).h c.ll y x ly lx

  pub hl_at : (n y x : ℕ) → n < depth → y < (band_size depth (suc n) size).h → x < (band_size depth (suc n) size).w → at (band_of (bands_from depth size c) (suc n) 1) y x ≡ c.hl (suc n) y x
  hl_at n y x lt ly lx = ap (λ r. at r y x) (upper_band n 1 lt (omega arith) (omega arith)) ∙ raster_at (band_size depth (suc n) size).w (band_size depth (suc n) size).h (c.hl (suc n)) y x ly lx

  pub lh_at : (n y x : ℕ) → n < depth → y < (band_size depth (suc n) size).h → x < (band_size depth (suc n) size).w → at (band_of (bands_from depth size c) (suc n) 2) y x ≡ c.lh (suc n) y x
  lh_at n y x lt ly lx = ap (λ r. at r y x) (upper_band n 2 lt (omega arith) (omega arith)) ∙ raster_at (band_size depth (suc n) size).w (band_size depth (suc n) size).h (c.lh (suc n)) y x ly lx

  pub hh_at : (n y x : ℕ) → n < depth → y < (band_size depth (suc n) size).h → x < (band_size depth (suc n) size).w → at (band_of (bands_from depth size c) (suc n) 3) y x ≡ c.hh (suc n) y x
  hh_at n y x lt ly lx = ap (λ r. at r y x) (upper_band n 3 lt (omega arith) (omega arith)) ∙ raster_at (band_size depth (suc n) size).w (band_size depth (suc n) size).h (c.hh (suc n)) y x ly lx

-- the grid that a band holds
module _ (depth : ℕ) (size : Size) (c : Coefficients) (b : BandStack) (same : SameBands (band_size depth 0 size).h (band_size depth 0 size).w depth (coefficients_of b) c)
    (rows : (n : ℕ) → n < depth → (band_size depth 0 size).h * 2 ^ n ≡ (band_size depth (suc n) size).h) (columns : (n : ℕ) → n < depth → (band_size depth 0 size).w * 2 ^ n ≡ (band_size depth (suc n) size).w) where
  abbrev Holds : ℕ → ℕ → Type 0
  Holds level orient = (y x : ℕ) → y < (band_size depth level size).h → x < (band_size depth level size).w → at (band_of b level orient) y x ≡ at (band_of (bands_from depth size c) level orient) y x

  upper_holds : (n orient : ℕ) → n < depth → 1 ≤ orient → orient ≤ 3 → Holds (suc n) orient
  upper_holds n zero lt some most = absurd (omega arith)
  upper_holds n (suc zero) lt some most = λ y x ly lx. same.hl n lt y x (omega (arith, ly, rows n lt)) (omega (arith, lx, columns n lt)) ∙ sym (hl_at depth size c n y x lt ly lx)
  upper_holds n (suc (suc zero)) lt some most = λ y x ly lx. same.lh n lt y x (omega (arith, ly, rows n lt)) (omega (arith, lx, columns n lt)) ∙ sym (lh_at depth size c n y x lt ly lx)
  upper_holds n (suc (suc (suc zero))) lt some most = λ y x ly lx. same.hh n lt y x (omega (arith, ly, rows n lt)) (omega (arith, lx, columns n lt)) ∙ sym (hh_at depth size c n y x lt ly lx)
  upper_holds n (suc (suc (suc (suc orient)))) lt some most = absurd (omega arith)

  pub each_holds : (level orient : ℕ) → BandExists depth level orient → Holds level orient
  each_holds level orient (inl e) = subst (λ l. Holds l orient) (sym e.0) (subst (λ o. Holds 0 o) (sym e.1) (λ y x ly lx. same.ll y x ly lx ∙ sym (lowest_at depth size c y x ly lx)))
  each_holds zero orient (inr e) = absurd (omega (arith, e.0))
  each_holds (suc n) orient (inr e) = upper_holds n orient (omega (arith, e.1)) e.2 e.3

-- ---- the range

-- nothing lies outside a whole plane
pub outside_within : (m : ℕ) (p : Raster ℤ) → AreRowsWhole p → ((y x : ℕ) → y < height p → x < p.w → Within m (at p y x)) → (y x : ℕ) → Within m (at p y x)
outside_within m p whole inside y x = elim (cases_lt y (height p)) as (λ _. Within m (at p y x)) [
  | inr below ↦
      let none : row_of p y ≡ [] = get_or_past p.rows y [] (omega arith) in
      let zero_there : at p y x ≡ pos 0 = ap (λ r. get_or r x (pos 0)) none in
      rw zero_there (zero_within m)
  | inl here ↦ elim (cases_lt x p.w) as (λ _. Within m (at p y x)) [
    | inl there ↦ inside y x here there
    | inr beyond ↦
        let zero_there : at p y x ≡ pos 0 = get_or_past (row_of p y) x (pos 0) (omega (arith, whole y here)) in
        rw zero_there (zero_within m)
  ]
]

pub centred_within : (d : ℕ) (size : Size) (s : SamplesSeen) → 1 ≤ d → ((k : ℕ) → get_or s.cells k 0 < 2 ^ d) → (y x : ℕ) → Within (2 ^ (d - 1)) (centred d size s y x)
centred_within (suc e) size s some small y x =
    let v = get_or s.cells (min y (size.h - 1) * s.w + min x (size.w - 1)) 0 in
    let low : v < 2 ^ suc e = small (min y (size.h - 1) * s.w + min x (size.w - 1)) in
    let twice : 2 ^ suc e ≡ 2 * 2 ^ e = rw pow-suc (omega arith) in
    let same : suc e - 1 ≡ e = omega arith in
    subst (λ (k : ℕ). Within (2 ^ k) (pos v -ℤ pos (2 ^ k))) (sym same) (record { low = omega (arith, ints, low, twice); high = omega (arith, ints, low, twice) })
centred_within zero size s some small y x = absurd (omega arith)

-- ---- a component

pub bands_joined : (h w depth : ℕ) (a b c : Coefficients) → SameBands h w depth a b → SameBands h w depth b c → SameBands h w depth a c
bands_joined h w depth a b c first second = record {
  ll = λ y x ly lx. first.ll y x ly lx ∙ second.ll y x ly lx;
  hl = λ n lt y x ly lx. first.hl n lt y x ly lx ∙ second.hl n lt y x ly lx;
  lh = λ n lt y x ly lx. first.lh n lt y x ly lx ∙ second.lh n lt y x ly lx;
  hh = λ n lt y x ly lx. first.hh n lt y x ly lx ∙ second.hh n lt y x ly lx;
}

module _ (wavelet : Wavelet) (size : Size) (d : ℕ) (s : SamplesSeen) (b : BandStack) (plane : Raster ℤ) (low : b.depth ≤ 4) (some : 1 ≤ d)
    (columns : plane.w ≡ padded_length b.depth size.w) (rows : height plane ≡ padded_length b.depth size.h) (held : HoldAnalysis wavelet b plane)
    (values : SameInside (height plane) plane.w (at plane) (centred d size s)) (small : GridWithin (height plane) plane.w (2 ^ (d - 1)) (at plane))
    (sizes : HaveSizes b (padded_length b.depth size.w) (padded_length b.depth size.h)) (whole : AreWhole b) where
  abbrev h : ℕ
  h = (band_size b.depth 0 size).h

  abbrev w : ℕ
  w = (band_size b.depth 0 size).w

  rows_low : lowest b.depth (height plane) ≡ h
  rows_low = ap (λ (n : ℕ). n / 2 ^ b.depth) rows

  columns_low : lowest b.depth plane.w ≡ w
  columns_low = ap (λ (n : ℕ). n / 2 ^ b.depth) columns

  whole_rows : height plane % 2 ^ b.depth ≡ 0
  whole_rows = ap (λ (n : ℕ). n % 2 ^ b.depth) rows ∙ padded_whole b.depth size.h low

  whole_columns : plane.w % 2 ^ b.depth ≡ 0
  whole_columns = ap (λ (n : ℕ). n % 2 ^ b.depth) columns ∙ padded_whole b.depth size.w low

  is_next : (m : ℕ) → m + 1 ≡ suc m
  is_next m = omega arith

  level_rows : (n : ℕ) → n < b.depth → h * 2 ^ n ≡ (band_size b.depth (suc n) size).h
  level_rows n lt = sym (levels.band_size (padded_length b.depth size.h) b.depth (padded_whole b.depth size.h low) n lt) ∙ ap (λ (l : ℕ). subband_length b.depth l (padded_length b.depth size.h)) (is_next n)

  level_columns : (n : ℕ) → n < b.depth → w * 2 ^ n ≡ (band_size b.depth (suc n) size).w
  level_columns n lt = sym (levels.band_size (padded_length b.depth size.w) b.depth (padded_whole b.depth size.w low) n lt) ∙ ap (λ (l : ℕ). subband_length b.depth l (padded_length b.depth size.w)) (is_next n)

  high : h * 2 ^ b.depth ≡ height plane
  high = ap (λ (n : ℕ). n * 2 ^ b.depth) (sym rows_low) ∙ levels.whole_size (height plane) b.depth whole_rows

  wide : w * 2 ^ b.depth ≡ plane.w
  wide = ap (λ (n : ℕ). n * 2 ^ b.depth) (sym columns_low) ∙ levels.whole_size plane.w b.depth whole_columns

  same : SameBands h w b.depth (coefficients_of b) (analysis wavelet h w b.depth (centred d size s))
  same =
      let first : SameBands h (lowest b.depth plane.w) b.depth (coefficients_of b) (analysis wavelet h (lowest b.depth plane.w) b.depth (at plane)) =
      subst (λ (n : ℕ). SameBands n (lowest b.depth plane.w) b.depth (coefficients_of b) (analysis wavelet n (lowest b.depth plane.w) b.depth (at plane))) rows_low held in
      let second : SameBands h w b.depth (coefficients_of b) (analysis wavelet h w b.depth (at plane)) =
      subst (λ (n : ℕ). SameBands h n b.depth (coefficients_of b) (analysis wavelet h n b.depth (at plane))) columns_low first in
      bands_joined h w b.depth (coefficients_of b) (analysis wavelet h w b.depth (at plane)) (analysis wavelet h w b.depth (centred d size s)) second
      (analysis_same wavelet h w b.depth (at plane) (centred d size s) (λ y x ly lx. values y x (omega (arith, ly, high)) (omega (arith, lx, wide))))

  pub each_value : (level orient y x : ℕ) → BandExists b.depth level orient → y < (band_size b.depth level size).h → x < (band_size b.depth level size).w
      → at (band_of b level orient) y x ≡ at (band_of (analysed_bands wavelet b.depth size d s) level orient) y x
  each_value level orient y x exists ly lx = each_holds b.depth size (analysis wavelet h w b.depth (centred d size s)) b same level_rows level_columns level orient exists y x ly lx

  bounded : BandsWithin h w b.depth (2 ^ (d - 1 + 3 * b.depth)) (2 ^ (d - 1 + 3 * b.depth)) (coefficients_of b)
  bounded =
      let m = 2 ^ (d - 1 + 3 * b.depth) in
      let first : BandsWithin h (lowest b.depth plane.w) b.depth m m (coefficients_of b) =
      subst (λ (n : ℕ). BandsWithin n (lowest b.depth plane.w) b.depth m m (coefficients_of b)) rows_low (held_bounded wavelet b plane whole_columns whole_rows held d some small) in
      subst (λ (n : ℕ). BandsWithin h n b.depth m m (coefficients_of b)) columns_low first

  upper_small : (n orient : ℕ) → n < b.depth → 1 ≤ orient → orient ≤ 3 → GridWithin (h * 2 ^ n) (w * 2 ^ n) (2 ^ (d - 1 + 3 * b.depth)) (at (band_of b (suc n) orient))
  upper_small n zero lt first last = absurd (omega arith)
  upper_small n (suc zero) lt first last = bounded.hl n lt
  upper_small n (suc (suc zero)) lt first last = bounded.lh n lt
  upper_small n (suc (suc (suc zero))) lt first last = bounded.hh n lt
  upper_small n (suc (suc (suc (suc orient)))) lt first last = absurd (omega arith)

  inside_small : (level orient : ℕ) → BandExists b.depth level orient → (y x : ℕ) → y < height (band_of b level orient) → x < (band_of b level orient).w → Within (2 ^ (d - 1 + 3 * b.depth)) (at (band_of b level orient) y x)
  inside_small level orient (inl e) y x ly lx =
      let tall = sizes.heights level orient (inl e) in
      let broad = sizes.widths level orient (inl e) in
      let y_in : y < h = omega (arith, ly, tall, ap (λ (l : ℕ). subband_length b.depth l (padded_length b.depth size.h)) e.0) in
      let x_in : x < w = omega (arith, lx, broad, ap (λ (l : ℕ). subband_length b.depth l (padded_length b.depth size.w)) e.0) in
      subst (λ (l : ℕ). Within (2 ^ (d - 1 + 3 * b.depth)) (at (band_of b l orient) y x)) (sym e.0)
      (subst (λ (o : ℕ). Within (2 ^ (d - 1 + 3 * b.depth)) (at (band_of b 0 o) y x)) (sym e.1) (bounded.ll y x y_in x_in))
  inside_small zero orient (inr e) y x ly lx = absurd (omega (arith, e.0))
  inside_small (suc n) orient (inr e) y x ly lx =
      let lt : n < b.depth = omega (arith, e.1) in
      upper_small n orient lt e.2 e.3 y x (omega (arith, ly, sizes.heights (suc n) orient (inr e), level_rows n lt)) (omega (arith, lx, sizes.widths (suc n) orient (inr e), level_columns n lt))

  pub each_small : (level orient y x : ℕ) → BandExists b.depth level orient → Within (2 ^ (d - 1 + 3 * b.depth)) (at (band_of b level orient) y x)
  each_small level orient y x exists = outside_within (2 ^ (d - 1 + 3 * b.depth)) (band_of b level orient) (whole level orient exists) (inside_small level orient exists) y x

-- ---- bits

pub shift_small : (d : ℕ) → d ≤ 16 → 2 ^ (d - 1) ≤ 2 ^ 15
shift_small d most =
    let two : 0 < 2 = omega arith in
    let few : d - 1 ≤ 15 = omega arith in
    pow-le-pow_right two few
