-- The coefficients of every picture are such that it can be written.
use Rattle.std.proofs.Common.{◌≡◌, ℕ, zero, suc, ◌+◌, ◌-◌, ◌*◌, ◌/◌, ◌^◌, ◌<◌, ◌≤◌, [], length, get_or, map, inl, inr, refl, sym, ap, subst, ◌∙◌, arith, ℤ}
use Rattle.std.specs.List.{range_with_len}
use Rattle.std.proofs.lemmas.List.FromFn.{get_or-map-range_with_len, length-map-range_with_len}
use Rattle.planes.specs.Numbers.{Within}
use Rattle.planes.specs.Raster.{Raster, Grid, height, at}
use Rattle.planes.specs.Subbands.{BandStack, BandExists, band_of, subband_length, HaveSizes}
use Rattle.slice_geometry.specs.declared.Size.{Size}
use Rattle.slice_geometry.specs.declared.PictureShape.{PictureShape}
use Rattle.slice_geometry.specs.Frames.{frame_of}
use Rattle.slice_geometry.specs.Geometry.{padded_length, band_size}
use Rattle.lifting.specs.declared.Wavelet.{Wavelet}
use Rattle.lifting.specs.Transform.{Coefficients, analysis}
use Rattle.lifting.specs.Ranges.{SameBands}
use Rattle.lifting.specs.Bands.{coefficients_of, HoldAnalysis}
use Rattle.lifting.proofs.Levels as levels
use Rattle.lifting.proofs.Inside.{analysis_same}
use Rattle.transform_params.specs.Params.{Params}
use Rattle.transform_params.specs.ParameterFields.{AreLawfulParams}
use Rattle.slice_encoder.specs.Ready.{AreGiven}
use Rattle.slice_encoder.specs.TrialLaws.{most_coefficient}
use Rattle.picture_codec.specs.Samples.{SamplesSeen, PictureSamples, HaveShape}
use Rattle.picture_codec.specs.Encoding.{centred, raster_from, bands_from, analysed_bands, coded_from}
use Rattle.picture_codec.specs.EncoderInside.{AreRowsWhole, AreWhole}
use Rattle.picture_codec.proofs.Sizes.{padded_whole}
use Rattle.picture_codec.proofs.AnalysedBands.{raster_at, upper_band, lowest_at, hl_at, lh_at, hh_at, bands_joined, centred_within, each_small}

-- ---- bands that are tabulated

raster_height : (w h : ℕ) (g : Grid) → height (raster_from w h g) ≡ h
raster_height w h g = length-map-range_with_len (λ y. map (g y) (range_with_len 0 w)) 0 h

raster_whole : (w h : ℕ) (g : Grid) → AreRowsWhole (raster_from w h g)
raster_whole w h g y below =
    ap length (get_or-map-range_with_len (λ j. map (g j) (range_with_len 0 w)) 0 h y y [] (omega (arith, below, raster_height w h g)) (omega arith))
    ∙ length-map-range_with_len (g y) 0 w

-- each band is the table of a grid
record IsTable (depth : ℕ) (size : Size) (c : Coefficients) (level orient : ℕ) : Type 0 where
  grid : Grid
  same : band_of (bands_from depth size c) level orient ≡ raster_from (band_size depth level size).w (band_size depth level size).h grid

upper_table : (depth : ℕ) (size : Size) (c : Coefficients) (n orient : ℕ) → n < depth → 1 ≤ orient → orient ≤ 3 → IsTable depth size c (suc n) orient
upper_table depth size c n zero lt some most = absurd (omega arith)
upper_table depth size c n (suc zero) lt some most = record { grid = c.hl (suc n); same = upper_band depth size c n 1 lt (omega arith) (omega arith) }
upper_table depth size c n (suc (suc zero)) lt some most = record { grid = c.lh (suc n); same = upper_band depth size c n 2 lt (omega arith) (omega arith) }
upper_table depth size c n (suc (suc (suc zero))) lt some most = record { grid = c.hh (suc n); same = upper_band depth size c n 3 lt (omega arith) (omega arith) }
upper_table depth size c n (suc (suc (suc (suc orient)))) lt some most = absurd (omega arith)

is_table : (depth : ℕ) (size : Size) (c : Coefficients) (level orient : ℕ) → BandExists depth level orient → IsTable depth size c level orient
is_table depth size c level orient (inl e) = subst (λ l. IsTable depth size c l orient) (sym e.0) (subst (λ o. IsTable depth size c 0 o) (sym e.1) (record { grid = c.ll; same = refl }))
is_table depth size c zero orient (inr e) = absurd (omega (arith, e.0))
is_table depth size c (suc n) orient (inr e) = upper_table depth size c n orient (omega (arith, e.1)) e.2 e.3

-- ---- the bands of a component

module _ (wavelet : Wavelet) (depth : ℕ) (size : Size) (d : ℕ) (s : SamplesSeen) (low : depth ≤ 4) (some : 1 ≤ d) (small : (k : ℕ) → get_or s.cells k 0 < 2 ^ d) where
  abbrev pub h : ℕ
  h = (band_size depth 0 size).h

  abbrev pub w : ℕ
  w = (band_size depth 0 size).w

  abbrev grid : Grid
  grid = centred d size s

  abbrev found : Coefficients
  found = analysis wavelet (band_size depth 0 size).h (band_size depth 0 size).w depth (centred d size s)

  abbrev bands : BandStack
  bands = analysed_bands wavelet depth size d s

  abbrev plane : Raster ℤ
  plane = raster_from (padded_length depth size.w) (padded_length depth size.h) (centred d size s)

  tall : height plane ≡ padded_length depth size.h
  tall = raster_height (padded_length depth size.w) (padded_length depth size.h) (centred d size s)

  next : (m : ℕ) → m + 1 ≡ suc m
  next m = omega arith

  pub level_rows : (n : ℕ) → n < depth → h * 2 ^ n ≡ (band_size depth (suc n) size).h
  level_rows n lt = sym (levels.band_size (padded_length depth size.h) depth (padded_whole depth size.h low) n lt) ∙ ap (λ (l : ℕ). subband_length depth l (padded_length depth size.h)) (next n)

  pub level_columns : (n : ℕ) → n < depth → w * 2 ^ n ≡ (band_size depth (suc n) size).w
  level_columns n lt = sym (levels.band_size (padded_length depth size.w) depth (padded_whole depth size.w low) n lt) ∙ ap (λ (l : ℕ). subband_length depth l (padded_length depth size.w)) (next n)

  pub high : h * 2 ^ depth ≡ padded_length depth size.h
  high = levels.whole_size (padded_length depth size.h) depth (padded_whole depth size.h low)

  pub wide : w * 2 ^ depth ≡ padded_length depth size.w
  wide = levels.whole_size (padded_length depth size.w) depth (padded_whole depth size.w low)

  tabulated : SameBands h w depth (coefficients_of bands) found
  tabulated = record {
    ll = λ y x ly lx. lowest_at depth size found y x ly lx;
    hl = λ n lt y x ly lx. hl_at depth size found n y x lt (omega (arith, ly, level_rows n lt)) (omega (arith, lx, level_columns n lt));
    lh = λ n lt y x ly lx. lh_at depth size found n y x lt (omega (arith, ly, level_rows n lt)) (omega (arith, lx, level_columns n lt));
    hh = λ n lt y x ly lx. hh_at depth size found n y x lt (omega (arith, ly, level_rows n lt)) (omega (arith, lx, level_columns n lt));
  }

  held : HoldAnalysis wavelet bands plane
  held =
      let again : SameBands h w depth found (analysis wavelet h w depth (at plane)) =
      analysis_same wavelet h w depth grid (at plane) (λ y x ly lx. sym (raster_at (padded_length depth size.w) (padded_length depth size.h) grid y x (omega (arith, ly, high)) (omega (arith, lx, wide)))) in
      let here : SameBands h w depth (coefficients_of bands) (analysis wavelet h w depth (at plane)) = bands_joined h w depth (coefficients_of bands) found (analysis wavelet h w depth (at plane)) tabulated again in
      subst (λ (n : ℕ). SameBands n w depth (coefficients_of bands) (analysis wavelet n w depth (at plane))) (ap (λ (n : ℕ). n / 2 ^ depth) (sym tall)) here

  sizes : HaveSizes bands (padded_length depth size.w) (padded_length depth size.h)
  sizes = record {
    widths = λ level orient exists. let t = is_table depth size found level orient exists in ap (λ (r : Raster ℤ). r.w) t.same;
    heights = λ level orient exists. let t = is_table depth size found level orient exists in ap (λ (r : Raster ℤ). height r) t.same ∙ raster_height (band_size depth level size).w (band_size depth level size).h t.grid;
  }

  whole : AreWhole bands
  whole level orient exists =
      let t = is_table depth size found level orient exists in
      subst (λ (r : Raster ℤ). AreRowsWhole r) (sym t.same) (raster_whole (band_size depth level size).w (band_size depth level size).h t.grid)

  inside : (y x : ℕ) → y < height plane → x < padded_length depth size.w → at plane y x ≡ centred d size s y x
  inside y x ly lx = raster_at (padded_length depth size.w) (padded_length depth size.h) (centred d size s) y x (omega (arith, ly, tall)) lx

  within : (y x : ℕ) → y < height plane → x < padded_length depth size.w → Within (2 ^ (d - 1)) (at plane y x)
  within y x ly lx = subst (λ (z : ℤ). Within (2 ^ (d - 1)) z) (sym (inside y x ly lx)) (centred_within d size s some small y x)

  pub small_there : (level orient y x : ℕ) → BandExists depth level orient → Within (most_coefficient depth d) (at (band_of bands level orient) y x)
  small_there = each_small wavelet size d s bands plane low some refl tall held inside within sizes whole

  pub sizes_there : HaveSizes bands (padded_length depth size.w) (padded_length depth size.h)
  sizes_there = sizes

-- ---- a picture

pub coded_is_given : (shape : PictureShape) (p : Params) (s : PictureSamples) → AreLawfulParams p → HaveShape shape s → AreGiven (coded_from (frame_of shape) p s)
coded_is_given shape p s f have =
    let low = f.allowed.depth in
    let luma_bits = shape.luma_depth_fits in
    let colour_bits = shape.colour_depth_fits in
    record {
      entries = f.deep;
      luma_bits = luma_bits;
      colour_bits = colour_bits;
      luma = record { depth = refl; sizes = sizes_there p.wavelet p.slicing.depth shape.luma shape.luma_depth s.luma low luma_bits.some have.luma.small; small = small_there p.wavelet p.slicing.depth shape.luma shape.luma_depth s.luma low luma_bits.some have.luma.small };
      c1 = record { depth = refl; sizes = sizes_there p.wavelet p.slicing.depth shape.colour shape.colour_depth s.c1 low colour_bits.some have.c1.small; small = small_there p.wavelet p.slicing.depth shape.colour shape.colour_depth s.c1 low colour_bits.some have.c1.small };
      c2 = record { depth = refl; sizes = sizes_there p.wavelet p.slicing.depth shape.colour shape.colour_depth s.c2 low colour_bits.some have.c2.small; small = small_there p.wavelet p.slicing.depth shape.colour shape.colour_depth s.c2 low colour_bits.some have.c2.small };
    }
