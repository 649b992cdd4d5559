-- All slices of a unit, and its picture.
use Rattle.std.proofs.Common.{◌≡◌, ℕ, zero, suc, ◌+◌, ◌-◌, ◌*◌, ◌/◌, ◌%◌, ◌^◌, ◌<◌, ◌≤◌, inl, inr, refl, sym, ap, subst, ◌∙◌, arith, List, [], ◌∷◌, length, map, get_or}
use Rattle.std.specs.Prelude.{ℤ, pos, neg_ℤ, ◌+ℤ◌, unsigned_abs, nat_lt, if◌then◌else◌, Option, None, Some}
use Rattle.std.specs.Int.{int_min, int_max}
use Rattle.std.specs.List.{range_with_len}
use Rattle.std.proofs.lemmas.Int.{ints, int_max_is, int_min_is}
use Rattle.std.proofs.lemmas.Bool.{cases_lt}
use Rattle.std.proofs.lemmas.List.FromFn.{length-map-range_with_len, get_or-map-range_with_len}
use Rattle.planes.specs.Raster.{at}
use Rattle.planes.specs.declared.Trio.{Trio}
use Rattle.planes.specs.Subbands.{BandStack, band_of, subband_length}
use Rattle.slice_geometry.specs.declared.Size.{Size}
use Rattle.slice_geometry.specs.declared.PictureShape.{PictureShape}
use Rattle.slice_geometry.specs.declared.Component.{Component}
use Rattle.slice_geometry.specs.Shape.{IsDepth, IsSize}
use Rattle.slice_geometry.specs.declared.Component.TheVariants.{Luma, C1, C2}
use Rattle.slice_decoder.proofs.Decodes.{lt_tests, ge_tests}
use Rattle.slice_geometry.specs.Slicing.{Slicing, IsAllowed, AreSlicesAllowed, slice_count}
use Rattle.slice_geometry.specs.Geometry.{padded_length, band_size}
use Rattle.lifting.specs.Bands.{coefficients_of, lowest}
use Rattle.lifting.specs.Ranges.{SameInside, SameBands}
use Rattle.lifting.specs.Transform.{Grid, synthesis}
use Rattle.lifting.proofs.Inside.{synthesis_same}
use Rattle.lifting.proofs.Levels as levels
use Rattle.transform_params.specs.Params.{Params}
use Rattle.slice_geometry.specs.Frames.{Frame, frame_of}
use Rattle.picture_codec.specs.Pictures.{size_of, depth_of, coefficient, coefficients, sample_of, sample}
use Rattle.picture_codec.specs.Samples.{SamplesSeen, PictureSamples, samples_by, AreSamples, picture_of}
use Rattle.picture_codec.specs.Taking.{holder, Took}
use Rattle.picture_codec.specs.Decoding.{PictureDecoderSeen, AreTaken, AllTaken, HasTaken, CanSynthesise, AllCanSynthesise, HoldUnit, synthesised, synthesised_picture}
use Rattle.picture_codec.proofs.Halves.{half_some, doubled}
use Rattle.picture_codec.proofs.Tables.{tabulated_same, positive}
use Rattle.picture_codec.proofs.Sizes.{padded_whole, padded_covers, holder_below, small_in}

-- ---- samples fit

offset_small : (h : ℕ) (v : ℤ) → 1 ≤ h → unsigned_abs (int_max (neg_ℤ (pos h)) (int_min (pos (h - 1)) v) +ℤ pos h) < 2 * h
offset_small h v some = omega (arith, ints, int_max_is (neg_ℤ (pos h)) (int_min (pos (h - 1)) v), int_min_is (pos (h - 1)) v)

pub sample_small : (depth : ℕ) (v : ℤ) → IsDepth depth → sample_of depth v < 2 ^ depth
sample_small depth v is = subst (λ n. sample_of depth v < n) (sym (doubled depth is.some)) (offset_small (2 ^ (depth - 1)) v (half_some depth))

past_end : (xs : List ℕ) (k : ℕ) → length xs ≤ k → get_or xs k 0 ≡ 0
past_end [] k le = refl
past_end (x ∷ xs) zero le = absurd (omega arith)
past_end (x ∷ xs) (suc k) le = past_end xs k (omega arith)

pub tabulated_fits : (size : Size) (depth : ℕ) (g : ℕ → ℕ → ℕ) → ((y x : ℕ) → g y x < 2 ^ depth) → AreSamples size depth (samples_by size g)
tabulated_fits size depth g each =
    let f : ℕ → ℕ = λ k. g (k / size.w) (k % size.w) in
    let n = size.h * size.w in
    record {
      width = refl;
      height = refl;
      small = λ k. elim (cases_lt k n) [
        | inl lt ↦ subst (λ v. v < 2 ^ depth) (sym (get_or-map-range_with_len f 0 n k k 0 lt (omega arith))) (each (k / size.w) (k % size.w))
        | inr le ↦ subst (λ v. v < 2 ^ depth) (sym (past_end (map f (range_with_len 0 n)) k (omega (arith, le, length-map-range_with_len f 0 n)))) (positive depth)
      ];
    }

-- what a picture shows of a plane has the component's size
pub shown_fits : (size : Size) (depth w h : ℕ) (g : Grid) → w ≡ size.w → h ≡ size.h → IsDepth depth → AreSamples size depth (samples_by (record { w = w; h = h }) (λ y x. sample_of depth (g y x)))
shown_fits size depth w h g ew eh is =
    let fits = tabulated_fits (record { w = w; h = h }) depth (λ y x. sample_of depth (g y x)) (λ y x. sample_small depth (g y x) is) in
    record { width = ew; height = eh; small = fits.small }

-- ---- the picture of the unit

module _ (f : Frame) (p : Params) (slices : List (List ℕ)) (c : Component) (b : BandStack) (deep : b.depth ≡ p.slicing.depth) (allowed : AreSlicesAllowed p.slicing) (low : p.slicing.depth ≤ 4) (took : Took f p slices c b) (all : length slices ≡ slice_count p.slicing) where
  abbrev size : Size
  size = size_of f c

  abbrev depth : ℕ
  depth = p.slicing.depth

  abbrev band : ℕ → Size
  band level = band_size depth level size

  held : (level y x : ℕ) → y < (band level).h → x < (band level).w → holder p.slicing (band level) y x < length slices
  held level y x y_in x_in = subst (λ n. holder p.slicing (band level) y x < n) (sym all) (holder_below p.slicing (band level) y x allowed y_in x_in)

  is_next : (m : ℕ) → m + 1 ≡ suc m
  is_next m = omega arith

  rows : (m : ℕ) → m < depth → lowest depth (padded_length depth size.h) * 2 ^ m ≡ (band (suc m)).h
  rows m lt = sym (levels.band_size (padded_length depth size.h) depth (padded_whole depth size.h low) m lt) ∙ ap (λ (l : ℕ). subband_length depth l (padded_length depth size.h)) (is_next m)

  columns : (m : ℕ) → m < depth → lowest depth (padded_length depth size.w) * 2 ^ m ≡ (band (suc m)).w
  columns m lt = sym (levels.band_size (padded_length depth size.w) depth (padded_whole depth size.w low) m lt) ∙ ap (λ (l : ℕ). subband_length depth l (padded_length depth size.w)) (is_next m)

  upper : (m orient : ℕ) → m < depth → 1 ≤ orient → orient ≤ 3 → SameInside ((band 0).h * 2 ^ m) ((band 0).w * 2 ^ m) (at (band_of b (suc m) orient)) (coefficient f p slices c (suc m) orient)
  upper m orient lt some few y x ly lx =
      let y_in : y < (band (suc m)).h = subst (λ v. y < v) (rows m lt) ly in
      let x_in : x < (band (suc m)).w = subst (λ v. x < v) (columns m lt) lx in
      took.upper (suc m) orient y x (inr (omega arith, omega arith, some, few)) (omega arith) y_in x_in (held (suc m) y x y_in x_in)

  pub same_bands : SameBands (band 0).h (band 0).w depth (coefficients_of b) (coefficients f p slices c)
  same_bands = record {
    ll = λ y x y_in x_in. took.lowest y x y_in x_in (held 0 y x y_in x_in);
    hl = λ m lt. upper m 1 lt (omega arith) (omega arith);
    lh = λ m lt. upper m 2 lt (omega arith) (omega arith);
    hh = λ m lt. upper m 3 lt (omega arith) (omega arith);
  }

  pub picture_is : synthesised p.wavelet size (depth_of f c) b ≡ samples_by size (sample f p slices c)
  unfolding synthesised sample
  picture_is =
      ap (λ (d : ℕ). samples_by size (λ y x. sample_of (depth_of f c) (synthesis p.wavelet (band_size d 0 size).h (band_size d 0 size).w (coefficients_of b) d y x))) deep
      ∙ tabulated_same size (λ y x. sample_of (depth_of f c) (synthesis p.wavelet (band 0).h (band 0).w (coefficients_of b) depth y x)) (sample f p slices c)
      (λ y x y_in x_in. ap (λ v. sample_of (depth_of f c) v)
      (synthesis_same p.wavelet (band 0).h (band 0).w depth (coefficients_of b) (coefficients f p slices c) same_bands depth (omega arith) y x
      (omega (arith, y_in, padded_covers depth size.h low, levels.whole_size (padded_length depth size.h) depth (padded_whole depth size.h low)))
      (omega (arith, x_in, padded_covers depth size.w low, levels.whole_size (padded_length depth size.w) depth (padded_whole depth size.w low)))))

-- all three components
pub unit_is : (d : PictureDecoderSeen) (slices : List (List ℕ)) (n : ℕ) → IsAllowed d.params.slicing → AllTaken d.params.slicing d.shape n d.bands → HasTaken slices d → length slices ≡ slice_count d.params.slicing
    → synthesised_picture d ≡ picture_of (frame_of d.shape) d.params slices
unit_is d slices n allowed taken has all =
    let f = frame_of d.shape in
    let s = synthesised_picture d in
    let luma = picture_is f d.params slices Luma d.bands.luma taken.luma.depth allowed.slices allowed.depth (has.each Luma) all in
    let c1 = picture_is f d.params slices C1 d.bands.c1 taken.c1.depth allowed.slices allowed.depth (has.each C1) all in
    let c2 = picture_is f d.params slices C2 d.bands.c2 taken.c2.depth allowed.slices allowed.depth (has.each C2) all in
    let first : SamplesSeen → PictureSamples = λ r. record { luma = r; c1 = s.c1; c2 = s.c2 } in
    let second : SamplesSeen → PictureSamples = λ r. record { luma = samples_by f.luma (sample f d.params slices Luma); c1 = r; c2 = s.c2 } in
    let third : SamplesSeen → PictureSamples = λ r. record { luma = samples_by f.luma (sample f d.params slices Luma); c1 = samples_by f.colour (sample f d.params slices C1); c2 = r } in
    ap first luma ∙ ap second c1 ∙ ap third c2

-- the bands of all three, where all slices were taken
pub unit_held : (d : PictureDecoderSeen) (slices : List (List ℕ)) (n : ℕ) → IsAllowed d.params.slicing → AllTaken d.params.slicing d.shape n d.bands → HasTaken slices d → length slices ≡ slice_count d.params.slicing
    → HoldUnit (frame_of d.shape) d.params slices d.bands
unit_held d slices n allowed taken has all Luma = same_bands (frame_of d.shape) d.params slices Luma d.bands.luma taken.luma.depth allowed.slices allowed.depth (has.each Luma) all
unit_held d slices n allowed taken has all C1 = same_bands (frame_of d.shape) d.params slices C1 d.bands.c1 taken.c1.depth allowed.slices allowed.depth (has.each C1) all
unit_held d slices n allowed taken has all C2 = same_bands (frame_of d.shape) d.params slices C2 d.bands.c2 taken.c2.depth allowed.slices allowed.depth (has.each C2) all

-- and what synthesis asks of them
pub all_can : (s : Slicing) (shape : PictureShape) (n : ℕ) (bands : Trio) → IsAllowed s → AllTaken s shape n bands → n ≡ slice_count s → AllCanSynthesise s shape bands
all_can s shape n bands allowed taken all =
    let can : (size : Size) (b : BandStack) → AreTaken s size n b → IsSize size.w size.h → CanSynthesise s size b = λ size b t is. record { depth = t.depth; sizes = t.sizes; small = small_in s size b n t allowed.depth is all allowed.slices } in
    record {
      luma = can shape.luma bands.luma taken.luma shape.luma_fits;
      c1 = can shape.colour bands.c1 taken.c1 shape.colour_fits;
      c2 = can shape.colour bands.c2 taken.c2 shape.colour_fits;
    }

-- ---- what is wanted

is_some : Option ℕ → ℕ
is_some (Some n) = n + 1
is_some None = 0

pub wanted_none : (next count share : ℕ) → (if nat_lt next count then Some share else None) ≡ None → count ≤ next
unfolding is_some
wanted_none next count share e = elim (cases_lt next count) [
  | inl lt ↦ let chosen : Some share ≡ None = ap (λ b. if b then Some share else None) (sym (lt_tests next count lt)) ∙ e in absurd (omega (arith, ap is_some chosen))
  | inr le ↦ le
]

pub wanted_some : (next count share len : ℕ) → Some len ≡ (if nat_lt next count then Some share else None) → (next < count) × (len ≡ share)
unfolding is_some
wanted_some next count share len e = elim (cases_lt next count) [
  | inl lt ↦ let chosen : Some len ≡ Some share = e ∙ ap (λ b. if b then Some share else None) (lt_tests next count lt) in (lt, omega (arith, ap is_some chosen))
  | inr le ↦ let chosen : Some len ≡ None = e ∙ ap (λ b. if b then Some share else None) (ge_tests next count le) in absurd (omega (arith, ap is_some chosen))
]
