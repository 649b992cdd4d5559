use Rattle.std.proofs.Common.{◌≡◌, ◌∙◌, sym, ap, subst, refl, ℕ, ◌+◌, ◌-◌, ◌*◌, ◌^◌, ◌<◌, ◌≤◌, arith, inl, inr, ℤ}
use Rattle.std.proofs.lemmas.Bool.{cases_eq}
use Rattle.std.proofs.lemmas.Bool.Decides.{nat_tests}
use Rattle.planes.specs.Numbers.{Within}
use Rattle.planes.specs.Raster.{Raster, height, at}
use Rattle.planes.specs.Subbands.{BandStack, BandExists, band_index, band_of, subband_length, HaveSizes}
use Rattle.planes.proofs.Floors.{wider}
use Rattle.quant_factors.specs.Weights.{Weights}
use Rattle.slice_geometry.specs.declared.Size.{Size}
use Rattle.slice_geometry.specs.Slicing.{Slicing}
use Rattle.slice_geometry.specs.Geometry.{band_size, padded_length}
use Rattle.slice_geometry.specs.SliceOrder.{level_of, numbered}
use Rattle.slice_geometry.proofs.NumberedBands.{number_here, before_here}
use Rattle.slice_encoder.specs.Ready.{IsReadyToWrite}
use Rattle.slice_encoder.specs.Buffers.{coded_component}
use Rattle.picture_tests.proofs.slice_encoder_tests.is_ready.Goals as goal

abbrev IsBand : Raster ℤ → Size → ℕ → Type 0
IsBand r size most = (r.w ≡ size.w) × (height r ≡ size.h) × ((y x : ℕ) → Within most (at r y x))

-- the level of a band is that of its number
level-numbered : (depth level orient : ℕ) → BandExists depth level orient → level_of (band_index level orient) ≡ level
level-numbered depth level orient exists = elim exists [
  | inl lowest ↦ rw (lowest.0) refl
  | inr higher ↦
      let one : 1 ≤ level = higher.0 in
      let low : 1 ≤ orient = higher.2 in
      let high : orient ≤ 3 = higher.3 in
      grind (arith, nat_tests)
]

number-below : (depth level orient : ℕ) → BandExists depth level orient → band_index level orient < 3 * depth + 1
number-below depth level orient exists = elim exists [
  | inl lowest ↦ rw (lowest.0) (omega arith)
  | inr higher ↦
      let one : 1 ≤ level = higher.0 in
      let most : level ≤ depth = higher.1 in
      let low : 1 ≤ orient = higher.2 in
      let high : orient ≤ 3 = higher.3 in
      grind (arith, nat_tests)
]

module _ (s : Slicing) (size : Size) (b : BandStack) (m : ℕ) (depth_is : b.depth ≡ s.depth) (found : (i : ℕ) → i < 3 * s.depth + 1 → IsBand (numbered b i) (band_size s.depth (level_of i) size) m) where
  any_band : (level orient : ℕ) → BandExists s.depth level orient → IsBand (band_of b level orient) (band_size s.depth level size) m
  any_band level orient exists =
      subst (λ (l : ℕ). IsBand (band_of b level orient) (band_size s.depth l size) m) (level-numbered s.depth level orient exists)
      (found (band_index level orient) (number-below s.depth level orient exists))

  here : (level orient : ℕ) → BandExists b.depth level orient → BandExists s.depth level orient
  here level orient exists = subst (λ (d : ℕ). BandExists d level orient) depth_is exists

  all_sizes : HaveSizes b (padded_length s.depth size.w) (padded_length s.depth size.h)
  all_sizes = record {
    widths = λ level orient exists. (any_band level orient (here level orient exists)).0 ∙ ap (λ (d : ℕ). subband_length d level (padded_length s.depth size.w)) (sym depth_is);
    heights = λ level orient exists. (any_band level orient (here level orient exists)).1 ∙ ap (λ (d : ℕ). subband_length d level (padded_length s.depth size.h)) (sym depth_is);
  }

  ready : (matrix : Weights) (sx sy : ℕ) (kept : Raster ℤ) → m ≤ 2 ^ (7 + 3 * s.depth) → IsBand kept (band_size s.depth 0 size) (3 * m + 2) → IsReadyToWrite (coded_component s size matrix b) 8 sx sy kept
  ready matrix sx sy kept le plane = record {
    depth = depth_is;
    sizes = all_sizes;
    small = λ level orient y x exists. wider m (2 ^ (7 + 3 * s.depth)) _ le ((any_band level orient exists).2 y x);
    kept_size = (plane.0, plane.1);
    outside = λ y x inside. record {
      left = λ some out. wider (3 * m + 2) (3 * 2 ^ (7 + 3 * s.depth) + 2) _ (omega (arith, le)) (plane.2 y (x - 1));
      above = λ some out. wider (3 * m + 2) (3 * 2 ^ (7 + 3 * s.depth) + 2) _ (omega (arith, le)) (plane.2 (y - 1) x);
      corner = λ some more out. wider (3 * m + 2) (3 * 2 ^ (7 + 3 * s.depth) + 2) _ (omega (arith, le)) (plane.2 (y - 1) (x - 1));
    };
  }

pub loop-k-preserved : goal.loop-k-preserved
loop-k-preserved c = λ i lt.
    let a = c.args in
    let k = c.loop-k.k in
    let m = c.most_of-most.result in
    let level_is = c.band_numbered-level.ensures.level in
    let number_is = number_here k c.band_numbered-level.result.0 c.band_numbered-level.result.1 level_is c.band_numbered-level.ensures.orient in
    let band_is = before_here a.bands.now k c.band_numbered-level.result.0 c.band_numbered-level.result.1 c.band.result.now number_is c.band.ensures in
    let found = c.is_plane.ensures c.if-not-is_plane.false in
    let one = subst (λ (z : Size). IsBand c.band.result.now z m) c.band_size-band.ensures found in
    let two = subst (λ (l : ℕ). IsBand c.band.result.now (band_size a.layout.now.depth l a.size) m) level_is one in
    let own : IsBand (numbered a.bands.now k) (band_size a.layout.now.depth (level_of k) a.size) m = subst (λ (r : Raster ℤ). IsBand r (band_size a.layout.now.depth (level_of k) a.size) m) band_is two in
    elim (cases_eq i k) as (λ _. IsBand (numbered a.bands.now i) (band_size a.layout.now.depth (level_of i) a.size) m) [
      | inl e ↦ subst (λ (j : ℕ). IsBand (numbered a.bands.now j) (band_size a.layout.now.depth (level_of j) a.size) m) (sym e) own
      | inr ne ↦ c.loop-k.invariant i (omega arith)
    ]

pub returns : goal.returns
returns c = λ t matrix sx sy.
    let a = c.args in
    let m = c.most_of-most.result in
    let depth_is = sym c.depth.ensures.value ∙ c.if-depth.false ∙ c.depth-depth.ensures.value in
    let kept = subst (λ (z : Size). IsBand a.kept.now z (3 * m + 2)) c.band_size.ensures (c.is_plane-2.ensures t) in
    ready a.layout.now a.size a.bands.now m depth_is
    (λ i lt. c.loop-k.invariant i (omega (arith, c.loop-k-test.false, c.depth-depth.ensures.value)))
    matrix sx sy a.kept.now (omega (arith, c.most_of-most.ensures.most, ap (λ (d : ℕ). 2 ^ (7 + 3 * d)) c.depth-depth.ensures.value)) kept
