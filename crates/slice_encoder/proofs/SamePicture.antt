-- Pictures whose coefficients are the same inside their bands are written alike: what lies outside is never looked at.
use Rattle.std.proofs.Common.{◌≡◌, ◌∙◌, ap, refl, ℕ, zero, suc, ◌-◌, ◌<◌, ◌≤◌, true, false, cond, List, [], ◌∷◌, ◌++◌, get_or, eqb, arith, inl, inr, ℤ}
use Rattle.std.specs.Prelude.{Bool}
use Rattle.std.specs.List.{All}
use Rattle.std.proofs.lemmas.Bool.{eqb-true}
use Rattle.std.proofs.lemmas.List.Elements.{All-nil, All-cons, All-head, All-tail, All-append, All-weaker}
use Rattle.planes.specs.declared.Trio.{Trio}
use Rattle.planes.specs.Raster.{at}
use Rattle.planes.specs.Rect.{IsInRect}
use Rattle.planes.specs.Subbands.{BandStack, BandExists, band_of}
use Rattle.dc_prediction.specs.Prediction.{prediction}
use Rattle.dc_prediction.proofs.PredictionLemmas.{prediction_same}
use Rattle.slice_geometry.specs.declared.Size.{Size}
use Rattle.slice_geometry.specs.declared.PictureShape.{PictureShape}
use Rattle.slice_geometry.specs.Slicing.{Slicing, slice_number}
use Rattle.slice_geometry.specs.Geometry.{band_size}
use Rattle.slice_geometry.specs.SliceOrder.{level_rect}
use Rattle.slice_geometry.proofs.RectsInBands.{end_inside}
use Rattle.quant_factors.specs.Weights.{Weights, band_quantiser}
use Rattle.quant_factors.specs.Factors.{forward_of}
use Rattle.slice_encoder.specs.Loop.{restored_value, residual_of}
use Rattle.slice_encoder.specs.Order.{Place, rect_places, places_of}
use Rattle.slice_encoder.specs.Trials.{CodedComponent, coefficient, slice_holding, restored_after, value_of, CodedPicture, luma_of, c1_of, c2_of, last_lists}
use Rattle.slice_encoder.specs.Ready.{coded_picture}
use Rattle.slice_encoder.proofs.Made.{made_same}
use Rattle.slice_encoder.proofs.Continues.{all_inside, map_same, joined_same}

-- the numbers of two stacks of bands are the same at each place of each band
abbrev pub SameInside : Slicing → Size → BandStack → BandStack → Type 0
SameInside s size a b = (level orient y x : ℕ) → BandExists s.depth level orient → y < (band_size s.depth level size).h → x < (band_size s.depth level size).w
    → at (band_of a level orient) y x ≡ at (band_of b level orient) y x

choose : (t : Bool) (x x' y y' : ℤ) → (t ≡ true → x ≡ x') → (t ≡ false → y ≡ y') → cond t x y ≡ cond t x' y'
choose true x x' y y' first second = first refl
choose false x x' y y' first second = second refl

-- a place lies in a band that exists, in the slice's rectangle there
record IsInside (s : Slicing) (size : Size) (sx sy : ℕ) (p : Place) : Type 0 where
  exists : BandExists s.depth p.level p.orient
  here : IsInRect (level_rect s size sx sy p.level) p.y p.x

places_inside : (s : Slicing) (size : Size) (sx sy level : ℕ) → level ≤ s.depth → All (IsInside s size sx sy) (places_of s size sx sy level)
places_inside s size sx sy zero low = all_inside (IsInside s size sx sy) 0 0 (level_rect s size sx sy 0) (λ y x here. record { exists = inl (refl, refl); here = here })
places_inside s size sx sy (suc level) low =
    let In = IsInside s size sx sy in
    let r = level_rect s size sx sy (suc level) in
    let band = λ (orient : ℕ) (first : 1 ≤ orient) (last : orient ≤ 3). all_inside In (suc level) orient r (λ y x here. record { exists = inr (omega arith, low, first, last); here = here }) in
    All-append In (places_of s size sx sy level) (rect_places (suc level) 1 r ++ (rect_places (suc level) 2 r ++ rect_places (suc level) 3 r))
    (places_inside s size sx sy level (omega arith))
    (All-append In (rect_places (suc level) 1 r) (rect_places (suc level) 2 r ++ rect_places (suc level) 3 r) (band 1 (omega arith) (omega arith))
    (All-append In (rect_places (suc level) 2 r) (rect_places (suc level) 3 r) (band 2 (omega arith) (omega arith)) (band 3 (omega arith) (omega arith))))

-- ---- a component

module _ (s : Slicing) (size : Size) (matrix : Weights) (a b : BandStack) (same : SameInside s size a b) where
  abbrev one : CodedComponent
  one = record { slicing = s; size = size; matrix = matrix; bands = a }

  abbrev other : CodedComponent
  other = record { slicing = s; size = size; matrix = matrix; bands = b }

  abbrev band : Size
  band = band_size s.depth 0 size

  restored_inside : (indices : List ℕ) (y x : ℕ) → y < band.h → x < band.w → restored_after one indices y x ≡ restored_after other indices y x
  unfolding restored_after
  restored_inside indices y x hy hx =
      made_same (λ j i p. restored_value (coefficient one 0 0 j i) (band_quantiser matrix (get_or indices (slice_holding s size j i) 0) 0 0) p)
      (λ j i p. restored_value (coefficient other 0 0 j i) (band_quantiser matrix (get_or indices (slice_holding s size j i) 0) 0 0) p) y x
      (λ j i p lj li. ap (λ v. restored_value v (band_quantiser matrix (get_or indices (slice_holding s size j i) 0) 0 0) p) (same 0 0 j i (inl (refl, refl)) (omega arith) (omega arith)))

  predicted_inside : (indices : List ℕ) (y x : ℕ) → y < band.h → x < band.w → prediction (restored_after one indices) y x ≡ prediction (restored_after other indices) y x
  predicted_inside indices y x hy hx = prediction_same (restored_after one indices) (restored_after other indices) y x (record {
    left = λ some. restored_inside indices y (x - 1) hy (omega arith);
    above = λ some. restored_inside indices (y - 1) x (omega arith) hx;
    corner = λ some more. restored_inside indices (y - 1) (x - 1) (omega arith) (omega arith);
  })

  value_inside : (indices : List ℕ) (index sx sy : ℕ) (p : Place) → sx < s.slices_x → sy < s.slices_y → IsInside s size sx sy p
      → value_of one (restored_after one indices) index p ≡ value_of other (restored_after other indices) index p
  value_inside indices index sx sy p across down inside =
      let q = band_quantiser matrix index p.level p.orient in
      let level_band = band_size s.depth p.level size in
      let hy : p.y < level_band.h = omega (arith, inside.here.bottom, end_inside level_band.h s.slices_y sy down) in
      let hx : p.x < level_band.w = omega (arith, inside.here.right, end_inside level_band.w s.slices_x sx across) in
      choose (eqb p.level 0)
      (residual_of (coefficient one 0 0 p.y p.x) q (prediction (restored_after one indices) p.y p.x)) (residual_of (coefficient other 0 0 p.y p.x) q (prediction (restored_after other indices) p.y p.x))
      (forward_of (coefficient one p.level p.orient p.y p.x) q) (forward_of (coefficient other p.level p.orient p.y p.x) q)
      (λ is_lowest.
      let zero_level : p.level ≡ 0 = eqb-true p.level 0 is_lowest in
      let y_in : p.y < band.h = omega (arith, hy, ap (λ n. (band_size s.depth n size).h) zero_level) in
      let x_in : p.x < band.w = omega (arith, hx, ap (λ n. (band_size s.depth n size).w) zero_level) in
      ap (λ v. residual_of v q (prediction (restored_after one indices) p.y p.x)) (same 0 0 p.y p.x (inl (refl, refl)) y_in x_in)
      ∙ ap (λ v. residual_of (coefficient other 0 0 p.y p.x) q v) (predicted_inside indices p.y p.x y_in x_in))
      (λ is_higher. ap (λ v. forward_of v q) (same p.level p.orient p.y p.x inside.exists hy hx))

  pub values_inside : (indices : List ℕ) (index sx sy : ℕ) → sx < s.slices_x → sy < s.slices_y
      → All (λ p. value_of one (restored_after one indices) index p ≡ value_of other (restored_after other indices) index p) (places_of s size sx sy s.depth)
  values_inside indices index sx sy across down =
      All-weaker (IsInside s size sx sy) (λ p. value_of one (restored_after one indices) index p ≡ value_of other (restored_after other indices) index p)
      (λ p inside. value_inside indices index sx sy p across down inside) (places_of s size sx sy s.depth) (places_inside s size sx sy s.depth (omega arith))

-- ---- a picture

-- the coefficients of two pictures are the same inside
pub record AreSameInside (s : Slicing) (shape : PictureShape) (a b : Trio) : Type 0 where
  pub luma : SameInside s shape.luma a.luma b.luma
  pub c1 : SameInside s shape.colour a.c1 b.c1
  pub c2 : SameInside s shape.colour a.c2 b.c2

module _ (s : Slicing) (shape : PictureShape) (matrix : Weights) (a b : Trio) (same : AreSameInside s shape a b) where
  abbrev j : CodedPicture
  j = coded_picture s shape matrix a

  abbrev k : CodedPicture
  k = coded_picture s shape matrix b

  pub lists_same : (indices : List ℕ) (sx sy : ℕ) → sx < s.slices_x → sy < s.slices_y → last_lists j indices sx sy ≡ last_lists k indices sx sy
  lists_same indices sx sy across down =
      let index = get_or indices (slice_number s sx sy) 0 in
      let places = places_of s shape.colour sx sy s.depth in
      let one = λ (p : Place). value_of (c1_of j) (restored_after (c1_of j) indices) index p in
      let one_same = λ (p : Place). value_of (c1_of k) (restored_after (c1_of k) indices) index p in
      let two = λ (p : Place). value_of (c2_of j) (restored_after (c2_of j) indices) index p in
      let two_same = λ (p : Place). value_of (c2_of k) (restored_after (c2_of k) indices) index p in
      let luma = map_same (value_of (luma_of j) (restored_after (luma_of j) indices) index) (value_of (luma_of k) (restored_after (luma_of k) indices) index) (places_of s shape.luma sx sy s.depth)
      (values_inside s shape.luma matrix a.luma b.luma same.luma indices index sx sy across down) in
      let colour = joined_same (λ p. one p ∷ two p ∷ []) (λ p. one_same p ∷ two_same p ∷ []) places
      (both one one_same two two_same places (values_inside s shape.colour matrix a.c1 b.c1 same.c1 indices index sx sy across down) (values_inside s shape.colour matrix a.c2 b.c2 same.c2 indices index sx sy across down)) in
      rw (luma, colour) refl
    where
      both : (f f' g g' : Place → ℤ) (ps : List Place) → All (λ p. f p ≡ f' p) ps → All (λ p. g p ≡ g' p) ps → All (λ p. f p ∷ g p ∷ [] ≡ f' p ∷ g' p ∷ []) ps
      both f f' g g' [] first second = All-nil _
      both f f' g g' (p ∷ ps) first second =
          let e = All-head (λ p. f p ≡ f' p) p ps first in
          let h = All-head (λ p. g p ≡ g' p) p ps second in
          All-cons (λ p. f p ∷ g p ∷ [] ≡ f' p ∷ g' p ∷ []) p ps (rw (e, h) refl)
          (both f f' g g' ps (All-tail (λ p. f p ≡ f' p) p ps first) (All-tail (λ p. g p ≡ g' p) p ps second))
