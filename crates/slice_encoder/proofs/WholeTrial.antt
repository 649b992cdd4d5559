-- What a trial of all three components needs and gives.
use Rattle.std.proofs.Common.{◌≡◌, ◌∙◌, sym, ap, subst, refl, ℕ, zero, suc, ◌+◌, ◌-◌, ◌*◌, ◌^◌, ◌<◌, ◌≤◌, Bool, true, false, cond, eqb, List, [], ◌∷◌, ◌++◌, length, map, arith, inl, ℤ, ◌-ℤ◌}
use Rattle.std.specs.Prelude.{unsigned_abs}
use Rattle.std.specs.List.{All, flat_map, range_with_len}
use Rattle.std.proofs.Math.Path.{fun_ext}
use Rattle.std.proofs.Math.Dec.{T, eqb→eq}
use Rattle.std.proofs.lemmas.List.{length-append}
use Rattle.std.proofs.lemmas.List.FromFn.{length-range_with_len}
use Rattle.std.proofs.lemmas.List.Elements.{All-nil, All-cons, All-weaker, All-map}
use Rattle.planes.specs.declared.Rect.{Rect}
use Rattle.planes.specs.Raster.{Grid, Raster, at}
use Rattle.planes.specs.Rect.{IsInRect}
use Rattle.planes.specs.Subbands.{BandExists}
use Rattle.dc_prediction.specs.Prediction.{prediction}
use Rattle.slice_geometry.specs.declared.Size.{Size}
use Rattle.slice_geometry.specs.Slicing.{Slicing}
use Rattle.quant_factors.specs.Weights.{band_quantiser}
use Rattle.slice_geometry.specs.SliceOrder.{level_rect, area, places_to, place_count, numbered}
use Rattle.slice_geometry.proofs.RectsInBands.{fits, FitsIn}
use Rattle.slice_encoder.specs.Order.{Place, row_places, rect_places, places_of}
use Rattle.slice_encoder.specs.Trials.{CodedComponent, coefficient, value_of, luma_list, colour_list}
use Rattle.slice_encoder.specs.Tries.{tried, IsTried}
use Rattle.slice_encoder.specs.TrialLaws.{most_coefficient, AreSmallValues}
use Rattle.slice_encoder.specs.Ready.{IsReadyToWrite}
use Rattle.slice_encoder.proofs.Near.{within_abs, difference_within}
use Rattle.slice_encoder.proofs.Coarsest.{places_exist, all_joined}
use Rattle.slice_encoder.proofs.Continues.{lowest_inside}
use Rattle.slice_encoder.proofs.PlaceByPlace.{forward_small}
use Rattle.slice_encoder.proofs.Tried.{coefficient_most}
use Rattle.slice_encoder.proofs.Again.{predicted_small, all_both}

-- ---- how many places a slice has

map_length : {X Y : Type 0} (f : X → Y) (xs : List X) → length (map f xs) ≡ length xs
map_length f [] = refl
map_length f (x ∷ xs) = ap suc (map_length f xs)

length_joined : {X Y : Type 0} (f : X → List Y) (w : ℕ) → ((x : X) → length (f x) ≡ w) → (xs : List X) → length (flat_map f xs) ≡ w * length xs
length_joined f w each [] = omega arith
length_joined f w each (x ∷ xs) = omega (arith, length-append (f x) (flat_map f xs), each x, length_joined f w each xs, more w (length xs))
  where
    more : (w n : ℕ) → w * suc n ≡ w + w * n
    more w n = grind arith

pub length_rect_places : (level orient : ℕ) (r : Rect) → length (rect_places level orient r) ≡ area r
length_rect_places level orient r =
    length_joined (row_places level orient r) (r.x1 - r.x0)
    (λ y. map_length (λ x. record { level = level; orient = orient; y = y; x = x }) (range_with_len r.x0 (r.x1 - r.x0)) ∙ length-range_with_len r.x0 (r.x1 - r.x0))
    (range_with_len r.y0 (r.y1 - r.y0))
    ∙ ap (λ (n : ℕ). (r.x1 - r.x0) * n) (length-range_with_len r.y0 (r.y1 - r.y0))

pub length_places : (s : Slicing) (size : Size) (sx sy level : ℕ) → length (places_of s size sx sy level) ≡ places_to s size sx sy level
length_places s size sx sy zero = length_rect_places 0 0 (level_rect s size sx sy 0)
length_places s size sx sy (suc level) =
    let r = level_rect s size sx sy (suc level) in
    let one = rect_places (suc level) 1 r in
    let two = rect_places (suc level) 2 r in
    let three = rect_places (suc level) 3 r in
    omega (
      arith,
      length_places s size sx sy level,
      length_rect_places (suc level) 1 r,
      length_rect_places (suc level) 2 r,
      length_rect_places (suc level) 3 r,
      length-append (places_of s size sx sy level) (one ++ (two ++ three)),
      length-append one (two ++ three),
      length-append two three,
    )

pub length_luma : (c : CodedComponent) (g : Grid) (index sx sy : ℕ) → length (luma_list c g index sx sy) ≡ place_count c.slicing c.size sx sy
length_luma c g index sx sy = map_length (value_of c g index) (places_of c.slicing c.size sx sy c.slicing.depth) ∙ length_places c.slicing c.size sx sy c.slicing.depth

pub length_colour : (c1 c2 : CodedComponent) (g h : Grid) (index sx sy : ℕ) → length (colour_list c1 c2 g h index sx sy) ≡ 2 * place_count c1.slicing c1.size sx sy
length_colour c1 c2 g h index sx sy =
    length_joined (λ p. value_of c1 g index p ∷ value_of c2 h index p ∷ []) 2 (λ p. refl) (places_of c1.slicing c1.size sx sy c1.slicing.depth)
    ∙ ap (λ (n : ℕ). 2 * n) (length_places c1.slicing c1.size sx sy c1.slicing.depth)

-- ---- the values are small

chosen : (P : ℤ → Type 0) (b : Bool) (x y : ℤ) → (b ≡ true → P x) → (b ≡ false → P y) → P (cond b x y)
chosen P true x y h k = h refl
chosen P false x y h k = k refl

module _ (c : CodedComponent) (d sx sy index : ℕ) (kept : Raster ℤ) (le : index ≤ 127) (shallow : c.slicing.depth ≤ 4) (few : d ≤ 16) (ready : IsReadyToWrite c d sx sy kept) where
  abbrev grid : Grid
  grid = tried c sx sy index (at kept)

  abbrev IsSmallNumber : ℤ → Type 0
  IsSmallNumber v = unsigned_abs v ≤ 2 ^ 36

  value_small : (p : Place) → BandExists c.slicing.depth p.level p.orient → (p.level ≡ 0 → IsInRect (level_rect c.slicing c.size sx sy 0) p.y p.x) → IsSmallNumber (value_of c (tried c sx sy index (at kept)) index p)
  value_small p exists inside =
      let q : ℕ = band_quantiser c.matrix index p.level p.orient in
      let most = coefficient_most c.slicing.depth d shallow few in
      chosen (λ v. unsigned_abs v ≤ 2 ^ 36) (eqb p.level 0) _ _
      (λ e.
      let small = predicted_small c d sx sy index kept le ready p.y p.x (inside (eqb→eq p.level 0 (subst T (sym e) tt))) in
      let r : ℤ = coefficient c 0 0 p.y p.x -ℤ prediction (tried c sx sy index (at kept)) p.y p.x in
      let size = within_abs _ r (difference_within (most_coefficient c.slicing.depth d) _ _ (ready.small 0 0 p.y p.x (inl (refl, refl))) small) in
      omega (arith, forward_small r q (omega (arith, le)), size, most))
      (λ e. omega (arith, forward_small (coefficient c p.level p.orient p.y p.x) q (omega (arith, le)), within_abs _ _ (ready.small p.level p.orient p.y p.x exists), most))

  pub all_small : All (λ p. unsigned_abs (value_of c (tried c sx sy index (at kept)) index p) ≤ 2 ^ 36) (places_of c.slicing c.size sx sy c.slicing.depth)
  all_small =
      let In = λ (p : Place). BandExists c.slicing.depth p.level p.orient in
      let Low = λ (p : Place). p.level ≡ 0 → IsInRect (level_rect c.slicing c.size sx sy 0) p.y p.x in
      let places = places_of c.slicing c.size sx sy c.slicing.depth in
      All-weaker (λ p. In p × Low p) (λ p. unsigned_abs (value_of c (tried c sx sy index (at kept)) index p) ≤ 2 ^ 36) (λ p h. value_small p h.0 h.1) places
      (all_both In Low places (places_exist c.slicing c.size sx sy c.slicing.depth c.slicing.depth (omega arith)) (lowest_inside c.slicing c.size sx sy c.slicing.depth))

  pub luma_small : AreSmallValues (luma_list c (tried c sx sy index (at kept)) index sx sy)
  luma_small = All-map (λ v. unsigned_abs v ≤ 2 ^ 36) (value_of c (tried c sx sy index (at kept)) index) (places_of c.slicing c.size sx sy c.slicing.depth) all_small

  -- ---- the grid, once the lowest band was tried
  module _ (new : Raster ℤ) (t : IsTried c sx sy index kept new) where
    pub grid_is : at new ≡ tried c sx sy index (at kept)
    grid_is = fun_ext (λ y. fun_ext (λ x. t.places y x))

-- the slice's places of the lowest subband lie in it
pub lowest_fits : (c : CodedComponent) (d sx sy : ℕ) (kept : Raster ℤ) → IsReadyToWrite c d sx sy kept → sx < c.slicing.slices_x → sy < c.slicing.slices_y → FitsIn (level_rect c.slicing c.size sx sy 0) (numbered c.bands 0)
lowest_fits c d sx sy kept ready across down =
    fits c.slicing c.size sx sy 0 (level_rect c.slicing c.size sx sy 0) c.bands (numbered c.bands 0) refl refl (omega arith) ready.depth across down ready.sizes

pub colour_small : (c1 c2 : CodedComponent) (g h : Grid) (index sx sy : ℕ) → All (λ p. unsigned_abs (value_of c1 g index p) ≤ 2 ^ 36) (places_of c1.slicing c1.size sx sy c1.slicing.depth)
    → All (λ p. unsigned_abs (value_of c2 h index p) ≤ 2 ^ 36) (places_of c1.slicing c1.size sx sy c1.slicing.depth) → AreSmallValues (colour_list c1 c2 g h index sx sy)
colour_small c1 c2 g h index sx sy one two =
    let places = places_of c1.slicing c1.size sx sy c1.slicing.depth in
    let pair : Place → List ℤ = λ p. value_of c1 g index p ∷ value_of c2 h index p ∷ [] in
    let Small : ℤ → Type 0 = λ v. unsigned_abs v ≤ 2 ^ 36 in
    all_joined Small pair places
    (All-weaker (λ p. Small (value_of c1 g index p) × Small (value_of c2 h index p)) (λ p. All Small (pair p))
    (λ p s. All-cons Small (value_of c1 g index p) (value_of c2 h index p ∷ []) s.0 (All-cons Small (value_of c2 h index p) [] s.1 (All-nil Small))) places
    (all_both (λ p. Small (value_of c1 g index p)) (λ p. Small (value_of c2 h index p)) places one two))
