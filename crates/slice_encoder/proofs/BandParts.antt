-- The list of a component's values, band by band.
use Rattle.std.proofs.Common.{◌≡◌, ◌∙◌, sym, ap, subst, refl, ℕ, zero, suc, ◌+◌, ◌-◌, ◌*◌, ◌≤◌, Bool, true, false, cond, eqb, List, [], ◌∷◌, ◌++◌, length, map, append_assoc, append-nil, arith, ℤ}
use Rattle.std.specs.List.{flat_map, range_with_len}
use Rattle.std.proofs.Math.Dec.{T, eqb→eq}
use Rattle.std.proofs.lemmas.List.{length-append}
use Rattle.std.proofs.lemmas.List.FromFn.{length-range_with_len, length-map-range_with_len}
use Rattle.std.proofs.lemmas.Bool.Decides.{nat_tests}
use Rattle.planes.specs.declared.Rect.{Rect}
use Rattle.planes.specs.Raster.{Grid, Raster, at}
use Rattle.planes.specs.Subbands.{band_index, band_of}
use Rattle.std.proofs.lemmas.Grind.{flat_map-append}
use Rattle.dc_prediction.specs.Prediction.{prediction}
use Rattle.quant_factors.specs.Factors.{forward_of}
use Rattle.quant_factors.specs.Weights.{Weights, band_quantiser}
use Rattle.slice_encoder.specs.Loop.{residual_of}
use Rattle.slice_geometry.specs.SliceOrder.{level_rect, area, level_of, orient_of, numbered}
use Rattle.slice_geometry.proofs.NumberedBands.{index-numbered}
use Rattle.slice_encoder.specs.Order.{Place, row_places, rect_places, places_of}
use Rattle.slice_encoder.specs.Trials.{CodedComponent, value_of}
use Rattle.slice_encoder.specs.Listing.{band_value, row_values, rect_values, pair_row, pair_values, band_part, pair_part}
use Rattle.slice_encoder.proofs.Parts.{parts_before, pairs_before}
use Rattle.slice_encoder.proofs.Listed.{flat_more, next_row, turned}

-- ---- lists of lists

pub map_append : {X Y : Type 0} (f : X → Y) (xs ys : List X) → map f (xs ++ ys) ≡ map f xs ++ map f ys
map_append f [] ys = refl
map_append f (x ∷ xs) ys = ap (λ t. f x ∷ t) (map_append f xs ys)

pub map_joined : {X Y Z : Type 0} (f : Y → Z) (g : X → List Y) (h : X → List Z) → ((x : X) → map f (g x) ≡ h x) → (xs : List X) → map f (flat_map g xs) ≡ flat_map h xs
map_joined f g h same [] = refl
map_joined f g h same (x ∷ xs) = map_append f (g x) (flat_map g xs) ∙ ap (λ t. t ++ map f (flat_map g xs)) (same x) ∙ ap (λ t. h x ++ t) (map_joined f g h same xs)

pub map_map : {X Y Z : Type 0} (f : Y → Z) (g : X → Y) (h : X → Z) → ((x : X) → f (g x) ≡ h x) → (xs : List X) → map f (map g xs) ≡ map h xs
map_map f g h same [] = refl
map_map f g h same (x ∷ xs) = ap (λ t. t ∷ map f (map g xs)) (same x) ∙ ap (λ t. h x ∷ t) (map_map f g h same xs)

pub rect_listed : (f : Place → ℤ) (g : Grid) (level orient : ℕ) (r : Rect) → ((y x : ℕ) → f (record { level = level; orient = orient; y = y; x = x }) ≡ g y x) → map f (rect_places level orient r) ≡ rect_values g r
rect_listed f g level orient r same =
    map_joined f (row_places level orient r) (row_values g r)
    (λ y. map_map f (λ x. record { level = level; orient = orient; y = y; x = x }) (g y) (same y) (range_with_len r.x0 (r.x1 - r.x0)))
    (range_with_len r.y0 (r.y1 - r.y0))

-- ---- one band

pub either_same : (b : Bool) (x x' y y' : ℤ) → (b ≡ true → x ≡ x') → y ≡ y' → cond b x y ≡ cond b x' y'
either_same true x x' y y' h k = h refl
either_same false x x' y y' h k = k

module _ (c : CodedComponent) (kept : Raster ℤ) (index sx sy : ℕ) where
  abbrev piece : ℕ → ℕ → Raster ℤ → List ℤ
  piece level orient band = rect_values (band_value band kept level (band_quantiser c.matrix index level orient)) (level_rect c.slicing c.size sx sy level)

  band_listed : (level orient : ℕ) → 1 ≤ level → map (value_of c (at kept) index) (rect_places level orient (level_rect c.slicing c.size sx sy level)) ≡ piece level orient (band_of c.bands level orient)
  band_listed level orient some =
      rect_listed (value_of c (at kept) index) (band_value (band_of c.bands level orient) kept level (band_quantiser c.matrix index level orient)) level orient (level_rect c.slicing c.size sx sy level)
      (λ y x. either_same (eqb level 0) _ _ _ _ (λ e. let zero_level : level ≡ 0 = eqb→eq level 0 (subst T (sym e) tt) in absurd (omega arith)) refl)

  piece_is : (k level orient : ℕ) → level_of k ≡ level → orient_of k ≡ orient → piece level orient (band_of c.bands level orient) ≡ band_part c kept index sx sy k
  piece_is k level orient hl ho =
      let number : band_index level orient ≡ k = ap (λ l. band_index l orient) (sym hl) ∙ ap (band_index (level_of k)) (sym ho) ∙ index-numbered k in
      ap (λ (b : Raster ℤ). piece level orient b) (ap (λ j. numbered c.bands j) number)
      ∙ ap (λ l. piece l orient (numbered c.bands k)) (sym hl)
      ∙ ap (λ o. piece (level_of k) o (numbered c.bands k)) (sym ho)

  one_of : (level orient : ℕ) → 1 ≤ orient → orient ≤ 3 → map (value_of c (at kept) index) (rect_places (suc level) orient (level_rect c.slicing c.size sx sy (suc level))) ≡ band_part c kept index sx sy (3 * level + orient)
  one_of level orient low high =
      let here : level_of (3 * level + orient) ≡ suc level = omega arith in
      let which : orient_of (3 * level + orient) ≡ orient = grind (arith, nat_tests, here) in
      band_listed (suc level) orient (omega arith) ∙ piece_is (3 * level + orient) (suc level) orient here which

  pub bands_listed : (level : ℕ) → map (value_of c (at kept) index) (places_of c.slicing c.size sx sy level) ≡ parts_before c kept index sx sy (3 * level + 1)
  bands_listed zero =
      rect_listed (value_of c (at kept) index) (band_value (numbered c.bands 0) kept 0 (band_quantiser c.matrix index 0 0)) 0 0 (level_rect c.slicing c.size sx sy 0) (λ y x. refl)
      ∙ sym (append-nil (band_part c kept index sx sy 0))
  bands_listed (suc level) =
      let f = value_of c (at kept) index in
      let r = level_rect c.slicing c.size sx sy (suc level) in
      let p = band_part c kept index sx sy in
      let before = parts_before c kept index sx sy (3 * level + 1) in
      let n1 : 3 * suc level + 1 ≡ 3 * level + 1 + 1 + 1 + 1 = omega arith in
      let k1 : 3 * level + 1 + 1 ≡ 3 * level + 2 = omega arith in
      let k2 : 3 * level + 1 + 1 + 1 ≡ 3 * level + 3 = omega arith in
      map_append f (places_of c.slicing c.size sx sy level) (rect_places (suc level) 1 r ++ (rect_places (suc level) 2 r ++ rect_places (suc level) 3 r))
      ∙ ap (λ t. map f (places_of c.slicing c.size sx sy level) ++ t) (map_append f (rect_places (suc level) 1 r) (rect_places (suc level) 2 r ++ rect_places (suc level) 3 r))
      ∙ ap (λ t. map f (places_of c.slicing c.size sx sy level) ++ (map f (rect_places (suc level) 1 r) ++ t)) (map_append f (rect_places (suc level) 2 r) (rect_places (suc level) 3 r))
      ∙ rw (bands_listed level, one_of level 1 (omega arith) (omega arith), one_of level 2 (omega arith) (omega arith), one_of level 3 (omega arith) (omega arith)) refl
      ∙ sym (ap (λ (n : ℕ). parts_before c kept index sx sy n) n1
      ∙ flat_more p 0 (3 * level + 1 + 1 + 1) (3 * level + 3) (omega arith)
      ∙ ap (λ t. t ++ p (3 * level + 3)) (flat_more p 0 (3 * level + 1 + 1) (3 * level + 2) (omega arith) ∙ ap (λ t. t ++ p (3 * level + 2)) (flat_more p 0 (3 * level + 1) (3 * level + 1) (omega arith)))
      ∙ append_assoc (before ++ p (3 * level + 1)) (p (3 * level + 2)) (p (3 * level + 3))
      ∙ append_assoc before (p (3 * level + 1)) (p (3 * level + 2) ++ p (3 * level + 3)))

-- ---- how many values there are

flat_length : {A : Type 0} (f : ℕ → List A) (w : ℕ) → ((x : ℕ) → length (f x) ≡ w) → (xs : List ℕ) → length (flat_map f xs) ≡ length xs * w
flat_length f w each [] = omega arith
flat_length f w each (x ∷ xs) = omega (arith, length-append (f x) (flat_map f xs), each x, flat_length f w each xs, next_row (length xs) w)

pub length_rect : (g : Grid) (r : Rect) → length (rect_values g r) ≡ area r
length_rect g r =
    omega (
      arith,
      flat_length (row_values g r) (r.x1 - r.x0) (λ y. length-map-range_with_len (g y) r.x0 (r.x1 - r.x0)) (range_with_len r.y0 (r.y1 - r.y0)),
      ap (λ (n : ℕ). n * (r.x1 - r.x0)) (length-range_with_len r.y0 (r.y1 - r.y0)),
      turned (r.x1 - r.x0) (r.y1 - r.y0),
    )

module _ (c : CodedComponent) (kept : Raster ℤ) (index sx sy : ℕ) where
  pub part_here : (k level q : ℕ) (rect : Rect) (band : Raster ℤ) → level ≡ level_of k → rect ≡ level_rect c.slicing c.size sx sy (level_of k) → band ≡ numbered c.bands k → q ≡ band_quantiser c.matrix index (level_of k) (orient_of k)
      → rect_values (band_value band kept level q) rect ≡ band_part c kept index sx sy k
  part_here k level q rect band hl hr hb hq =
      ap (λ (r : Rect). rect_values (band_value band kept level q) r) hr
      ∙ ap (λ (l : ℕ). rect_values (band_value band kept l q) (level_rect c.slicing c.size sx sy (level_of k))) hl
      ∙ ap (λ (b : Raster ℤ). rect_values (band_value b kept (level_of k) q) (level_rect c.slicing c.size sx sy (level_of k))) hb
      ∙ ap (λ (n : ℕ). rect_values (band_value (numbered c.bands k) kept (level_of k) n) (level_rect c.slicing c.size sx sy (level_of k))) hq

-- ---- two components in turn

pub joined_joined : {X Y Z : Type 0} (f : Y → List Z) (g : X → List Y) (h : X → List Z) → ((x : X) → flat_map f (g x) ≡ h x) → (xs : List X) → flat_map f (flat_map g xs) ≡ flat_map h xs
joined_joined f g h same [] = refl
joined_joined f g h same (x ∷ xs) = flat_map-append f (g x) (flat_map g xs) ∙ ap (λ t. t ++ flat_map f (flat_map g xs)) (same x) ∙ ap (λ t. h x ++ t) (joined_joined f g h same xs)

pub joined_map : {X Y Z : Type 0} (f : Y → List Z) (g : X → Y) (h : X → List Z) → ((x : X) → f (g x) ≡ h x) → (xs : List X) → flat_map f (map g xs) ≡ flat_map h xs
joined_map f g h same [] = refl
joined_map f g h same (x ∷ xs) = ap (λ t. t ++ flat_map f (map g xs)) (same x) ∙ ap (λ t. h x ++ t) (joined_map f g h same xs)

value_numbered : (c : CodedComponent) (kept : Raster ℤ) (index k y x : ℕ)
    → value_of c (at kept) index (record { level = level_of k; orient = orient_of k; y = y; x = x }) ≡ band_value (numbered c.bands k) kept (level_of k) (band_quantiser c.matrix index (level_of k) (orient_of k)) y x
value_numbered c kept index k y x =
    either_same (eqb (level_of k) 0) _ _ _ _
    (λ e.
    let none : level_of k ≡ 0 = eqb→eq (level_of k) 0 (subst T (sym e) tt) in
    let first : k ≡ 0 = omega arith in
    ap (λ (j : ℕ). residual_of (at (numbered c.bands j) y x) (band_quantiser c.matrix index (level_of k) (orient_of k)) (prediction (at kept) y x)) (sym first))
    (ap (λ (j : ℕ). forward_of (at (numbered c.bands j) y x) (band_quantiser c.matrix index (level_of k) (orient_of k))) (index-numbered k))

module _ (c1 c2 : CodedComponent) (kept1 kept2 : Raster ℤ) (index sx sy : ℕ) where
  abbrev pair_of : Place → List ℤ
  pair_of p = value_of c1 (at kept1) index p ∷ value_of c2 (at kept2) index p ∷ []

  abbrev part : ℕ → List ℤ
  part = pair_part c1 c2 kept1 kept2 index sx sy

  pair_numbered : (k : ℕ) → flat_map (λ p. value_of c1 (at kept1) index p ∷ value_of c2 (at kept2) index p ∷ []) (rect_places (level_of k) (orient_of k) (level_rect c1.slicing c1.size sx sy (level_of k))) ≡ pair_part c1 c2 kept1 kept2 index sx sy k
  pair_numbered k =
      let r = level_rect c1.slicing c1.size sx sy (level_of k) in
      let g = band_value (numbered c1.bands k) kept1 (level_of k) (band_quantiser c1.matrix index (level_of k) (orient_of k)) in
      let h = band_value (numbered c2.bands k) kept2 (level_of k) (band_quantiser c2.matrix index (level_of k) (orient_of k)) in
      joined_joined pair_of (row_places (level_of k) (orient_of k) r) (pair_row g h r)
      (λ y. joined_map pair_of (λ x. record { level = level_of k; orient = orient_of k; y = y; x = x }) (λ x. g y x ∷ h y x ∷ [])
      (λ x. ap (λ v. v ∷ value_of c2 (at kept2) index (record { level = level_of k; orient = orient_of k; y = y; x = x }) ∷ []) (value_numbered c1 kept1 index k y x) ∙ ap (λ v. g y x ∷ v ∷ []) (value_numbered c2 kept2 index k y x))
      (range_with_len r.x0 (r.x1 - r.x0)))
      (range_with_len r.y0 (r.y1 - r.y0))

  pub pair_here : (k level orient : ℕ) → level_of k ≡ level → orient_of k ≡ orient → flat_map pair_of (rect_places level orient (level_rect c1.slicing c1.size sx sy level)) ≡ part k
  pair_here k level orient hl ho =
      subst (λ (l : ℕ). flat_map pair_of (rect_places l orient (level_rect c1.slicing c1.size sx sy l)) ≡ part k) hl
      (subst (λ (o : ℕ). flat_map pair_of (rect_places (level_of k) o (level_rect c1.slicing c1.size sx sy (level_of k))) ≡ part k) ho (pair_numbered k))

  pair_one : (level orient : ℕ) → 1 ≤ orient → orient ≤ 3 → flat_map pair_of (rect_places (suc level) orient (level_rect c1.slicing c1.size sx sy (suc level))) ≡ part (3 * level + orient)
  pair_one level orient low high =
      let here : level_of (3 * level + orient) ≡ suc level = omega arith in
      let which : orient_of (3 * level + orient) ≡ orient = grind (arith, nat_tests, here) in
      pair_here (3 * level + orient) (suc level) orient here which

  pub pairs_listed : (level : ℕ) → flat_map (λ p. value_of c1 (at kept1) index p ∷ value_of c2 (at kept2) index p ∷ []) (places_of c1.slicing c1.size sx sy level) ≡ pairs_before c1 c2 kept1 kept2 index sx sy (3 * level + 1)
  pairs_listed zero = pair_here 0 0 0 refl refl ∙ sym (append-nil (part 0))
  pairs_listed (suc level) =
      let r = level_rect c1.slicing c1.size sx sy (suc level) in
      let before = pairs_before c1 c2 kept1 kept2 index sx sy (3 * level + 1) in
      let n1 : 3 * suc level + 1 ≡ 3 * level + 1 + 1 + 1 + 1 = omega arith in
      flat_map-append pair_of (places_of c1.slicing c1.size sx sy level) (rect_places (suc level) 1 r ++ (rect_places (suc level) 2 r ++ rect_places (suc level) 3 r))
      ∙ ap (λ t. flat_map pair_of (places_of c1.slicing c1.size sx sy level) ++ t) (flat_map-append pair_of (rect_places (suc level) 1 r) (rect_places (suc level) 2 r ++ rect_places (suc level) 3 r))
      ∙ ap (λ t. flat_map pair_of (places_of c1.slicing c1.size sx sy level) ++ (flat_map pair_of (rect_places (suc level) 1 r) ++ t)) (flat_map-append pair_of (rect_places (suc level) 2 r) (rect_places (suc level) 3 r))
      ∙ rw (pairs_listed level, pair_one level 1 (omega arith) (omega arith), pair_one level 2 (omega arith) (omega arith), pair_one level 3 (omega arith) (omega arith)) refl
      ∙ sym (ap (λ (n : ℕ). pairs_before c1 c2 kept1 kept2 index sx sy n) n1
      ∙ flat_more part 0 (3 * level + 1 + 1 + 1) (3 * level + 3) (omega arith)
      ∙ ap (λ t. t ++ part (3 * level + 3)) (flat_more part 0 (3 * level + 1 + 1) (3 * level + 2) (omega arith) ∙ ap (λ t. t ++ part (3 * level + 2)) (flat_more part 0 (3 * level + 1) (3 * level + 1) (omega arith)))
      ∙ append_assoc (before ++ part (3 * level + 1)) (part (3 * level + 2)) (part (3 * level + 3))
      ∙ append_assoc before (part (3 * level + 1)) (part (3 * level + 2) ++ part (3 * level + 3)))

  pub pair_part_here : (k level q : ℕ) (rect : Rect) (one two : Raster ℤ) → c2.matrix ≡ c1.matrix → level ≡ level_of k → rect ≡ level_rect c1.slicing c1.size sx sy (level_of k) → one ≡ numbered c1.bands k → two ≡ numbered c2.bands k → q ≡ band_quantiser c1.matrix index (level_of k) (orient_of k)
      → pair_values (band_value one kept1 level q) (band_value two kept2 level q) rect ≡ pair_part c1 c2 kept1 kept2 index sx sy k
  pair_part_here k level q rect one two hm hl hr h1 h2 hq =
      let q1 : ℕ = band_quantiser c1.matrix index (level_of k) (orient_of k) in
      ap (λ (r : Rect). pair_values (band_value one kept1 level q) (band_value two kept2 level q) r) hr
      ∙ ap (λ (l : ℕ). pair_values (band_value one kept1 l q) (band_value two kept2 l q) (level_rect c1.slicing c1.size sx sy (level_of k))) hl
      ∙ ap (λ (b : Raster ℤ). pair_values (band_value b kept1 (level_of k) q) (band_value two kept2 (level_of k) q) (level_rect c1.slicing c1.size sx sy (level_of k))) h1
      ∙ ap (λ (b : Raster ℤ). pair_values (band_value (numbered c1.bands k) kept1 (level_of k) q) (band_value b kept2 (level_of k) q) (level_rect c1.slicing c1.size sx sy (level_of k))) h2
      ∙ ap (λ (n : ℕ). pair_values (band_value (numbered c1.bands k) kept1 (level_of k) n) (band_value (numbered c2.bands k) kept2 (level_of k) n) (level_rect c1.slicing c1.size sx sy (level_of k))) hq
      ∙ ap (λ (m : Weights). pair_values (band_value (numbered c1.bands k) kept1 (level_of k) q1) (band_value (numbered c2.bands k) kept2 (level_of k) (band_quantiser m index (level_of k) (orient_of k))) (level_rect c1.slicing c1.size sx sy (level_of k))) (sym hm)

pub length_pairs : (g h : Grid) (r : Rect) → length (pair_values g h r) ≡ 2 * area r
length_pairs g h r =
    omega (
      arith,
      flat_length (pair_row g h r) ((r.x1 - r.x0) * 2) (λ y. flat_length (λ x. g y x ∷ h y x ∷ []) 2 (λ x. refl) (range_with_len r.x0 (r.x1 - r.x0)) ∙ ap (λ (n : ℕ). n * 2) (length-range_with_len r.x0 (r.x1 - r.x0))) (range_with_len r.y0 (r.y1 - r.y0)),
      ap (λ (n : ℕ). n * ((r.x1 - r.x0) * 2)) (length-range_with_len r.y0 (r.y1 - r.y0)),
      doubled_area (r.x1 - r.x0) (r.y1 - r.y0),
    )
  where
    doubled_area : (w h : ℕ) → h * (w * 2) ≡ 2 * (w * h)
    doubled_area w h = grind arith
