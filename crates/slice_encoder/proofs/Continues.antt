-- A trial goes on from the values of earlier trials.
use Rattle.std.proofs.Common.{◌≡◌, ◌∙◌, sym, ap, subst, refl, ℕ, zero, suc, ◌+◌, ◌-◌, ◌*◌, ◌/◌, ◌<◌, ◌≤◌, true, false, cond, List, [], ◌∷◌, ◌++◌, length, get_or, map, eqb, arith, inl, inr, ℤ}
use Rattle.std.specs.List.{All, flat_map, range_with_len}
use Rattle.std.proofs.lemmas.Bool.{cases_eq, cases_lt, le-leb, lt-leb, lt-ltb, le-ltb}
use Rattle.std.proofs.lemmas.List.{get_or_append_left, length-append}
use Rattle.std.proofs.lemmas.List.Elements.{All-nil, All-cons, All-head, All-tail, All-append, All-map, All-weaker}
use Rattle.std.proofs.Math.Nat.{div-eq_of_lt-le}
use Rattle.planes.specs.declared.Rect.{Rect}
use Rattle.planes.specs.declared.ThreePlanes.{ThreePlanes}
use Rattle.planes.specs.Raster.{Grid, Raster, at}
use Rattle.planes.specs.Rect.{IsInRect}
use Rattle.dc_prediction.specs.Prediction.{prediction, AllLookedAt}
use Rattle.dc_prediction.proofs.PredictionLemmas.{prediction_same}
use Rattle.dc_prediction.proofs.Rectangles.{in_rect_or_not}
use Rattle.slice_geometry.specs.declared.Size.{Size}
use Rattle.slice_geometry.specs.Slicing.{Slicing, AreSlicesAllowed, slice_number}
use Rattle.slice_geometry.specs.Geometry.{holding, band_size, slice_rect}
use Rattle.slice_geometry.proofs.Places.{held, alone}
use Rattle.slice_geometry.proofs.RectsInBands.{end_inside}
use Rattle.quant_factors.specs.Weights.{band_quantiser}
use Rattle.slice_geometry.specs.SliceOrder.{level_rect}
use Rattle.quant_factors.specs.Factors.{forward_of}
use Rattle.slice_encoder.specs.Loop.{PlaceRule, restored_value, made, residual_of}
use Rattle.slice_encoder.specs.Order.{Place, row_places, rect_places, places_of}
use Rattle.slice_encoder.specs.Trials.{CodedComponent, coefficient, slice_holding, restored_after, value_of, luma_list, colour_list, CodedPicture, luma_of, c1_of, c2_of, lists, last_lists, IsKept, AreKept}
use Rattle.slice_encoder.specs.Tries.{in_rect, tried, IsTried, tried_lists, KeptHasSize, KeptHaveSizes, IsNext, TrialsGoOn}
use Rattle.slice_encoder.proofs.Made.{is_made}
use Rattle.slice_encoder.proofs.Holders.{holder_rises, rest_same}
use Rattle.slice_encoder.proofs.Coarsest.{last_index, all_joined}

-- ---- the test of a rectangle

pub in_rect-yes : (r : Rect) (y x : ℕ) → IsInRect r y x → in_rect r y x ≡ true
in_rect-yes r y x h = rw (le-leb r.x0 x h.left, lt-ltb x r.x1 h.right, le-leb r.y0 y h.top, lt-ltb y r.y1 h.bottom) refl

pub in_rect-no : (r : Rect) (y x : ℕ) → (IsInRect r y x → ⊥) → in_rect r y x ≡ false
in_rect-no r y x h = elim (cases_lt x r.x0) as (λ _. in_rect r y x ≡ false) [
  | inl left ↦ rw (lt-leb r.x0 x left) refl
  | inr from ↦ elim (cases_lt x r.x1) as (λ _. in_rect r y x ≡ false) [
    | inr right ↦ rw (le-leb r.x0 x from, le-ltb x r.x1 right) refl
    | inl to ↦ elim (cases_lt y r.y0) as (λ _. in_rect r y x ≡ false) [
      | inl above ↦ rw (le-leb r.x0 x from, lt-ltb x r.x1 to, lt-leb r.y0 y above) refl
      | inr top ↦ elim (cases_lt y r.y1) as (λ _. in_rect r y x ≡ false) [
        | inr below ↦ rw (le-leb r.x0 x from, lt-ltb x r.x1 to, le-leb r.y0 y top, le-ltb y r.y1 below) refl
        | inl bottom ↦ absurd (h (record { left = from; right = to; top = top; bottom = bottom }))
      ]
    ]
  ]
]

-- ---- what a trial leaves at a place

pub tried-inside : (c : CodedComponent) (sx sy index : ℕ) (kept : Grid) (y x : ℕ) → IsInRect (level_rect c.slicing c.size sx sy 0) y x
    → tried c sx sy index kept y x ≡ restored_value (coefficient c 0 0 y x) (band_quantiser c.matrix index 0 0) (prediction (tried c sx sy index kept) y x)
unfolding tried
tried-inside c sx sy index kept y x h =
    let r = level_rect c.slicing c.size sx sy 0 in
    let f : PlaceRule = λ j i p. cond (in_rect r j i) (restored_value (coefficient c 0 0 j i) (band_quantiser c.matrix index 0 0) p) (kept j i) in
    is_made f y x
    ∙ ap (λ b. cond b (restored_value (coefficient c 0 0 y x) (band_quantiser c.matrix index 0 0) (prediction (made f) y x)) (kept y x)) (in_rect-yes r y x h)

pub tried-outside : (c : CodedComponent) (sx sy index : ℕ) (kept : Grid) (y x : ℕ) → (IsInRect (level_rect c.slicing c.size sx sy 0) y x → ⊥) → tried c sx sy index kept y x ≡ kept y x
unfolding tried
tried-outside c sx sy index kept y x h =
    let r = level_rect c.slicing c.size sx sy 0 in
    let f : PlaceRule = λ j i p. cond (in_rect r j i) (restored_value (coefficient c 0 0 j i) (band_quantiser c.matrix index 0 0) p) (kept j i) in
    is_made f y x
    ∙ ap (λ b. cond b (restored_value (coefficient c 0 0 y x) (band_quantiser c.matrix index 0 0) (prediction (made f) y x)) (kept y x)) (in_rect-no r y x h)

pub restored_after-at : (c : CodedComponent) (indices : List ℕ) (y x : ℕ)
    → restored_after c indices y x ≡ restored_value (coefficient c 0 0 y x) (band_quantiser c.matrix (get_or indices (slice_holding c.slicing c.size y x) 0) 0 0) (prediction (restored_after c indices) y x)
unfolding restored_after
restored_after-at c indices y x = is_made (λ j i p. restored_value (coefficient c 0 0 j i) (band_quantiser c.matrix (get_or indices (slice_holding c.slicing c.size j i) 0) 0 0) p) y x

-- ---- the number of a slice is of no other

row_of_number : (count sx sy : ℕ) → sx < count → (sy * count + sx) / count ≡ sy
row_of_number count sx sy lt = div-eq_of_lt-le {k = sy} count {m = sy * count + sx} (omega arith) (grind (arith, lt))

one_slice : (count sx sy sx' sy' : ℕ) → sx < count → sx' < count → sy * count + sx ≡ sy' * count + sx' → (sx ≡ sx') × (sy ≡ sy')
one_slice count sx sy sx' sy' lt lt' e =
    let rows : sy ≡ sy' = sym (row_of_number count sx sy lt) ∙ ap (λ (n : ℕ). n / count) e ∙ row_of_number count sx' sy' lt' in
    (omega (arith, ap (λ (n : ℕ). n * count) rows), rows)

module _ (c : CodedComponent) (indices : List ℕ) (sx sy index : ℕ) (p : Raster ℤ) (allowed : AreSlicesAllowed c.slicing) (across : sx < c.slicing.slices_x)
    (number : length indices ≡ slice_number c.slicing sx sy) (size : KeptHasSize c p) (kept : IsKept c indices p) where
  abbrev next : List ℕ
  next = indices ++ index ∷ []

  abbrev band : Size
  band = band_size c.slicing.depth 0 c.size

  abbrev rect : Rect
  rect = level_rect c.slicing c.size sx sy 0

  pub holder_inside : (y x : ℕ) → IsInRect rect y x → slice_holding c.slicing c.size y x ≡ length indices
  holder_inside y x h =
      let is = alone c.slicing band y x sx sy allowed h in
      rw (sym is.0, sym is.1) (sym number)

  -- a place in no later slice and not in this one lies in an earlier one
  pub earlier : (y x : ℕ) → y < band.h → x < band.w → slice_holding c.slicing c.size y x ≤ length indices → (IsInRect rect y x → ⊥) → slice_holding c.slicing c.size y x < length indices
  earlier y x hy hx le not = elim (cases_eq (slice_holding c.slicing c.size y x) (length indices)) [
    | inl e ↦
        let place = held c.slicing band y x allowed hx hy in
        let same = one_slice c.slicing.slices_x (holding c.slicing.slices_x band.w x) (holding c.slicing.slices_y band.h y) sx sy place.across across (e ∙ number) in
        let here : IsInRect rect y x = subst (λ (n : ℕ). IsInRect (slice_rect c.slicing band sx n) y x) same.1 (subst (λ (n : ℕ). IsInRect (slice_rect c.slicing band n (holding c.slicing.slices_y band.h y)) y x) same.0 place.inside) in
        absurd (not here)
    | inr ne ↦ omega arith
  ]

  abbrev Same : ℕ → ℕ → Type 0
  Same y x = tried c sx sy index (at p) y x ≡ restored_after c next y x

  around : (y x : ℕ) → y < band.h → x < band.w → slice_holding c.slicing c.size y x ≤ length indices
      → ((j i : ℕ) → j + i < y + x → j < band.h → i < band.w → slice_holding c.slicing c.size j i ≤ length indices → Same j i) → AllLookedAt Same y x
  around y x hy hx le before = record {
    left = λ some. before y (x - 1) (omega arith) hy (omega arith) (omega (arith, le, holder_rises c.slicing c.size y (x - 1) y x hy hx (omega arith) (omega arith)));
    above = λ some. before (y - 1) x (omega arith) (omega arith) hx (omega (arith, le, holder_rises c.slicing c.size (y - 1) x y x hy hx (omega arith) (omega arith)));
    corner = λ some more. before (y - 1) (x - 1) (omega arith) (omega arith) (omega arith) (omega (arith, le, holder_rises c.slicing c.size (y - 1) (x - 1) y x hy hx (omega arith) (omega arith)));
  }

  same_so_far : (n y x : ℕ) → y + x < n → y < band.h → x < band.w → slice_holding c.slicing c.size y x ≤ length indices → Same y x
  same_so_far zero y x lt hy hx le = absurd (omega arith)
  same_so_far (suc n) y x lt hy hx le = elim (in_rect_or_not rect y x) as (λ _. Same y x) [
    | inl here ↦
        let q : get_or next (slice_holding c.slicing c.size y x) 0 ≡ index = ap (λ (k : ℕ). get_or next k 0) (holder_inside y x here) ∙ last_index indices (length indices) index refl in
        let near_same = around y x hy hx le (λ j i less hj hi lej. same_so_far n j i (omega arith) hj hi lej) in
        tried-inside c sx sy index (at p) y x here
        ∙ ap (λ v. restored_value (coefficient c 0 0 y x) (band_quantiser c.matrix index 0 0) v) (prediction_same (tried c sx sy index (at p)) (restored_after c next) y x near_same)
        ∙ ap (λ (k : ℕ). restored_value (coefficient c 0 0 y x) (band_quantiser c.matrix k 0 0) (prediction (restored_after c next) y x)) (sym q)
        ∙ sym (restored_after-at c next y x)
    | inr not ↦
        let before = earlier y x hy hx le not in
        tried-outside c sx sy index (at p) y x not
        ∙ kept y x (omega (arith, size.1)) (omega (arith, size.0)) before
        ∙ rest_same c indices next y x hy hx (λ k lek. sym (get_or_append_left indices (index ∷ []) 0 k (omega arith)))
  ]

  pub tried_is_rest : (y x : ℕ) → y < band.h → x < band.w → slice_holding c.slicing c.size y x ≤ length indices → tried c sx sy index (at p) y x ≡ restored_after c next y x
  tried_is_rest y x hy hx le = same_so_far (y + x + 1) y x (omega arith) hy hx le

  pub predicted_same : (y x : ℕ) → y < band.h → x < band.w → IsInRect rect y x → prediction (tried c sx sy index (at p)) y x ≡ prediction (restored_after c next) y x
  predicted_same y x hy hx here = prediction_same (tried c sx sy index (at p)) (restored_after c next) y x
      (around y x hy hx (omega (arith, holder_inside y x here)) (λ j i less hj hi le. tried_is_rest j i hj hi le))

  pub kept_on : (new : Raster ℤ) → IsTried c sx sy index p new → IsKept c next new
  kept_on new t y x hy hx lt =
      t.places y x
      ∙ tried_is_rest y x (omega (arith, t.same_height, size.1)) (omega (arith, t.same_width, size.0)) (omega (arith, lt, long))
    where
      long : length next ≡ length indices + 1
      long = omega (arith, length-append indices (index ∷ []))

-- ---- the values of a slice

pub map_same : {X Y : Type 0} (f g : X → Y) → (xs : List X) → All (λ x. f x ≡ g x) xs → map f xs ≡ map g xs
map_same f g [] h = refl
map_same f g (x ∷ xs) h =
    let first : f x ≡ g x = All-head (λ x. f x ≡ g x) x xs h in
    let others = map_same f g xs (All-tail (λ x. f x ≡ g x) x xs h) in
    cc

pub joined_same : {X Y : Type 0} (f g : X → List Y) → (xs : List X) → All (λ x. f x ≡ g x) xs → flat_map f xs ≡ flat_map g xs
joined_same f g [] h = refl
joined_same f g (x ∷ xs) h =
    ap (λ t. t ++ flat_map f xs) (All-head (λ x. f x ≡ g x) x xs h) ∙ ap (λ t. g x ++ t) (joined_same f g xs (All-tail (λ x. f x ≡ g x) x xs h))

-- each place of the lowest subband lies in the slice's rectangle
abbrev InLowest : Rect → Place → Type 0
InLowest r p = p.level ≡ 0 → IsInRect r p.y p.x

all_range : (P : ℕ → Type 0) (a n : ℕ) → ((x : ℕ) → a ≤ x → x < a + n → P x) → All P (range_with_len a n)
all_range P a zero h = All-nil P
all_range P a (suc n) h = All-cons P a (range_with_len (a + 1) n) (h a (omega arith) (omega arith)) (all_range P (a + 1) n (λ x from to. h x (omega arith) (omega arith)))

pub all_inside : (P : Place → Type 0) (level orient : ℕ) (r : Rect) → ((y x : ℕ) → IsInRect r y x → P (record { level = level; orient = orient; y = y; x = x })) → All P (rect_places level orient r)
all_inside P level orient r h =
    all_joined P (row_places level orient r) (range_with_len r.y0 (r.y1 - r.y0))
    (all_range (λ y. All P (row_places level orient r y)) r.y0 (r.y1 - r.y0)
    (λ y top bottom. All-map P (λ x. record { level = level; orient = orient; y = y; x = x }) (range_with_len r.x0 (r.x1 - r.x0))
    (all_range (λ x. P (record { level = level; orient = orient; y = y; x = x })) r.x0 (r.x1 - r.x0) (λ x left right. h y x (record { left = left; right = omega arith; top = top; bottom = omega arith })))))

pub lowest_inside : (s : Slicing) (size : Size) (sx sy level : ℕ) → All (InLowest (level_rect s size sx sy 0)) (places_of s size sx sy level)
lowest_inside s size sx sy zero = all_inside (InLowest (level_rect s size sx sy 0)) 0 0 (level_rect s size sx sy 0) (λ y x here zero. here)
lowest_inside s size sx sy (suc level) =
    let In = InLowest (level_rect s size sx sy 0) in
    let r = level_rect s size sx sy (suc level) in
    let band = λ (orient : ℕ). all_inside In (suc level) orient r (λ y x here none. absurd (omega arith)) in
    All-append In (places_of s size sx sy level) (rect_places (suc level) 1 r ++ (rect_places (suc level) 2 r ++ rect_places (suc level) 3 r))
    (lowest_inside s size sx sy level)
    (All-append In (rect_places (suc level) 1 r) (rect_places (suc level) 2 r ++ rect_places (suc level) 3 r) (band 1)
    (All-append In (rect_places (suc level) 2 r) (rect_places (suc level) 3 r) (band 2) (band 3)))

-- the value of a place by predictions that are the same
value_same : (c : CodedComponent) (g h : Grid) (index : ℕ) (p : Place) → (p.level ≡ 0 → prediction g p.y p.x ≡ prediction h p.y p.x) → value_of c g index p ≡ value_of c h index p
value_same c g h index p same = elim (cases_eq p.level 0) as (λ _. value_of c g index p ≡ value_of c h index p) [
  | inl e ↦ ap (λ v. cond (eqb p.level 0) (residual_of (coefficient c 0 0 p.y p.x) (band_quantiser c.matrix index p.level p.orient) v) (forward_of (coefficient c p.level p.orient p.y p.x) (band_quantiser c.matrix index p.level p.orient))) (same e)
  | inr ne ↦
      let test : eqb p.level 0 ≡ false = grind (arith, ne) in
      ap (λ b. cond b (residual_of (coefficient c 0 0 p.y p.x) (band_quantiser c.matrix index p.level p.orient) (prediction g p.y p.x)) (forward_of (coefficient c p.level p.orient p.y p.x) (band_quantiser c.matrix index p.level p.orient))) test
      ∙ sym (ap (λ b. cond b (residual_of (coefficient c 0 0 p.y p.x) (band_quantiser c.matrix index p.level p.orient) (prediction h p.y p.x)) (forward_of (coefficient c p.level p.orient p.y p.x) (band_quantiser c.matrix index p.level p.orient))) test)
]

module _ (c : CodedComponent) (g h : Grid) (index sx sy : ℕ) (same : (y x : ℕ) → IsInRect (level_rect c.slicing c.size sx sy 0) y x → prediction g y x ≡ prediction h y x) where
  pub values_same : (level : ℕ) → All (λ p. value_of c g index p ≡ value_of c h index p) (places_of c.slicing c.size sx sy level)
  values_same level =
      All-weaker (InLowest (level_rect c.slicing c.size sx sy 0)) (λ p. value_of c g index p ≡ value_of c h index p)
      (λ p inside. value_same c g h index p (λ zero. same p.y p.x (inside zero)))
      (places_of c.slicing c.size sx sy level) (lowest_inside c.slicing c.size sx sy level)

luma_same : (c : CodedComponent) (g h : Grid) (index sx sy : ℕ) → ((y x : ℕ) → IsInRect (level_rect c.slicing c.size sx sy 0) y x → prediction g y x ≡ prediction h y x) → luma_list c g index sx sy ≡ luma_list c h index sx sy
luma_same c g h index sx sy same = map_same (value_of c g index) (value_of c h index) (places_of c.slicing c.size sx sy c.slicing.depth) (values_same c g h index sx sy same c.slicing.depth)

-- the values of two components in turn
colour_same : (c1 c2 : CodedComponent) (g1 h1 g2 h2 : Grid) (index sx sy : ℕ) → c2.slicing ≡ c1.slicing → c2.size ≡ c1.size
    → All (λ p. value_of c1 g1 index p ≡ value_of c1 h1 index p) (places_of c1.slicing c1.size sx sy c1.slicing.depth)
    → All (λ p. value_of c2 g2 index p ≡ value_of c2 h2 index p) (places_of c1.slicing c1.size sx sy c1.slicing.depth)
    → colour_list c1 c2 g1 g2 index sx sy ≡ colour_list c1 c2 h1 h2 index sx sy
colour_same c1 c2 g1 h1 g2 h2 index sx sy es ez first second =
    joined_same (λ p. value_of c1 g1 index p ∷ value_of c2 g2 index p ∷ []) (λ p. value_of c1 h1 index p ∷ value_of c2 h2 index p ∷ []) (places_of c1.slicing c1.size sx sy c1.slicing.depth)
    (both (places_of c1.slicing c1.size sx sy c1.slicing.depth) first second)
  where
    both : (ps : List Place) → All (λ p. value_of c1 g1 index p ≡ value_of c1 h1 index p) ps → All (λ p. value_of c2 g2 index p ≡ value_of c2 h2 index p) ps
        → All (λ p. value_of c1 g1 index p ∷ value_of c2 g2 index p ∷ [] ≡ value_of c1 h1 index p ∷ value_of c2 h2 index p ∷ []) ps
    both [] a b = All-nil _
    both (p ∷ ps) a b =
        let one = All-head (λ p. value_of c1 g1 index p ≡ value_of c1 h1 index p) p ps a in
        let two = All-head (λ p. value_of c2 g2 index p ≡ value_of c2 h2 index p) p ps b in
        All-cons (λ p. value_of c1 g1 index p ∷ value_of c2 g2 index p ∷ [] ≡ value_of c1 h1 index p ∷ value_of c2 h2 index p ∷ []) p ps (rw (one, two) refl)
        (both ps (All-tail (λ p. value_of c1 g1 index p ≡ value_of c1 h1 index p) p ps a) (All-tail (λ p. value_of c2 g2 index p ≡ value_of c2 h2 index p) p ps b))

-- ---- the law

predicted : (c : CodedComponent) (indices : List ℕ) (sx sy index : ℕ) (p : Raster ℤ) → AreSlicesAllowed c.slicing → sx < c.slicing.slices_x → sy < c.slicing.slices_y
    → length indices ≡ slice_number c.slicing sx sy → KeptHasSize c p → IsKept c indices p
    → (y x : ℕ) → IsInRect (level_rect c.slicing c.size sx sy 0) y x → prediction (tried c sx sy index (at p)) y x ≡ prediction (restored_after c (indices ++ index ∷ [])) y x
predicted c indices sx sy index p allowed across down number size kept y x here =
    let band = band_size c.slicing.depth 0 c.size in
    predicted_same c indices sx sy index p allowed across number size kept y x
    (omega (arith, here.bottom, end_inside band.h c.slicing.slices_y sy down)) (omega (arith, here.right, end_inside band.w c.slicing.slices_x sx across)) here

pub lists_go_on : (j : CodedPicture) (indices : List ℕ) (sx sy index : ℕ) (old : ThreePlanes) → IsNext j indices sx sy → KeptHaveSizes j old → AreKept j indices old → tried_lists j old sx sy index ≡ last_lists j (indices ++ index ∷ []) sx sy
lists_go_on j indices sx sy index old next sizes kept =
    let longer = indices ++ index ∷ [] in
    let luma = predicted (luma_of j) indices sx sy index old.luma next.allowed next.across next.down next.number sizes.luma kept.luma in
    let c1 = predicted (c1_of j) indices sx sy index old.c1 next.allowed next.across next.down next.number sizes.c1 kept.c1 in
    let c2 = predicted (c2_of j) indices sx sy index old.c2 next.allowed next.across next.down next.number sizes.c2 kept.c2 in
    let last : get_or longer (slice_number j.slicing sx sy) 0 ≡ index = last_index indices (slice_number j.slicing sx sy) index next.number in
    let luma_list_same = luma_same (luma_of j) (tried (luma_of j) sx sy index (at old.luma)) (restored_after (luma_of j) longer) index sx sy luma in
    let colour_list_same =
    colour_same (c1_of j) (c2_of j) (tried (c1_of j) sx sy index (at old.c1)) (restored_after (c1_of j) longer) (tried (c2_of j) sx sy index (at old.c2)) (restored_after (c2_of j) longer) index sx sy refl refl
    (values_same (c1_of j) (tried (c1_of j) sx sy index (at old.c1)) (restored_after (c1_of j) longer) index sx sy c1 j.slicing.depth)
    (values_same (c2_of j) (tried (c2_of j) sx sy index (at old.c2)) (restored_after (c2_of j) longer) index sx sy c2 j.slicing.depth)
    in
    ap (λ l. record { luma = l; colour = colour_list (c1_of j) (c2_of j) (tried (c1_of j) sx sy index (at old.c1)) (tried (c2_of j) sx sy index (at old.c2)) index sx sy }) luma_list_same
    ∙ ap (λ l. record { luma = luma_list (luma_of j) (restored_after (luma_of j) longer) index sx sy; colour = l }) colour_list_same
    ∙ ap (λ (i : ℕ). lists j (restored_after (luma_of j) longer) (restored_after (c1_of j) longer) (restored_after (c2_of j) longer) i sx sy) (sym last)

pub go_on : TrialsGoOn
go_on j indices sx sy index old new next sizes kept tries = (
  lists_go_on j indices sx sy index old next sizes kept,
  record {
    luma = kept_on (luma_of j) indices sx sy index old.luma next.allowed next.across next.number sizes.luma kept.luma new.luma tries.luma;
    c1 = kept_on (c1_of j) indices sx sy index old.c1 next.allowed next.across next.number sizes.c1 kept.c1 new.c1 tries.c1;
    c2 = kept_on (c2_of j) indices sx sy index old.c2 next.allowed next.across next.number sizes.c2 kept.c2 new.c2 tries.c2;
  },
)
