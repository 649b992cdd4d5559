-- The bounds that leave the lowest subbands out.
use Rattle.std.proofs.Common.{◌≡◌, ◌∙◌, refl, sym, subst, ℕ, zero, suc, ◌+◌, ◌-◌, ◌*◌, ◌^◌, ◌≤◌, Bool, true, false, cond, eqb, List, [], ◌∷◌, ◌++◌, map, arith, ℤ}
use Rattle.std.specs.Prelude.{nat_le, ◌&&◌}
use Rattle.std.specs.List.{sum_by, flat_map, range_with_len}
use Rattle.std.proofs.Math.Dec.{T, eqb→eq, leb→le}
use Rattle.std.proofs.lemmas.Bool.{le-leb}
use Rattle.std.proofs.lemmas.List.Sums.{sum_by-cons, sum_by-append, sum_by-le-sum_by}
use Rattle.planes.specs.declared.Rect.{Rect}
use Rattle.planes.specs.Raster.{Grid}
use Rattle.quant_factors.specs.Factors.{forward_of}
use Rattle.quant_factors.specs.Weights.{band_quantiser}
use Rattle.quant_factors.proofs.QuantLemmas.{coarser}
use Rattle.slice_geometry.specs.Slicing.{length_bits}
use Rattle.slice_geometry.specs.SliceOrder.{level_rect}
use Rattle.slice_encoder.specs.Order.{Place, row_places, rect_places, places_of}
use Rattle.slice_encoder.specs.Trials.{CodedComponent, coefficient, value_of, luma_list, colour_list, CodedPicture, luma_of, c1_of, c2_of}
use Rattle.slice_encoder.specs.Choice.{needs_fit}
use Rattle.slice_encoder.specs.LowNeeds.{counted_bits, row_bits, rect_bits, band_bits, bits_to, high_bits, lower_of, may_fit, LowerIsNoGreater, LowerFalls, MayNotFit}
use Rattle.slice_encoder.proofs.CountedBits.{counted-rises, list_needs}

-- ---- a coarser index counts no more

rect_falls : (g : Grid) (p q : ℕ) (r : Rect) → p ≤ q → q ≤ 127 → rect_bits g q r ≤ rect_bits g p r
rect_falls g p q r le most =
    sum_by-le-sum_by (row_bits g q r) (row_bits g p r) (range_with_len r.y0 (r.y1 - r.y0))
    (λ y. sum_by-le-sum_by (λ x. counted_bits (forward_of (g y x) q)) (λ x. counted_bits (forward_of (g y x) p)) (range_with_len r.x0 (r.x1 - r.x0))
    (λ x. counted-rises (forward_of (g y x) q) (forward_of (g y x) p) (coarser (g y x) p q le most)))

module _ (c : CodedComponent) (sx sy i k : ℕ) (le : i ≤ k) (most : k ≤ 127) where
  band_falls : (level orient : ℕ) → band_bits c k sx sy level orient ≤ band_bits c i sx sy level orient
  band_falls level orient =
      rect_falls (coefficient c level orient) (band_quantiser c.matrix i level orient) (band_quantiser c.matrix k level orient) (level_rect c.slicing c.size sx sy level) (omega (arith, le)) (omega (arith, most))

  bits_fall : (level : ℕ) → bits_to c k sx sy level ≤ bits_to c i sx sy level
  bits_fall zero = omega arith
  bits_fall (suc level) = omega (arith, bits_fall level, band_falls (suc level) 1, band_falls (suc level) 2, band_falls (suc level) 3)

  pub high_falls : high_bits c k sx sy ≤ high_bits c i sx sy
  high_falls = bits_fall c.slicing.depth

pub falls : LowerFalls
falls j sx sy i k le most =
    (omega (arith, high_falls (luma_of j) sx sy i k le most), omega (arith, high_falls (c1_of j) sx sy i k le most, high_falls (c2_of j) sx sy i k le most))

-- ---- all that is counted is in the list

sum_mapped : {X Y : Type 0} (f : Y → ℕ) (g : X → Y) (xs : List X) → sum_by f (map g xs) ≡ sum_by (λ x. f (g x)) xs
sum_mapped f g [] = refl
sum_mapped f g (x ∷ xs) = omega (arith, sum_by-cons f (g x) (map g xs), sum_by-cons (λ x. f (g x)) x xs, sum_mapped f g xs)

sum_joined : {X Y : Type 0} (f : Y → ℕ) (g : X → List Y) (xs : List X) → sum_by f (flat_map g xs) ≡ sum_by (λ x. sum_by f (g x)) xs
sum_joined f g [] = refl
sum_joined f g (x ∷ xs) = omega (arith, sum_by-append f (g x) (flat_map g xs), sum_by-cons (λ x. sum_by f (g x)) x xs, sum_joined f g xs)

rect_counted : (f : Place → ℕ) (g : Grid) (q level orient : ℕ) (r : Rect) → ((y x : ℕ) → counted_bits (forward_of (g y x) q) ≤ f (record { level = level; orient = orient; y = y; x = x })) → rect_bits g q r ≤ sum_by f (rect_places level orient r)
rect_counted f g q level orient r each =
    let rows = range_with_len r.y0 (r.y1 - r.y0) in
    let columns = range_with_len r.x0 (r.x1 - r.x0) in
    let row : (y : ℕ) → row_bits g q r y ≤ sum_by f (row_places level orient r y) = λ y.
    omega (
      arith,
      sum_mapped f (λ x. record { level = level; orient = orient; y = y; x = x }) columns,
      sum_by-le-sum_by (λ x. counted_bits (forward_of (g y x) q)) (λ x. f (record { level = level; orient = orient; y = y; x = x })) columns (each y),
    )
    in
    omega (arith, sum_joined f (row_places level orient r) rows, sum_by-le-sum_by (row_bits g q r) (λ y. sum_by f (row_places level orient r y)) rows row)

second : (b : Bool) (x y : ℤ) → (b ≡ true → ⊥) → counted_bits y ≤ counted_bits (cond b x y)
second true x y not = absurd (not refl)
second false x y not = omega arith

module _ (c : CodedComponent) (g : Grid) (index sx sy : ℕ) where
  counted_at : Place → ℕ
  counted_at p = counted_bits (value_of c g index p)

  band_counted : (level orient : ℕ) → band_bits c index sx sy (suc level) orient ≤ sum_by counted_at (rect_places (suc level) orient (level_rect c.slicing c.size sx sy (suc level)))
  unfolding counted_at
  band_counted level orient =
      rect_counted counted_at (coefficient c (suc level) orient) (band_quantiser c.matrix index (suc level) orient) (suc level) orient (level_rect c.slicing c.size sx sy (suc level))
      (λ y x. second (eqb (suc level) 0) _ _ (λ e. let none : suc level ≡ 0 = eqb→eq (suc level) 0 (subst T (sym e) tt) in absurd (omega arith)))

  counted_to : (level : ℕ) → bits_to c index sx sy level ≤ sum_by counted_at (places_of c.slicing c.size sx sy level)
  counted_to zero = omega arith
  counted_to (suc level) =
      let r = level_rect c.slicing c.size sx sy (suc level) in
      let one = rect_places (suc level) 1 r in
      let two = rect_places (suc level) 2 r in
      let three = rect_places (suc level) 3 r in
      omega (
        arith,
        counted_to level,
        band_counted level 1,
        band_counted level 2,
        band_counted level 3,
        sum_by-append counted_at (places_of c.slicing c.size sx sy level) (one ++ (two ++ three)),
        sum_by-append counted_at one (two ++ three),
        sum_by-append counted_at two three,
      )

  pub luma_counted : high_bits c index sx sy ≤ sum_by counted_bits (luma_list c g index sx sy)
  unfolding counted_at
  luma_counted =
      let places = places_of c.slicing c.size sx sy c.slicing.depth in
      omega (arith, counted_to c.slicing.depth, sum_mapped counted_bits (value_of c g index) places)

-- a sum over two values a place is a sum over the first ones and one over the second ones
pairs_counted : {X : Type 0} (f : ℤ → ℕ) (v w : X → ℤ) (xs : List X) → sum_by f (flat_map (λ x. v x ∷ w x ∷ []) xs) ≡ sum_by f (map v xs) + sum_by f (map w xs)
pairs_counted f v w [] = refl
pairs_counted f v w (x ∷ xs) =
    let rest = flat_map (λ x. v x ∷ w x ∷ []) xs in
    omega (
      arith,
      sum_by-cons f (v x) (w x ∷ rest),
      sum_by-cons f (w x) rest,
      sum_by-cons f (v x) (map v xs),
      sum_by-cons f (w x) (map w xs),
      pairs_counted f v w xs,
    )

pub no_greater : LowerIsNoGreater
no_greater j luma c1 c2 index sx sy =
    let lumas = luma_list (luma_of j) luma index sx sy in
    let colours = colour_list (c1_of j) (c2_of j) c1 c2 index sx sy in
    let places = places_of j.slicing j.frame.colour sx sy j.slicing.depth in (
      omega (arith, luma_counted (luma_of j) luma index sx sy, (list_needs lumas).most),
      omega (
        arith,
        luma_counted (c1_of j) c1 index sx sy,
        luma_counted (c2_of j) c2 index sx sy,
        pairs_counted counted_bits (value_of (c1_of j) c1 index) (value_of (c2_of j) c2 index) places,
        (list_needs colours).most,
      ),
    )

-- ---- what may not fit doesn't

fit_parts : (a b : Bool) → (a && b) ≡ true → (a ≡ true) × (b ≡ true)
fit_parts true b e = (refl, e)
fit_parts false b e = absurd (let q : false ≡ true = e in cc)

pub less_fits : (bytes a b c d : ℕ) → a ≤ c → b ≤ d → needs_fit bytes c d ≡ true → needs_fit bytes a b ≡ true
less_fits bytes a b c d la lb fit =
    let parts = fit_parts (nat_le c (2 ^ length_bits bytes - 1)) (nat_le (c + d) (8 * bytes - 7 - length_bits bytes)) fit in
    let first : c ≤ 2 ^ length_bits bytes - 1 = leb→le _ _ (subst T (sym parts.0) tt) in
    let both : c + d ≤ 8 * bytes - 7 - length_bits bytes = leb→le _ _ (subst T (sym parts.1) tt) in
    rw (le-leb a (2 ^ length_bits bytes - 1) (omega arith), le-leb (a + b) (8 * bytes - 7 - length_bits bytes) (omega arith)) refl

not_true : (b c : Bool) → (c ≡ true → b ≡ true) → b ≡ false → c ≡ false
not_true b true up refused = absurd (let q : false ≡ true = sym refused ∙ up refl in cc)
not_true b false up refused = refl

pub more_does_not_fit : (bytes a b c d : ℕ) → a ≤ c → b ≤ d → needs_fit bytes a b ≡ false → needs_fit bytes c d ≡ false
more_does_not_fit bytes a b c d la lb refused = not_true (needs_fit bytes a b) (needs_fit bytes c d) (less_fits bytes a b c d la lb) refused

pub refuted_below : (j : CodedPicture) (bytes sx sy i k : ℕ) → i ≤ k → k ≤ 127 → may_fit bytes (lower_of j sx sy k) ≡ false → may_fit bytes (lower_of j sx sy i) ≡ false
refuted_below j bytes sx sy i k le most refused =
    let fall = falls j sx sy i k le most in
    more_does_not_fit bytes _ _ _ _ fall.0 fall.1 refused

pub refutes : MayNotFit
refutes j luma c1 c2 bytes sx sy i k le most refused =
    let low = no_greater j luma c1 c2 i sx sy in
    more_does_not_fit bytes _ _ _ _ low.0 low.1 (refuted_below j bytes sx sy i k le most refused)
