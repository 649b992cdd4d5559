-- How far the codes of a slice's values reach outside the lowest subband bounds what the slice needs.
use Rattle.std.proofs.Common.{◌≡◌, ◌∙◌, refl, sym, ap, subst, ℕ, zero, suc, ◌+◌, ◌-◌, ◌*◌, ◌<◌, ◌≤◌, Bool, true, false, cond, eqb, List, [], ◌∷◌, ◌++◌, length, map, append_assoc, append-nil, drop, arith, inl, inr, ℤ, pos, negsuc}
use Rattle.std.specs.Prelude.{unsigned_abs}
use Rattle.std.specs.List.{flat_map, range_with_len}
use Rattle.std.proofs.Math.Dec.{T, eqb→eq}
use Rattle.std.proofs.lemmas.Bool.{cases_eq}
use Rattle.std.proofs.lemmas.Bool.Decides.{nat_tests}
use Rattle.planes.specs.Raster.{Raster, Grid, at}
use Rattle.planes.specs.declared.Rect.{Rect}
use Rattle.bit_codes.specs.Codes.{interleaved, digits_before, code_of, signed_code_of}
use Rattle.bit_codes.proofs.CodeOf.{length-interleaved}
use Rattle.std.proofs.lemmas.List.{length-append}
use Rattle.std.proofs.lemmas.List.FromFn.{length-map-range_with_len}
use Rattle.bounded_blocks.specs.Blocks.{AreOnes, need_of}
use Rattle.bounded_blocks.specs.Writing.{codes_of, need}
use Rattle.bounded_blocks.proofs.Needs.{need-append, need-append-ones, ones-beyond, code-zero}
use Rattle.dc_prediction.specs.Prediction.{prediction}
use Rattle.quant_factors.specs.Factors.{forward_of}
use Rattle.quant_factors.specs.Weights.{Weights, band_quantiser}
use Rattle.quant_factors.proofs.QuantLemmas.{coarser}
use Rattle.slice_geometry.specs.SliceOrder.{level_rect, level_of, orient_of, numbered}
use Rattle.std.proofs.Math.Seq.{drop-append_seam}
use Rattle.std.proofs.lemmas.Grind.{flat_map-append}
use Rattle.std.proofs.lemmas.List.Concat.{flat_map_single}
use Rattle.slice_geometry.specs.declared.Size.{Size}
use Rattle.slice_geometry.specs.Slicing.{Slicing}
use Rattle.slice_encoder.specs.Order.{Place, row_places, rect_places, places_of}
use Rattle.slice_encoder.specs.Loop.{residual_of}
use Rattle.slice_encoder.specs.Trials.{CodedComponent, coefficient, value_of, luma_list, colour_list, CodedPicture, c1_of, c2_of}
use Rattle.slice_encoder.specs.Listing.{band_value, row_values, rect_values, pair_row, pair_values}
use Rattle.slice_encoder.specs.LowNeeds.{counted_bits}
use Rattle.slice_encoder.specs.Listing.{band_part, pair_part}
use Rattle.slice_encoder.specs.Gathering.{quantised, in_turn, with_code, reach, high_part, high_pair, behind_lowest}
use Rattle.slice_encoder.proofs.Parts.{parts_before, pairs_before}
use Rattle.slice_encoder.proofs.CountedBits.{counted-rises, NeedsMost, one_code}
use Rattle.slice_encoder.proofs.BandParts.{bands_listed, pairs_listed, map_joined, map_map, rect_listed, either_same, joined_joined, joined_map, pair_here}
use Rattle.slice_encoder.proofs.Gathers.{reach_append, turn_append}

-- ---- one value

pub code_some : (v : ℤ) → 1 ≤ length (signed_code_of v)
unfolding code_of
code_some (pos zero) = omega (arith, length-interleaved (digits_before 64 1 []))
code_some (pos (suc n)) = omega (arith, length-interleaved (digits_before 64 (suc n + 1) []), length-append (interleaved (digits_before 64 (suc n + 1) [])) (false ∷ []))
code_some (negsuc n) = omega (arith, length-interleaved (digits_before 64 (suc n + 1) []), length-append (interleaved (digits_before 64 (suc n + 1) [])) (true ∷ []))

-- a value that isn't 0 takes more than a bit
pub code_long : (v : ℤ) → 1 ≤ unsigned_abs v → 2 ≤ length (signed_code_of v)
unfolding code_of
code_long (pos zero) some = absurd (omega arith)
code_long (pos (suc n)) some = omega (arith, length-interleaved (digits_before 64 (suc n + 1) []), length-append (interleaved (digits_before 64 (suc n + 1) [])) (false ∷ []))
code_long (negsuc n) some = omega (arith, length-interleaved (digits_before 64 (suc n + 1) []), length-append (interleaved (digits_before 64 (suc n + 1) [])) (true ∷ []))

code_counted : (v : ℤ) → 1 ≤ unsigned_abs v → length (signed_code_of v) ≡ counted_bits v
code_counted (pos zero) some = absurd (omega arith)
code_counted (pos (suc n)) some = refl
code_counted (negsuc n) some = refl

pub code_rises : (v w : ℤ) → unsigned_abs v ≤ unsigned_abs w → length (signed_code_of v) ≤ length (signed_code_of w)
code_rises v w le = elim (cases_eq (unsigned_abs v) 0) [
  | inl none ↦ omega (arith, ap (λ (t : ℤ). length (signed_code_of t)) (nothing v none), one_bit, code_some w)
  | inr ne ↦ omega (arith, code_counted v (omega arith), code_counted w (omega arith), counted-rises v w le)
]
  where
    nothing : (v : ℤ) → unsigned_abs v ≡ 0 → v ≡ pos 0
    nothing (pos zero) e = refl
    nothing (pos (suc n)) e = absurd (omega arith)
    nothing (negsuc n) e = absurd (omega arith)

    one_bit : length (signed_code_of (pos 0)) ≡ 1
    one_bit = ap (λ (t : List Bool). length t) code-zero

-- ---- one value in front

pub with_none : (v : ℤ) (b : ℕ) → unsigned_abs v + b ≡ 0 → with_code v b ≡ 0
with_none v b none = grind (arith, nat_tests)

pub with_some : (v : ℤ) (b : ℕ) → 1 ≤ unsigned_abs v + b → with_code v b ≡ length (signed_code_of v) + b
with_some v b some = grind (arith, nat_tests)

with_most : (v : ℤ) (b : ℕ) → with_code v b ≤ length (signed_code_of v) + b
with_most v b = elim (cases_eq (unsigned_abs v + b) 0) [
  | inl none ↦ omega (arith, with_none v b none)
  | inr some ↦ omega (arith, with_some v b (omega arith))
]

with_rises : (v w : ℤ) (a b : ℕ) → unsigned_abs v ≤ unsigned_abs w → a ≤ b → with_code v a ≤ with_code w b
with_rises v w a b le less = elim (cases_eq (unsigned_abs v + a) 0) [
  | inl none ↦ omega (arith, with_none v a none)
  | inr some ↦ omega (arith, with_some v a (omega arith), with_some w b (omega arith), code_rises v w le)
]

-- ---- a coarser index reaches no further

quantised_falls : (i k : ℕ) → i ≤ k → k ≤ 127 → (vs : List ℤ) (a b : ℕ) → a ≤ b → reach (quantised k vs) a ≤ reach (quantised i vs) b
quantised_falls i k le most [] a b less = less
quantised_falls i k le most (v ∷ vs) a b less = with_rises (forward_of v k) (forward_of v i) (reach (quantised k vs) a) (reach (quantised i vs) b) (coarser v i k le most) (quantised_falls i k le most vs a b less)

abbrev pub all_quantised : Weights → (ℕ → List ℤ) → ℕ → ℕ → List ℤ
all_quantised matrix parts index k = quantised (band_quantiser matrix index (level_of k) (orient_of k)) (parts k)

pub bands_fall : (matrix : Weights) (parts : ℕ → List ℤ) (i k : ℕ) → i ≤ k → k ≤ 127 → (ks : List ℕ) (a b : ℕ) → a ≤ b → reach (flat_map (all_quantised matrix parts k) ks) a ≤ reach (flat_map (all_quantised matrix parts i) ks) b
bands_fall matrix parts i k le most [] a b less = less
bands_fall matrix parts i k le most (n ∷ ks) a b less =
    let later = bands_fall matrix parts i k le most ks a b less in
    let p : ℕ = band_quantiser matrix i (level_of n) (orient_of n) in
    let q : ℕ = band_quantiser matrix k (level_of n) (orient_of n) in
    omega (
      arith,
      reach_append (all_quantised matrix parts k n) (flat_map (all_quantised matrix parts k) ks) a,
      reach_append (all_quantised matrix parts i n) (flat_map (all_quantised matrix parts i) ks) b,
      quantised_falls p q (omega (arith, le)) (omega (arith, most)) (parts n) (reach (flat_map (all_quantised matrix parts k) ks) a) (reach (flat_map (all_quantised matrix parts i) ks) b) later,
    )

-- two lists in turn
turn_falls : (i k : ℕ) → i ≤ k → k ≤ 127 → (vs ws : List ℤ) (a b : ℕ) → a ≤ b → reach (in_turn (quantised k vs) (quantised k ws)) a ≤ reach (in_turn (quantised i vs) (quantised i ws)) b
turn_falls i k le most [] ws a b less = less
turn_falls i k le most (v ∷ vs) [] a b less = less
turn_falls i k le most (v ∷ vs) (w ∷ ws) a b less =
    with_rises (forward_of v k) (forward_of v i) (with_code (forward_of w k) (reach (in_turn (quantised k vs) (quantised k ws)) a)) (with_code (forward_of w i) (reach (in_turn (quantised i vs) (quantised i ws)) b)) (coarser v i k le most)
    (with_rises (forward_of w k) (forward_of w i) (reach (in_turn (quantised k vs) (quantised k ws)) a) (reach (in_turn (quantised i vs) (quantised i ws)) b) (coarser w i k le most) (turn_falls i k le most vs ws a b less))

abbrev pub all_in_turn : Weights → (ℕ → List ℤ) → (ℕ → List ℤ) → ℕ → ℕ → List ℤ
all_in_turn matrix parts others index k = in_turn (all_quantised matrix parts index k) (all_quantised matrix others index k)

pub pairs_fall : (matrix : Weights) (parts others : ℕ → List ℤ) (i k : ℕ) → i ≤ k → k ≤ 127 → (ks : List ℕ) (a b : ℕ) → a ≤ b → reach (flat_map (all_in_turn matrix parts others k) ks) a ≤ reach (flat_map (all_in_turn matrix parts others i) ks) b
pairs_fall matrix parts others i k le most [] a b less = less
pairs_fall matrix parts others i k le most (n ∷ ks) a b less =
    let later = pairs_fall matrix parts others i k le most ks a b less in
    let p : ℕ = band_quantiser matrix i (level_of n) (orient_of n) in
    let q : ℕ = band_quantiser matrix k (level_of n) (orient_of n) in
    omega (
      arith,
      reach_append (all_in_turn matrix parts others k n) (flat_map (all_in_turn matrix parts others k) ks) a,
      reach_append (all_in_turn matrix parts others i n) (flat_map (all_in_turn matrix parts others i) ks) b,
      turn_falls p q (omega (arith, le)) (omega (arith, most)) (parts n) (others n) (reach (flat_map (all_in_turn matrix parts others k) ks) a) (reach (flat_map (all_in_turn matrix parts others i) ks) b) later,
    )

pub lowest_none : (n b : ℕ) → b ≡ 0 → behind_lowest n b ≡ 0
lowest_none n b none = grind (arith, nat_tests)

pub lowest_some : (n b : ℕ) → 1 ≤ b → behind_lowest n b ≡ n + b
lowest_some n b some = grind (arith, nat_tests)

pub lowest_rises : (m n a b : ℕ) → m ≤ n → a ≤ b → behind_lowest m a ≤ behind_lowest n b
lowest_rises m n a b more le = elim (cases_eq a 0) [
  | inl none ↦ omega (arith, lowest_none m a none)
  | inr some ↦ omega (arith, more, lowest_some m a (omega arith), lowest_some n b (omega arith))
]

-- ---- what is reached is needed, but for the ones at the end of the last code

pub reach_needs : (vs : List ℤ) → NeedsMost (reach vs 0) (need vs)
reach_needs [] = record { none = λ e. refl; most = omega arith }
reach_needs (v ∷ vs) =
    let later = reach_needs vs in
    elim (cases_eq (need vs) 0) as (λ _. NeedsMost (reach (v ∷ vs) 0) (need (v ∷ vs))) [
      | inl none ↦
          let ones : AreOnes (codes_of vs) = ones-beyond [] (codes_of vs) (omega (arith, none)) in
          let same : need (v ∷ vs) ≡ need_of (signed_code_of v) = need-append-ones (signed_code_of v) (codes_of vs) ones in
          let one = one_code v in
          let alone : with_code v (reach vs 0) ≡ counted_bits v = ap (with_code v) (later.none none) ∙ with_nothing v in
          record { none = λ e. alone ∙ one.none (sym same ∙ e); most = omega (arith, alone, same, one.most) }
      | inr ne ↦
          let some : need vs ≡ suc (need vs - 1) = omega arith in
          let all : need (v ∷ vs) ≡ length (signed_code_of v) + suc (need vs - 1) = need-append (signed_code_of v) (codes_of vs) (need vs - 1) some in
          record { none = λ e. absurd (omega (arith, all, e)); most = omega (arith, all, later.most, with_most v (reach vs 0)) }
    ]
  where
    plain : (n : ℕ) → n + 0 ≡ n
    plain n = omega arith

    with_nothing : (v : ℤ) → with_code v 0 ≡ counted_bits v
    with_nothing (pos zero) = refl
    with_nothing (pos (suc n)) = with_some (pos (suc n)) 0 (omega arith) ∙ plain (length (signed_code_of (pos (suc n))))
    with_nothing (negsuc n) = with_some (negsuc n) 0 (omega arith) ∙ plain (length (signed_code_of (negsuc n)))

-- the codes of values in front are counted whole where something behind them is
all_in_front : (ll : List ℤ) (b : ℕ) → 1 ≤ b → length (codes_of ll) + b ≤ reach ll b
all_in_front [] b some = omega arith
all_in_front (v ∷ ll) b some =
    let later = all_in_front ll b some in
    omega (arith, later, length-append (signed_code_of v) (codes_of ll), with_some v (reach ll b) (omega (arith, later, some)))

in_front : (ll : List ℤ) (n b : ℕ) → n ≤ length (codes_of ll) → behind_lowest n b ≤ reach ll b
in_front ll n b le = elim (cases_eq b 0) [
  | inl none ↦ omega (arith, lowest_none n b none)
  | inr some ↦ omega (arith, lowest_some n b (omega arith), all_in_front ll b (omega arith))
]

-- ---- the lists of a slice

pub flat_same : (f g : ℕ → List ℤ) (a n : ℕ) → ((k : ℕ) → a ≤ k → k < a + n → f k ≡ g k) → flat_map f (range_with_len a n) ≡ flat_map g (range_with_len a n)
flat_same f g a zero same = refl
flat_same f g a (suc n) same = ap (λ (t : List ℤ). t ++ flat_map f (range_with_len (a + 1) n)) (same a (omega arith) (omega arith)) ∙ ap (λ (t : List ℤ). g a ++ t) (flat_same f g (a + 1) n (λ k le lt. same k (omega arith) (omega arith)))

high_is : (c : CodedComponent) (kept : Raster ℤ) (index sx sy k : ℕ) → 1 ≤ k → high_part c index sx sy k ≡ band_part c kept index sx sy k
high_is c kept index sx sy k some =
    let q : ℕ = band_quantiser c.matrix index (level_of k) (orient_of k) in
    let r : Rect = level_rect c.slicing c.size sx sy (level_of k) in
    let g : Grid = at (numbered c.bands k) in
    map_joined (λ v. forward_of v q) (row_values g r) (row_values (band_value (numbered c.bands k) kept (level_of k) q) r)
    (λ y.
    map_map (λ v. forward_of v q) (g y) (band_value (numbered c.bands k) kept (level_of k) q y)
    (λ x. higher (eqb (level_of k) 0) _ (forward_of (g y x) q) (λ e. let none : level_of k ≡ 0 = eqb→eq (level_of k) 0 (subst T (sym e) tt) in absurd (omega arith)))
    (range_with_len r.x0 (r.x1 - r.x0)))
    (range_with_len r.y0 (r.y1 - r.y0))
  where
    higher : (b : Bool) (x y : ℤ) → (b ≡ true → ⊥) → y ≡ cond b x y
    higher true x y not = absurd (not refl)
    higher false x y not = refl

turn_rows : (g h : ℕ → ℤ) (xs : List ℕ) → in_turn (map g xs) (map h xs) ≡ flat_map (λ x. g x ∷ h x ∷ []) xs
turn_rows g h [] = refl
turn_rows g h (x ∷ xs) = ap (λ (t : List ℤ). g x ∷ h x ∷ t) (turn_rows g h xs)

turn_rects : (g h : Grid) (r : Rect) (ys : List ℕ) → in_turn (flat_map (row_values g r) ys) (flat_map (row_values h r) ys) ≡ flat_map (pair_row g h r) ys
turn_rects g h r [] = refl
turn_rects g h r (y ∷ ys) =
    let xs = range_with_len r.x0 (r.x1 - r.x0) in
    turn_append (row_values g r y) (row_values h r y) (flat_map (row_values g r) ys) (flat_map (row_values h r) ys) (length-map-range_with_len (g y) r.x0 (r.x1 - r.x0) ∙ sym (length-map-range_with_len (h y) r.x0 (r.x1 - r.x0)))
    ∙ ap (λ (t : List ℤ). t ++ in_turn (flat_map (row_values g r) ys) (flat_map (row_values h r) ys)) (turn_rows (g y) (h y) xs)
    ∙ ap (λ (t : List ℤ). pair_row g h r y ++ t) (turn_rects g h r ys)

pub pairs_are : (j : CodedPicture) (kept1 kept2 : Raster ℤ) (index sx sy k : ℕ) → 1 ≤ k → in_turn (high_part (c1_of j) index sx sy k) (high_part (c2_of j) index sx sy k) ≡ pair_part (c1_of j) (c2_of j) kept1 kept2 index sx sy k
pairs_are j kept1 kept2 index sx sy k some =
    let q : ℕ = band_quantiser j.matrix index (level_of k) (orient_of k) in
    let r : Rect = level_rect j.slicing j.frame.colour sx sy (level_of k) in
    ap (λ (t : List ℤ). in_turn t (high_part (c2_of j) index sx sy k)) (high_is (c1_of j) kept1 index sx sy k some)
    ∙ ap (in_turn (band_part (c1_of j) kept1 index sx sy k)) (high_is (c2_of j) kept2 index sx sy k some)
    ∙ turn_rects (band_value (numbered j.coefficients.c1 k) kept1 (level_of k) q) (band_value (numbered j.coefficients.c2 k) kept2 (level_of k) q) r (range_with_len r.y0 (r.y1 - r.y0))

-- the lowest subband's values, and then the others
pub luma_parts : (c : CodedComponent) (kept : Raster ℤ) (index sx sy : ℕ) → luma_list c (at kept) index sx sy ≡ band_part c kept index sx sy 0 ++ flat_map (high_part c index sx sy) (range_with_len 1 (3 * c.slicing.depth))
luma_parts c kept index sx sy =
    let one : 3 * c.slicing.depth + 1 ≡ suc (3 * c.slicing.depth) = omega arith in
    bands_listed c kept index sx sy c.slicing.depth
    ∙ ap (λ (n : ℕ). parts_before c kept index sx sy n) one
    ∙ sym (ap (λ (t : List ℤ). band_part c kept index sx sy 0 ++ t) (flat_same (high_part c index sx sy) (band_part c kept index sx sy) 1 (3 * c.slicing.depth) (λ k some lt. high_is c kept index sx sy k some)))

pub colour_parts : (j : CodedPicture) (kept1 kept2 : Raster ℤ) (index sx sy : ℕ)
    → colour_list (c1_of j) (c2_of j) (at kept1) (at kept2) index sx sy ≡ pair_part (c1_of j) (c2_of j) kept1 kept2 index sx sy 0 ++ flat_map (high_pair j index sx sy) (range_with_len 1 (3 * j.slicing.depth))
colour_parts j kept1 kept2 index sx sy =
    let one : 3 * j.slicing.depth + 1 ≡ suc (3 * j.slicing.depth) = omega arith in
    pairs_listed (c1_of j) (c2_of j) kept1 kept2 index sx sy j.slicing.depth
    ∙ ap (λ (n : ℕ). pairs_before (c1_of j) (c2_of j) kept1 kept2 index sx sy n) one
    ∙ sym (ap (λ (t : List ℤ). pair_part (c1_of j) (c2_of j) kept1 kept2 index sx sy 0 ++ t) (flat_same (high_pair j index sx sy) (pair_part (c1_of j) (c2_of j) kept1 kept2 index sx sy) 1 (3 * j.slicing.depth) (λ k some lt. pairs_are j kept1 kept2 index sx sy k some)))

-- ---- whatever is restored in the lowest subband

high_places : Slicing → Size → ℕ → ℕ → ℕ → List Place
high_places s size sx sy zero = []
high_places s size sx sy (suc level) =
    let r = level_rect s size sx sy (suc level) in
    high_places s size sx sy level ++ (rect_places (suc level) 1 r ++ (rect_places (suc level) 2 r ++ rect_places (suc level) 3 r))

places_split : (s : Slicing) (size : Size) (sx sy level : ℕ) → places_of s size sx sy level ≡ rect_places 0 0 (level_rect s size sx sy 0) ++ high_places s size sx sy level
unfolding high_places
places_split s size sx sy zero = sym (append-nil (rect_places 0 0 (level_rect s size sx sy 0)))
places_split s size sx sy (suc level) =
    let r = level_rect s size sx sy (suc level) in
    let more = rect_places (suc level) 1 r ++ (rect_places (suc level) 2 r ++ rect_places (suc level) 3 r) in
    ap (λ (t : List Place). t ++ more) (places_split s size sx sy level) ∙ append_assoc (rect_places 0 0 (level_rect s size sx sy 0)) (high_places s size sx sy level) more

-- lists that are the same above the lowest level
module _ (f h : Place → List ℤ) (same : (level orient y x : ℕ) → f (record { level = suc level; orient = orient; y = y; x = x }) ≡ h (record { level = suc level; orient = orient; y = y; x = x })) where
  rect_same : (level orient : ℕ) (r : Rect) → flat_map f (rect_places (suc level) orient r) ≡ flat_map h (rect_places (suc level) orient r)
  rect_same level orient r =
      let xs = range_with_len r.x0 (r.x1 - r.x0) in
      let ys = range_with_len r.y0 (r.y1 - r.y0) in
      let place : ℕ → ℕ → Place = λ y x. record { level = suc level; orient = orient; y = y; x = x } in
      let row = λ (y : ℕ). flat_map (λ x. h (place y x)) xs in
      joined_joined f (row_places (suc level) orient r) row (λ y. joined_map f (place y) (λ x. h (place y x)) (same level orient y) xs) ys
      ∙ sym (joined_joined h (row_places (suc level) orient r) row (λ y. joined_map h (place y) (λ x. h (place y x)) (λ x. refl) xs) ys)

  higher_same : (s : Slicing) (size : Size) (sx sy level : ℕ) → flat_map f (high_places s size sx sy level) ≡ flat_map h (high_places s size sx sy level)
  unfolding high_places
  higher_same s size sx sy zero = refl
  higher_same s size sx sy (suc level) =
      let r = level_rect s size sx sy (suc level) in
      let before = high_places s size sx sy level in
      let one = rect_places (suc level) 1 r in
      let two = rect_places (suc level) 2 r in
      let three = rect_places (suc level) 3 r in
      four f before one two three ∙ rw (higher_same s size sx sy level, rect_same level 1 r, rect_same level 2 r, rect_same level 3 r) refl ∙ sym (four h before one two three)
    where
      four : (p : Place → List ℤ) (a b c d : List Place) → flat_map p (a ++ (b ++ (c ++ d))) ≡ flat_map p a ++ (flat_map p b ++ (flat_map p c ++ flat_map p d))
      four p a b c d =
          flat_map-append p a (b ++ (c ++ d))
          ∙ ap (λ (t : List ℤ). flat_map p a ++ t) (flat_map-append p b (c ++ d))
          ∙ ap (λ (t : List ℤ). flat_map p a ++ (flat_map p b ++ t)) (flat_map-append p c d)

suffix : (a b c : List ℤ) → a ++ b ≡ a ++ c → b ≡ c
suffix a b c e = sym (drop-append_seam a b) ∙ ap (drop (length a)) e ∙ drop-append_seam a c

value_same : (c : CodedComponent) (g h : Grid) (index level orient y x : ℕ) → value_of c g index (record { level = suc level; orient = orient; y = y; x = x }) ≡ value_of c h index (record { level = suc level; orient = orient; y = y; x = x })
value_same c g h index level orient y x = either_same (eqb (suc level) 0) _ _ _ _ (λ e. let none : suc level ≡ 0 = eqb→eq (suc level) 0 (subst T (sym e) tt) in absurd (omega arith)) refl

-- a place of the lowest subband has its residual, over these restored values
abbrev pub lowest_value : CodedComponent → Grid → ℕ → Grid
lowest_value c g index y x = residual_of (coefficient c 0 0 y x) (band_quantiser c.matrix index 0 0) (prediction g y x)

module _ (c : CodedComponent) (g : Grid) (index sx sy : ℕ) where
  one_list : (h : Grid) → luma_list c h index sx sy ≡ flat_map (λ p. value_of c h index p ∷ []) (places_of c.slicing c.size sx sy c.slicing.depth)
  one_list h = sym (flat_map_single (value_of c h index) (places_of c.slicing c.size sx sy c.slicing.depth))

  pub luma_split : luma_list c g index sx sy ≡ rect_values (lowest_value c g index) (level_rect c.slicing c.size sx sy 0) ++ flat_map (high_part c index sx sy) (range_with_len 1 (3 * c.slicing.depth))
  luma_split =
      let kept : Raster ℤ = numbered c.bands 0 in
      let f = λ (p : Place). value_of c g index p ∷ [] in
      let h = λ (p : Place). value_of c (at kept) index p ∷ [] in
      let r = level_rect c.slicing c.size sx sy 0 in
      let first = rect_places 0 0 r in
      let higher = high_places c.slicing c.size sx sy c.slicing.depth in
      let high = flat_map (high_part c index sx sy) (range_with_len 1 (3 * c.slicing.depth)) in
      let split = λ (q : Place → List ℤ). ap (flat_map q) (places_split c.slicing c.size sx sy c.slicing.depth) ∙ flat_map-append q first higher in
      let front : flat_map h first ≡ band_part c kept index sx sy 0 = flat_map_single (value_of c (at kept) index) first ∙ rect_listed (value_of c (at kept) index) (band_value (numbered c.bands 0) kept 0 (band_quantiser c.matrix index 0 0)) 0 0 r (λ y x. refl) in
      let rest : flat_map h higher ≡ high = suffix (band_part c kept index sx sy 0) (flat_map h higher) high (ap (λ (t : List ℤ). t ++ flat_map h higher) (sym front) ∙ sym (split h) ∙ sym (one_list (at kept)) ∙ luma_parts c kept index sx sy) in
      let lowest : flat_map f first ≡ rect_values (lowest_value c g index) r = flat_map_single (value_of c g index) first ∙ rect_listed (value_of c g index) (lowest_value c g index) 0 0 r (λ y x. refl) in
      one_list g
      ∙ split f
      ∙ ap (λ (t : List ℤ). flat_map f first ++ t) (higher_same f h (λ level orient y x. ap (λ v. v ∷ []) (value_same c g (at kept) index level orient y x)) c.slicing c.size sx sy c.slicing.depth ∙ rest)
      ∙ ap (λ (t : List ℤ). t ++ high) lowest

module _ (j : CodedPicture) (g1 g2 : Grid) (index sx sy : ℕ) where
  pub colour_split : colour_list (c1_of j) (c2_of j) g1 g2 index sx sy
      ≡ pair_values (lowest_value (c1_of j) g1 index) (lowest_value (c2_of j) g2 index) (level_rect j.slicing j.frame.colour sx sy 0) ++ flat_map (high_pair j index sx sy) (range_with_len 1 (3 * j.slicing.depth))
  colour_split =
      let c1 = c1_of j in
      let c2 = c2_of j in
      let kept1 : Raster ℤ = numbered c1.bands 0 in
      let kept2 : Raster ℤ = numbered c2.bands 0 in
      let f = λ (p : Place). value_of c1 g1 index p ∷ value_of c2 g2 index p ∷ [] in
      let h = λ (p : Place). value_of c1 (at kept1) index p ∷ value_of c2 (at kept2) index p ∷ [] in
      let r = level_rect j.slicing j.frame.colour sx sy 0 in
      let first = rect_places 0 0 r in
      let higher = high_places j.slicing j.frame.colour sx sy j.slicing.depth in
      let high = flat_map (high_pair j index sx sy) (range_with_len 1 (3 * j.slicing.depth)) in
      let lowest = pair_part c1 c2 kept1 kept2 index sx sy 0 in
      let split = λ (q : Place → List ℤ). ap (flat_map q) (places_split j.slicing j.frame.colour sx sy j.slicing.depth) ∙ flat_map-append q first higher in
      let front : flat_map h first ≡ lowest = pair_here c1 c2 kept1 kept2 index sx sy 0 0 0 refl refl in
      let rest : flat_map h higher ≡ high = suffix lowest (flat_map h higher) high (ap (λ (t : List ℤ). t ++ flat_map h higher) (sym front) ∙ sym (split h) ∙ colour_parts j kept1 kept2 index sx sy) in
      let xs = range_with_len r.x0 (r.x1 - r.x0) in
      let ys = range_with_len r.y0 (r.y1 - r.y0) in
      let place : ℕ → ℕ → Place = λ y x. record { level = 0; orient = 0; y = y; x = x } in
      let pairs : flat_map f first ≡ pair_values (lowest_value c1 g1 index) (lowest_value c2 g2 index) r =
      joined_joined f (row_places 0 0 r) (λ y. flat_map (λ x. f (place y x)) xs) (λ y. joined_map f (place y) (λ x. f (place y x)) (λ x. refl) xs) ys
      in
      split f
      ∙ ap (λ (t : List ℤ). flat_map f first ++ t)
      (higher_same f h (λ level orient y x. ap (λ v. v ∷ value_of c2 g2 index (record { level = suc level; orient = orient; y = y; x = x }) ∷ []) (value_same c1 g1 (at kept1) index level orient y x) ∙ ap (λ v. value_of c1 (at kept1) index (record { level = suc level; orient = orient; y = y; x = x }) ∷ v ∷ []) (value_same c2 g2 (at kept2) index level orient y x)) j.slicing j.frame.colour sx sy j.slicing.depth
      ∙ rest)
      ∙ ap (λ (t : List ℤ). t ++ high) pairs

-- what is reached behind values in front is needed
pub split_reach : (all lowest high : List ℤ) (places : ℕ) → all ≡ lowest ++ high → places ≤ length (codes_of lowest) → behind_lowest places (reach high 0) ≤ need all + 3
split_reach all lowest high places is le =
    omega (
      arith,
      (reach_needs all).most,
      ap (λ (t : List ℤ). reach t 0) is,
      reach_append lowest high 0,
      in_front lowest places (reach high 0) le,
    )
