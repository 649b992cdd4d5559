-- The dequantised values of a slice's lists, by its places.
use Rattle.std.proofs.Common.{◌≡◌, ◌∙◌, sym, ap, subst, refl, ℕ, zero, suc, ◌+◌, ◌-◌, ◌*◌, ◌<◌, List, [], ◌∷◌, ◌++◌, length, get_or, map, replicate, arith, inl, inr, ℤ, pos}
use Rattle.std.specs.List.{All, flat_map}
use Rattle.std.proofs.lemmas.Bool.{cases_lt}
use Rattle.std.proofs.lemmas.Grind.{flat_map-append}
use Rattle.std.proofs.lemmas.List.{map-append, get_or-map, get_or_past}
use Rattle.std.proofs.lemmas.List.Elements.{All-head, All-tail}
use Rattle.planes.specs.declared.Rect.{Rect}
use Rattle.planes.specs.Rect.{IsInRect}
use Rattle.planes.specs.Subbands.{BandExists}
use Rattle.quant_factors.specs.Factors.{inverse_of}
use Rattle.quant_factors.specs.Weights.{Weights, band_quantiser}
use Rattle.slice_geometry.specs.declared.Size.{Size}
use Rattle.slice_geometry.specs.Slicing.{Slicing}
use Rattle.slice_geometry.specs.SliceOrder.{level_rect, area, place_number}
use Rattle.slice_decoder.specs.Slice.{quantisers, dequantised}
use Rattle.slice_encoder.specs.Order.{Place, rect_places, places_of}
use Rattle.slice_encoder.proofs.Coarsest.{all_rect}
use Rattle.slice_encoder.proofs.WholeTrial.{length_rect_places}
use Rattle.slice_encoder.proofs.Numbered.{lowest_at, higher_at}

-- ---- the quantisers of a slice's values are those of its places

constant_map : {X : Type 0} (f : X → ℕ) (q : ℕ) (xs : List X) → All (λ x. f x ≡ q) xs → map f xs ≡ replicate (length xs) q
constant_map f q [] h = refl
constant_map f q (x ∷ xs) h =
    let first : f x ≡ q = All-head (λ x. f x ≡ q) x xs h in
    let others = constant_map f q xs (All-tail (λ x. f x ≡ q) x xs h) in
    cc

twice : (n q : ℕ) → replicate (2 * suc n) q ≡ q ∷ q ∷ replicate (2 * n) q
twice n q = let more : 2 * suc n ≡ suc (suc (2 * n)) = omega arith in ap (λ (k : ℕ). replicate k q) more

constant_pairs : {X : Type 0} (f : X → ℕ) (q : ℕ) (xs : List X) → All (λ x. f x ≡ q) xs → flat_map (λ x. f x ∷ f x ∷ []) xs ≡ replicate (2 * length xs) q
constant_pairs f q [] h = let none : 2 * 0 ≡ 0 = omega arith in sym (ap (λ (k : ℕ). replicate k q) none)
constant_pairs f q (x ∷ xs) h =
    let first : f x ≡ q = All-head (λ x. f x ≡ q) x xs h in
    let others = constant_pairs f q xs (All-tail (λ x. f x ≡ q) x xs h) in
    let both : f x ∷ f x ∷ flat_map (λ x. f x ∷ f x ∷ []) xs ≡ q ∷ q ∷ replicate (2 * length xs) q = rw (first, others) refl in
    both ∙ sym (twice (length xs) q)

module _ (matrix : Weights) (index : ℕ) where
  abbrev own : Place → ℕ
  own p = band_quantiser matrix index p.level p.orient

  of_rect : (level orient : ℕ) (r : Rect) → All (λ p. own p ≡ band_quantiser matrix index level orient) (rect_places level orient r)
  of_rect level orient r = all_rect (λ p. own p ≡ band_quantiser matrix index level orient) level orient r (λ y x. refl)

  rect_once : (level orient : ℕ) (r : Rect) → map own (rect_places level orient r) ≡ replicate (1 * area r) (band_quantiser matrix index level orient)
  rect_once level orient r =
      let count : length (rect_places level orient r) ≡ 1 * area r = omega (arith, length_rect_places level orient r) in
      constant_map own (band_quantiser matrix index level orient) (rect_places level orient r) (of_rect level orient r)
      ∙ ap (λ (n : ℕ). replicate n (band_quantiser matrix index level orient)) count

  rect_twice : (level orient : ℕ) (r : Rect) → flat_map (λ p. own p ∷ own p ∷ []) (rect_places level orient r) ≡ replicate (2 * area r) (band_quantiser matrix index level orient)
  rect_twice level orient r =
      constant_pairs own (band_quantiser matrix index level orient) (rect_places level orient r) (of_rect level orient r)
      ∙ ap (λ (n : ℕ). replicate (2 * n) (band_quantiser matrix index level orient)) (length_rect_places level orient r)

  pub quantisers_once : (s : Slicing) (size : Size) (sx sy level : ℕ) → quantisers 1 s size sx sy matrix index level ≡ map own (places_of s size sx sy level)
  quantisers_once s size sx sy zero = sym (rect_once 0 0 (level_rect s size sx sy 0))
  quantisers_once s size sx sy (suc level) =
      let r = level_rect s size sx sy (suc level) in
      let one = rect_places (suc level) 1 r in
      let two = rect_places (suc level) 2 r in
      let three = rect_places (suc level) 3 r in
      sym (
      map-append own (places_of s size sx sy level) (one ++ (two ++ three))
      ∙ ap (λ t. map own (places_of s size sx sy level) ++ t) (map-append own one (two ++ three) ∙ ap (λ t. map own one ++ t) (map-append own two three))
      ∙ rw (quantisers_once s size sx sy level, rect_once (suc level) 1 r, rect_once (suc level) 2 r, rect_once (suc level) 3 r) refl
      )

  pub quantisers_twice : (s : Slicing) (size : Size) (sx sy level : ℕ) → quantisers 2 s size sx sy matrix index level ≡ flat_map (λ p. own p ∷ own p ∷ []) (places_of s size sx sy level)
  quantisers_twice s size sx sy zero = sym (rect_twice 0 0 (level_rect s size sx sy 0))
  quantisers_twice s size sx sy (suc level) =
      let r = level_rect s size sx sy (suc level) in
      let one = rect_places (suc level) 1 r in
      let two = rect_places (suc level) 2 r in
      let three = rect_places (suc level) 3 r in
      let pair : Place → List ℕ = λ p. own p ∷ own p ∷ [] in
      sym (
      flat_map-append pair (places_of s size sx sy level) (one ++ (two ++ three))
      ∙ ap (λ t. flat_map pair (places_of s size sx sy level) ++ t) (flat_map-append pair one (two ++ three) ∙ ap (λ t. flat_map pair one ++ t) (flat_map-append pair two three))
      ∙ rw (quantisers_twice s size sx sy level, rect_twice (suc level) 1 r, rect_twice (suc level) 2 r, rect_twice (suc level) 3 r) refl
      )

-- ---- values and quantisers of the same places

dequantised_once : {X : Type 0} (v : X → ℤ) (q : X → ℕ) (xs : List X) → dequantised (map v xs) (map q xs) ≡ map (λ x. inverse_of (v x) (q x)) xs
dequantised_once v q [] = refl
dequantised_once v q (x ∷ xs) = ap (λ t. inverse_of (v x) (q x) ∷ t) (dequantised_once v q xs)

dequantised_twice : {X : Type 0} (v w : X → ℤ) (q : X → ℕ) (xs : List X)
    → dequantised (flat_map (λ x. v x ∷ w x ∷ []) xs) (flat_map (λ x. q x ∷ q x ∷ []) xs) ≡ flat_map (λ x. inverse_of (v x) (q x) ∷ inverse_of (w x) (q x) ∷ []) xs
dequantised_twice v w q [] = refl
dequantised_twice v w q (x ∷ xs) = ap (λ t. inverse_of (v x) (q x) ∷ inverse_of (w x) (q x) ∷ t) (dequantised_twice v w q xs)

-- two numbers for each element
first_of_two : {X : Type 0} (v w : X → ℤ) (xs : List X) (k : ℕ) (d : X) → k < length xs → get_or (flat_map (λ x. v x ∷ w x ∷ []) xs) (2 * k) (pos 0) ≡ v (get_or xs k d)
first_of_two v w [] k d lt = absurd (omega arith)
first_of_two v w (x ∷ xs) zero d lt = let none : 2 * 0 ≡ 0 = omega arith in ap (λ (n : ℕ). get_or (flat_map (λ x. v x ∷ w x ∷ []) (x ∷ xs)) n (pos 0)) none
first_of_two v w (x ∷ xs) (suc k) d lt =
    let more : 2 * suc k ≡ suc (suc (2 * k)) = omega arith in
    ap (λ (n : ℕ). get_or (flat_map (λ x. v x ∷ w x ∷ []) (x ∷ xs)) n (pos 0)) more ∙ first_of_two v w xs k d (omega arith)

second_of_two : {X : Type 0} (v w : X → ℤ) (xs : List X) (k : ℕ) (d : X) → k < length xs → get_or (flat_map (λ x. v x ∷ w x ∷ []) xs) (2 * k + 1) (pos 0) ≡ w (get_or xs k d)
second_of_two v w [] k d lt = absurd (omega arith)
second_of_two v w (x ∷ xs) zero d lt = let one : 2 * 0 + 1 ≡ suc 0 = omega arith in ap (λ (n : ℕ). get_or (flat_map (λ x. v x ∷ w x ∷ []) (x ∷ xs)) n (pos 0)) one
second_of_two v w (x ∷ xs) (suc k) d lt =
    let more : 2 * suc k + 1 ≡ suc (suc (2 * k + 1)) = omega arith in
    ap (λ (n : ℕ). get_or (flat_map (λ x. v x ∷ w x ∷ []) (x ∷ xs)) n (pos 0)) more ∙ second_of_two v w xs k d (omega arith)

-- ---- the place that has a number

abbrev pub place : ℕ → ℕ → ℕ → ℕ → Place
place level orient y x = record { level = level; orient = orient; y = y; x = x }

module _ (s : Slicing) (size : Size) (sx sy level orient y x : ℕ) (exists : BandExists s.depth level orient) (here : IsInRect (level_rect s size sx sy level) y x) where
  abbrev places : List Place
  places = places_of s size sx sy s.depth

  abbrev number : ℕ
  number = place_number s size sx sy level orient y x

  placed : (d : Place) → get_or places number d ≡ place level orient y x
  placed d = elim exists [
    | inl lowest ↦
        let P : ℕ → ℕ → Type 0 = λ l o. get_or (places_of s size sx sy s.depth) (place_number s size sx sy l o y x) d ≡ place l o y x in
        subst (λ (l : ℕ). P l orient) (sym lowest.0) (subst (λ (o : ℕ). P 0 o) (sym lowest.1) (lowest_at s size sx sy s.depth y x d (subst (λ (l : ℕ). IsInRect (level_rect s size sx sy l) y x) lowest.0 here)))
    | inr higher ↦
        let next : suc (level - 1) ≡ level = omega (arith, higher.0) in
        subst (λ (l : ℕ). get_or (places_of s size sx sy s.depth) (place_number s size sx sy l orient y x) d ≡ place l orient y x) next
        (higher_at s size sx sy s.depth (level - 1) orient y x d (omega (arith, higher.0, higher.1)) higher.2 higher.3 (subst (λ (l : ℕ). IsInRect (level_rect s size sx sy l) y x) (sym next) here))
  ]

  -- it is one of them: past the end any place would stand
  number_inside : number < length places
  number_inside = elim (cases_lt number (length places)) [
    | inl lt ↦ lt
    | inr past ↦
        let other : Place = place (suc level) orient y x in
        let same : place level orient y x ≡ other = sym (placed other) ∙ get_or_past places number other past in
        absurd (omega (arith, ap (λ (p : Place). p.level) same))
  ]

  -- the dequantised value that stands at the place's number
  module _ (matrix : Weights) (index : ℕ) (v : Place → ℤ) where
    pub value_once : get_or (dequantised (map v places) (quantisers 1 s size sx sy matrix index s.depth)) number (pos 0) ≡ inverse_of (v (place level orient y x)) (band_quantiser matrix index level orient)
    value_once =
        let f : Place → ℤ = λ p. inverse_of (v p) (own matrix index p) in
        ap (λ qs. get_or (dequantised (map v places) qs) number (pos 0)) (quantisers_once matrix index s size sx sy s.depth)
        ∙ ap (λ vs. get_or vs number (pos 0)) (dequantised_once v (own matrix index) places)
        ∙ get_or-map f places number (place level orient y x) (pos 0) number_inside
        ∙ ap f (placed (place level orient y x))

    module _ (w : Place → ℤ) where
      abbrev both : List ℤ
      both = dequantised (flat_map (λ p. v p ∷ w p ∷ []) places) (quantisers 2 s size sx sy matrix index s.depth)

      abbrev paired : List ℤ
      paired = flat_map (λ p. inverse_of (v p) (own matrix index p) ∷ inverse_of (w p) (own matrix index p) ∷ []) places

      both_is : both ≡ paired
      both_is =
          ap (λ qs. dequantised (flat_map (λ p. v p ∷ w p ∷ []) places) qs) (quantisers_twice matrix index s size sx sy s.depth)
          ∙ dequantised_twice v w (own matrix index) places

      pub value_first : get_or both (2 * number) (pos 0) ≡ inverse_of (v (place level orient y x)) (band_quantiser matrix index level orient)
      value_first =
          ap (λ vs. get_or vs (2 * number) (pos 0)) both_is
          ∙ first_of_two (λ p. inverse_of (v p) (own matrix index p)) (λ p. inverse_of (w p) (own matrix index p)) places number (place level orient y x) number_inside
          ∙ ap (λ p. inverse_of (v p) (own matrix index p)) (placed (place level orient y x))

      pub value_second : get_or both (2 * number + 1) (pos 0) ≡ inverse_of (w (place level orient y x)) (band_quantiser matrix index level orient)
      value_second =
          ap (λ vs. get_or vs (2 * number + 1) (pos 0)) both_is
          ∙ second_of_two (λ p. inverse_of (v p) (own matrix index p)) (λ p. inverse_of (w p) (own matrix index p)) places number (place level orient y x) number_inside
          ∙ ap (λ p. inverse_of (w p) (own matrix index p)) (placed (place level orient y x))
