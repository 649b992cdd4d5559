-- From the bands by their numbers to the slice as it is defined.
use Rattle.std.proofs.Common.{◌≡◌, ℕ, zero, suc, ◌+◌, ◌-◌, ◌*◌, ◌<◌, ◌≤◌, List, ◌++◌, Bool, length, replicate, get_or, pos, refl, sym, ap, subst, ◌∙◌, inl, inr, arith, append_assoc}
use Rattle.std.proofs.Math.Nat.{mul-le-mul_left, mul-le-mul_right}
use Rattle.std.proofs.lemmas.Bool.Decides.{nat_tests}
use Rattle.std.proofs.lemmas.List.{length-replicate, length-append}
use Rattle.planes.specs.declared.Rect.{Rect}
use Rattle.planes.specs.Raster.{at}
use Rattle.planes.specs.Rect.{IsInRect}
use Rattle.planes.specs.Subbands.{BandStack, BandExists, band_index, band_of}
use Rattle.quant_factors.specs.Weights.{band_quantiser}
use Rattle.slice_decoder.specs.Slice.{quantisers}
use Rattle.slice_geometry.specs.SliceOrder.{level_rect, area, places_to, places_before, number_in, place_number, level_of, orient_of}
use Rattle.slice_decoder.specs.Dealing.{dealt, behind}
use Rattle.slice_decoder.specs.Components.{Part, rect_of, index_of, quantisers_of, quantisers_before, BandsHold}
use Rattle.slice_decoder.proofs.Dealt.{more-old, more-new}
use Rattle.slice_decoder.proofs.Stacks.{quantisers-more, quantisers-split}

-- ---- the quantisers, level by level

level_above : (level j : ℕ) → 1 ≤ j → j ≤ 3 → level_of (3 * level + j) ≡ suc level
level_above level j low high = omega arith

orient_above : (level j : ℕ) → 1 ≤ j → j ≤ 3 → orient_of (3 * level + j) ≡ j
orient_above level j low high = grind (arith, nat_tests)

abbrev level_list : ℕ → Part → ℕ → ℕ → List ℕ
level_list each p level j = replicate (each * area (level_rect p.slicing p.size p.sx p.sy level)) (band_quantiser p.matrix p.qindex level j)

at_level : (each : ℕ) (p : Part) (level j : ℕ) → 1 ≤ j → j ≤ 3 → quantisers_of each p (3 * level + j) ≡ replicate (each * area (level_rect p.slicing p.size p.sx p.sy (suc level))) (band_quantiser p.matrix p.qindex (suc level) j)
at_level each p level j low high =
    ap (λ l. replicate (each * area (level_rect p.slicing p.size p.sx p.sy l)) (band_quantiser p.matrix p.qindex l (orient_of (3 * level + j)))) (level_above level j low high)
    ∙ ap (λ o. replicate (each * area (level_rect p.slicing p.size p.sx p.sy (suc level))) (band_quantiser p.matrix p.qindex (suc level) o)) (orient_above level j low high)

step : (each : ℕ) (p : Part) (k k' : ℕ) → k' ≡ k + 1 → quantisers_before each p k' ≡ quantisers_before each p k ++ quantisers_of each p k
step each p k k' is = ap (quantisers_before each p) is ∙ quantisers-more each p k

regroup : (a b c d : List ℕ) → ((a ++ b) ++ c) ++ d ≡ a ++ (b ++ (c ++ d))
regroup a b c d = simp append_assoc

first-band : (each : ℕ) (p : Part) → quantisers_before each p 1 ≡ quantisers_of each p 0
unfolding quantisers_before
first-band each p = refl

abbrev to_level : ℕ → Part → ℕ → List ℕ
to_level each p level = quantisers each p.slicing p.size p.sx p.sy p.matrix p.qindex level

pub quantisers-are : (each : ℕ) (p : Part) (level : ℕ) → to_level each p level ≡ quantisers_before each p (3 * level + 1)
quantisers-are each p zero = sym (first-band each p)
quantisers-are each p (suc level) =
    let last : 3 * suc level + 1 ≡ 3 * level + 3 + 1 = omega arith in
    let three : 3 * level + 3 ≡ 3 * level + 2 + 1 = omega arith in
    let two : 3 * level + 2 ≡ 3 * level + 1 + 1 = omega arith in
    let one = quantisers-are each p level in
    sym (
    step each p (3 * level + 3) (3 * suc level + 1) last
    ∙ ap (λ qs. qs ++ quantisers_of each p (3 * level + 3)) (step each p (3 * level + 2) (3 * level + 3) three)
    ∙ ap (λ qs. (qs ++ quantisers_of each p (3 * level + 2)) ++ quantisers_of each p (3 * level + 3)) (step each p (3 * level + 1) (3 * level + 2) two)
    ∙ ap (λ qs. ((qs ++ quantisers_of each p (3 * level + 1)) ++ quantisers_of each p (3 * level + 2)) ++ quantisers_of each p (3 * level + 3)) (sym one)
    ∙ regroup (to_level each p level) (quantisers_of each p (3 * level + 1)) (quantisers_of each p (3 * level + 2)) (quantisers_of each p (3 * level + 3))
    ∙ ap (λ qs. to_level each p level ++ (qs ++ (quantisers_of each p (3 * level + 2) ++ quantisers_of each p (3 * level + 3)))) (at_level each p level 1 (omega arith) (omega arith))
    ∙ ap (λ qs. to_level each p level ++ (level_list each p (suc level) 1 ++ (qs ++ quantisers_of each p (3 * level + 3)))) (at_level each p level 2 (omega arith) (omega arith))
    ∙ ap (λ qs. to_level each p level ++ (level_list each p (suc level) 1 ++ (level_list each p (suc level) 2 ++ qs))) (at_level each p level 3 (omega arith) (omega arith))
    )

-- ---- how many there are

length-more : (each : ℕ) (p : Part) (level j k k' : ℕ) → k ≡ 3 * level + suc j → k' ≡ k + 1 → j ≤ 2 → length (quantisers_before each p k') ≡ length (quantisers_before each p k) + each * area (level_rect p.slicing p.size p.sx p.sy (suc level))
length-more each p level j k k' is next le =
    ap length (step each p k k' next)
    ∙ length-append (quantisers_before each p k) (quantisers_of each p k)
    ∙ ap (λ qs. length (quantisers_before each p k) + length qs) (ap (quantisers_of each p) is ∙ at_level each p level (suc j) (omega arith) (omega arith))
    ∙ ap (λ n. length (quantisers_before each p k) + n) (length-replicate (each * area (level_rect p.slicing p.size p.sx p.sy (suc level))) (band_quantiser p.matrix p.qindex (suc level) (suc j)))

pub length-to_level : (each : ℕ) (p : Part) (level : ℕ) → length (quantisers_before each p (3 * level + 1)) ≡ each * places_to p.slicing p.size p.sx p.sy level
length-to_level each p zero = ap length (first-band each p) ∙ length-replicate _ (index_of p 0)
length-to_level each p (suc level) =
    let one = length-more each p level 0 (3 * level + 1) (3 * level + 2) (omega arith) (omega arith) (omega arith) in
    let two = length-more each p level 1 (3 * level + 2) (3 * level + 3) (omega arith) (omega arith) (omega arith) in
    let three = length-more each p level 2 (3 * level + 3) (3 * suc level + 1) (omega arith) (omega arith) (omega arith) in
    omega (arith, length-to_level each p level, one, two, three)

length-before : (each : ℕ) (p : Part) (level j k : ℕ) → k ≡ 3 * level + suc j → j ≤ 2 → length (quantisers_before each p k) ≡ each * (places_to p.slicing p.size p.sx p.sy level + j * area (level_rect p.slicing p.size p.sx p.sy (suc level)))
length-before each p level zero k is le =
    let first : k ≡ 3 * level + 1 = omega (arith, is) in
    ap (λ n. length (quantisers_before each p n)) first ∙ length-to_level each p level ∙ omega arith
length-before each p level (suc j) k is le =
    let more = length-more each p level j (3 * level + suc j) k refl (omega (arith, is)) (omega arith) in
    omega (arith, more, length-before each p level j (3 * level + suc j) refl (omega arith))

-- ---- a band by its level and its orientation

index_suc : (level orient : ℕ) → 1 ≤ orient → band_index (suc level) orient ≡ 3 * level + orient
index_suc level orient one = grind (arith, nat_tests)

-- what is known of a band that exists
pub record IsBand (depth level orient : ℕ) : Type 0 where
  pub below : band_index level orient < 3 * depth + 1
  pub level_is : level_of (band_index level orient) ≡ level
  pub orient_is : orient_of (band_index level orient) ≡ orient

pub is_band : (depth level orient : ℕ) → BandExists depth level orient → IsBand depth level orient
is_band depth zero orient (inl e) =
    let P : ℕ → Type 0 = λ o. IsBand depth zero o in
    subst P (sym e.1) (record { below = omega arith; level_is = refl; orient_is = refl })
is_band depth zero orient (inr e) = absurd (omega (arith, e.0))
is_band depth (suc level) orient (inl e) = absurd (omega (arith, e.0))
is_band depth (suc level) orient (inr e) =
    let low = e.2 in
    let high = e.3 in
    let index = index_suc level orient low in
    record {
      below = omega (arith, index, e.1, high);
      level_is = ap level_of index ∙ level_above level orient low high;
      orient_is = ap orient_of index ∙ orient_above level orient low high;
    }

pub length-before_band : (each : ℕ) (p : Part) (level orient : ℕ) → BandExists p.slicing.depth level orient → length (quantisers_before each p (band_index level orient)) ≡ each * places_before p.slicing p.size p.sx p.sy level orient
unfolding quantisers_before
length-before_band each p zero orient e = omega arith
length-before_band each p (suc level) orient (inl e) = absurd (omega (arith, e.0))
length-before_band each p (suc level) orient (inr e) =
    let low = e.2 in
    let high = e.3 in
    let index = index_suc level orient low in
    length-before each p level (orient - 1) (band_index (suc level) orient) (index ∙ omega arith) (omega arith)

-- ---- a place of a band

pub number_below : (each from y x : ℕ) (r : Rect) → from < each → IsInRect r y x → each * number_in r y x + from < each * area r
number_below each from y x r lt inside =
    let left = inside.left in
    let right = inside.right in
    let top = inside.top in
    let bottom = inside.bottom in
    let w : ℕ = r.x1 - r.x0 in
    let row : (y - r.y0 + 1) * w ≤ (r.y1 - r.y0) * w = mul-le-mul_right w (omega arith) in
    let places : number_in r y x + 1 ≤ area r = omega (arith, row, left, right) in
    let all : each * (number_in r y x + 1) ≤ each * area r = mul-le-mul_left each places in
    omega (arith, all, lt)

pub in_all : (each : ℕ) (p : Part) (k total j : ℕ) (block : List Bool) → k < total → j < each * area (rect_of p k)
    → get_or (dealt (behind block (quantisers_before each p k)) (quantisers_of each p k)) j (pos 0) ≡ get_or (dealt block (quantisers_before each p total)) (length (quantisers_before each p k) + j) (pos 0)
in_all each p k total j block lt below =
    let whole : total ≡ k + 1 + (total - (k + 1)) = omega arith in
    let one = quantisers-split each p (k + 1) (total - (k + 1)) in
    let inside : length (quantisers_before each p k) + j < length (quantisers_before each p (k + 1)) = omega (arith, ap length (quantisers-more each p k), length-append (quantisers_before each p k) (quantisers_of each p k), length-replicate (each * area (rect_of p k)) (index_of p k), below) in
    more-new block (behind block (quantisers_before each p k)) (quantisers_before each p k) (quantisers_of each p k) j refl
    ∙ ap (λ qs. get_or (dealt block qs) (length (quantisers_before each p k) + j) (pos 0)) (sym (quantisers-more each p k))
    ∙ more-old block (quantisers_before each p (k + 1)) _ (length (quantisers_before each p k) + j) inside
    ∙ ap (λ qs. get_or (dealt block qs) (length (quantisers_before each p k) + j) (pos 0)) (sym (ap (quantisers_before each p) whole ∙ one))

pub place-holds : (each from : ℕ) (p : Part) (block : List Bool) (old b : BandStack) (level orient y x : ℕ) → from < each → BandsHold each from p (3 * p.slicing.depth + 1) block old b → BandExists p.slicing.depth level orient → IsInRect (level_rect p.slicing p.size p.sx p.sy level) y x
    → at (band_of b level orient) y x ≡ get_or (dealt block (quantisers_before each p (3 * p.slicing.depth + 1))) (each * place_number p.slicing p.size p.sx p.sy level orient y x + from) (pos 0)
place-holds each from p block old b level orient y x lt held e inside =
    let band = is_band p.slicing.depth level orient e in
    let k : ℕ = band_index level orient in
    let rect : rect_of p k ≡ level_rect p.slicing p.size p.sx p.sy level = ap (level_rect p.slicing p.size p.sx p.sy) band.level_is in
    let P : Rect → Type 0 = λ r. IsInRect r y x in
    let here : IsInRect (rect_of p k) y x = subst P (sym rect) inside in
    let number : number_in (rect_of p k) y x ≡ number_in (level_rect p.slicing p.size p.sx p.sy level) y x = ap (λ r. number_in r y x) rect in
    let place : length (quantisers_before each p k) + (each * number_in (rect_of p k) y x + from) ≡ each * place_number p.slicing p.size p.sx p.sy level orient y x + from =
    ap (λ n. length (quantisers_before each p k) + (each * n + from)) number ∙ omega (arith, length-before_band each p level orient e)
    in
    (held.bands k band.below).inside y x here
    ∙ in_all each p k (3 * p.slicing.depth + 1) (each * number_in (rect_of p k) y x + from) block band.below (number_below each from y x (rect_of p k) lt here)
    ∙ ap (λ n. get_or (dealt block (quantisers_before each p (3 * p.slicing.depth + 1))) n (pos 0)) place
