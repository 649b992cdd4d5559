-- The places of one slice: in the order of the bands, and no two at one number.
use Rattle.std.proofs.Common.{◌≡◌, ap, sym, subst, ◌∙◌, refl, ℕ, zero, suc, ◌+◌, ◌-◌, ◌*◌, ◌/◌, ◌%◌, ◌<◌, ◌≤◌, arith, inl, inr}
use Rattle.std.proofs.lemmas.Nat.{mul-le, div-mul-add, mod-mul-add, mul-add-lt}
use Rattle.std.proofs.lemmas.Bool.{cases_lt}
use Rattle.planes.specs.declared.Rect.{Rect}
use Rattle.planes.specs.Rect.{IsInRect}
use Rattle.planes.specs.Subbands.{BandExists}
use Rattle.slice_geometry.specs.declared.Size.{Size}
use Rattle.slice_geometry.specs.Slicing.{Slicing}
use Rattle.slice_geometry.specs.SliceOrder.{level_rect, area, places_to, number_in, place_number}
use Rattle.slice_store.specs.Laws.{AreSame}

pub same_whole : (n q r p t : ℕ) → r < n → t < n → q * n + r ≡ p * n + t → q ≡ p
same_whole n q r p t lr lt e = sym (div-mul-add q n r lr) ∙ ap (λ (k : ℕ). k / n) e ∙ div-mul-add p n t lt

pub same_rest : (n q r p t : ℕ) → r < n → t < n → q * n + r ≡ p * n + t → r ≡ t
same_rest n q r p t lr lt e = sym (mod-mul-add q n r lr) ∙ ap (λ (k : ℕ). k % n) e ∙ mod-mul-add p n t lt

pub number_less : (r : Rect) (y x : ℕ) → IsInRect r y x → number_in r y x < area r
number_less r y x h = mul-add-lt (y - r.y0) (r.x1 - r.x0) (x - r.x0) (r.y1 - r.y0) (omega (arith, h.top, h.bottom)) (omega (arith, h.left, h.right))

wide : (r : Rect) (y x : ℕ) → IsInRect r y x → x - r.x0 < r.x1 - r.x0
wide r y x h = omega (arith, h.left, h.right)

number_row : (r : Rect) (y x j i : ℕ) → IsInRect r y x → IsInRect r j i → number_in r y x ≡ number_in r j i → y ≡ j
number_row r y x j i h g e =
    let rows : y - r.y0 ≡ j - r.y0 = same_whole (r.x1 - r.x0) (y - r.y0) (x - r.x0) (j - r.y0) (i - r.x0) (wide r y x h) (wide r j i g) e in
    omega (arith, rows, h.top, g.top)

number_column : (r : Rect) (y x j i : ℕ) → IsInRect r y x → IsInRect r j i → number_in r y x ≡ number_in r j i → x ≡ i
number_column r y x j i h g e =
    let columns : x - r.x0 ≡ i - r.x0 = same_rest (r.x1 - r.x0) (y - r.y0) (x - r.x0) (j - r.y0) (i - r.x0) (wide r y x h) (wide r j i g) e in
    omega (arith, columns, h.left, g.left)

module _ (s : Slicing) (size : Size) (sx sy : ℕ) where
  abbrev rect : ℕ → Rect
  rect level = level_rect s size sx sy level

  abbrev pub number : ℕ → ℕ → ℕ → ℕ → ℕ
  number level orient y x = place_number s size sx sy level orient y x

  pub levels_rise : (level top : ℕ) → level ≤ top → places_to s size sx sy level ≤ places_to s size sx sy top
  levels_rise level zero le = let e : level ≡ 0 = omega (arith, le) in subst (λ (n : ℕ). places_to s size sx sy n ≤ places_to s size sx sy 0) (sym e) (omega arith)
  levels_rise level (suc top) le = elim (cases_lt level (suc top)) as (λ _. places_to s size sx sy level ≤ places_to s size sx sy (suc top)) [
    | inl less ↦ omega (arith, levels_rise level top (omega (arith, less)))
    | inr not ↦
        let same : level ≡ suc top = omega (arith, le, not) in
        subst (λ (n : ℕ). places_to s size sx sy n ≤ places_to s size sx sy (suc top)) (sym same) (omega arith)
  ]

  -- the numbers of a band lie below the end of its level
  pub below : (depth level orient y x : ℕ) → BandExists depth level orient → IsInRect (rect level) y x → number level orient y x < places_to s size sx sy level
  below depth zero orient y x e h = omega (arith, number_less (rect 0) y x h)
  below depth (suc level) orient y x (inl e) h = absurd (omega (arith, e.0))
  below depth (suc level) orient y x (inr e) h =
      let few : (orient - 1 + 1) * area (rect (suc level)) ≤ 3 * area (rect (suc level)) = mul-le (orient - 1 + 1) (area (rect (suc level))) 3 (area (rect (suc level))) (omega (arith, e.2)) (omega arith) in
      omega (arith, few, number_less (rect (suc level)) y x h)

  -- and none below the end of the level before
  pub not_below : (level top orient y x : ℕ) → level < top → places_to s size sx sy level ≤ number top orient y x
  not_below level zero orient y x lt = absurd (omega (arith, lt))
  not_below level (suc top) orient y x lt = omega (arith, levels_rise level top (omega (arith, lt)))

  same_level : (depth l o y x m p j i : ℕ) → BandExists depth l o → BandExists depth m p → IsInRect (rect l) y x → IsInRect (rect m) j i
      → number l o y x ≡ number m p j i → l ≡ m
  same_level depth l o y x m p j i eo ep h g e = elim (cases_lt l m) [
    | inl less ↦ absurd (omega (arith, below depth l o y x eo h, not_below l m p j i less, e))
    | inr not ↦ elim (cases_lt m l) [
      | inl less ↦ absurd (omega (arith, below depth m p j i ep g, not_below m l o y x less, e))
      | inr neither ↦ omega (arith, not, neither)
    ]
  ]

  one_level : (depth l o y x p j i : ℕ) → BandExists depth l o → BandExists depth l p → IsInRect (rect l) y x → IsInRect (rect l) j i
      → number l o y x ≡ number l p j i → AreSame l o y x l p j i
  one_level depth zero o y x p j i (inr eo) ep h g e = absurd (omega (arith, eo.0))
  one_level depth zero o y x p j i (inl eo) (inr ep) h g e = absurd (omega (arith, ep.0))
  one_level depth zero o y x p j i (inl eo) (inl ep) h g e =
      let number : number_in (rect 0) y x ≡ number_in (rect 0) j i = omega (arith, e) in
      record { level = refl; orient = eo.1 ∙ sym ep.1; row = number_row (rect 0) y x j i h g number; column = number_column (rect 0) y x j i h g number }
  one_level depth (suc l) o y x p j i (inl eo) ep h g e = absurd (omega (arith, eo.0))
  one_level depth (suc l) o y x p j i (inr eo) (inl ep) h g e = absurd (omega (arith, ep.0))
  one_level depth (suc l) o y x p j i (inr eo) (inr ep) h g e =
      let r = rect (suc l) in
      let behind : (o - 1) * area r + number_in r y x ≡ (p - 1) * area r + number_in r j i = omega (arith, e) in
      let number : number_in r y x ≡ number_in r j i = same_rest (area r) (o - 1) (number_in r y x) (p - 1) (number_in r j i) (number_less r y x h) (number_less r j i g) behind in
      let band : o - 1 ≡ p - 1 = same_whole (area r) (o - 1) (number_in r y x) (p - 1) (number_in r j i) (number_less r y x h) (number_less r j i g) behind in
      record { level = refl; orient = omega (arith, band, eo.2, ep.2); row = number_row r y x j i h g number; column = number_column r y x j i h g number }

  pub numbers_apart : (depth l o y x m p j i : ℕ) → BandExists depth l o → BandExists depth m p → IsInRect (rect l) y x → IsInRect (rect m) j i
      → number l o y x ≡ number m p j i → AreSame l o y x m p j i
  numbers_apart depth l o y x m p j i eo ep h g e =
      let same : l ≡ m = same_level depth l o y x m p j i eo ep h g e in
      let P : ℕ → Type 0 = λ k. BandExists depth k p → IsInRect (rect k) j i → number l o y x ≡ number k p j i → AreSame l o y x k p j i in
      subst P same (λ ep g e. one_level depth l o y x p j i eo ep h g e) ep g e
