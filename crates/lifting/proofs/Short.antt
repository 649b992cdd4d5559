-- Where 16 bits have room for a level.
use Rattle.std.proofs.Common.{◌≡◌, sym, subst, ℕ, suc, ◌+◌, ◌-◌, ◌*◌, ◌^◌, ◌<◌, ◌≤◌, arith, max, inl, inr, ℤ, pos, negsuc}
use Rattle.std.specs.Prelude.{◌↔◌, unsigned_abs}
use Rattle.std.proofs.lemmas.Int.{ints}
use Rattle.std.proofs.lemmas.Bool.{cases_eq}
use Rattle.planes.specs.Numbers.{Within}
use Rattle.planes.specs.Raster.{Raster, at}
use Rattle.planes.specs.Subbands.{BandStack, band_of}
use Rattle.lifting.specs.declared.Wavelet.{Wavelet}
use Rattle.lifting.specs.declared.roll.Level.{Level}
use Rattle.lifting.specs.Lines.{Line}
use Rattle.lifting.specs.Transform.{Grid, synthesis}
use Rattle.lifting.specs.Ranges.{LineWithin, GridWithin, SameInside}
use Rattle.lifting.specs.Bands.{coefficients_of}
use Rattle.lifting.specs.Carried.{level_entered, IsShortLevel}
use Rattle.lifting.specs.Turns.{IsLevelOf}
use Rattle.lifting.proofs.Levels.{of_band}

-- ---- the greatest magnitudes of rows and planes, as the least bounds of them

magnitude : (m : ℕ) (v : ℤ) → (unsigned_abs v ≤ m) ↔ Within m v
magnitude m (pos a) = (λ le. record { low = omega (arith, ints); high = omega (arith, ints) }, λ p. omega (arith, ints, p.high))
magnitude m (negsuc a) = (λ le. record { low = omega (arith, ints); high = omega (arith, ints) }, λ p. omega (arith, ints, p.low))

pub magnitude_is : (m r : ℕ) (v : ℤ) → r ≡ unsigned_abs v → (r ≤ m) ↔ Within m v
magnitude_is m r v e = rw e (magnitude m v)

-- one more of what the bounds are of
pub one_more : (P : ℕ → Type 0) (n most here new m : ℕ) → new ≡ max most here → (most ≤ m) ↔ ((k : ℕ) → k < n → P k) → (here ≤ m) ↔ P n → (new ≤ m) ↔ ((k : ℕ) → k < n + 1 → P k)
one_more P n most here new m e all one = (
  λ le k lt. elim (cases_eq k n) [
    | inl is ↦ rw is (one.0 (grind (arith, e, le)))
    | inr ne ↦ all.0 (grind (arith, e, le)) k (omega arith)
  ],
  λ p.
      let a : most ≤ m = all.1 (λ k lt. p k (omega arith)) in
      let b : here ≤ m = one.1 (p n (omega arith)) in
      grind (arith, e, a, b),
)

pub max_bounds : (P : Type 0) (a b n m : ℕ) → n ≡ max a b → (b ≤ m) ↔ P → (n ≤ m) ↔ ((a ≤ m) × P)
max_bounds P a b n m e is = (λ le. (grind (arith, e, le), is.0 (grind (arith, e, le))), λ both. let le : b ≤ m = is.1 both.1 in grind (arith, e, le, both.0))

pub three_bounds : (P Q R : Type 0) (a p q r n0 n1 n m : ℕ) → n0 ≡ max a p → n1 ≡ max n0 q → n ≡ max n1 r → (p ≤ m) ↔ P → (q ≤ m) ↔ Q → (r ≤ m) ↔ R → (n ≤ m) ↔ ((a ≤ m) × P × Q × R)
three_bounds P Q R a p q r n0 n1 n m e0 e1 e is_p is_q is_r =
    let first = max_bounds P a p n0 m e0 is_p in
    let then = max_bounds Q n0 q n1 m e1 is_q in
    let last = max_bounds R n1 r n m e is_r in (
      λ le. let two = last.0 le in let one = then.0 two.0 in let none = first.0 one.0 in (none.0, none.1, one.1, two.1),
      λ all. last.1 (then.1 (first.1 (all.0, all.1), all.2), all.3),
    )

-- a row more of a grid
module _ (n w m : ℕ) (g : Grid) (row : Line) (is : (x : ℕ) → row x ≡ g n x) where
  row_more : GridWithin n w m g → LineWithin w m row → GridWithin (n + 1) w m g
  row_more held here y x ly lx = elim (cases_eq y n) [
    | inl e ↦ rw e (subst (Within m) (is x) (here x lx))
    | inr ne ↦ held y x (omega arith) lx
  ]

  row_fewer : GridWithin (n + 1) w m g → GridWithin n w m g × LineWithin w m row
  row_fewer all = (λ y x ly lx. all y x (omega arith) lx, λ x lx. subst (Within m) (sym (is x)) (all n x (omega arith) lx))

  pub grid_more : (old new : ℕ) → (old ≤ m) ↔ GridWithin n w m g → (new ≤ m) ↔ ((old ≤ m) × LineWithin w m row) → (new ≤ m) ↔ GridWithin (n + 1) w m g
  grid_more old new held more = (λ le. let both = more.0 le in row_more (held.0 both.0) both.1, λ all. let both = row_fewer all in more.1 (held.1 both.0, both.1))

pub grids_more : (n w m : ℕ) (f g h : Grid) (a b c : Line) → ((x : ℕ) → a x ≡ f n x) → ((x : ℕ) → b x ≡ g n x) → ((x : ℕ) → c x ≡ h n x) → (old new : ℕ)
    → (old ≤ m) ↔ (GridWithin n w m f × GridWithin n w m g × GridWithin n w m h) → (new ≤ m) ↔ ((old ≤ m) × LineWithin w m a × LineWithin w m b × LineWithin w m c)
    → (new ≤ m) ↔ (GridWithin (n + 1) w m f × GridWithin (n + 1) w m g × GridWithin (n + 1) w m h)
grids_more n w m f g h a b c ia ib ic old new held more = (
  λ le. let now = more.0 le in let then = held.0 now.0 in (row_more n w m f a ia then.0 now.1, row_more n w m g b ib then.1 now.2, row_more n w m h c ic then.2 now.3),
  λ all.
      let x = row_fewer n w m f a ia all.0 in
      let y = row_fewer n w m g b ib all.1 in
      let z = row_fewer n w m h c ic all.2 in
      more.1 (held.1 (x.0, y.0, z.0), x.1, y.1, z.1),
)

-- ---- asked of the least bounds of the first rows

module _ (h w n : ℕ) (ll hl lh hh : Grid) (low high : ℕ) (is_low : (m : ℕ) → (low ≤ m) ↔ GridWithin n w m ll)
    (is_high : (m : ℕ) → (high ≤ m) ↔ (GridWithin n w m hl × GridWithin n w m lh × GridWithin n w m hh)) where
  pub found_short : n ≡ h → level_entered low high ≤ 2 ^ 14 - 2 → IsShortLevel h w ll hl lh hh
  found_short all few =
      let others = (is_high high).0 (omega arith) in
      subst (λ (r : ℕ). IsShortLevel r w ll hl lh hh) all
      (record {
        low = low;
        high = high;
        within_ll = (is_low low).0 (omega arith);
        within_hl = others.0;
        within_lh = others.1;
        within_hh = others.2;
        few = few;
      })

  pub short_found : n ≤ h → IsShortLevel h w ll hl lh hh → level_entered low high ≤ 2 ^ 14 - 2
  short_found le s =
      let low_least : low ≤ s.low = (is_low s.low).1 (λ y x ly lx. s.within_ll y x (omega arith) lx) in
      let high_least : high ≤ s.high = (is_high s.high).1 (λ y x ly lx. s.within_hl y x (omega arith) lx, λ y x ly lx. s.within_lh y x (omega arith) lx, λ y x ly lx. s.within_hh y x (omega arith) lx) in
      omega (arith, low_least, high_least, s.few)

-- ---- asked of the places where the bands stand

within_same : (h w m : ℕ) (f g : Grid) → SameInside h w f g → GridWithin h w m f → GridWithin h w m g
within_same h w m f g same p y x ly lx = subst (Within m) (same y x ly lx) (p y x ly lx)

turned : (h w : ℕ) (f g : Grid) → SameInside h w f g → SameInside h w g f
turned h w f g same y x ly lx = sym (same y x ly lx)

short_same : (h w : ℕ) (ll hl lh hh ll' hl' lh' hh' : Grid) → SameInside h w ll ll' → SameInside h w hl hl' → SameInside h w lh lh' → SameInside h w hh hh'
    → IsShortLevel h w ll hl lh hh → IsShortLevel h w ll' hl' lh' hh'
short_same h w ll hl lh hh ll' hl' lh' hh' el eh ev ed s = record {
  low = s.low;
  high = s.high;
  within_ll = within_same h w s.low ll ll' el s.within_ll;
  within_hl = within_same h w s.high hl hl' eh s.within_hl;
  within_lh = within_same h w s.high lh lh' ev s.within_lh;
  within_hh = within_same h w s.high hh hh' ed s.within_hh;
  few = s.few;
}

module _ (k : Wavelet) (h w : ℕ) (b : BandStack) (n : ℕ) (p : Grid) (l : Level ℤ) (of : IsLevelOf k b (n + 1) l) (eh : l.h ≡ h * 2 ^ n) (ew : l.w ≡ w * 2 ^ n)
    (levels : SameInside (h * 2 ^ n) (w * 2 ^ n) p (synthesis k h w (coefficients_of b) n)) where
  abbrev Stands : ℕ → ℕ → Type 0
  Stands y x = IsShortLevel y x p (at l.hl.now) (at l.lh.now) (at l.hh.now)

  abbrev Made : Type 0
  Made =
      let c = coefficients_of b in
      IsShortLevel (h * 2 ^ n) (w * 2 ^ n) (synthesis k h w c n) (c.hl (suc n)) (c.lh (suc n)) (c.hh (suc n))

  same_band : (r : Raster ℤ) (orient : ℕ) → r ≡ band_of b (n + 1) orient → SameInside (h * 2 ^ n) (w * 2 ^ n) (at r) (at (band_of b (suc n) orient))
  same_band r orient e y x ly lx = of_band (λ v. v) (pos 0) k h w b n p l of eh ew levels r orient e y x

  pub stands_made : Stands l.h l.w → Made
  stands_made s =
      let c = coefficients_of b in
      short_same (h * 2 ^ n) (w * 2 ^ n) p (at l.hl.now) (at l.lh.now) (at l.hh.now) (synthesis k h w c n) (c.hl (suc n)) (c.lh (suc n)) (c.hh (suc n))
      levels (same_band l.hl.now 1 of.0) (same_band l.lh.now 2 of.1) (same_band l.hh.now 3 of.2)
      (subst (λ (x : ℕ). Stands (h * 2 ^ n) x) ew (subst (λ (y : ℕ). Stands y l.w) eh s))

  pub made_stands : Made → Stands l.h l.w
  made_stands s =
      let c = coefficients_of b in
      let y = h * 2 ^ n in
      let x = w * 2 ^ n in
      let there : Stands y x =
      short_same y x (synthesis k h w c n) (c.hl (suc n)) (c.lh (suc n)) (c.hh (suc n)) p (at l.hl.now) (at l.lh.now) (at l.hh.now)
      (turned y x p (synthesis k h w c n) levels) (turned y x (at l.hl.now) (c.hl (suc n)) (same_band l.hl.now 1 of.0))
      (turned y x (at l.lh.now) (c.lh (suc n)) (same_band l.lh.now 2 of.1)) (turned y x (at l.hh.now) (c.hh (suc n)) (same_band l.hh.now 3 of.2)) s in
      subst (λ (j : ℕ). Stands j l.w) (sym eh) (subst (λ (i : ℕ). Stands (h * 2 ^ n) i) (sym ew) there)
