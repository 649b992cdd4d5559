-- What the bands hold after analysis: how large it is, and that synthesis gives the plane back.
use Rattle.std.proofs.Common.{◌≡◌, ◌∙◌, ap, sym, subst, ℕ, suc, ◌+◌, ◌-◌, ◌*◌, ◌%◌, ◌^◌, ◌≤◌, arith, ℤ, lit≤}
use Rattle.std.proofs.Math.Nat.{pow-le-pow_right}
use Rattle.planes.specs.Numbers.{Within}
use Rattle.planes.specs.Raster.{Raster, height, at}
use Rattle.planes.specs.Subbands.{BandStack}
use Rattle.planes.proofs.Floors.{wider}
use Rattle.lifting.specs.declared.Wavelet.{Wavelet}
use Rattle.lifting.specs.Bands.{coefficients_of, lowest, AreSmall, HoldAnalysis}
use Rattle.lifting.specs.Transform.{Grid, Coefficients, synthesis, analysis}
use Rattle.lifting.specs.Ranges.{GridWithin, BandsWithin, SameInside, SameBands}
use Rattle.lifting.proofs.Undone.{synthesis_undoes}
use Rattle.lifting.proofs.Inside.{synthesis_same}
use Rattle.lifting.proofs.Coefficients.{component_within}
use Rattle.lifting.proofs.Levels.{whole_size}

grid_same : (h w m n : ℕ) (f g : Grid) → m ≤ n → SameInside h w f g → GridWithin h w m g → GridWithin h w n f
grid_same h w m n f g le same small y x ly lx = wider m n (f y x) le (subst (λ (v : ℤ). Within m v) (sym (same y x ly lx)) (small y x ly lx))

bands_same : (h w depth m lowest others : ℕ) (c d : Coefficients) → m ≤ lowest → m ≤ others → SameBands h w depth c d → BandsWithin h w depth m m d → BandsWithin h w depth lowest others c
bands_same h w depth m lowest others c d low high same small = record {
  ll = grid_same h w m lowest c.ll d.ll low same.ll small.ll;
  hl = λ n lt. grid_same (h * 2 ^ n) (w * 2 ^ n) m others (c.hl (suc n)) (d.hl (suc n)) high (same.hl n lt) (small.hl n lt);
  lh = λ n lt. grid_same (h * 2 ^ n) (w * 2 ^ n) m others (c.lh (suc n)) (d.lh (suc n)) high (same.lh n lt) (small.lh n lt);
  hh = λ n lt. grid_same (h * 2 ^ n) (w * 2 ^ n) m others (c.hh (suc n)) (d.hh (suc n)) high (same.hh n lt) (small.hh n lt);
}

module _ (k : Wavelet) (b : BandStack) (p : Raster ℤ) (columns : p.w % 2 ^ b.depth ≡ 0) (rows : height p % 2 ^ b.depth ≡ 0) (held : HoldAnalysis k b p) where
  high : lowest b.depth (height p) * 2 ^ b.depth ≡ height p
  high = whole_size (height p) b.depth rows

  wide : lowest b.depth p.w * 2 ^ b.depth ≡ p.w
  wide = whole_size p.w b.depth columns

  pub given_back : SameInside (height p) p.w (synthesis k (lowest b.depth (height p)) (lowest b.depth p.w) (coefficients_of b) b.depth) (at p)
  given_back y x ly lx =
      let h = lowest b.depth (height p) in
      let w = lowest b.depth p.w in
      synthesis_same k h w b.depth (coefficients_of b) (analysis k h w b.depth (at p)) held b.depth (omega arith) y x (omega (arith, high)) (omega (arith, wide))
      ∙ ap (λ (g : Grid). g y x) (synthesis_undoes k h w b.depth (at p))

  held_within : (d lowest' others : ℕ) → 1 ≤ d → 2 ^ (d - 1 + 3 * b.depth) ≤ lowest' → 2 ^ (d - 1 + 3 * b.depth) ≤ others → GridWithin (height p) p.w (2 ^ (d - 1)) (at p)
      → BandsWithin (lowest b.depth (height p)) (lowest b.depth p.w) b.depth lowest' others (coefficients_of b)
  held_within d lowest' others some low most small =
      let h = lowest b.depth (height p) in
      let w = lowest b.depth p.w in
      bands_same h w b.depth (2 ^ (d - 1 + 3 * b.depth)) lowest' others (coefficients_of b) (analysis k h w b.depth (at p)) low most held
      (component_within k h w b.depth d (at p) some (λ y x ly lx. small y x (omega (arith, high)) (omega (arith, wide))))

  pub held_bounded : (d : ℕ) → 1 ≤ d → GridWithin (height p) p.w (2 ^ (d - 1)) (at p)
      → BandsWithin (lowest b.depth (height p)) (lowest b.depth p.w) b.depth (2 ^ (d - 1 + 3 * b.depth)) (2 ^ (d - 1 + 3 * b.depth)) (coefficients_of b)
  held_bounded d some small = held_within d (2 ^ (d - 1 + 3 * b.depth)) (2 ^ (d - 1 + 3 * b.depth)) some (omega arith) (omega arith) small

  pub held_small : b.depth ≤ 4 → GridWithin (height p) p.w (2 ^ 15) (at p) → AreSmall b p
  held_small four small =
      let some : 1 ≤ 2 = omega arith in
      let few : 16 - 1 + 3 * b.depth ≤ 27 = omega arith in
      let most : 2 ^ (16 - 1 + 3 * b.depth) ≤ 2 ^ 27 = pow-le-pow_right some few in
      let others : 2 ^ 27 ≤ 2 ^ 36 = lit≤ tt in
      let low : 2 ^ 27 ≤ 2 ^ 50 = lit≤ tt in
      held_within 16 (2 ^ 50) (2 ^ 36) (omega arith) (omega (arith, most, low)) (omega (arith, most, others)) small
