-- Rows that a sink has taken, one after another.
use Rattle.std.proofs.Common.{◌≡◌, ◌≢◌, ◌∙◌, refl, sym, subst, ℕ, pos, ◌-◌, ◌<◌, ◌≤◌, ◌⊎◌, arith, inl, inr}
use Rattle.std.proofs.lemmas.Bool.{cases_eq}
use Rattle.planes.specs.Raster.{height, at}
use Rattle.planes.specs.Subbands.{BandStack, BandExists, band_of, AgreeInSizes}
use Rattle.lifting.specs.Lines.{Line}
use Rattle.lifting.specs.Transform.{Grid, every_other}
use Rattle.lifting.specs.Bands.{HoldLevel}
use Rattle.lifting.specs.RowSinks.{IsBandRowPut, AreBandsOf, HoldPair, OtherRowsStay}

module _ (a b : BandStack) (agree : AgreeInSizes a b) where
  pub exists_after : (l o : ℕ) → BandExists a.depth l o → BandExists b.depth l o
  exists_after l o ex = subst (λ (d : ℕ). BandExists d l o) agree.same_depth ex

  pub agree_then : (c : BandStack) → AgreeInSizes b c → AgreeInSizes a c
  agree_then c then = record {
    same_depth = agree.same_depth ∙ then.same_depth;
    widths = λ l o ex. agree.widths l o ex ∙ then.widths l o (exists_after l o ex);
    heights = λ l o ex. agree.heights l o ex ∙ then.heights l o (exists_after l o ex);
  }

  pub bands_after : (level w h : ℕ) → 1 ≤ level → level ≤ a.depth → AreBandsOf level w h a → AreBandsOf level w h b
  bands_after level w h some le are o one three =
      let ex : BandExists a.depth level o = inr (some, le, one, three) in
      (sym (agree.widths level o ex) ∙ (are o one three).0, sym (agree.heights level o ex) ∙ (are o one three).1)

-- ---- three rows of a level

module _ (n y w h : ℕ) (b0 b1 b2 b3 : BandStack) (r1 r2 r3 : Line) (some : 1 ≤ n) (le : n ≤ b0.depth) (low : y < h) (are : AreBandsOf n w h b0)
    (p1 : IsBandRowPut n 1 y r1 b0 b1) (p2 : IsBandRowPut n 2 y r2 b1 b2) (p3 : IsBandRowPut n 3 y r3 b2 b3) where
  agree2 : AgreeInSizes b0 b2
  agree2 = agree_then b0 b1 p1.sizes b2 p2.sizes

  pub three_agree : AgreeInSizes b0 b3
  three_agree = agree_then b0 b2 agree2 b3 p3.sizes

  pub three_others : OtherRowsStay n y b0 b3
  three_others l o j x ex lj lx ne =
      let any : (k : ℕ) → (l ≢ n) ⊎ (o ≢ k) ⊎ (j ≢ y) = λ k. elim ne [ inl a ↦ inl a | inr b ↦ inr (inr b) ] in
      p3.others l o j x (exists_after b0 b2 agree2 l o ex) (subst (λ (m : ℕ). j < m) (agree2.heights l o ex) lj) (subst (λ (m : ℕ). x < m) (agree2.widths l o ex) lx) (any 3)
      ∙ p2.others l o j x (exists_after b0 b1 p1.sizes l o ex) (subst (λ (m : ℕ). j < m) (p1.sizes.heights l o ex) lj) (subst (λ (m : ℕ). x < m) (p1.sizes.widths l o ex) lx) (any 2)
      ∙ p1.others l o j x ex lj lx (any 1)

  are1 : AreBandsOf n w h b1
  are1 = bands_after b0 b1 p1.sizes n w h some le are

  are2 : AreBandsOf n w h b2
  are2 = bands_after b0 b2 agree2 n w h some le are

  le1 : n ≤ b1.depth
  le1 = subst (λ (d : ℕ). n ≤ d) p1.sizes.same_depth le

  le2 : n ≤ b2.depth
  le2 = subst (λ (d : ℕ). n ≤ d) agree2.same_depth le

  inside : (b : BandStack) → AreBandsOf n w h b → (o : ℕ) → 1 ≤ o → o ≤ 3 → (x : ℕ) → x < w → (y < height (band_of b n o)) × (x < (band_of b n o).w)
  inside b of o one three x lx = (subst (λ (m : ℕ). y < m) (sym (of o one three).1) low, subst (λ (m : ℕ). x < m) (sym (of o one three).0) lx)

  pub three_put : (g : Grid) → ((x : ℕ) → x < w → r1 x ≡ every_other 0 1 g y x) → ((x : ℕ) → x < w → r2 x ≡ every_other 1 0 g y x) → ((x : ℕ) → x < w → r3 x ≡ every_other 1 1 g y x)
      → HoldPair n y w g b3
  three_put g e1 e2 e3 = record {
    hl = λ x lx.
        let in2 = inside b2 are2 1 (omega arith) (omega arith) x lx in
        let in1 = inside b1 are1 1 (omega arith) (omega arith) x lx in
        p3.others n 1 y x (inr (some, le2, omega arith, omega arith)) in2.0 in2.1 (inr (inl (omega arith)))
        ∙ p2.others n 1 y x (inr (some, le1, omega arith, omega arith)) in1.0 in1.1 (inr (inl (omega arith)))
        ∙ p1.here x (inside b0 are 1 (omega arith) (omega arith) x lx).1 ∙ e1 x lx;
    lh = λ x lx.
        let in2 = inside b2 are2 2 (omega arith) (omega arith) x lx in
        p3.others n 2 y x (inr (some, le2, omega arith, omega arith)) in2.0 in2.1 (inr (inl (omega arith)))
        ∙ p2.here x (inside b1 are1 2 (omega arith) (omega arith) x lx).1 ∙ e2 x lx;
    hh = λ x lx. p3.here x (inside b2 are2 3 (omega arith) (omega arith) x lx).1 ∙ e3 x lx;
  }

-- ---- what a level shows

-- a pair of rows more of a level's bands
pub level_more : (n made w h : ℕ) (g : Grid) (old new : BandStack) → 1 ≤ n → n ≤ old.depth → AreBandsOf n w h old → 1 ≤ made → made ≤ h
    → OtherRowsStay n (made - 1) old new → HoldPair n (made - 1) w g new
    → HoldLevel (λ v. v) (pos 0) (made - 1) w g n old → HoldLevel (λ v. v) (pos 0) made w g n new
level_more n made w h g old new some le are one few others pair held =
    let stay : (o : ℕ) → 1 ≤ o → o ≤ 3 → (y x : ℕ) → y < made → x < w → y ≢ made - 1 → at (band_of new n o) y x ≡ at (band_of old n o) y x =
    λ o lo ho y x ly lx ne. others n o y x (inr (some, le, lo, ho)) (omega (arith, (are o lo ho).1)) (omega (arith, (are o lo ho).0)) (inr ne) in
    record {
      hl = λ y x ly lx. elim (cases_eq y (made - 1)) [
        | inl e ↦ rw e (pair.hl x lx)
        | inr ne ↦ stay 1 (omega arith) (omega arith) y x ly lx ne ∙ held.hl y x (omega arith) lx
      ];
      lh = λ y x ly lx. elim (cases_eq y (made - 1)) [
        | inl e ↦ rw e (pair.lh x lx)
        | inr ne ↦ stay 2 (omega arith) (omega arith) y x ly lx ne ∙ held.lh y x (omega arith) lx
      ];
      hh = λ y x ly lx. elim (cases_eq y (made - 1)) [
        | inl e ↦ rw e (pair.hh x lx)
        | inr ne ↦ stay 3 (omega arith) (omega arith) y x ly lx ne ∙ held.hh y x (omega arith) lx
      ];
    }

-- a level whose bands have stayed in the rows that are shown
pub level_stays : (n made w h : ℕ) (g : Grid) (old new : BandStack) → 1 ≤ n → n ≤ old.depth → AreBandsOf n w h old → made ≤ h
    → ((o j x : ℕ) → 1 ≤ o → o ≤ 3 → j < height (band_of old n o) → x < (band_of old n o).w → at (band_of new n o) j x ≡ at (band_of old n o) j x)
    → HoldLevel (λ v. v) (pos 0) made w g n old → HoldLevel (λ v. v) (pos 0) made w g n new
level_stays n made w h g old new some le are few stay held = record {
  hl = λ y x ly lx. stay 1 y x (omega arith) (omega arith) (omega (arith, (are 1 (omega arith) (omega arith)).1)) (omega (arith, (are 1 (omega arith) (omega arith)).0)) ∙ held.hl y x ly lx;
  lh = λ y x ly lx. stay 2 y x (omega arith) (omega arith) (omega (arith, (are 2 (omega arith) (omega arith)).1)) (omega (arith, (are 2 (omega arith) (omega arith)).0)) ∙ held.lh y x ly lx;
  hh = λ y x ly lx. stay 3 y x (omega arith) (omega arith) (omega (arith, (are 3 (omega arith) (omega arith)).1)) (omega (arith, (are 3 (omega arith) (omega arith)).0)) ∙ held.hh y x ly lx;
}
