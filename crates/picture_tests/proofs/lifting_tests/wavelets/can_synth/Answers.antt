use Rattle.std.proofs.Common.{◌≡◌, ◌∙◌, sym, subst, ℕ, suc, ◌+◌, ◌-◌, ◌*◌, ◌/◌, ◌%◌, ◌<◌, ◌≤◌, ◌^◌, arith, lit≤, inl, inr, refl, ℤ}
use Rattle.std.proofs.Math.Nat.{pow-le-pow_right}
use Rattle.planes.specs.Numbers.{Within}
use Rattle.planes.specs.Raster.{Raster, height, at}
use Rattle.planes.specs.Subbands.{BandStack, BandExists, band_of, subband_length}
use Rattle.lifting.specs.Bands.{AgreeInSize, AreSmall, AreNarrow}
use Rattle.lifting.proofs.Levels.{not_zero}
use Rattle.picture_tests.proofs.lifting_tests.wavelets.can_synth.Goals as goal
use Rattle.planes.proofs.Floors.{wider}

-- a power that the code computes
power : (depth size : ℕ) → depth ≤ 4 → size % (1 * 2 ^ depth % 4294967296) ≡ 0 → size % 2 ^ depth ≡ 0
power depth size few e =
    let small : 2 ^ depth ≤ 2 ^ 4 = pow-le-pow_right (omega arith) few in
    let is : 1 * 2 ^ depth % 4294967296 ≡ 2 ^ depth = omega arith in
    subst (λ (m : ℕ). size % m ≡ 0) is e

IsBand : Raster ℤ → ℕ → ℕ → Type 0
IsBand r w h = (r.w ≡ w) × (height r ≡ h) × ((y x : ℕ) → Within (2 ^ 15) (at r y x))

module _ (b : BandStack) (w h : ℕ) (lowest_is : IsBand (band_of b 0 0) (w / 2 ^ b.depth) (h / 2 ^ b.depth))
    (others : (m orient : ℕ) → m < b.depth → 1 ≤ orient → orient ≤ 3 → IsBand (band_of b (m + 1) orient) (w / 2 ^ (b.depth - m)) (h / 2 ^ (b.depth - m))) where
  length_is : (m size : ℕ) → m < b.depth → subband_length b.depth (m + 1) size ≡ size / 2 ^ (b.depth - m)
  length_is m size lt = let levels : b.depth - (m + 1) + 1 ≡ b.depth - m = omega arith in rw (not_zero m, levels) refl

  -- the band of a level from 1
  of_level : (m orient : ℕ) → m < b.depth → 1 ≤ orient → orient ≤ 3 → IsBand (band_of b (m + 1) orient) (subband_length b.depth (m + 1) w) (subband_length b.depth (m + 1) h)
  of_level m orient lt one three =
      subst (λ (a : ℕ). IsBand (band_of b (m + 1) orient) a (subband_length b.depth (m + 1) h)) (sym (length_is m w lt))
      (subst (λ (a : ℕ). IsBand (band_of b (m + 1) orient) (w / 2 ^ (b.depth - m)) a) (sym (length_is m h lt)) (others m orient lt one three))

  any_band : (level orient : ℕ) → BandExists b.depth level orient → IsBand (band_of b level orient) (subband_length b.depth level w) (subband_length b.depth level h)
  any_band level orient exists = elim exists [
    | inl zero ↦
        subst (λ (l : ℕ). IsBand (band_of b l orient) (subband_length b.depth l w) (subband_length b.depth l h)) (sym zero.0)
        (subst (λ (o : ℕ). IsBand (band_of b 0 o) (w / 2 ^ b.depth) (h / 2 ^ b.depth)) (sym zero.1) lowest_is)
    | inr some ↦
        let is : level - 1 + 1 ≡ level = omega arith in
        subst (λ (l : ℕ). IsBand (band_of b l orient) (subband_length b.depth l w) (subband_length b.depth l h)) is (of_level (level - 1) orient (omega arith) some.2 some.3)
  ]

  all_agree : (p s : Raster ℤ) → p.w ≡ w → height p ≡ h → s.w ≡ w → height s ≡ h → w % 2 ^ b.depth ≡ 0 → h % 2 ^ b.depth ≡ 0 → AgreeInSize b p s
  unfolding IsBand
  all_agree p s pw ph sw sh ww wh = record {
    whole_columns = rw pw ww;
    whole_rows = rw ph wh;
    bands = rw (pw, ph) (record {
      widths = λ level orient exists. (any_band level orient exists).0;
      heights = λ level orient exists. (any_band level orient exists).1;
    });
    scratch_width = sw ∙ sym pw;
    scratch_height = sh ∙ sym ph;
  }

  band_within : (n orient : ℕ) → n < b.depth → 1 ≤ orient → orient ≤ 3 → (y x : ℕ) → Within (2 ^ 15) (at (band_of b (suc n) orient) y x)
  unfolding IsBand
  band_within n orient lt one three =
      let is : n + 1 ≡ suc n = omega arith in
      subst (λ (l : ℕ). (y x : ℕ) → Within (2 ^ 15) (at (band_of b l orient) y x)) is (others n orient lt one three).2

  all_small : (p : Raster ℤ) → AreSmall b p
  unfolding IsBand
  all_small p = record {
    ll = λ y x ly lx. wider (2 ^ 15) (2 ^ 50) _ (lit≤ tt) (lowest_is.2 y x);
    hl = λ n lt y x ly lx. wider (2 ^ 15) (2 ^ 36) _ (lit≤ tt) (band_within n 1 lt (omega arith) (omega arith) y x);
    lh = λ n lt y x ly lx. wider (2 ^ 15) (2 ^ 36) _ (lit≤ tt) (band_within n 2 lt (omega arith) (omega arith) y x);
    hh = λ n lt y x ly lx. wider (2 ^ 15) (2 ^ 36) _ (lit≤ tt) (band_within n 3 lt (omega arith) (omega arith) y x);
  }

  all_narrow : (p : Raster ℤ) → AreNarrow b p
  unfolding IsBand
  all_narrow p = record {
    ll = λ y x ly lx. wider (2 ^ 15) (2 ^ 18) _ (lit≤ tt) (lowest_is.2 y x);
    hl = λ n lt y x ly lx. wider (2 ^ 15) (2 ^ 18) _ (lit≤ tt) (band_within n 1 lt (omega arith) (omega arith) y x);
    lh = λ n lt y x ly lx. wider (2 ^ 15) (2 ^ 18) _ (lit≤ tt) (band_within n 2 lt (omega arith) (omega arith) y x);
    hh = λ n lt y x ly lx. wider (2 ^ 15) (2 ^ 18) _ (lit≤ tt) (band_within n 3 lt (omega arith) (omega arith) y x);
  }

-- what the code found
module _ (b : BandStack) (depth w h n : ℕ) (band : Raster ℤ) (is : depth ≡ b.depth) (lowest_is : band ≡ band_of b 0 0) (found : IsBand band (w / 2 ^ depth) (h / 2 ^ depth)) (all : depth ≤ n)
    (levels : (m orient : ℕ) → m < n → 1 ≤ orient → orient ≤ 3 → IsBand (band_of b (m + 1) orient) (w / 2 ^ (depth - m)) (h / 2 ^ (depth - m))) where
  lowest_found : IsBand (band_of b 0 0) (w / 2 ^ b.depth) (h / 2 ^ b.depth)
  lowest_found = subst (λ (r : Raster ℤ). IsBand r (w / 2 ^ b.depth) (h / 2 ^ b.depth)) lowest_is (subst (λ (d : ℕ). IsBand band (w / 2 ^ d) (h / 2 ^ d)) is found)

  levels_found : (m orient : ℕ) → m < b.depth → 1 ≤ orient → orient ≤ 3 → IsBand (band_of b (m + 1) orient) (w / 2 ^ (b.depth - m)) (h / 2 ^ (b.depth - m))
  levels_found m orient lt one three =
      subst (λ (d : ℕ). IsBand (band_of b (m + 1) orient) (w / 2 ^ (d - m)) (h / 2 ^ (d - m))) is (levels m orient (omega arith) one three)

pub returns-clause-sizes : goal.returns-clause-sizes
unfolding IsBand
returns-clause-sizes c t =
    let b = c.args.bands.now in
    let depth = c.depth-depth.result in
    let w = c.w-w.result in
    let h = c.h-h.result in
    let is : depth ≡ b.depth = c.depth-depth.ensures.value in
    let found = c.is_band.ensures c.if-not-is_band.false in
    let whole = λ (size : ℕ) (e : size % (1 * 2 ^ depth % 4294967296) ≡ 0). subst (λ (d : ℕ). size % 2 ^ d ≡ 0) is (power depth size c.depth-depth.ensures.most e) in
    all_agree b w h (lowest_found b depth w h c.loop-n.n c.band.result.now is c.band.ensures found (omega arith) c.loop-n.invariant)
    (levels_found b depth w h c.loop-n.n c.band.result.now is c.band.ensures found (omega arith) c.loop-n.invariant)
    c.args.plane.now c.args.scratch.now (sym c.w-w.ensures.value) (sym c.h-h.ensures.value) (sym c.w.ensures.value ∙ c.if-w.false) (sym c.h.ensures.value ∙ c.if-h.false)
    (whole w c.if-w-depth-ne0.false) (whole h c.if-h-depth-ne0.false)

pub returns-clause-small : goal.returns-clause-small
unfolding IsBand
returns-clause-small c t =
    let b = c.args.bands.now in
    let depth = c.depth-depth.result in
    let w = c.w-w.result in
    let h = c.h-h.result in
    let is : depth ≡ b.depth = c.depth-depth.ensures.value in
    let found = c.is_band.ensures c.if-not-is_band.false in
    all_small b w h (lowest_found b depth w h c.loop-n.n c.band.result.now is c.band.ensures found (omega arith) c.loop-n.invariant)
    (levels_found b depth w h c.loop-n.n c.band.result.now is c.band.ensures found (omega arith) c.loop-n.invariant) c.args.plane.now

pub returns-clause-narrow : goal.returns-clause-narrow
unfolding IsBand
returns-clause-narrow c t =
    let b = c.args.bands.now in
    let depth = c.depth-depth.result in
    let w = c.w-w.result in
    let h = c.h-h.result in
    let is : depth ≡ b.depth = c.depth-depth.ensures.value in
    let found = c.is_band.ensures c.if-not-is_band.false in
    all_narrow b w h (lowest_found b depth w h c.loop-n.n c.band.result.now is c.band.ensures found (omega arith) c.loop-n.invariant)
    (levels_found b depth w h c.loop-n.n c.band.result.now is c.band.ensures found (omega arith) c.loop-n.invariant) c.args.plane.now
