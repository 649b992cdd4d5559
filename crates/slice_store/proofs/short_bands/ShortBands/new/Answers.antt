use Rattle.std.proofs.Common.{◌≡◌, ◌∙◌, refl, sym, ap, subst, ℕ, zero, suc, ◌^◌, ℤ, pos, get_or, replicate, arith, min}
use Rattle.std.proofs.lemmas.Int.{ints}
use Rattle.planes.specs.Bounded.{IsWithin, IsPlaneWithin}
use Rattle.planes.specs.Raster.{Raster, at, zeros}
use Rattle.planes.specs.Subbands.{band_of, subband_length, HaveSizes, AreZeroBands}
use Rattle.planes.proofs.BandLemmas.{HaveSizes-zero}
use Rattle.slice_store.specs.declared.short_bands.ShortBands.{ShortBands}
use Rattle.slice_geometry.specs.declared.Size.{Size}
use Rattle.slice_geometry.specs.Slicing.{Slicing}
use Rattle.slice_geometry.specs.Geometry.{padded_length}
use Rattle.slice_store.specs.ShortBands.{short_stack, shorts_of}
use Rattle.slice_store.proofs.Lowest.{short_lowest, short_upper, each_band}
use Rattle.slice_store.proofs.Zeros.{zero_bands}
use Rattle.slice_store.proofs.short_bands.ShortBands.new.Goals as goal

short-zero : (b : ShortBands) (depth w h : ℕ) → AreZeroBands (shorts_of b.slices) depth w h → b.lowest ≡ zeros (subband_length depth 0 w) (subband_length depth 0 h) → AreZeroBands (short_stack b) depth w h
short-zero b depth w h none lowest = record {
  same_depth = none.same_depth;
  each = each_band depth (λ level orient. band_of (short_stack b) level orient ≡ zeros (subband_length depth level w) (subband_length depth level h))
      (short_lowest b ∙ lowest)
      (λ level orient e one some. short_upper b level orient one some ∙ none.each level orient e);
}

zero_in_row : (w x : ℕ) → get_or (replicate w (pos 0)) x (pos 0) ≡ pos 0
zero_in_row zero x = refl
zero_in_row (suc w) zero = refl
zero_in_row (suc w) (suc x) = zero_in_row w x

at-zeros : (w h y x : ℕ) → at (zeros w h) y x ≡ pos 0
at-zeros w zero y x = refl
at-zeros w (suc h) zero x = zero_in_row w x
at-zeros w (suc h) (suc y) x = at-zeros w h y x

narrow-zero : (p : Raster ℤ) (w h : ℕ) → p ≡ zeros w h → IsPlaneWithin (pos (2 ^ 18)) p
narrow-zero p w h is y x down right =
    let Within : ℤ → Type 0 = λ z. IsWithin (pos (2 ^ 18)) z in
    subst Within (sym (ap (λ p. at p y x) is ∙ at-zeros w h y x)) (record { low = omega (arith, ints); high = omega (arith, ints) })

bands-zero : (b : ShortBands) (c : ℕ) → b.slices.numbers ≡ replicate c (pos 0)
    → AreZeroBands (shorts_of b.slices) b.slices.slicing.depth (padded_length b.slices.slicing.depth b.slices.size.w) (padded_length b.slices.slicing.depth b.slices.size.h)
bands-zero b c none = zero_bands (λ z. z) (pos 0) b.slices c refl none

-- the store is cut as was asked
asked : (P : Slicing → Size → Type 0) (a b : Slicing) (v w : Size) → a ≡ b → v ≡ w → P a v → P b w
asked P a b v w cut same have = subst (λ (l : Slicing). P l w) cut (subst (λ (z : Size). P a z) same have)

pub returns-clause-zero : goal.returns-clause-zero
returns-clause-zero c =
    let a = c.args in
    let b : ShortBands = record { lowest = c.in_ok-lowest.lowest; slices = c.in_ok-slices.slices } in
    let made = c.in_ok-slices.ensures in
    let none : AreZeroBands (shorts_of b.slices) a.layout.depth (padded_length a.layout.depth a.size.w) (padded_length a.layout.depth a.size.h) =
    asked (λ l z. AreZeroBands (shorts_of b.slices) l.depth (padded_length l.depth z.w) (padded_length l.depth z.h)) b.slices.slicing a.layout b.slices.size a.size made.cut made.size (bands-zero b _ made.zero) in
    short-zero b a.layout.depth (padded_length a.layout.depth a.size.w) (padded_length a.layout.depth a.size.h) none
    (c.in_ok-lowest.ensures ∙ ap (λ (z : Size). zeros z.w z.h) c.band_size-band.ensures)

pub returns-clause-sound : goal.returns-clause-sound
returns-clause-sound c =
    let a = c.args in
    let b : ShortBands = record { lowest = c.in_ok-lowest.lowest; slices = c.in_ok-slices.slices } in
    let made = c.in_ok-slices.ensures in
    let all : min c.slices_y.result a.layout.slices_y ≡ a.layout.slices_y = omega (arith, c.slices_y.ensures.value) in
    record {
      sizes = asked (λ l z. HaveSizes (short_stack b) (padded_length l.depth z.w) (padded_length l.depth z.h)) a.layout b.slices.slicing a.size b.slices.size (sym made.cut) (sym made.size)
          (HaveSizes-zero (short_stack b) a.layout.depth (padded_length a.layout.depth a.size.w) (padded_length a.layout.depth a.size.h) (returns-clause-zero c));
      narrow = narrow-zero b.lowest _ _ c.in_ok-lowest.ensures;
      whole = omega (arith, made.strips, all, ap (λ (l : Slicing). l.slices_y) made.cut);
    }
