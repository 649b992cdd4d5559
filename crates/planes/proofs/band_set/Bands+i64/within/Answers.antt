use Rattle.std.proofs.Common.{◌≡◌, ℕ, ◌<◌, ◌+◌, ◌*◌, arith, ap, subst, sym, get_or, List, length, ◌∙◌}
use Rattle.std.proofs.lemmas.List.{get_or_default}
use Rattle.std.specs.Prelude.{ℤ}
use Rattle.std.proofs.lemmas.Int.{to_z-of_z}
use mir.Syntax.{w64}
use Rattle.planes.specs.Raster.{Raster}
use Rattle.planes.specs.Subbands.{BandStack, no_band}
use Rattle.planes.specs.Bounded.{IsPlaneWithin}
use Rattle.planes.proofs.BandLemmas.{numbered}
use Rattle.planes.proofs.band_set.Bands+i64.within.Goals as goal

pub returns-then-not-within : goal.returns-then-not-within
returns-then-not-within c = (
  λ e. absurd cc,
  λ all.
      let k = c.loop-plane.plane-index in
      let items = c.deref-plane-items.result.now in
      let shown : items ≡ c.args.self.now.bands = c.deref-plane-items.ensures.value ∙ ap (λ (b : BandStack). b.bands) c.self.view_is in
      let lt : k < length items = c.loop-plane-test.true in
      let few : k < 3 * c.args.self.now.depth + 1 = omega (arith, lt, ap (λ (xs : List (Raster ℤ)). length xs) c.deref-plane-items.ensures.value, c.self.invariant.0, ap (λ (b : BandStack). b.depth) c.self.view_is) in
      let at = numbered c.args.self.now.depth k few in
      let here : IsPlaneWithin c.args.bound (get_or c.args.self.now.bands k no_band) = subst (λ (i : ℕ). IsPlaneWithin c.args.bound (get_or c.args.self.now.bands i no_band)) at.3 (all at.0 at.1 at.2) in
      let same : c.plane-item.result ≡ get_or c.args.self.now.bands k no_band = c.plane-item.is ∙ get_or_default items k c.plane-item.result no_band lt ∙ ap (λ (xs : List (Raster ℤ)). get_or xs k no_band) shown in
      let no = c.if-not-within.true in
      let yes = c.within.ensures.1 (subst (λ (b : ℤ). IsPlaneWithin b c.plane-item.result) (sym (to_z-of_z w64 c.args.bound c.ranges.bound)) (subst (λ (p : Raster ℤ). IsPlaneWithin c.args.bound p) (sym same) here)) in
      absurd cc,
)
