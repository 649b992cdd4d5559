use Rattle.std.proofs.Common.{◌≡◌, ◌∙◌, sym, ap, subst, ℕ, ◌<◌, ◌^◌, List, length, get_or, ℤ, pos, arith}
use Rattle.std.proofs.lemmas.List.{get_or_default}
use Rattle.planes.specs.Raster.{Raster, height}
use Rattle.planes.specs.Bounded.{IsPlaneWithin}
use Rattle.planes.specs.Subbands.{BandStack, no_band}
use Rattle.std.specs.Borrow.{i32}
use Rattle.planes.specs.contracts.band_set.Bands as narrow
use Rattle.planes.proofs.BandLemmas.{numbered, sizes_agree, same_stack}
use Rattle.planes.proofs.narrow_bands.Bands+i32.narrow.Goals as goal

pub narrow_plane-requires-clause-same_width : goal.narrow_plane-requires-clause-same_width
narrow_plane-requires-clause-same_width c =
    let k : ℕ = c.loop-k.k in
    let wide_view = ap (λ (b : BandStack). b.bands) c.wide.view_is in
    let narrow_view = ap (λ (b : BandStack). length b.bands) c.self.view_is in
    let same_depth = c.requires.sizes.same_depth in
    let wide_depth = ap (λ (b : BandStack). b.depth) c.wide.view_is in
    let narrow_depth = ap (λ (b : BandStack). b.depth) c.self.view_is in
    let inside : k < length c.wide.inside.planes.items = omega (arith, c.loop-k-test.true, c.loop-k.auto.k-end, c.len-k-end.ensures) in
    let inside_narrow : k < length c.loop-k.self-inside.planes.items = omega (arith, inside, c.loop-k.invariant.count, narrow_view, c.wide.invariant.0, c.self.invariant.0, same_depth, narrow_depth, wide_depth) in
    let wide_is : c.index.result.now ≡ get_or c.args.wide.now.bands k no_band =
    c.index.ensures ∙ get_or_default c.wide.inside.planes.items k c.index.result.now no_band inside ∙ ap (λ (bs : List (Raster ℤ)). get_or bs k no_band) wide_view in
    let narrow_is : c.index_mut.result.now ≡ get_or c.args.self.now.bands k no_band =
    c.index_mut.ensures.value ∙ get_or_default c.loop-k.self-inside.planes.items k c.index_mut.result.now no_band inside_narrow ∙ c.loop-k.invariant.rest k (omega arith) in
    let agree = sizes_agree c.args.self.now c.args.wide.now c.requires.sizes k (omega (arith, inside, c.wide.invariant.0, same_depth, wide_depth)) in
    ap (λ (p : Raster ℤ). p.w) wide_is ∙ sym agree.0 ∙ sym (ap (λ (p : Raster ℤ). p.w) narrow_is)

pub narrow_plane-requires-clause-same_height : goal.narrow_plane-requires-clause-same_height
narrow_plane-requires-clause-same_height c =
    let k : ℕ = c.loop-k.k in
    let wide_view = ap (λ (b : BandStack). b.bands) c.wide.view_is in
    let narrow_view = ap (λ (b : BandStack). length b.bands) c.self.view_is in
    let same_depth = c.requires.sizes.same_depth in
    let wide_depth = ap (λ (b : BandStack). b.depth) c.wide.view_is in
    let narrow_depth = ap (λ (b : BandStack). b.depth) c.self.view_is in
    let inside : k < length c.wide.inside.planes.items = omega (arith, c.loop-k-test.true, c.loop-k.auto.k-end, c.len-k-end.ensures) in
    let inside_narrow : k < length c.loop-k.self-inside.planes.items = omega (arith, inside, c.loop-k.invariant.count, narrow_view, c.wide.invariant.0, c.self.invariant.0, same_depth, narrow_depth, wide_depth) in
    let wide_is : c.index.result.now ≡ get_or c.args.wide.now.bands k no_band =
    c.index.ensures ∙ get_or_default c.wide.inside.planes.items k c.index.result.now no_band inside ∙ ap (λ (bs : List (Raster ℤ)). get_or bs k no_band) wide_view in
    let narrow_is : c.index_mut.result.now ≡ get_or c.args.self.now.bands k no_band =
    c.index_mut.ensures.value ∙ get_or_default c.loop-k.self-inside.planes.items k c.index_mut.result.now no_band inside_narrow ∙ c.loop-k.invariant.rest k (omega arith) in
    let agree = sizes_agree c.args.self.now c.args.wide.now c.requires.sizes k (omega (arith, inside, c.wide.invariant.0, same_depth, wide_depth)) in
    ap (λ (p : Raster ℤ). height p) wide_is ∙ sym agree.1 ∙ sym (ap (λ (p : Raster ℤ). height p) narrow_is)

pub narrow_plane-requires-clause-small : goal.narrow_plane-requires-clause-small
narrow_plane-requires-clause-small c =
    let k : ℕ = c.loop-k.k in
    let wide_view = ap (λ (b : BandStack). b.bands) c.wide.view_is in
    let wide_depth = ap (λ (b : BandStack). b.depth) c.wide.view_is in
    let inside : k < length c.wide.inside.planes.items = omega (arith, c.loop-k-test.true, c.loop-k.auto.k-end, c.len-k-end.ensures) in
    let wide_is : c.index.result.now ≡ get_or c.args.wide.now.bands k no_band =
    c.index.ensures ∙ get_or_default c.wide.inside.planes.items k c.index.result.now no_band inside ∙ ap (λ (bs : List (Raster ℤ)). get_or bs k no_band) wide_view in
    let there = numbered c.args.wide.now.depth k (omega (arith, inside, c.wide.invariant.0, wide_depth)) in
    let Small : Raster ℤ → Type 0 = λ p. IsPlaneWithin (pos (2 ^ 18)) p in
    let At : ℕ → Type 0 = λ i. IsPlaneWithin (pos (2 ^ 18)) (get_or c.args.wide.now.bands i no_band) in
    subst Small (sym wide_is) (subst At there.3 (c.requires.small there.0 there.1 there.2))

pub returns : goal.returns
returns c =
    let wide_count = ap (λ (b : BandStack). length b.bands) c.wide.view_is in
    let narrow_count = ap (λ (b : BandStack). length b.bands) c.self.view_is in
    let wide_depth = ap (λ (b : BandStack). b.depth) c.wide.view_is in
    let narrow_depth = ap (λ (b : BandStack). b.depth) c.self.view_is in
    let count : length c.loop-k.self-inside.planes.items ≡ length c.args.wide.now.bands =
    omega (arith, c.loop-k.invariant.count, narrow_count, wide_count, c.wide.invariant.0, c.self.invariant.0, c.requires.sizes.same_depth, narrow_depth, wide_depth) in
    same_stack (narrow.the_view i32 c.loop-k.self-inside) c.args.wide.now (c.loop-k.invariant.depth ∙ c.requires.sizes.same_depth) count
    (λ k lt. c.loop-k.invariant.done k (omega (arith, lt, count, wide_count, c.loop-k-test.false, c.loop-k.auto.k-end, c.len-k-end.ensures)))
