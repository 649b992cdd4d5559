use Rattle.std.proofs.Common.{◌≡◌, ◌∙◌, ap, sym, subst, ℕ}
use Rattle.planes.specs.Subbands.{BandStack, BandExists, subband_length, HaveSizes, AreZeroBands, AgreeInSizes}
use Rattle.planes.proofs.BandLemmas.{HaveSizes-zero}
use Rattle.slice_geometry.specs.declared.Size.{Size}
use Rattle.slice_geometry.specs.Slicing.{Slicing}
use Rattle.slice_geometry.specs.Geometry.{padded_length}
use Rattle.slice_store.specs.declared.short_bands.ShortBands.{ShortBands}
use Rattle.slice_store.specs.ShortBands.{short_stack, IsShortSound}
use Rattle.slice_store.proofs.tests.slices_are_gathered_into_rows.Goals as goal

same_sizes : (a b : BandStack) (w h : ℕ) → b.depth ≡ a.depth → HaveSizes a w h → HaveSizes b w h → AgreeInSizes a b
same_sizes a b w h same left right = record {
  same_depth = sym same;
  widths = λ level orient e. left.widths level orient e ∙ ap (λ (d : ℕ). subband_length d level w) (sym same) ∙ sym (right.widths level orient (subst (λ (d : ℕ). BandExists d level orient) (sym same) e));
  heights = λ level orient e. left.heights level orient e ∙ ap (λ (d : ℕ). subband_length d level h) (sym same) ∙ sym (right.heights level orient (subst (λ (d : ℕ). BandExists d level orient) (sym same) e));
}

-- zeros of the size that the component is padded to
agree : (short : ShortBands) (zeros : BandStack) (layout : Slicing) → short.slices.slicing ≡ layout → short.slices.size ≡ record { w = 5; h = 6 } → layout.depth ≡ 1 → IsShortSound short → AreZeroBands zeros 1 6 6 → AgreeInSizes (short_stack short) zeros
agree short zeros layout cut size one sound zero =
    let depth : short.slices.slicing.depth ≡ 1 = ap (λ (v : Slicing). v.depth) cut ∙ one in
    let pads : ℕ → ℕ = padded_length short.slices.slicing.depth in
    let wide : pads short.slices.size.w ≡ 6 = ap (λ (v : Size). pads v.w) size ∙ ap (λ (d : ℕ). padded_length d 5) depth in
    let tall : pads short.slices.size.h ≡ 6 = ap (λ (v : Size). pads v.h) size ∙ ap (λ (d : ℕ). padded_length d 6) depth in
    let sizes : HaveSizes (short_stack short) 6 6 = subst (λ (w : ℕ). HaveSizes (short_stack short) w 6) wide (subst (λ (h : ℕ). HaveSizes (short_stack short) (pads short.slices.size.w) h) tall sound.sizes) in
    same_sizes (short_stack short) zeros 6 6 (zero.same_depth ∙ sym depth) sizes (HaveSizes-zero zeros 1 6 6 zero)

pub gather-fits-requires-clause-sizes : goal.gather-fits-requires-clause-sizes
gather-fits-requires-clause-sizes g c =
    let put = c.put_short-4.ensures in
    agree c.put_short-4.new.short c.rows_of-rows.result c.small_layout-layout.result put.cut put.size c.rows_of-rows.ensures.depth put.sound c.rows_of-rows.ensures.zero

pub widen-requires-clause-sizes : goal.widen-requires-clause-sizes
widen-requires-clause-sizes g c =
    let put = c.put_short-4.ensures in
    agree c.put_short-4.new.short c.rows_of-wide.result c.small_layout-layout.result put.cut put.size c.rows_of-wide.ensures.depth put.sound c.rows_of-wide.ensures.zero
