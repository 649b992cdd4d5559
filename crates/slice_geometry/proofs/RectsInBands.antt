-- The rectangles of slices lie in their bands.
use Rattle.std.proofs.Common.{◌≡◌, ℕ, ◌+◌, ◌*◌, ◌<◌, ◌≤◌, get_or, ℤ, sym, ap, subst, ◌∙◌, arith}
use Rattle.std.proofs.Math.Nat.{mul-le-mul_left, div-le_of_le-mul}
use Rattle.planes.specs.declared.Rect.{Rect}
use Rattle.planes.specs.Raster.{Raster, height}
use Rattle.planes.specs.Subbands.{BandStack, BandExists, band_of, no_band, subband_length, HaveSizes}
use Rattle.slice_geometry.specs.declared.Size.{Size}
use Rattle.slice_geometry.specs.Slicing.{Slicing}
use Rattle.slice_geometry.specs.Geometry.{padded_length, band_size, slice_start, slice_end, slice_rect}
use Rattle.slice_geometry.specs.SliceOrder.{level_rect, level_of, orient_of, numbered}
use Rattle.slice_geometry.proofs.Quotients.{div-rises}
use Rattle.slice_geometry.proofs.NumberedBands.{index-numbered, band-exists}

pub start_before_end : (length count i : ℕ) → i < count → slice_start length count i ≤ slice_end length count i
start_before_end length count i lt = div-rises (length * i) (length * (i + 1)) count (omega arith) (mul-le-mul_left length (omega arith))

pub end_inside : (length count i : ℕ) → i < count → slice_end length count i ≤ length
end_inside length count i lt =
    let all : length * (i + 1) ≤ length * count = mul-le-mul_left length (omega arith) in
    div-le_of_le-mul count {m = length * (i + 1)} {n = length} (omega (arith, all))

-- the rectangle of a slice lies in its band
pub record FitsIn (rect : Rect) (p : Raster ℤ) : Type 0 where
  pub across : rect.x0 ≤ rect.x1
  pub down : rect.y0 ≤ rect.y1
  pub x_inside : rect.x1 ≤ p.w
  pub y_inside : rect.y1 ≤ height p

pub fits : (s : Slicing) (size : Size) (sx sy k : ℕ) (rect : Rect) (b : BandStack) (before : Raster ℤ) → rect ≡ level_rect s size sx sy (level_of k) → before ≡ numbered b k → k < 3 * s.depth + 1 → b.depth ≡ s.depth → sx < s.slices_x → sy < s.slices_y
    → HaveSizes b (padded_length s.depth size.w) (padded_length s.depth size.h) → FitsIn rect before
fits s size sx sy k rect b before rect_is before_is lt depth across down sizes =
    let D : ℕ → Type 0 = λ d. BandExists d (level_of k) (orient_of k) in
    let exists : BandExists b.depth (level_of k) (orient_of k) = subst D (sym depth) (band-exists s.depth k lt) in
    let band : before ≡ band_of b (level_of k) (orient_of k) = before_is ∙ ap (λ j. get_or b.bands j no_band) (sym (index-numbered k)) in
    let here : Size = band_size s.depth (level_of k) size in
    let width : before.w ≡ here.w = ap (λ r. r.w) band ∙ sizes.widths (level_of k) (orient_of k) exists ∙ ap (λ d. subband_length d (level_of k) (padded_length s.depth size.w)) depth in
    let tall : height before ≡ here.h = ap height band ∙ sizes.heights (level_of k) (orient_of k) exists ∙ ap (λ d. subband_length d (level_of k) (padded_length s.depth size.h)) depth in
    let P : Rect → Type 0 = λ r. FitsIn r before in
    subst P (sym rect_is) (record {
      across = start_before_end here.w s.slices_x sx across;
      down = start_before_end here.h s.slices_y sy down;
      x_inside = omega (arith, end_inside here.w s.slices_x sx across, width);
      y_inside = omega (arith, end_inside here.h s.slices_y sy down, tall);
    })

-- the rectangle by the level that the code finds for band k
pub rect_here : (s : Slicing) (size : Size) (sx sy k level : ℕ) (rect : Rect) → level ≡ level_of k → rect ≡ slice_rect s (band_size s.depth level size) sx sy → rect ≡ level_rect s size sx sy (level_of k)
rect_here s size sx sy k level rect level_is is = is ∙ ap (λ l. slice_rect s (band_size s.depth l size) sx sy) level_is
