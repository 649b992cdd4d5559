-- What a slice needs at least at an index, whatever is restored in its lowest subbands.
use Rattle.std.specs.Prelude.{◌≡◌, ℕ, zero, suc, ◌+◌, ◌-◌, ◌^◌, ◌<◌, ◌≤◌, Bool, true, false, length, ℤ, pos, negsuc}
use Rattle.std.specs.List.{sum_by, range_with_len}
use Rattle.planes.specs.declared.Rect.{Rect}
use Rattle.planes.specs.Numbers.{Within}
use Rattle.planes.specs.Raster.{Raster, Grid, height, at}
use Rattle.bit_codes.specs.Codes.{signed_code_of}
use Rattle.bounded_blocks.specs.Writing.{need}
use Rattle.quant_factors.specs.Factors.{forward_of}
use Rattle.quant_factors.specs.Weights.{band_quantiser}
use Rattle.slice_geometry.specs.SliceOrder.{level_rect}
use Rattle.slice_encoder.specs.declared.bounding.Lower.{Lower}
use Rattle.slice_encoder.specs.Trials.{CodedComponent, coefficient, CodedPicture, luma_of, c1_of, c2_of, lists}
use Rattle.slice_encoder.specs.Choice.{needs_fit, fits}

-- the length of a value's code, and nothing for 0
abbrev pub counted_bits : ℤ → ℕ
counted_bits (pos zero) = 0
counted_bits (pos (suc n)) = length (signed_code_of (pos (suc n)))
counted_bits (negsuc n) = length (signed_code_of (negsuc n))

-- the same of the coefficients in a row of a rectangle, by quantiser q
abbrev pub row_bits : Grid → ℕ → Rect → ℕ → ℕ
row_bits g q r y = sum_by (λ x. counted_bits (forward_of (g y x) q)) (range_with_len r.x0 (r.x1 - r.x0))

-- the same of all of a rectangle
abbrev pub rect_bits : Grid → ℕ → Rect → ℕ
rect_bits g q r = sum_by (row_bits g q r) (range_with_len r.y0 (r.y1 - r.y0))

-- of the slice's values in a band that isn't the lowest
abbrev pub band_bits : CodedComponent → ℕ → ℕ → ℕ → ℕ → ℕ → ℕ
band_bits c index sx sy level orient =
    rect_bits (coefficient c level orient) (band_quantiser c.matrix index level orient) (level_rect c.slicing c.size sx sy level)

-- of the slice's values in the three bands of a level
abbrev pub level_bits : CodedComponent → ℕ → ℕ → ℕ → ℕ → ℕ
level_bits c index sx sy level =
    band_bits c index sx sy level 1 + (band_bits c index sx sy level 2 + band_bits c index sx sy level 3)

-- and in the levels from 1 to this one
abbrev pub bits_to : CodedComponent → ℕ → ℕ → ℕ → ℕ → ℕ
bits_to c index sx sy zero = 0
bits_to c index sx sy (suc level) = bits_to c index sx sy level + level_bits c index sx sy (suc level)

-- of those in all levels
abbrev pub high_bits : CodedComponent → ℕ → ℕ → ℕ → ℕ
high_bits c index sx sy = bits_to c index sx sy c.slicing.depth

-- ---- the bounds

-- A need leaves out no more than the ones that end the last code of a value that isn't 0, and these are three at most.
abbrev pub low_luma : CodedPicture → ℕ → ℕ → ℕ → ℕ
low_luma j index sx sy = high_bits (luma_of j) index sx sy - 3

-- what the colour values need at least
abbrev pub low_colour : CodedPicture → ℕ → ℕ → ℕ → ℕ
low_colour j index sx sy = high_bits (c1_of j) index sx sy + high_bits (c2_of j) index sx sy - 3

-- both bounds of a slice at an index
abbrev pub lower_of : CodedPicture → ℕ → ℕ → ℕ → Lower
lower_of j sx sy index = record { luma = low_luma j index sx sy; colour = low_colour j index sx sy }

-- an index may fit where its bounds do
abbrev pub may_fit : ℕ → Lower → Bool
may_fit bytes low = needs_fit bytes low.luma low.colour

-- the least index from 0 to 127 that may fit
pub record IsFirstCandidate (bytes : ℕ) (lower_at : ℕ → Lower) (index : ℕ) : Type 0 where
  pub most : index ≤ 127
  pub may : may_fit bytes (lower_at index) ≡ true
  pub least : (i : ℕ) → i < index → may_fit bytes (lower_at i) ≡ false

-- ---- the laws

-- The bounds are at most the needs, whatever is restored.
abbrev pub LowerIsNoGreater : Type 0
LowerIsNoGreater = (j : CodedPicture) (luma c1 c2 : Grid) (index sx sy : ℕ)
    → (low_luma j index sx sy ≤ need (lists j luma c1 c2 index sx sy).luma)
    × (low_colour j index sx sy ≤ need (lists j luma c1 c2 index sx sy).colour)

-- They don't rise with the index.
abbrev pub LowerFalls : Type 0
LowerFalls = (j : CodedPicture) (sx sy i k : ℕ) → i ≤ k → k ≤ 127
    → (low_luma j k sx sy ≤ low_luma j i sx sy) × (low_colour j k sx sy ≤ low_colour j i sx sy)

-- So an index that may not fit doesn't fit, and neither does any below it.
abbrev pub MayNotFit : Type 0
MayNotFit = (j : CodedPicture) (luma c1 c2 : Grid) (bytes sx sy i k : ℕ) → i ≤ k → k ≤ 127
    → may_fit bytes (lower_of j sx sy k) ≡ false → fits bytes (lists j luma c1 c2 i sx sy) ≡ false

-- ---- the code

-- what counting a rectangle asks for
pub record CanCount (r : Rect) (coefficients : Raster ℤ) : Type 0 where
  pub across : r.x0 ≤ r.x1
  pub down : r.y0 ≤ r.y1
  pub x_inside : r.x1 ≤ coefficients.w
  pub y_inside : r.y1 ≤ height coefficients
  pub narrow : r.x1 ≤ 8192
  pub short : r.y1 ≤ 8192
  pub small : (y x : ℕ) → Within (2 ^ 27) (at coefficients y x)
