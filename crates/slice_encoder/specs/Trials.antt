-- What the indices that slices are tried at make of a picture's coefficients.
use Rattle.std.specs.Prelude.{◌≡◌, ℕ, ◌<◌, ◌==◌, List, [], ◌∷◌, length, slice_index, if◌then◌else◌, map, ℤ}
use Rattle.std.specs.List.{flat_map}
use Rattle.planes.specs.Raster.{Raster, Grid, height, at}
use Rattle.planes.specs.Subbands.{BandStack, band_of}
use Rattle.planes.specs.declared.Trio.{Trio}
use Rattle.planes.specs.declared.ThreePlanes.{ThreePlanes}
use Rattle.dc_prediction.specs.Prediction.{prediction}
use Rattle.quant_factors.specs.Factors.{forward_of}
use Rattle.quant_factors.specs.Weights.{Weights, band_quantiser}
use Rattle.slice_geometry.specs.declared.Size.{Size}
use Rattle.slice_geometry.specs.Frames.{Frame}
use Rattle.slice_geometry.specs.Slicing.{Slicing, slice_number}
use Rattle.slice_geometry.specs.Geometry.{holding, band_size}
use Rattle.slice_encoder.specs.Loop.{made, restored_value, residual_of}
use Rattle.slice_encoder.specs.Order.{Place, places_of}

-- the coefficients of one component that is to be written, and how
pub record CodedComponent : Type 0 where
  pub slicing : Slicing
  pub size : Size
  pub matrix : Weights
  pub bands : BandStack

-- the coefficients of a band, by row and column
abbrev pub coefficient : CodedComponent → ℕ → ℕ → Grid
coefficient c level orient = at (band_of c.bands level orient)

-- the number of the slice that holds a place of the lowest subband
abbrev pub slice_holding : Slicing → Size → ℕ → ℕ → ℕ
slice_holding s size y x =
    let band = band_size s.depth 0 size in
    slice_number s (holding s.slices_x band.w x) (holding s.slices_y band.h y)

-- ---- the lowest subband as a reader restores it

-- Its values where slice n has index number n of a list: each is the prediction from them and the dequantised residual. A
-- slice past the list has index 0.
unfoldable pub restored_after : CodedComponent → List ℕ → Grid
restored_after c indices = made (λ y x. restored_value (coefficient c 0 0 y x)
    (band_quantiser c.matrix (slice_index indices (slice_holding c.slicing c.size y x)) 0 0))

-- ---- the values of a slice

-- a place's value at an index: a residual in the lowest subband, by the values that are restored there, and else the
-- coefficient, quantised
abbrev pub value_of : CodedComponent → Grid → ℕ → Place → ℤ
value_of c restored index p =
    let q = band_quantiser c.matrix index p.level p.orient in
    if p.level == 0 then residual_of (coefficient c 0 0 p.y p.x) q (prediction restored p.y p.x)
    else forward_of (coefficient c p.level p.orient p.y p.x) q

-- the luma list of a slice
abbrev pub luma_list : CodedComponent → Grid → ℕ → ℕ → ℕ → List ℤ
luma_list c restored index sx sy = map (value_of c restored index) (places_of c.slicing c.size sx sy c.slicing.depth)

-- and its colour list: at each place the value of C1 and then that of C2
abbrev pub colour_list : CodedComponent → CodedComponent → Grid → Grid → ℕ → ℕ → ℕ → List ℤ
colour_list c1 c2 restored1 restored2 index sx sy =
    flat_map (λ p. value_of c1 restored1 index p ∷ value_of c2 restored2 index p ∷ [])
    (places_of c1.slicing c1.size sx sy c1.slicing.depth)

-- ---- a picture

-- the coefficients of a picture that is to be written, and how
pub record CodedPicture : Type 0 where
  pub slicing : Slicing
  pub frame : Frame
  pub matrix : Weights
  pub coefficients : Trio

-- the luma component of a picture
abbrev pub luma_of : CodedPicture → CodedComponent
luma_of j = record { slicing = j.slicing; size = j.frame.luma; matrix = j.matrix; bands = j.coefficients.luma }

-- the first colour component of a picture
abbrev pub c1_of : CodedPicture → CodedComponent
c1_of j = record { slicing = j.slicing; size = j.frame.colour; matrix = j.matrix; bands = j.coefficients.c1 }

-- the second colour component of a picture
abbrev pub c2_of : CodedPicture → CodedComponent
c2_of j = record { slicing = j.slicing; size = j.frame.colour; matrix = j.matrix; bands = j.coefficients.c2 }

-- the values of a slice, as they are written
pub record Lists : Type 0 where
  pub luma : List ℤ
  pub colour : List ℤ

-- the lists of slice (sx, sy) where the restored values are these
abbrev pub lists : CodedPicture → Grid → Grid → Grid → ℕ → ℕ → ℕ → Lists
lists j luma c1 c2 index sx sy = record {
  luma = luma_list (luma_of j) luma index sx sy;
  colour = colour_list (c1_of j) (c2_of j) c1 c2 index sx sy;
}

-- the lists of slice (sx, sy), the last one of those that have these indices
abbrev pub last_lists : CodedPicture → List ℕ → ℕ → ℕ → Lists
last_lists j indices sx sy =
    lists j (restored_after (luma_of j) indices) (restored_after (c1_of j) indices) (restored_after (c2_of j) indices)
    (slice_index indices (slice_number j.slicing sx sy)) sx sy

-- ---- kept values

-- In the slices that have an index the plane holds the values that are restored.
abbrev pub IsKept : CodedComponent → List ℕ → Raster ℤ → Type 0
IsKept c indices p = (y x : ℕ) → y < height p → x < p.w → slice_holding c.slicing c.size y x < length indices
    → at p y x ≡ restored_after c indices y x

-- The planes of all three components hold the restored values of the slices that have an index.
pub record AreKept (j : CodedPicture) (indices : List ℕ) (kept : ThreePlanes) : Type 0 where
  pub luma : IsKept (luma_of j) indices kept.luma
  pub c1 : IsKept (c1_of j) indices kept.c1
  pub c2 : IsKept (c2_of j) indices kept.c2
