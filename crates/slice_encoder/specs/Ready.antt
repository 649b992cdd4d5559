-- What trying and encoding a slice ask for, and what of it stays from slice to slice.
use Rattle.std.specs.Prelude.{◌≡◌, ℕ, ◌+◌, ◌*◌, ◌<◌, List, ℤ}
use Rattle.std.specs.List.{All}
use Rattle.planes.specs.Numbers.{Within}
use Rattle.planes.specs.Raster.{Raster, at}
use Rattle.planes.specs.Subbands.{HaveSizes}
use Rattle.planes.specs.declared.ThreePlanes.{ThreePlanes}
use Rattle.planes.specs.declared.Trio.{Trio}
use Rattle.quant_factors.specs.Weights.{Weights}
use Rattle.slice_geometry.specs.declared.PictureShape.{PictureShape}
use Rattle.slice_geometry.specs.Frames.{frame_of}
use Rattle.slice_geometry.specs.Shape.{IsDepth}
use Rattle.slice_geometry.specs.Slicing.{Slicing}
use Rattle.slice_geometry.specs.Geometry.{padded_length}
use Rattle.slice_geometry.specs.SliceOrder.{level_rect}
use Rattle.dc_prediction.specs.Restoring.{AllLookedAtOutside}
use Rattle.slice_encoder.specs.Trials.{CodedComponent, CodedPicture, luma_of, c1_of, c2_of, AreKept}
use Rattle.slice_encoder.specs.Tries.{KeptHasSize, KeptHaveSizes, IsNext}
use Rattle.slice_encoder.specs.TrialLaws.{IsIndex, AreCoefficients, most_coefficient}

-- A component is ready for slice (sx, sy): bands and kept plane have their sizes, the coefficients are those of d bits,
-- and what is looked at outside the slice is no greater than a restored value there can be.
pub record IsReadyToWrite (c : CodedComponent) (d sx sy : ℕ) (kept : Raster ℤ) : Type 0 where
  pub depth : c.bands.depth ≡ c.slicing.depth
  pub sizes : HaveSizes c.bands (padded_length c.slicing.depth c.size.w) (padded_length c.slicing.depth c.size.h)
  pub small : AreCoefficients d c
  pub kept_size : KeptHasSize c kept
  pub outside : AllLookedAtOutside (λ y x. Within (3 * most_coefficient c.slicing.depth d + 2) (at kept y x))
      (level_rect c.slicing c.size sx sy 0)

-- All three components are ready for slice (sx, sy), which the picture has.
pub record AreReadyToWrite (j : CodedPicture) (sx sy : ℕ) (kept : ThreePlanes) : Type 0 where
  pub across : sx < j.slicing.slices_x
  pub down : sy < j.slicing.slices_y
  pub entries : j.matrix.depth ≡ j.slicing.depth
  pub luma : IsReadyToWrite (luma_of j) j.frame.luma_depth sx sy kept.luma
  pub c1 : IsReadyToWrite (c1_of j) j.frame.colour_depth sx sy kept.c1
  pub c2 : IsReadyToWrite (c2_of j) j.frame.colour_depth sx sy kept.c2

-- what of this stays from slice to slice
pub record IsGiven (c : CodedComponent) (d : ℕ) : Type 0 where
  pub depth : c.bands.depth ≡ c.slicing.depth
  pub sizes : HaveSizes c.bands (padded_length c.slicing.depth c.size.w) (padded_length c.slicing.depth c.size.h)
  pub small : AreCoefficients d c

-- What of all three components stays from slice to slice.
pub record AreGiven (j : CodedPicture) : Type 0 where
  pub entries : j.matrix.depth ≡ j.slicing.depth
  pub luma_bits : IsDepth j.frame.luma_depth
  pub colour_bits : IsDepth j.frame.colour_depth
  pub luma : IsGiven (luma_of j) j.frame.luma_depth
  pub c1 : IsGiven (c1_of j) j.frame.colour_depth
  pub c2 : IsGiven (c2_of j) j.frame.colour_depth

-- what is asked of a picture, its shape and its slices
abbrev pub coded_picture : Slicing → PictureShape → Weights → Trio → CodedPicture
coded_picture s shape matrix coefficients =
    record { slicing = s; frame = frame_of shape; matrix = matrix; coefficients = coefficients }

-- ---- from slice to slice

-- Where the values of all slices before are kept, the next slice can be encoded.
abbrev pub NextIsReady : Type 0
NextIsReady = (j : CodedPicture) (indices : List ℕ) (sx sy : ℕ) (kept : ThreePlanes) → AreGiven j → IsNext j indices sx sy
    → KeptHaveSizes j kept → AreKept j indices kept
    → All IsIndex indices → AreReadyToWrite j sx sy kept
