-- What an encoder keeps from picture to picture, and what it finds of one.
use Rattle.std.specs.Prelude.{◌≡◌, ℕ, ◌<◌, ◌≤◌, length, ℤ, pos}
use Rattle.planes.specs.declared.ThreePlanes.{ThreePlanes}
use Rattle.planes.specs.declared.Trio.{Trio}
use Rattle.planes.specs.Raster.{Raster, height, row_of, at}
use Rattle.planes.specs.Numbers.{Within}
use Rattle.planes.specs.Subbands.{BandStack, BandExists, band_of, HaveSizes}
use Rattle.slice_geometry.specs.declared.Size.{Size}
use Rattle.slice_geometry.specs.declared.PictureShape.{PictureShape}
use Rattle.slice_geometry.specs.Slicing.{Slicing}
use Rattle.slice_geometry.specs.Geometry.{padded_length, band_size}
use Rattle.slice_store.specs.Store.{Store}
use Rattle.slice_store.specs.Stack.{stack_of}
use Rattle.slice_encoder.specs.TrialLaws.{most_coefficient}
use Rattle.lifting.specs.declared.Wavelet.{Wavelet}
use Rattle.lifting.specs.RowAnalysis.{IsAnalysisOf}
use Rattle.transform_params.specs.Params.{Params}
use Rattle.picture_codec.specs.Samples.{SamplesSeen}
use Rattle.picture_codec.specs.Encoding.{analysed_bands}
use Rattle.picture_codec.specs.declared.component_lines.ComponentLines.{ComponentLines}
use Rattle.picture_codec.specs.declared.encoder.PictureLines.{PictureLines}

-- each row is as long as the plane is wide
abbrev pub AreRowsWhole : {X : Type 0} → Raster X → Type 0
AreRowsWhole p = (y : ℕ) → y < height p → length (row_of p y) ≡ p.w

-- each row of each subband has the subband's width
abbrev pub AreWhole : BandStack → Type 0
AreWhole b = (level orient : ℕ) → BandExists b.depth level orient → AreRowsWhole (band_of b level orient)

-- a lowest subband
abbrev pub IsLowest : Slicing → Size → Raster ℤ → Type 0
IsLowest s size p = let band = band_size s.depth 0 size in (p.w ≡ band.w) × (height p ≡ band.h)

-- ---- a component

-- a store has room for all rows of slices
abbrev pub HasAllRows : {X : Type 0} → Store X → Type 0
HasAllRows s = s.slicing.slices_y ≤ s.strips

-- a store is cut as it was, for a component of the same size, with the same room
pub record LiesTheSame {X : Type 0} (old new : Store X) : Type 0 where
  pub slicing : new.slicing ≡ old.slicing
  pub size : new.size ≡ old.size
  pub strips : new.strips ≡ old.strips

-- the subbands of a component, as they are stored
abbrev pub bands_of : ComponentLines → BandStack
bands_of l = stack_of (λ v. v) (pos 0) l.bands.store

-- a component's levels of analysis, a line of it, and its subbands, of a component of this size
pub record AreLinesOf (p : Params) (size : Size) (l : ComponentLines) : Type 0 where
  pub analysis : IsAnalysisOf p.wavelet p.slicing.depth (padded_length p.slicing.depth size.w) (padded_length p.slicing.depth size.h) l.analysis
  pub line : length l.line.items ≡ padded_length p.slicing.depth size.w
  pub same_slicing : l.bands.store.slicing ≡ p.slicing
  pub same_size : l.bands.store.size ≡ size
  pub room : HasAllRows l.bands.store

-- the bands are these, at each place of each band
abbrev pub HoldBands : Slicing → Size → BandStack → BandStack → Type 0
HoldBands s size a b = (level orient y x : ℕ) → BandExists s.depth level orient
    → y < (band_size s.depth level size).h → x < (band_size s.depth level size).w
    → at (band_of a level orient) y x ≡ at (band_of b level orient) y x

-- the bands have the sizes of a component's
pub record HaveBandSizes (s : Slicing) (size : Size) (b : BandStack) : Type 0 where
  pub depth : b.depth ≡ s.depth
  pub sizes : HaveSizes b (padded_length s.depth size.w) (padded_length s.depth size.h)

-- The bands hold the analysis of a component's samples of d bits, at each place of each band.
pub record HoldAnalysed (k : Wavelet) (s : Slicing) (size : Size) (d : ℕ) (samples : SamplesSeen) (b : BandStack) : Type 0 where
  pub sizes : HaveBandSizes s size b
  pub values : HoldBands s size b (analysed_bands k s.depth size d samples)
  pub small : (level orient y x : ℕ) → BandExists s.depth level orient
      → Within (most_coefficient s.depth d) (at (band_of b level orient) y x)

-- ---- a picture

-- what the three components are encoded from
pub record AllLinesOf (p : Params) (shape : PictureShape) (l : PictureLines) : Type 0 where
  pub luma : AreLinesOf p shape.luma l.luma
  pub c1 : AreLinesOf p shape.colour l.c1
  pub c2 : AreLinesOf p shape.colour l.c2

-- the coefficients that they hold
abbrev pub trio_of : PictureLines → Trio
trio_of l = record { luma = bands_of l.luma; c1 = bands_of l.c1; c2 = bands_of l.c2 }

-- what stays from picture to picture
pub record IsReadyToEncode (p : Params) (shape : PictureShape) (lines : PictureLines) (kept : ThreePlanes) : Type 0 where
  pub all_lines : AllLinesOf p shape lines
  pub kept_luma : IsLowest p.slicing shape.luma kept.luma
  pub kept_c1 : IsLowest p.slicing shape.colour kept.c1
  pub kept_c2 : IsLowest p.slicing shape.colour kept.c2
