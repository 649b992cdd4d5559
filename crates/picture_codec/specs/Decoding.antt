-- The decoder of pictures.
use Rattle.std.specs.Prelude.{◌≡◌, ℕ, ◌+◌, ◌/◌, ◌%◌, ◌<◌, ◌≤◌, nat_lt, Bool, true, false, if◌then◌else◌, Option, None, Some, List, length, ℤ}
use Rattle.bit_codes.specs.declared.TheConstants.{MAX_MAGNITUDE}
use Rattle.planes.specs.Numbers.{Within}
use Rattle.planes.specs.Raster.{Raster, height, at}
use Rattle.planes.specs.Subbands.{BandsOf, BandStack, BandExists, band_of, HaveSizes, AreFilledBands, AreZeroBands}
use Rattle.planes.specs.declared.Trio.{Trio}
use Rattle.dc_prediction.specs.Prediction.{reach}
use Rattle.slice_geometry.specs.declared.Size.{Size}
use Rattle.slice_geometry.specs.declared.Component.{Component}
use Rattle.slice_geometry.specs.declared.Component.TheVariants.{Luma, C1, C2}
use Rattle.slice_geometry.specs.declared.PictureShape.{PictureShape}
use Rattle.slice_geometry.specs.Slicing.{Slicing, slice_count, slice_bytes}
use Rattle.slice_geometry.specs.Geometry.{padded_length, band_size}
use Rattle.lifting.specs.declared.Wavelet.{Wavelet}
use Rattle.lifting.specs.Transform.{synthesis}
use Rattle.lifting.specs.Bands.{coefficients_of}
use Rattle.lifting.specs.Ranges.{SameBands}
use Rattle.lifting.specs.SampleRoom.{AreSmallIn}
use Rattle.transform_params.specs.Params.{Params}
use Rattle.picture_codec.specs.Pictures.{size_of, coefficients, sample_of}
use Rattle.slice_geometry.specs.Frames.{Frame, frame_of}
use Rattle.picture_codec.specs.Samples.{SamplesSeen, PictureSamples, PictureSeen, samples_by, with_component, sample_bits}
use Rattle.slice_decoder.specs.declared.SliceFault.{SliceFault}
use Rattle.slice_decoder.specs.Slice.{Slice, slice_at, is_small}
use Rattle.slice_decoder.specs.Decoded.{AllKeepOthers, IsRefused}
use Rattle.picture_codec.specs.Taking.{holder, Took, TakesSlice}
use Rattle.picture_codec.specs.declared.workspace.LateWorkspace.{LateWorkspace}
use Rattle.picture_codec.specs.declared.workspace.GatherRoom.{GatherRoom}
use Rattle.picture_codec.specs.declared.workspace.SynthesisRoom.{SynthesisRoom}
use Rattle.picture_codec.specs.declared.workspace.SynthesisRooms.{SynthesisRooms}

-- ---- what is seen of a decoder

-- its bands, the number of its next slice, whether it refused a slice, and the picture that it finished
pub record PictureDecoderSeen : Type 0 where
  pub shape : PictureShape
  pub params : Params
  pub bands : Trio
  pub next : ℕ
  pub refused : Bool
  pub picture : Option PictureSamples

-- the subbands of a component
abbrev pub stack_of : Trio → Component → BandStack
stack_of b Luma = b.luma
stack_of b C1 = b.c1
stack_of b C2 = b.c2

-- ---- the samples of bands

-- the samples of a component: the synthesis of its bands, trimmed, clipped and offset (SMPTE ST 2042-1:2017, 15)
unfoldable pub synthesised : Wavelet → Size → ℕ → BandStack → SamplesSeen
synthesised wavelet size depth b =
    let lowest = band_size b.depth 0 size in
    samples_by size (λ y x. sample_of depth (synthesis wavelet lowest.h lowest.w (coefficients_of b) b.depth y x))

-- a picture with a component synthesised from its subbands
abbrev pub with_synthesised : Wavelet → PictureSeen → Component → BandStack → PictureSeen
with_synthesised wavelet p c b =
    record p { samples = with_component p.samples c (synthesised wavelet (size_of (frame_of p.shape) c) (sample_bits p c) b) }

-- the samples of all three components
abbrev pub synthesised_picture : PictureDecoderSeen → PictureSamples
synthesised_picture d = record {
  luma = synthesised d.params.wavelet d.shape.luma d.shape.luma_depth d.bands.luma;
  c1 = synthesised d.params.wavelet d.shape.colour d.shape.colour_depth d.bands.c1;
  c2 = synthesised d.params.wavelet d.shape.colour d.shape.colour_depth d.bands.c2;
}

-- ---- what a decoder keeps

-- The bands have their sizes, and where one of the first n slices holds a place, the number there is one that restoring
-- or dequantising gives.
pub record AreTaken (s : Slicing) (size : Size) (n : ℕ) (b : BandStack) : Type 0 where
  pub depth : b.depth ≡ s.depth
  pub sizes : HaveSizes b (padded_length s.depth size.w) (padded_length s.depth size.h)
  pub lowest : (y x : ℕ) → y < (band_size s.depth 0 size).h → x < (band_size s.depth 0 size).w
      → holder s (band_size s.depth 0 size) y x < n → Within (reach y x) (at (band_of b 0 0) y x)
  pub upper : (level orient y x : ℕ) → BandExists s.depth level orient → 1 ≤ level → y < (band_size s.depth level size).h
      → x < (band_size s.depth level size).w → holder s (band_size s.depth level size) y x < n
      → Within MAX_MAGNITUDE (at (band_of b level orient) y x)

-- the subbands of all components have the values of the first n slices
pub record AllTaken (s : Slicing) (shape : PictureShape) (n : ℕ) (bands : Trio) : Type 0 where
  pub luma : AreTaken s shape.luma n bands.luma
  pub c1 : AreTaken s shape.colour n bands.c1
  pub c2 : AreTaken s shape.colour n bands.c2
  pub few : n ≤ slice_count s

-- what synthesis asks of the bands of a component: they have their sizes, and their numbers are small enough
pub record CanSynthesise (s : Slicing) (size : Size) (b : BandStack) : Type 0 where
  pub depth : b.depth ≡ s.depth
  pub sizes : HaveSizes b (padded_length s.depth size.w) (padded_length s.depth size.h)
  pub small : AreSmallIn b (padded_length s.depth size.w) (padded_length s.depth size.h)

-- the subbands of all components have the sizes and bounds that synthesis asks
pub record AllCanSynthesise (s : Slicing) (shape : PictureShape) (bands : Trio) : Type 0 where
  pub luma : CanSynthesise s shape.luma bands.luma
  pub c1 : CanSynthesise s shape.colour bands.c1
  pub c2 : CanSynthesise s shape.colour bands.c2

-- the bands hold the coefficients of a unit's component, the lowest one restored
abbrev pub HoldComponent : Frame → Params → List (List ℕ) → Component → BandStack → Type 0
HoldComponent f p slices c b =
    let lowest = band_size p.slicing.depth 0 (size_of f c) in
    SameBands lowest.h lowest.w p.slicing.depth (coefficients_of b) (coefficients f p slices c)

-- those of all three
abbrev pub HoldUnit : Frame → Params → List (List ℕ) → Trio → Type 0
HoldUnit f p slices bands = (c : Component) → HoldComponent f p slices c (stack_of bands c)

-- the room for a component's synthesis: half of its padded size each way, rows of that size, and three more
pub record HaveHalfRoom {X : Type 0} (s : Slicing) (size : Size) (plane scratch : Raster X) : Type 0 where
  pub columns : plane.w ≡ padded_length s.depth size.w / 2
  pub rows : height plane ≡ padded_length s.depth size.h / 2
  pub scratch_columns : scratch.w ≡ padded_length s.depth size.w
  pub scratch_rows : height scratch ≡ padded_length s.depth size.h / 2 + 3

-- where room isn't made, there are planes of no rows, in whose place it is
abbrev pub IsRowless : {X : Type 0} → LateWorkspace X → Type 0
IsRowless w = w.is_made ≡ false → (height w.room.plane ≡ 0) × (height w.room.scratch ≡ 0)

-- the room for a component's synthesis, or the memory for it
pub record HasLateRoom {X : Type 0} (s : Slicing) (size : Size) (w : LateWorkspace X) : Type 0 where
  pub rowless : IsRowless w
  pub made : w.is_made ≡ true → HaveHalfRoom s size w.room.plane w.room.scratch
  pub late : w.is_made ≡ false → HaveHalfRoom s size w.late_plane w.late_scratch

-- where the rows aren't made, there are bands of no rows, in whose place they are
abbrev pub IsGatherRowless : GatherRoom → Type 0
IsGatherRowless r = r.is_made ≡ false → AreZeroBands r.bands r.late.depth 0 0

-- rows that a component's slices are gathered in, or the memory for them
pub record HasGatherRoom (s : Slicing) (size : Size) (r : GatherRoom) : Type 0 where
  pub rowless : IsGatherRowless r
  pub made : r.is_made ≡ true → HaveSizes r.bands (padded_length s.depth size.w) (padded_length s.depth size.h)
  pub made_depth : r.is_made ≡ true → r.bands.depth ≡ s.depth
  pub late : r.is_made ≡ false → HaveSizes r.late (padded_length s.depth size.w) (padded_length s.depth size.h)
  pub late_depth : r.late.depth ≡ s.depth

-- in 64 bits, in 32 and in 16
abbrev pub HasSynthesisRoom : Slicing → Size → SynthesisRoom → Type 0
HasSynthesisRoom s size room =
    HasLateRoom s size room.late × HasLateRoom s size room.narrow × HasLateRoom s size room.short × HasGatherRoom s size room.gathered

-- ---- its calls

-- the place of the next slice
abbrev pub column_of : PictureDecoderSeen → ℕ
column_of d = d.next % d.params.slicing.slices_x

-- the row of slices that the next slice stands in
abbrev pub row_of_slices : PictureDecoderSeen → ℕ
row_of_slices d = d.next / d.params.slicing.slices_x

-- the bands of a component of this size, of its padded size and with one number at each place
abbrev pub AreNewBandsOf : {X : Type 0} → X → Slicing → Size → BandsOf X → Type 0
AreNewBandsOf x s size b = AreFilledBands x b s.depth (padded_length s.depth size.w) (padded_length s.depth size.h)

-- all zero
abbrev pub AreNewBands : Slicing → Size → BandStack → Type 0
AreNewBands s size b = AreZeroBands b s.depth (padded_length s.depth size.w) (padded_length s.depth size.h)

-- a new decoder: all bands are zero
pub record IsNewDecoder (shape : PictureShape) (params : Params) (d : PictureDecoderSeen) : Type 0 where
  pub shape_is : d.shape ≡ shape
  pub params_are : d.params ≡ params
  pub luma : AreNewBands params.slicing shape.luma d.bands.luma
  pub c1 : AreNewBands params.slicing shape.colour d.bands.c1
  pub c2 : AreNewBands params.slicing shape.colour d.bands.c2
  pub first : d.next ≡ 0
  pub none_refused : d.refused ≡ false
  pub unfinished : d.picture ≡ None

-- the bytes of the next slice, until all were taken
abbrev pub wanted_of : PictureDecoderSeen → Option ℕ
wanted_of d =
    if nat_lt d.next (slice_count d.params.slicing) then Some (slice_bytes d.params.slicing.a d.params.slicing.b d.next) else None

-- what these bytes say as the next slice
abbrev pub next_slice : PictureDecoderSeen → List ℕ → Slice
next_slice d bytes = slice_at d.params.slicing d.shape.luma d.shape.colour (column_of d) (row_of_slices d) bytes

-- the next slice was taken: its own places have its values, and all others stay
pub record IsTaken (bytes : List ℕ) (old new : PictureDecoderSeen) : Type 0 where
  pub state : new ≡ record old { bands = new.bands; next = old.next + 1 }
  pub fits : (next_slice old bytes).too_long ≡ false
  pub small : is_small old.params.slicing old.shape.luma old.shape.colour (column_of old)
      (row_of_slices old) old.params.matrix (next_slice old bytes) ≡ true
  pub each : (c : Component) → TakesSlice (frame_of old.shape) old.params c (column_of old) (row_of_slices old) bytes
      (stack_of old.bands c) (stack_of new.bands c)

-- it was refused: its own places have any values, and all others stay
pub record IsSliceRefused (bytes : List ℕ) (fault : SliceFault) (old new : PictureDecoderSeen) : Type 0 where
  pub state : new ≡ record old { bands = new.bands; refused = true }
  pub why : IsRefused old.params.slicing old.shape (column_of old) (row_of_slices old) old.params.matrix
      (next_slice old bytes) fault
  pub others : AllKeepOthers old.params.slicing old.shape (column_of old) (row_of_slices old) old.bands new.bands

-- what a decoder keeps: the room for synthesis, and bands that the slices so far were taken into
pub record IsDecoderSound (s : Slicing) (shape : PictureShape) (next : ℕ) (bands : Trio) (rooms : SynthesisRooms) : Type 0 where
  pub taken : AllTaken s shape next bands
  pub luma : HasSynthesisRoom s shape.luma rooms.luma
  pub colour : HasSynthesisRoom s shape.colour rooms.colour

-- A decoder that took these slices, in order, since it was made or last restarted.
pub record HasTaken (slices : List (List ℕ)) (d : PictureDecoderSeen) : Type 0 where
  pub number : d.next ≡ length slices
  pub each : (c : Component) → Took (frame_of d.shape) d.params slices c (stack_of d.bands c)
