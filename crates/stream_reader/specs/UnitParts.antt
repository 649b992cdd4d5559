-- How the parts of a unit come out.
use Rattle.std.specs.Prelude.{◌≡◌, ℕ, ◌+◌, false, List, [], Option, Result, MatchResult}
use Rattle.field_rows.specs.Rows.{Rows, ◌>>=◌}
use Rattle.slice_geometry.specs.declared.PictureShape.{PictureShape}
use Rattle.slice_geometry.specs.Slicing.{slice_count, total_bytes}
use Rattle.sequence_header.specs.declared.parts.HeaderParts.{HeaderParts}
use Rattle.slice_decoder.specs.declared.SliceFault.{SliceFault}
use Rattle.slice_decoder.specs.declared.SliceFault.TheVariants.{LumaLengthTooLong, CoefficientTooLarge}
use Rattle.transform_params.specs.Params.{Params}
use Rattle.slice_geometry.specs.Frames.{frame_of}
use Rattle.picture_codec.specs.Decoding.{PictureDecoderSeen, HasTaken}
use Rattle.run_theory.specs.Begun.{Begun}
use Rattle.stream_rows.specs.declared.reason.Reason.{Reason}
use Rattle.stream_rows.specs.declared.reason.Reason.TheVariants as reasons
use Rattle.unit_reader.specs.declared.stop.ReadStop.{ReadStop}
use Rattle.unit_reader.specs.Asking.{WindowSeen}
use Rattle.stream_rows.specs.Units.{Past, DataUnit, units, slice_rows}
use Rattle.unit_reader.specs.Stops.{StopsOver}

-- a decoder of pictures of this shape and with these parameters, at its first slice
pub record IsAtFirstSlice (shape : PictureShape) (params : Params) (d : PictureDecoderSeen) : Type 0 where
  pub frame : frame_of d.shape ≡ frame_of shape
  pub params_are : d.params ≡ params
  pub first : d.next ≡ 0
  pub waits_refused : d.refused ≡ false

-- the decoder took slices in order, and the rows after them are left behind their bytes
pub record TookSlices (z : Past) (held0 : List ℕ) (rest0 rest1 : Option (List ℕ)) (at : ℕ) (held1 : List ℕ)
    (others : List (List ℕ) → Rows Reason DataUnit) (d : PictureDecoderSeen) : Type 0 where
  pub slices : List (List ℕ)
  pub has : HasTaken slices d
  pub begun : Begun units z held0 rest0 rest1 at held1 (others slices)

-- All slices of a picture came out so, from a place on, where the decoder makes pictures of the header's shape: it took
-- them, or the unit stops in one.
abbrev pub SlicesOver : {X : Type 0} → HeaderParts → Past → Option (List ℕ) → Option (List ℕ) → ℕ → WindowSeen
    → WindowSeen → PictureDecoderSeen → PictureDecoderSeen → Result X (ReadStop Reason) → Type 0
SlicesOver parts z rest1 rest2 at old new decoder0 decoder1 result =
    (others : List (List ℕ) → Rows Reason DataUnit) (held0 : List ℕ) (rest0 : Option (List ℕ))
    → Begun units z held0 rest0 rest1 at old.held
    (slice_rows parts decoder0.params (slice_count decoder0.params.slicing) [] >>= others)
    → MatchResult result (λ x. TookSlices z held0 rest0 rest2
    (at + total_bytes decoder0.params.slicing) new.held others decoder1)
    (λ stop. StopsOver units z held0 rest0 rest2 new.room stop)

-- why a slice is refused
abbrev pub slice_reason : SliceFault → Reason
slice_reason LumaLengthTooLong = reasons.LumaLengthTooLong
slice_reason CoefficientTooLarge = reasons.CoefficientTooLarge
