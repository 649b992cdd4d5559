-- What is true of the fields of a writer.
use Rattle.std.specs.Prelude.{◌≡◌, ◌≤◌, ℕ, ◌+◌, ◌%◌, ◌^◌, ◌<◌, Bool, false, List, [], length, take, drop, Option, None}
use Rattle.parse_info.specs.declared.TheConstants.{HEAD_SIZE}
use Rattle.vc2_io.specs.declared.TheConstants.{INPUT_LIMIT}
use Rattle.parse_info.specs.Chain.{ChainSeen}
use Rattle.slice_geometry.specs.UnitLengths.{UnitShapesSeen}
use Rattle.sequence_header.specs.declared.parts.HeaderParts.{HeaderParts}
use Rattle.sequence_header.specs.Coding.{IsShapeOf}
use Rattle.transform_params.specs.Params.{Params}
use Rattle.transform_params.specs.ParameterFields.{unit_length}
use Rattle.picture_codec.specs.Encoding.{PictureEncoderSeen}
use Rattle.stream_writer.specs.declared.write_stop.WriteStop.{WriteStop}
use Rattle.stream_writer.specs.declared.write_stop.WriteStop.TheVariants as stops
use Rattle.stream_writer.specs.EncodedStream.{Settings, header_length, header_unit}
use Rattle.stream_writer.specs.Writer.{StreamWriterSeen, IsSteepOkUnder, total_length, pictures_among, last_length}

-- place, offset and number are those of the units that are written
pub record IsWriterSound (first : ℕ) (chain : ChainSeen) (number position : ℕ) (shapes : UnitShapesSeen) (stop : Option WriteStop)
    (ended : Bool) : Type 0 where
  pub total : shapes.total ≡ total_length shapes.units
  pub place : chain.place ≡ shapes.total
  pub previous : chain.previous ≡ last_length 0 shapes.units
  pub number_is : number ≡ (first + pictures_among shapes.units) % 2 ^ 32
  pub position_is : position ≡ pictures_among shapes.units
  -- each picture has a byte
  pub few : position ≤ shapes.total
  -- there is room for the end
  pub room : ended ≡ false → shapes.total + HEAD_SIZE ≤ INPUT_LIMIT

-- What is seen of a buffer of units: what they are written under, and those that were put there last.
pub record DueSeen : Type 0 where
  pub parts : HeaderParts
  pub params : Params
  pub due : List ℕ

-- The buffer has room for an end, a header and a picture's unit. The header stands there.
pub record HoldsHeader (parts : HeaderParts) (p : Params) (buffer : List ℕ) (from : ℕ) : Type 0 where
  pub long : length buffer ≡ HEAD_SIZE + header_length parts + unit_length p
  pub small : unit_length p < 2 ^ 32
  pub inside : from ≤ length buffer
  pub header : take (header_length parts) (drop HEAD_SIZE buffer) ≡ header_unit parts

-- the encoder is one for the header's pictures, with these parameters
pub record Encodes (parts : HeaderParts) (p : Params) (encoder : PictureEncoderSeen) : Type 0 where
  pub shape : IsShapeOf encoder.shape parts
  pub params : encoder.params ≡ p

-- a writer that wrote nothing yet
abbrev pub IsNewWriter : Settings → StreamWriterSeen → Type 0
IsNewWriter s w = (w ≡ record { settings = s; shapes = []; ended = false; stop = None }) × IsSteepOkUnder s

-- why there is none
abbrev pub IsUnready : Settings → WriteStop → Type 0
IsUnready s stops.MatrixTooSteep = IsSteepOkUnder s → ⊥
IsUnready s stops.NoMemory = IsSteepOkUnder s
IsUnready s other = ⊥
