-- All calls of a writer that answer Ok, and the stream that they write.
use Rattle.std.specs.Prelude.{◌≡◌, ◌%◌, ℕ, List, [], ◌∷◌, length, map, Option, Ok}
use Rattle.std.specs.List.{AllByRecursion}
use Rattle.std.specs.Io.KnownBytes.{Appends}
use Rattle.sequence_header.specs.Coding.{IsShapeOf}
use Rattle.slice_geometry.specs.declared.PictureShape.{PictureShape}
use Rattle.slice_geometry.specs.Frames.{Frame}
use Rattle.picture_codec.specs.Samples.{PictureSamples, HaveShape, picture_of}
use Rattle.picture_codec.specs.Encoding.{slices_of}
use Rattle.stream_rows.specs.Streams.{Entry, frame_under}
use Rattle.stream_writer.specs.StreamPictures.{pictures_of}
use Rattle.stream_writer.specs.EncodedStream.{Settings, units_of, AreLawful, IsStreamOf}
use Rattle.stream_writer.specs.EncodedPictures.{all_slices}
use Rattle.stream_writer.specs.Writer.{StreamWriterSeen, Starts, WritesPicture, WritesEnd}

-- a call for each of these pictures, and then the end: each answers Ok
abbrev pub CallsWrite : StreamWriterSeen → List PictureSamples → Option (List ℕ) → Option (List ℕ) → Type 0
CallsWrite w [] out0 out1 = (left : StreamWriterSeen) × WritesEnd w left out0 out1 (Ok tt)
CallsWrite w (p ∷ pictures) out0 out1 = (next : StreamWriterSeen) × (mid : Option (List ℕ))
    × WritesPicture w next (slices_of (frame_under w.settings.parts) w.settings.params p) out0 mid (Ok tt)
    × CallsWrite next pictures mid out1

-- a start before them, which answers Ok too
pub record RunWrites (s : Settings) (pictures : List PictureSamples) (out0 out1 : Option (List ℕ)) : Type 0 where
  pub writer : StreamWriterSeen
  pub mid : Option (List ℕ)
  pub start : Starts s out0 mid (Ok writer)
  pub calls : CallsWrite writer pictures mid out1

-- what a decoder makes of the slices of a picture, with its sizes and depths
abbrev pub shown_of : Settings → PictureSamples → Frame × PictureSamples
shown_of s p = let frame = frame_under s.parts in (frame, picture_of frame s.params (slices_of frame s.params p))

-- The bytes are a stream, whose pictures are those that the slices of these make.
pub record IsStreamOfPictures (s : Settings) (pictures : List PictureSamples) (bytes : List ℕ) : Type 0 where
  pub stream : IsStreamOf bytes (units_of s (all_slices s pictures))
  pub shown : pictures_of (map (λ (e : Entry). e.unit) stream.entries) ≡ map (shown_of s) pictures

-- Such calls write a stream of their pictures, of which there is an even number where pictures are fields.
abbrev pub RunsWriteStreams : Type 0
RunsWriteStreams = (s : Settings) (shape : PictureShape) (pictures : List PictureSamples) (out0 out1 : Option (List ℕ))
    → AreLawful s → IsShapeOf shape s.parts → AllByRecursion (HaveShape shape) pictures
    → (s.parts.coding ≡ 1 → length pictures % 2 ≡ 0) → RunWrites s pictures out0 out1
    → (bytes : List ℕ) × Appends out0 out1 bytes × IsStreamOfPictures s pictures bytes
