-- The stream of pictures by their samples, each slice at the least index at which it fits.
use Rattle.std.specs.Prelude.{◌≡◌, ◌≤◌, ◌%◌, ℕ, List, length, map}
use Rattle.std.specs.List.{AllByRecursion}
use Rattle.sequence_header.specs.Coding.{IsShapeOf}
use Rattle.slice_geometry.specs.declared.PictureShape.{PictureShape}
use Rattle.picture_codec.specs.Samples.{PictureSamples, HaveShape}
use Rattle.picture_codec.specs.Encoding.{slices_of, IsSteepOkFor}
use Rattle.stream_rows.specs.Streams.{limit, frame_under}
use Rattle.stream_writer.specs.EncodedStream.{Settings, encoded, units_of, AreLawful, IsStreamOf}

-- the slices of each picture
abbrev pub all_slices : Settings → List PictureSamples → List (List (List ℕ))
all_slices s pictures = map (slices_of (frame_under s.parts) s.params) pictures

-- the stream of pictures
abbrev pub encoded_pictures : Settings → List PictureSamples → List ℕ
encoded_pictures s pictures = encoded s (all_slices s pictures)

-- Whatever the pictures are, it is a stream of their slices.
abbrev pub PicturesAreAStream : Type 0
PicturesAreAStream = (s : Settings) (shape : PictureShape) (pictures : List PictureSamples) → AreLawful s
    → IsShapeOf shape s.parts → IsSteepOkFor shape s.params
    → AllByRecursion (HaveShape shape) pictures → (s.parts.coding ≡ 1 → length pictures % 2 ≡ 0)
    → length (encoded_pictures s pictures) ≤ limit
    → IsStreamOf (encoded_pictures s pictures) (units_of s (all_slices s pictures))
