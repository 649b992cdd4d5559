-- What a reader finds in the slices of the pictures of a stream.
use Rattle.std.specs.Prelude.{List}
use Rattle.std.specs.List.{AllByRecursion}
use Rattle.sequence_header.specs.Coding.{IsShapeOf}
use Rattle.slice_geometry.specs.declared.PictureShape.{PictureShape}
use Rattle.slice_geometry.specs.Frames.{Frame}
use Rattle.slice_geometry.specs.Slicing.{slice_count}
use Rattle.transform_params.specs.Params.{Params}
use Rattle.slice_encoder.specs.Chosen.{chosen}
use Rattle.picture_codec.specs.Samples.{PictureSamples, HaveShape}
use Rattle.picture_codec.specs.Encoding.{coded_from, slices_of, IsSteepOkFor}
use Rattle.stream_rows.specs.Streams.{frame_under}
use Rattle.stream_writer.specs.EncodedStream.{Settings, AreLawful}
use Rattle.stream_writer.specs.WrittenSlices.{HoldLists}

-- in each of a picture's slices the index that was chosen, and the lists of that index after those before it
abbrev pub HoldsItsLists : Frame → Params → PictureSamples → Type 0
HoldsItsLists f p s = HoldLists (coded_from f p s) (chosen (coded_from f p s) (slice_count p.slicing)) (slices_of f p s)

-- So it is of every picture of the header's shape, where the matrix is not too steep.
abbrev pub PicturesHoldTheirLists : Type 0
PicturesHoldTheirLists = (s : Settings) (shape : PictureShape) (pictures : List PictureSamples) → AreLawful s
    → IsShapeOf shape s.parts → IsSteepOkFor shape s.params → AllByRecursion (HaveShape shape) pictures
    → AllByRecursion (HoldsItsLists (frame_under s.parts) s.params) pictures
