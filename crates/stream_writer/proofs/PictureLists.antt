-- What is written of a picture holds the lists that it was chosen by.
use Rattle.std.proofs.Common.{List, [], ◌∷◌, subst}
use Rattle.std.specs.List.{AllByRecursion}
use Rattle.sequence_header.specs.declared.parts.HeaderParts.{HeaderParts}
use Rattle.sequence_header.specs.Coding.{IsShapeOf}
use Rattle.slice_geometry.specs.declared.PictureShape.{PictureShape}
use Rattle.slice_geometry.specs.Frames.{Frame, frame_of}
use Rattle.transform_params.specs.Params.{Params}
use Rattle.transform_params.specs.ParameterFields.{AreLawfulParams}
use Rattle.picture_codec.specs.Samples.{PictureSamples, HaveShape}
use Rattle.picture_codec.specs.Encoding.{coded_from, IsSteepOkFor}
use Rattle.picture_codec.proofs.CodedBands.{coded_is_given}
use Rattle.stream_rows.specs.Streams.{frame_under}
use Rattle.stream_writer.specs.PictureLists.{HoldsItsLists, PicturesHoldTheirLists}
use Rattle.stream_rows.proofs.Frames.{frame_is}
use Rattle.stream_writer.proofs.WrittenSlices.{chosen_are_sliced}

picture-holds : (parts : HeaderParts) (p : Params) (shape : PictureShape) (s : PictureSamples) → AreLawfulParams p → IsShapeOf shape parts → IsSteepOkFor shape p → HaveShape shape s → HoldsItsLists (frame_under parts) p s
picture-holds parts p shape s f is steep have =
    subst (λ (g : Frame). HoldsItsLists g p s) (frame_is parts shape is)
    (chosen_are_sliced parts p.wavelet (coded_from (frame_of shape) p s) f.allowed (coded_is_given shape p s f have) steep is.luma is.colour).1

each-holds : (parts : HeaderParts) (p : Params) (shape : PictureShape) (pictures : List PictureSamples) → AreLawfulParams p → IsShapeOf shape parts → IsSteepOkFor shape p → AllByRecursion (HaveShape shape) pictures
    → AllByRecursion (HoldsItsLists (frame_under parts) p) pictures
each-holds parts p shape [] f is steep have = tt
each-holds parts p shape (s ∷ pictures) f is steep have = (picture-holds parts p shape s f is steep have.0, each-holds parts p shape pictures f is steep have.1)

pub pictures_hold : PicturesHoldTheirLists
pictures_hold s shape pictures f is steep have = each-holds s.parts s.params shape pictures f.params is steep have
