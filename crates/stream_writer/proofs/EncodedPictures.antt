-- What is written of pictures is a stream of them.
use Rattle.std.proofs.Common.{◌∙◌, ap, subst, ◌%◌, ℕ, List, [], ◌∷◌, map}
use Rattle.std.specs.List.{AllByRecursion}
use Rattle.std.proofs.lemmas.List.{length-map}
use Rattle.sequence_header.specs.declared.parts.HeaderParts.{HeaderParts}
use Rattle.sequence_header.specs.Coding.{IsShapeOf}
use Rattle.slice_geometry.specs.declared.PictureShape.{PictureShape}
use Rattle.slice_geometry.specs.Frames.{Frame, frame_of}
use Rattle.transform_params.specs.Params.{Params}
use Rattle.transform_params.specs.ParameterFields.{AreLawfulParams}
use Rattle.picture_codec.specs.Samples.{PictureSamples, HaveShape}
use Rattle.picture_codec.specs.Encoding.{coded_from, slices_of, IsSteepOkFor}
use Rattle.picture_codec.proofs.CodedBands.{coded_is_given}
use Rattle.stream_rows.specs.Streams.{frame_under}
use Rattle.stream_writer.specs.EncodedStream.{IsSliced}
use Rattle.stream_writer.specs.EncodedPictures.{PicturesAreAStream}
use Rattle.stream_rows.proofs.Frames.{frame_is}
use Rattle.stream_writer.proofs.EncodedStreams.{encoded_stream}
use Rattle.stream_writer.proofs.WrittenSlices.{chosen_are_sliced}

picture_is_sliced : (parts : HeaderParts) (p : Params) (shape : PictureShape) (s : PictureSamples) → AreLawfulParams p → IsShapeOf shape parts → IsSteepOkFor shape p → HaveShape shape s → IsSliced parts p (slices_of (frame_under parts) p s)
picture_is_sliced parts p shape s f is steep have =
    subst (λ (g : Frame). IsSliced parts p (slices_of g p s)) (frame_is parts shape is)
    (chosen_are_sliced parts p.wavelet (coded_from (frame_of shape) p s) f.allowed (coded_is_given shape p s f have) steep is.luma is.colour).0

pub all_sliced : (parts : HeaderParts) (p : Params) (shape : PictureShape) (pictures : List PictureSamples) → AreLawfulParams p → IsShapeOf shape parts → IsSteepOkFor shape p → AllByRecursion (HaveShape shape) pictures
    → AllByRecursion (IsSliced parts p) (map (slices_of (frame_under parts) p) pictures)
all_sliced parts p shape [] f is steep have = tt
all_sliced parts p shape (s ∷ pictures) f is steep have = (picture_is_sliced parts p shape s f is steep have.0, all_sliced parts p shape pictures f is steep have.1)

pub pictures_stream : PicturesAreAStream
pictures_stream s shape pictures f is steep have even within =
    encoded_stream s (map (slices_of (frame_under s.parts) s.params) pictures) f (all_sliced s.parts s.params shape pictures f.params is steep have)
    (λ e. ap (λ (n : ℕ). n % 2) (length-map pictures (slices_of (frame_under s.parts) s.params)) ∙ even e) within
