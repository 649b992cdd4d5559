-- What `frames` replies to a stream, and to an input that is refused.
use Rattle.std.specs.Prelude.{◌≡◌, ℕ, Bool, true, false, List, [], ◌∷◌, ◌++◌, length, map, Ok}
use Rattle.slice_geometry.specs.Frames.{Frame}
use Rattle.picture_codec.specs.Samples.{PictureSamples, picture_of}
use Rattle.stream_rows.specs.Refusals.{Refusal}
use Rattle.stream_rows.specs.Units.{DataUnit, Sequence, Repeated, Picture, Skipped, End}
use Rattle.stream_rows.specs.Streams.{Entry, IsStream, IsRefusal, frame_under}
use Rattle.field_weave.specs.Weaving.{frame_of_two, frames_of}
use Rattle.vc2_words.specs.Commands.{frames}
use Rattle.vc2_cli.specs.declared.status.Status.TheVariants as status
use Rattle.vc2_cli.specs.Texts.{framed_line}
use Rattle.vc2_cli.specs.Weave.{order_of}
use Rattle.vc2_cli.specs.Frames.{are_fields}
use Rattle.vc2_cli.specs.Reply.{Reply, command_reply}
use Rattle.vc2_cli.specs.StreamReplies.{raw_texts_of, refused_reply}
use Rattle.field_weave.specs.declared.Order.{Order}

-- the pictures in front of units, up to where the sequence ends
abbrev pub sequence_pictures : List DataUnit → List PictureSamples
sequence_pictures [] = []
sequence_pictures (Picture parts number params slices ∷ units) =
    picture_of (frame_under parts) params slices ∷ sequence_pictures units
sequence_pictures (Repeated ∷ units) = sequence_pictures units
sequence_pictures (Skipped ∷ units) = sequence_pictures units
sequence_pictures (Sequence parts ∷ units) = []
sequence_pictures (End ∷ units) = []

-- The frames that a sequence's pictures of this frame are: fields are woven two and two, and a last one that has no second is
-- left out; other pictures are frames.
abbrev pub frames_in : Order → Frame → (fields : Bool) → List PictureSamples → List (Frame × PictureSamples)
frames_in order f true pictures = map (λ frame. (frame_of_two f, frame)) (frames_of order f pictures)
frames_in order f false pictures = map (λ picture. (f, picture)) pictures

-- those of all sequences, one after another
abbrev pub stream_frames : Order → List DataUnit → List (Frame × PictureSamples)
stream_frames order [] = []
stream_frames order (Sequence parts ∷ units) =
    frames_in order (frame_under parts) (are_fields parts) (sequence_pictures units) ++ stream_frames order units
stream_frames order (other ∷ units) = stream_frames order units

-- the frames of these units of a stream
abbrev pub frames_between : Order → List Entry → List (Frame × PictureSamples)
frames_between order units = stream_frames order (map (λ entry. entry.unit) units)

-- a stream of these units and the last one: all its frames, and how many frames and bytes there were
abbrev pub framed_reply : Order → List ℕ → List Entry → Reply
framed_reply order bytes units = record {
  status = status.Done;
  rest = [];
  out = raw_texts_of (frames_between order units);
  note = framed_line (length (frames_between order units)) (length bytes);
}

-- The frames of a stream are written; of an input that is refused, those that stand whole before its fault.
pub record IsFramed (top : Bool) (bytes : List ℕ) : Type 0 where
  pub stream : (units : List Entry) (last : Entry) → IsStream bytes units last
      → command_reply (Ok (frames top)) bytes ≡ framed_reply (order_of top) bytes units
  pub refusal : (refusal : Refusal) (is : IsRefusal bytes refusal)
      → command_reply (Ok (frames top)) bytes ≡ refused_reply (raw_texts_of (frames_between (order_of top) is.units)) refusal
