-- What `decode` and `check` reply to a stream, and to an input that is refused.
use Rattle.std.specs.Prelude.{◌≡◌, ◌<◌, ℕ, List, [], length, map, Ok, None}
use Rattle.std.specs.List.{AllByRecursion, flat_map}
use Rattle.slice_geometry.specs.Frames.{Frame}
use Rattle.picture_codec.specs.Samples.{PictureSamples}
use Rattle.raw_video.specs.RawText.{raw_text}
use Rattle.stream_rows.specs.Refusals.{Refusal}
use Rattle.stream_rows.specs.Streams.{Entry, total, IsStream, IsRefusal}
use Rattle.stream_writer.specs.StreamPictures.{pictures_of}
use Rattle.vc2_words.specs.Commands.{decode, check}
use Rattle.vc2_cli.specs.declared.status.Status.TheVariants as status
use Rattle.vc2_cli.specs.Texts.{refusal_line, decoded_line, accepted_line}
use Rattle.vc2_cli.specs.Decode.{unit_pictures, unit_slices}
use Rattle.vc2_cli.specs.Reply.{Reply, command_reply}

-- numbers below 256
abbrev pub AreBytes : List ℕ → Type 0
AreBytes bytes = AllByRecursion (λ byte. byte < 256) bytes

-- the raw text of pictures, one after another
abbrev pub raw_texts_of : List (Frame × PictureSamples) → List ℕ
raw_texts_of pictures = flat_map (λ picture. raw_text picture.0 picture.1) pictures

-- that of the pictures of these units
abbrev pub pictures_text : List Entry → List ℕ
pictures_text units = raw_texts_of (pictures_of (map (λ entry. entry.unit) units))

-- a stream of these units and the last one: all their pictures, and how many pictures and bytes there were
abbrev pub decoded_reply : List ℕ → List Entry → Reply
decoded_reply bytes units = record {
  status = status.Done;
  rest = [];
  out = pictures_text units;
  note = decoded_line (total unit_pictures units) (length bytes);
}

-- or how many pictures, slices and bytes
abbrev pub accepted_reply : List ℕ → List Entry → Reply
accepted_reply bytes units = record {
  status = status.Done;
  rest = [];
  out = accepted_line (total unit_pictures units) (total unit_slices units) (length bytes);
  note = [];
}

-- a refusal, behind this text
abbrev pub refused_reply : List ℕ → Refusal → Reply
refused_reply text refusal = record { status = status.Refused refusal; rest = []; out = text; note = refusal_line refusal }

-- A stream is decoded whole; an input that is refused, up to its fault.
pub record HasDecodedReply (bytes : List ℕ) : Type 0 where
  pub stream : (units : List Entry) (last : Entry) → IsStream bytes units last
      → command_reply (Ok decode) bytes ≡ decoded_reply bytes units
  pub refusal : (refusal : Refusal) (is : IsRefusal bytes refusal)
      → command_reply (Ok decode) bytes ≡ refused_reply (pictures_text is.units) refusal

-- A stream is accepted; an input that is refused has no text.
pub record IsChecked (bytes : List ℕ) : Type 0 where
  pub stream : (units : List Entry) (last : Entry) → IsStream bytes units last
      → command_reply (Ok (check None)) bytes ≡ accepted_reply bytes units
  pub refusal : (refusal : Refusal) → IsRefusal bytes refusal → command_reply (Ok (check None)) bytes ≡ refused_reply [] refusal
