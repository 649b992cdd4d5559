-- What `encode` replies to any raw input: the stream of the pictures in front, up to the first without room.
use Rattle.std.specs.Prelude.{◌≡◌, ℕ, suc, ◌-◌, ◌*◌, ◌==◌, if◌then◌else◌, List, [], ◌∷◌, length, take, Ok}
use Rattle.parse_info.specs.declared.TheConstants.{HEAD_SIZE}
use Rattle.picture_codec.specs.Samples.{PictureSamples}
use Rattle.raw_video.specs.RawParse.{RawFront, Over, LargeAt, CutAt, raw_parse}
use Rattle.stream_rows.specs.declared.reason.Reason.{Reason}
use Rattle.stream_rows.specs.declared.reason.Reason.TheVariants.{HalfFrame, StreamTooLong, SampleTooLarge, RawTruncated}
use Rattle.stream_rows.specs.Streams.{limit, frame_under}
use Rattle.vc2_words.specs.Settings.{Asked}
use Rattle.vc2_words.specs.Commands.{encode}
use Rattle.vc2_cli.specs.Encode.{raw_size, has_room, is_half}
use Rattle.vc2_cli.specs.WholePictures.{raw_input, stream_of}
use Rattle.vc2_cli.specs.Reply.{Reply, command_reply, reply_to}
use Rattle.vc2_cli.specs.Words.{words_ask}
use Rattle.vc2_cli.specs.StreamReplies.{refused_reply}
use Rattle.vc2_cli.specs.EncodeReply.{AreSettings, MayBeWritten, encoded_reply}

-- The pictures that are written, of those from the n-th on: all before the first whose units, with the last end, don't fit
-- before the limit.
abbrev pub written_from : Asked → ℕ → List PictureSamples → List PictureSamples
written_from s n [] = []
written_from s n (p ∷ pictures) = if has_room s n then p ∷ written_from s (suc n) pictures else []

-- their stream without its last unit, which is an end
abbrev pub open_stream : Asked → List PictureSamples → List ℕ
open_stream s pictures = take (length (stream_of s pictures) - HEAD_SIZE) (stream_of s pictures)

-- a refusal behind the units of these pictures
abbrev pub refused_behind : Asked → List PictureSamples → ℕ → Reason → Reply
refused_behind s pictures place reason = refused_reply (open_stream s pictures) (record { place = place; reason = reason })

-- All pictures were written, and what stands behind them decides. The last end is written only at the input's end, and not
-- behind half a frame.
abbrev pub behind_reply : Asked → List PictureSamples → RawFront → Reply
behind_reply s pictures Over = if is_half s.parts.coding (length pictures)
    then refused_behind s pictures (length pictures * raw_size s) HalfFrame
    else encoded_reply s pictures
behind_reply s pictures (LargeAt place) = refused_behind s pictures place SampleTooLarge
behind_reply s pictures (CutAt place) = refused_behind s pictures place RawTruncated
behind_reply s pictures other = refused_behind s pictures limit StreamTooLong

-- The reply to a raw input: a picture without room is refused where it begins.
abbrev pub raw_reply : Asked → List ℕ → Reply
raw_reply s bytes =
    let video = raw_parse (frame_under s.parts) bytes in
    let written = written_from s 0 video.pictures in
    if length written == length video.pictures then behind_reply s written video.ending
    else refused_behind s written (length written * raw_size s) StreamTooLong

-- what encode replies to any raw video
abbrev pub IsRawReply : Asked → List ℕ → Type 0
IsRawReply s bytes = AreSettings s → command_reply (Ok (encode s)) bytes ≡ raw_reply s bytes

-- of whole pictures it is their stream
abbrev pub IsOfWhole : Asked → List PictureSamples → Type 0
IsOfWhole s pictures = AreSettings s → MayBeWritten s pictures → raw_reply s (raw_input s pictures) ≡ encoded_reply s pictures

-- by the words
abbrev pub IsRawReplyBy : List (List ℕ) → List ℕ → Type 0
IsRawReplyBy words bytes = (s : Asked) → words_ask words ≡ Ok (encode s) → reply_to words bytes ≡ raw_reply s bytes
