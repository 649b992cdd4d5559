-- What `encode` replies to whole pictures, and `decode` to what it wrote.
use Rattle.std.specs.Prelude.{◌≡◌, ◌≤◌, ◌%◌, ◌^◌, ◌+◌, ℕ, List, [], length, Ok, ◌*◌, ◌<◌}
use Rattle.parse_info.specs.declared.TheConstants.{HEAD_SIZE}
use Rattle.vc2_io.specs.declared.TheConstants.{INPUT_LIMIT}
use Rattle.std.specs.List.{AllByRecursion}
use Rattle.slice_geometry.specs.Slicing.{slice_count}
use Rattle.picture_codec.specs.Samples.{PictureSamples}
use Rattle.raw_video.specs.RawParse.{IsOfFrame}
use Rattle.stream_rows.specs.Streams.{limit, frame_under}
use Rattle.channel_schedule.specs.declared.schedule.Outcome.TheVariants.{Runs}
use Rattle.channel_schedule.specs.Rates.{IsRate}
use Rattle.stream_writer.specs.EncodedStream.{AreLawful}
use Rattle.stream_writer.specs.Writer.{IsSteepOkUnder}
use Rattle.vc2_words.specs.Settings.{Asked}
use Rattle.vc2_words.specs.Commands.{decode, encode}
use Rattle.vc2_cli.specs.declared.status.Status.TheVariants as status
use Rattle.vc2_cli.specs.Texts.{decoded_line, schedule_line, replayed_lines}
use Rattle.vc2_cli.specs.Reply.{Reply, command_reply, reply_to}
use Rattle.vc2_cli.specs.ScheduleWords.{words_of}
use Rattle.vc2_cli.specs.Words.{words_ask}
use Rattle.vc2_cli.specs.Encode.{written_under, stream_place}
use Rattle.vc2_cli.specs.WholePictures.{raw_input, stream_of, decoded_of, plan_for, stream_length}

-- settings that a stream is written with, the rate and the idle slots being of numbers that words can have
pub record AreSettings (s : Asked) : Type 0 where
  pub lawful : AreLawful (written_under s)
  pub rate : IsRate s.rate
  pub bytes : s.rate.num < 2 ^ 32
  pub slots : s.rate.den < 2 ^ 32
  pub idle : s.idle ≤ 2 ^ 20
  pub steep : IsSteepOkUnder (written_under s)

-- Whole pictures that may be written: whatever their samples are, where pictures are fields of an even number, and within
-- 2 ^ 40 bytes.
pub record MayBeWritten (s : Asked) (pictures : List PictureSamples) : Type 0 where
  pub each : AllByRecursion (IsOfFrame (frame_under s.parts)) pictures
  pub even : s.parts.coding ≡ 1 → length pictures % 2 ≡ 0
  pub raw : length (raw_input s pictures) ≤ INPUT_LIMIT
  pub stream : stream_place s (length pictures) + HEAD_SIZE ≤ limit

-- `encode` writes the whole stream, and tells that schedule
abbrev pub encoded_reply : Asked → List PictureSamples → Reply
encoded_reply s pictures =
    record { status = status.Done; rest = []; out = stream_of s pictures; note = schedule_line (plan_for s pictures) }

-- of whole pictures encode writes their stream and tells their schedule
abbrev pub AreEncoded : Asked → List PictureSamples → Type 0
AreEncoded s pictures =
    AreSettings s → MayBeWritten s pictures → command_reply (Ok (encode s)) (raw_input s pictures) ≡ encoded_reply s pictures

-- `check` of that stream, by the words of the line that `encode` tells, writes that it runs
abbrev pub replayed_reply : Asked → List PictureSamples → Reply
replayed_reply s pictures = record {
  status = status.Done;
  rest = [];
  out = replayed_lines (length pictures) (length pictures * slice_count s.params.slicing) (stream_length s pictures) Runs;
  note = [];
}

-- that schedule runs over that stream
abbrev pub TheScheduleRuns : Asked → List PictureSamples → Type 0
TheScheduleRuns s pictures = AreSettings s → MayBeWritten s pictures
    → reply_to (words_of (plan_for s pictures)) (stream_of s pictures) ≡ replayed_reply s pictures

-- `decode` of that stream writes the pictures that its slices make
abbrev pub decoded_reply : Asked → List PictureSamples → Reply
decoded_reply s pictures = record {
  status = status.Done;
  rest = [];
  out = raw_input s (decoded_of s pictures);
  note = decoded_line (length pictures) (stream_length s pictures);
}

-- of that stream decode writes the pictures that its slices make
abbrev pub AreDecoded : Asked → List PictureSamples → Type 0
AreDecoded s pictures =
    AreSettings s → MayBeWritten s pictures → command_reply (Ok decode) (stream_of s pictures) ≡ decoded_reply s pictures

-- ---- by the words

-- Words that ask for `encode`, and are not refused, ask for such settings,
abbrev pub GiveSettings : List (List ℕ) → Type 0
GiveSettings words = (s : Asked) → words_ask words ≡ Ok (encode s) → AreSettings s

-- and their reply to whole pictures is that one.
abbrev pub AreEncodedBy : List (List ℕ) → List PictureSamples → Type 0
AreEncodedBy words pictures = (s : Asked) → words_ask words ≡ Ok (encode s) → MayBeWritten s pictures
    → reply_to words (raw_input s pictures) ≡ encoded_reply s pictures
