-- Whole pictures as raw video, as a stream, and as what a decoder makes of it.
use Rattle.std.specs.Prelude.{ℕ, ◌+◌, List, length, map}
use Rattle.parse_info.specs.declared.TheConstants.{HEAD_SIZE}
use Rattle.picture_codec.specs.Samples.{PictureSamples, picture_of}
use Rattle.picture_codec.specs.Encoding.{slices_of}
use Rattle.raw_video.specs.RawParse.{raw_texts}
use Rattle.stream_rows.specs.Streams.{frame_under}
use Rattle.stream_writer.specs.EncodedPictures.{encoded_pictures}
use Rattle.channel_schedule.specs.declared.schedule.Schedule.{Schedule}
use Rattle.vc2_words.specs.Settings.{Asked}
use Rattle.vc2_cli.specs.Encode.{written_under, stream_place, shapes_at, ended_plan}

-- raw pictures, of the header's sizes and depths
abbrev pub raw_input : Asked → List PictureSamples → List ℕ
raw_input s pictures = raw_texts (frame_under s.parts) pictures

-- their stream
abbrev pub stream_of : Asked → List PictureSamples → List ℕ
stream_of s pictures = encoded_pictures (written_under s) pictures

-- the pictures that a decoder makes of it
abbrev pub decoded_of : Asked → List PictureSamples → List PictureSamples
decoded_of s pictures = map (λ p. picture_of (frame_under s.parts) s.params (slices_of (frame_under s.parts) s.params p)) pictures

-- the least schedule with which the stream runs
abbrev pub plan_for : Asked → List PictureSamples → Schedule
plan_for s pictures = ended_plan s (shapes_at s (length pictures)) (stream_place s (length pictures))

-- the bytes of the stream
abbrev pub stream_length : Asked → List PictureSamples → ℕ
stream_length s pictures = stream_place s (length pictures) + HEAD_SIZE
