-- The two halves of a trial between two pictures, and the sink between them.
use Rattle.std.specs.Prelude.{◌≡◌, ◌<◌, ℕ, suc, ◌-◌, ◌^◌, List, [], ◌∷◌, ◌++◌, length, map, Option, Some, Result, Ok, Err}
use Rattle.std.specs.List.{range_with_len}
use Rattle.vc2_io.specs.Memory.{MemSinkSeen}
use Rattle.slice_geometry.specs.Frames.{Frame, frame_of}
use Rattle.picture_codec.specs.Samples.{PictureSamples}
use Rattle.picture_codec.specs.Encoding.{slices_of}
use Rattle.trial_video.specs.Video.{TrialVideoSeen, video_picture}
use Rattle.run_theory.specs.declared.Halt.{Halt}
use Rattle.run_theory.specs.declared.Halt.TheVariants.{NoMemory}
use Rattle.stream_rows.specs.Streams.{frame_under}
use Rattle.stream_writer.specs.EncodedStream.{end_unit}
use Rattle.stream_writer.specs.Writer.{StreamWriterSeen}
use Rattle.stream_writer.specs.declared.write_stop.WriteStop.{WriteStop}
use Rattle.stream_writer.specs.declared.write_stop.WriteStop.TheVariants as stops
use Rattle.vc2_words.specs.declared.words.TrialPart.{TrialPart}
use Rattle.vc2_words.specs.Settings.{Asked}
use Rattle.vc2_cli.specs.declared.comparing.ComparisonEnd.{ComparisonEnd}
use Rattle.vc2_cli.specs.declared.comparing.ComparisonEnd.TheVariants.{Compared}
use Rattle.vc2_cli.specs.Encode.{previous_at, units_at}
use Rattle.vc2_cli.specs.EncodeTurn.{IsBehind}
use Rattle.vc2_cli.specs.WholePictures.{stream_of}
use Rattle.vc2_cli.specs.Trial.{Comparison, trial_pictures}

-- ---- the sink

-- No call of it is named to fail, and none has failed as long as there is room.
pub record FailsWhenFull (s : MemSinkSeen) : Type 0 where
  pub unnamed : s.failing ≡ (2 ^ 64 - 1) ∷ (2 ^ 64 - 1) ∷ (2 ^ 64 - 1) ∷ (2 ^ 64 - 1) ∷ []
  pub steady : length s.bytes < s.room → s.failures ≡ 0

-- What it tells: its room, and then its bytes. So a call over any sink leaves the room as it was.
abbrev pub told_of_sink : MemSinkSeen → Option (List ℕ)
told_of_sink s = Some (s.room ∷ s.bytes)

-- ---- writing

-- memory was wanting
abbrev pub IsWant : WriteStop → Type 0
IsWant stops.NoMemory = Unit {0}
IsWant other = ⊥

-- the units of these pictures, from picture n on, and the end
abbrev pub units_from : Asked → ℕ → List PictureSamples → List ℕ
units_from s n [] = end_unit (previous_at s n)
units_from s n (p ∷ pictures) = units_at s n (slices_of (frame_under s.parts) s.params p) ++ units_from s (suc n) pictures

-- the pictures of the video from picture n on, so many of them
abbrev pub pictures_from : Frame → ℕ → ℕ → ℕ → List PictureSamples
pictures_from f seed n count = map (λ p. video_picture f seed p) (range_with_len n count)

-- n pictures are given and written, and what is left of the stream stands behind them
pub record HasWritten (s : Asked) (part : TrialPart) (n : ℕ) (video : TrialVideoSeen) (writer : StreamWriterSeen)
    (sink : MemSinkSeen) : Type 0 where
  pub frame : frame_of video.shape ≡ frame_under s.parts
  pub seed : video.seed ≡ part.seed
  pub given : video.pictures ≡ n
  pub stands : IsBehind s n writer
  pub room : sink.room ≡ length (stream_of s (trial_pictures s part))
  pub bytes : sink.bytes ++ units_from s n (pictures_from (frame_under s.parts) part.seed n (part.pictures - n))
      ≡ stream_of s (trial_pictures s part)

-- ---- comparing

-- what a comparison shows
abbrev pub comparison_of : TrialVideoSeen → ℕ → ℕ → Comparison
comparison_of video left worst =
    record { frame = frame_of video.shape; seed = video.seed; pictures = video.pictures; left = left; worst = worst }

-- the comparison ended with this difference, or memory was wanting
abbrev pub IsCompared : ℕ → Result ComparisonEnd Halt → Type 0
IsCompared worst (Ok (Compared told)) = told ≡ worst
IsCompared worst (Ok other) = ⊥
IsCompared worst (Err NoMemory) = Unit {0}
IsCompared worst (Err other) = ⊥
