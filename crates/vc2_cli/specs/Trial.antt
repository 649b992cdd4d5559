-- The command `trial`: the video of a number goes through the encoder, the channel and the decoder.
use Rattle.std.specs.Prelude.{◌≡◌, true, ℕ, zero, suc, ◌+◌, ◌*◌, max, List, [], length}
use Rattle.slice_geometry.specs.Frames.{Frame}
use Rattle.slice_geometry.specs.Slicing.{slice_count}
use Rattle.picture_codec.specs.Samples.{PictureSamples, picture_of}
use Rattle.trial_video.specs.Video.{video, video_picture}
use Rattle.trial_video.specs.Worst.{worst, worst_of}
use Rattle.stream_rows.specs.declared.reason.Reason.{Reason}
use Rattle.stream_rows.specs.Units.{is_truncated, Past, DataUnit, Sequence, Repeated, Picture, Skipped, End}
use Rattle.stream_rows.specs.Streams.{frame_under, refusal_of}
use Rattle.run_theory.specs.Fronts.{Command}
use Rattle.vc2_words.specs.declared.words.TrialPart.{TrialPart}
use Rattle.vc2_words.specs.Settings.{Asked}
use Rattle.vc2_cli.specs.declared.comparing.ComparisonEnd.{ComparisonEnd}
use Rattle.vc2_cli.specs.declared.comparing.ComparisonEnd.TheVariants.{Compared, Refused}
use Rattle.vc2_cli.specs.Texts.{trial_lines}
use Rattle.vc2_cli.specs.WholePictures.{stream_of, decoded_of, plan_for}

-- the pictures of a trial
abbrev pub trial_pictures : Asked → TrialPart → List PictureSamples
trial_pictures s part = video (frame_under s.parts) part.seed part.pictures

-- the greatest difference between a raw sample and its decoded one
abbrev pub trial_worst : Asked → TrialPart → ℕ
trial_worst s part = worst_of (trial_pictures s part) (decoded_of s (trial_pictures s part))

-- the four lines of a trial
abbrev pub trial_text : Asked → TrialPart → List ℕ
trial_text s part =
    let pictures = trial_pictures s part in
    trial_lines part (length (stream_of s pictures)) (part.pictures * slice_count s.params.slicing) (plan_for s pictures)
    (trial_worst s part)

-- ---- the comparison, as a command over the units of the stream

-- it went through the whole stream
abbrev pub IsComparedWhole : ComparisonEnd → Type 0
IsComparedWhole (Compared worst) = Unit {0}
IsComparedWhole (Refused refusal) = ⊥

-- more bytes may still change how it ends
abbrev pub MayChange : ComparisonEnd → Type 0
MayChange (Compared worst) = Unit {0}
MayChange (Refused refusal) = is_truncated refusal.reason ≡ true

-- the frame and the seed of the video, how many of its pictures were compared and how many are left, and the greatest
-- difference so far
pub record Comparison : Type 0 where
  pub frame : Frame
  pub seed : ℕ
  pub pictures : ℕ
  pub left : ℕ
  pub worst : ℕ

-- behind a decoded picture, with so many left before it
abbrev pub with_picture : ℕ → Comparison → PictureSamples → Comparison
with_picture zero own decoded = own
with_picture (suc left) own decoded =
    record {
      frame = own.frame;
      seed = own.seed;
      pictures = own.pictures + 1;
      left = left;
      worst = max own.worst (worst (video_picture own.frame own.seed own.pictures) decoded);
    }

-- the comparison with one unit more
abbrev pub with_unit : Comparison → DataUnit → Comparison
with_unit own (Picture parts number params slices) = with_picture own.left own (picture_of (frame_under parts) params slices)
with_unit own (Sequence parts) = own
with_unit own Repeated = own
with_unit own Skipped = own
with_unit own End = own

-- the decoded pictures beside those that were encoded
abbrev pub comparing : Comparison → Command Past Reason DataUnit Comparison ComparisonEnd
comparing start = record {
  opening = [];
  start = start;
  next = λ z own unit bytes. with_unit own unit;
  text = λ z own unit bytes. [];
  finished = λ z own unit bytes. record { ending = Compared own.worst; last = [] };
  rested = λ z own. record { ending = Compared own.worst; last = [] };
  refused = λ z own fault. record { ending = Refused (refusal_of fault); last = [] };
  endless = Compared 0;
}

-- before the first picture
abbrev pub nothing_compared : Asked → TrialPart → Comparison
nothing_compared s part = record { frame = frame_under s.parts; seed = part.seed; pictures = 0; left = part.pictures; worst = 0 }
