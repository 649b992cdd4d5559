-- Weaving and splitting raw video.
use Rattle.std.specs.Prelude.{ℕ, ◌+◌, Bool, true, false, if◌then◌else◌, List, [], ◌++◌, Option, Some, None, Result, Ok, Err, IfOk}
use Rattle.vc2_io.specs.declared.TheConstants.{INPUT_LIMIT}
use Rattle.std.specs.Io.KnownBytes.{IsAtEnd}
use Rattle.slice_geometry.specs.declared.PictureShape.{PictureShape}
use Rattle.slice_geometry.specs.Frames.{Frame}
use Rattle.picture_codec.specs.Samples.{PictureSamples}
use Rattle.raw_video.specs.RawText.{raw_text}
use Rattle.raw_video.specs.RawParse.{RawFront, LargeAt, CutAt}
use Rattle.raw_video.specs.declared.reader.RawFault.{RawFault}
use Rattle.raw_video.specs.declared.reader.RawFault.TheVariants as faults
use Rattle.run_theory.specs.Walk.{Machine}
use Rattle.run_theory.specs.Ran.{Ran, TakesAtMost, HaltHasCause}
use Rattle.run_theory.specs.declared.Halt.{Halt}
use Rattle.run_theory.specs.declared.Halt.TheVariants as halts
use Rattle.field_weave.specs.declared.Order.{Order}
use Rattle.field_weave.specs.declared.weaver.WeaveStop.{WeaveStop}
use Rattle.field_weave.specs.declared.weaver.WeaveStop.TheVariants as stops
use Rattle.field_weave.specs.Weaving.{frame_of_two, woven_frame, split}
use Rattle.raw_video.specs.PictureSoon.{PicturesSoon}
use Rattle.raw_video.specs.PictureRuns.{PictureCommand, BehindPictures, picture_machine}

-- how a run comes out: the frames, or why it stopped before the input was over
abbrev pub WeaveEnd : Type 0
WeaveEnd = Result ℕ WeaveStop

-- why there is no next picture, where the input isn't over
abbrev pub refused_by : RawFront → WeaveEnd
refused_by (LargeAt place) = Err (stops.SampleTooLarge place)
refused_by (CutAt place) = Err (stops.RawTruncated place)
refused_by other = Err stops.TooLong

-- ---- weaving, of fields of this frame

-- what fields leave: how many frames they were, and the first field of the next one
pub record FieldsSoFar : Type 0 where
  pub frames : ℕ
  pub first : Option PictureSamples

-- what a field leaves, by the first field of its frame
abbrev pub field_more : FieldsSoFar → PictureSamples → Option PictureSamples → FieldsSoFar
field_more own field None = record own { first = Some field }
field_more own field (Some first) = record { frames = own.frames + 1; first = None }

-- a field's text: of a first one nothing, of a second one their frame
abbrev pub field_text : Order → Frame → PictureSamples → Option PictureSamples → List ℕ
field_text order f field None = []
field_text order f field (Some first) = raw_text (frame_of_two f) (woven_frame order f first field)

-- at the input's end a first field without its second is half a frame
abbrev pub fields_end : (place : ℕ) → FieldsSoFar → Option PictureSamples → WeaveEnd
fields_end place own None = Ok own.frames
fields_end place own (Some first) = Err (stops.HalfFrame place)

-- weaving as a command over pictures: it keeps the first field of a pair until the second comes
abbrev pub weaving : Order → Frame → PictureCommand FieldsSoFar WeaveEnd
weaving order f = record {
  opening = [];
  start = record { frames = 0; first = None };
  next = λ own field. field_more own field own.first;
  text = λ own field. field_text order f field own.first;
  stops = λ place own. None;
  finished = λ place own. fields_end place own own.first;
  last = λ place own. [];
  refused = refused_by;
  endless = Err stops.TooLong;
}

-- weaving as a machine over raw video of fields
abbrev pub weave_machine : Order → Frame → Machine (BehindPictures FieldsSoFar) WeaveEnd
weave_machine order f = picture_machine f (weaving order f)

-- ---- splitting, into fields of this frame

-- splitting as a command over pictures: of each frame it writes both fields
abbrev pub splitting : Order → Frame → PictureCommand ℕ WeaveEnd
splitting order f = record {
  opening = [];
  start = 0;
  next = λ frames frame. frames + 1;
  text = λ frames frame. raw_text f (split order f false frame) ++ raw_text f (split order f true frame);
  stops = λ place frames. None;
  finished = λ place frames. Ok frames;
  last = λ place frames. [];
  refused = refused_by;
  endless = Err stops.TooLong;
}

-- splitting as a machine over raw video of frames
abbrev pub split_machine : Order → Frame → Machine (BehindPictures ℕ) WeaveEnd
split_machine order f = picture_machine (frame_of_two f) (splitting order f)

-- ---- for the code

-- What is seen of a weaver: the shape of its fields, and the order.
pub record WeaverSeen : Type 0 where
  pub field : PictureShape
  pub order : Order

-- a call's result as that of a run
abbrev pub weave_result : Result ℕ WeaveStop → Result WeaveEnd Halt
weave_result (Err stops.ReadFault) = Err halts.ReadFault
weave_result (Err stops.OutFault) = Err halts.OutFault
weave_result other = Ok other

-- the first field of a frame, where its frame is begun
abbrev pub first_of : Order → Frame → Bool → PictureSamples → Option PictureSamples
first_of order f begun frame = if begun then Some (split order f false frame) else None

-- the first field that is kept, where its frame is begun
abbrev pub kept_first : Bool → PictureSamples → Option PictureSamples
kept_first begun first = if begun then Some first else None

-- what a call answers where there is no next picture
abbrev pub stop_of : RawFault → WeaveStop
stop_of (faults.SampleTooLarge place) = stops.SampleTooLarge place
stop_of (faults.RawTruncated place) = stops.RawTruncated place
stop_of faults.TooLong = stops.TooLong
stop_of faults.ReadFault = stops.ReadFault

-- more bytes may still change how a run comes out
abbrev pub MayGoOn : WeaveEnd → Type 0
MayGoOn (Ok frames) = Unit {0}
MayGoOn (Err (stops.HalfFrame place)) = Unit {0}
MayGoOn (Err (stops.RawTruncated place)) = Unit {0}
MayGoOn (Err other) = ⊥

-- A call that weaves or splits: it ran, took at most the limit and one byte more, each fault has its cause, and where all is
-- done the input is over.
pub record Weaves {Z : Type 0} (machine : Machine Z WeaveEnd) (rest0 rest1 out0 out1 : Option (List ℕ))
    (src0 src1 to0 to1 : ℕ) (result : Result ℕ WeaveStop) : Type 0 where
  pub ran : Ran machine rest0 rest1 out0 out1 (weave_result result)
  pub limit : TakesAtMost (INPUT_LIMIT + 1) rest0 rest1
  pub cause : HaltHasCause src0 src1 to0 to1 (weave_result result)
  pub end : IfOk result (λ frames. IsAtEnd rest1)
  -- fewer than 4096 bytes were taken behind a refusal
  pub soon : PicturesSoon MayGoOn machine rest0 rest1
