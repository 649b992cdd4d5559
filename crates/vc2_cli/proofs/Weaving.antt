-- `weave` and `split` run as their machines do.
use Rattle.std.proofs.Common.{◌≡◌, ℕ, ◌+◌, ◌*◌, ◌<◌, List, Option, Result, Ok, Err, refl, sym, ap, subst, ◌∙◌, arith}
use Rattle.raw_video.specs.RawText.{is_wide}
use Rattle.std.specs.Io.KnownBytes.{IsAtEnd}
use Rattle.slice_geometry.specs.Frames.{Frame}
use Rattle.raw_video.specs.RawParse.{sample_size, raw_length}
use Rattle.run_theory.specs.Walk.{Answer, Machine, IsMachine, answer_to, all_but}
use Rattle.field_weave.specs.WeaveAnswers.{woven_answer, split_answer}
use Rattle.field_weave.proofs.Answers.{weave_answer, split_answers}
use Rattle.run_theory.specs.Ran.{HaltHasCause}
use Rattle.run_theory.specs.declared.Halt.{Halt}
use Rattle.sequence_header.specs.Checking.{PassesRules}
use Rattle.sequence_header.specs.declared.parts.HeaderParts.{HeaderParts}
use Rattle.stream_rows.specs.Streams.{frame_under}
use Rattle.stream_rows.proofs.Frames.{frame_is}
use Rattle.field_weave.specs.Weaving.{frame_of_two}
use Rattle.field_weave.specs.declared.weaver.WeaveStop.{WeaveStop}
use Rattle.field_weave.specs.declared.weaver.WeaveStop.TheVariants as stops
use Rattle.field_weave.specs.WeaveRuns.{WeaveEnd, MayGoOn, weaving, splitting, weave_result, Weaves}
use Rattle.field_weave.specs.WeaveRuns as weaver
use Rattle.field_weave.proofs.Weaves.{weaving_ends, splitting_ends}
use Rattle.raw_video.specs.PictureSoon.{PicturesSoon}
use Rattle.raw_video.proofs.OpenPrefixes.{soon_unbegun}
use Rattle.raw_video.proofs.PictureTurns.{picture_laws, some_raw}
use Rattle.vc2_words.specs.declared.settings.FieldVideo.{FieldVideo}
use Rattle.vc2_words.specs.Lawful.{IsFieldVideo}
use Rattle.vc2_cli.specs.declared.status.Ending.{Ending}
use Rattle.run_theory.specs.Runs.{Runs}
use Rattle.vc2_cli.specs.Endings.{IsDone, MayEndLater}
use Rattle.vc2_cli.specs.Mapped.{told_as, answer_told}
use Rattle.vc2_cli.specs.Weave.{order_of, ending_of, weave_command_machine, split_command_machine, outcome_of}
use Rattle.vc2_cli.proofs.Mapped.{told_laws, told_answer, told_ran}
use Rattle.vc2_cli.proofs.EncodeReplies.{header_shape, header_has}

-- a field has a byte, and so has a frame
some_field : (p : HeaderParts) → PassesRules p → 0 < raw_length (frame_under p)
some_field p q = subst (λ (f : Frame). 0 < raw_length f) (frame_is p (header_shape p q) (header_has p q)) (some_raw (header_shape p q))

-- the bytes of a frame are those of two fields
frame_bytes : (f : Frame) → raw_length (frame_of_two f) ≡ 2 * raw_length f
frame_bytes f = bytes (sample_size (is_wide f)) f.luma.h f.luma.w f.colour.h f.colour.w
  where
    bytes : (s h w k v : ℕ) → s * (2 * h * w + 2 * (2 * k * v)) ≡ 2 * (s * (h * w + 2 * (k * v)))
    bytes s h w k v = grind arith

some_frame : (f : Frame) → 0 < raw_length f → 0 < raw_length (frame_of_two f)
some_frame f some = omega (arith, some, frame_bytes f)

abbrev ok_of : Ending → Result Ending Halt
ok_of ending = Ok ending

pub weave_laws : (video : FieldVideo) → IsFieldVideo video → IsMachine (weave_command_machine video)
weave_laws video is =
    let f = frame_under video.header in
    told_laws ending_of (weaver.weave_machine (order_of video.top) f) (picture_laws f (weaving (order_of video.top) f) (some_field video.header is.header.passes))

pub split_laws : (video : FieldVideo) → IsFieldVideo video → IsMachine (split_command_machine video)
split_laws video is =
    let f = frame_under video.header in
    told_laws ending_of (weaver.split_machine (order_of video.top) f) (picture_laws (frame_of_two f) (splitting (order_of video.top) f) (some_frame f (some_field video.header is.header.passes)))

module _ {Z : Type 0} (machine : Machine Z WeaveEnd) (rest0 rest1 out0 out1 : Option (List ℕ)) (src0 src1 to0 to1 : ℕ) where
  causes : (result : Result ℕ WeaveStop) → HaltHasCause {X = WeaveEnd} src0 src1 to0 to1 (weave_result result) → HaltHasCause {X = Ending} src0 src1 to0 to1 (outcome_of result)
  causes (Ok frames) why = why
  causes (Err (stops.SampleTooLarge place)) why = why
  causes (Err (stops.RawTruncated place)) why = why
  causes (Err stops.TooLong) why = why
  causes (Err (stops.HalfFrame place)) why = why
  causes (Err stops.ReadFault) why = why
  causes (Err stops.OutFault) why = why

  outcome_is : (a b : Ending) → ok_of a ≡ ok_of b → a ≡ b
  outcome_is a b e = cc

  ended : (result : Result ℕ WeaveStop) → Weaves machine rest0 rest1 out0 out1 src0 src1 to0 to1 result → (ending : Ending) → outcome_of result ≡ Ok ending → IsDone ending → IsAtEnd rest1
  ended (Ok frames) w ending is done = w.end
  ended (Err (stops.SampleTooLarge place)) w ending is done = absurd (subst IsDone (sym (outcome_is _ ending is)) done)
  ended (Err (stops.RawTruncated place)) w ending is done = absurd (subst IsDone (sym (outcome_is _ ending is)) done)
  ended (Err stops.TooLong) w ending is done = absurd (subst IsDone (sym (outcome_is _ ending is)) done)
  ended (Err (stops.HalfFrame place)) w ending is done = absurd (subst IsDone (sym (outcome_is _ ending is)) done)
  ended (Err stops.ReadFault) w ending is done = absurd cc
  ended (Err stops.OutFault) w ending is done = absurd cc

  pub runs_told : (result : Result ℕ WeaveStop) → Weaves machine rest0 rest1 out0 out1 src0 src1 to0 to1 result
      → Runs (told_as ending_of machine) IsDone (record { was = rest0; is = rest1; faults_were = src0; faults_are = src1 }) (record { was = out0; is = out1; faults_were = to0; faults_are = to1 }) (outcome_of result)
  runs_told result w = record {
    ran = told_ran ending_of machine rest0 rest1 out0 out1 (weave_result result) w.ran;
    limit = w.limit;
    cause = causes result w.cause;
    end = ended result w;
  }

-- an ending that may change is told as one
may_end : (ending : WeaveEnd) → MayGoOn ending → MayEndLater (ending_of ending)
may_end (Ok frames) goes = tt
may_end (Err (stops.HalfFrame place)) goes = refl
may_end (Err (stops.RawTruncated place)) goes = refl
may_end (Err (stops.SampleTooLarge place)) goes = absurd goes
may_end (Err stops.TooLong) goes = absurd goes
may_end (Err stops.ReadFault) goes = absurd goes
may_end (Err stops.OutFault) goes = absurd goes

pub soon_told : {Z : Type 0} (machine : Machine Z WeaveEnd) (rest0 rest1 : Option (List ℕ)) → PicturesSoon MayGoOn machine rest0 rest1 → PicturesSoon MayEndLater (told_as ending_of machine) rest0 rest1
soon_told machine rest0 rest1 s = record {
  taken = s.taken;
  took = s.took;
  goes = subst MayEndLater (sym (ap (λ (a : Answer Ending). a.ending) (told_answer ending_of machine (all_but 4096 s.taken)))) (may_end _ s.goes);
}

-- nothing was read
pub weave_unread : (video : FieldVideo) → IsFieldVideo video → (rest : Option (List ℕ)) → PicturesSoon MayEndLater (weave_command_machine video) rest rest
weave_unread video is rest =
    let f = frame_under video.header in
    let order = order_of video.top in
    soon_told (weaver.weave_machine order f) rest rest (soon_unbegun MayGoOn f (weaving order f) (weaving_ends order f) (some_field video.header is.header.passes) rest)

pub split_unread : (video : FieldVideo) → IsFieldVideo video → (rest : Option (List ℕ)) → PicturesSoon MayEndLater (split_command_machine video) rest rest
split_unread video is rest =
    let f = frame_under video.header in
    let order = order_of video.top in
    soon_told (weaver.split_machine order f) rest rest (soon_unbegun MayGoOn (frame_of_two f) (splitting order f) (splitting_ends order f) (some_frame f (some_field video.header is.header.passes)) rest)

-- what they come to
pub weave_replies : (video : FieldVideo) (input : List ℕ) → IsFieldVideo video → answer_to (weave_command_machine video) input ≡ answer_told ending_of (woven_answer (order_of video.top) (frame_under video.header) input)
weave_replies video input is =
    let f = frame_under video.header in
    told_answer ending_of (weaver.weave_machine (order_of video.top) f) input
    ∙ ap (λ (a : Answer WeaveEnd). answer_told ending_of a) (weave_answer (order_of video.top) f input (some_field video.header is.header.passes))

pub split_replies : (video : FieldVideo) (input : List ℕ) → IsFieldVideo video → answer_to (split_command_machine video) input ≡ answer_told ending_of (split_answer (order_of video.top) (frame_under video.header) input)
split_replies video input is =
    let f = frame_under video.header in
    told_answer ending_of (weaver.split_machine (order_of video.top) f) input
    ∙ ap (λ (a : Answer WeaveEnd). answer_told ending_of a) (split_answers (order_of video.top) f input (some_frame f (some_field video.header is.header.passes)))
