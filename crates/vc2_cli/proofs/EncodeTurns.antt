-- The turns of the loop of `encode`.
use Rattle.std.proofs.Common.{◌≡◌, ℕ, ◌+◌, ◌^◌, ◌<◌, ◌≤◌, cond, Bool, true, false, List, Option, Some, None, Result, Ok, Err, refl, sym, ap, subst, ◌∙◌, arith}
use Rattle.std.specs.Io.KnownBytes.{Appends}
use Rattle.vc2_io.specs.Outside.{Rose, GrewShort}
use Rattle.slice_geometry.specs.declared.unit_list.UnitShape.{UnitShape}
use Rattle.slice_geometry.specs.UnitLengths.{UnitShapesSeen}
use Rattle.slice_geometry.specs.Slicing.{slice_count}
use Rattle.channel_schedule.specs.declared.schedule.Rate.{Rate}
use Rattle.channel_schedule.specs.declared.schedule.Schedule.{Schedule}
use Rattle.channel_schedule.specs.Plans.{plan_of}
use Rattle.vc2_cli.specs.Scheduled.{shapes_in}
use Rattle.vc2_words.specs.Settings.{Asked}
use Rattle.slice_geometry.specs.Frames.{Frame, frame_of}
use Rattle.picture_codec.specs.Samples.{PictureSamples}
use Rattle.picture_codec.specs.Encoding.{slices_of}
use Rattle.raw_video.specs.RawParse.{raw_length}
use Rattle.raw_video.specs.Reading.{ReadsFront, RawCause, RawReaderSeen, reader_after}
use Rattle.raw_video.specs.PictureRuns.{BehindPictures}
use Rattle.raw_video.specs.PictureRuns as pictures
use Rattle.raw_video.proofs.PictureTurns as turns
use Rattle.raw_video.specs.PictureSoon.{HasOpenEndings, PicturesSoon}
use Rattle.raw_video.proofs.OpenPrefixes.{soon_behind, soon_between, soon_unbegun}
use Rattle.raw_video.specs.declared.reader.RawStep.{RawStep}
use Rattle.raw_video.specs.declared.reader.RawStep.TheVariants as steps
use Rattle.raw_video.specs.declared.reader.RawFault.{RawFault}
use Rattle.raw_video.specs.declared.reader.RawFault.TheVariants as faults
use Rattle.run_theory.specs.Walk.{IsMachine}
use Rattle.run_theory.specs.Ran.{Ran, TakesAtMost, HaltHasCause}
use Rattle.run_theory.specs.declared.Halt.{Halt}
use Rattle.run_theory.specs.declared.Halt.TheVariants as halts
use Rattle.run_theory.proofs.Windows.{ran_unopened, ran_unbegun}
use Rattle.stream_rows.specs.declared.reason.Reason.{Reason}
use Rattle.stream_rows.specs.declared.reason.Reason.TheVariants as reasons
use Rattle.stream_writer.specs.declared.write_stop.WriteStop.{WriteStop}
use Rattle.stream_writer.specs.declared.write_stop.WriteStop.TheVariants as stops
use Rattle.stream_rows.specs.Streams.{limit, frame_under}
use Rattle.stream_writer.specs.EncodedStream.{header_unit, end_unit}
use Rattle.stream_writer.specs.Writer.{StreamWriterSeen, total_length, next_place, next_previous, due_units, plain_shape, writer_begun, after_end, WritesPicture, WriteCause, Starts, IsSteepOkUnder}
use Rattle.stream_writer.proofs.WrittenShapes.{total_push, plain_length}
use Rattle.vc2_cli.specs.declared.status.Ending.{Ending}
use Rattle.vc2_cli.specs.declared.status.Note.TheVariants.{Encoded}
use Rattle.vc2_cli.specs.declared.status.Ending.TheVariants.{Done}
use Rattle.run_theory.specs.Runs.{Runs, Closes}
use Rattle.vc2_cli.specs.Endings.{IsDone, MayEndLater}
use Rattle.vc2_cli.specs.Encode.{written_under, raw_size, shapes_at, stream_place, units_at, has_room, is_half, refused_at, ended_plan, ended_at, last_text, encoding, encode_machine, told_of_fault, told_of_stop}
use Rattle.vc2_cli.specs.EncodeTurn.{IsBehind, WritesPictures}
use Rattle.vc2_cli.proofs.Behind.{behind_next, due_is, room_is, no_room_is}
use Rattle.run_theory.proofs.Closing.{takes_none, cause_then}

pub encode_laws : (e : Asked) → 0 < raw_length (frame_under e.parts) → IsMachine (encode_machine e)
encode_laws e some = turns.picture_laws (frame_under e.parts) (encoding e) some

-- at the input's end, and inside a picture
encode_ends : (e : Asked) → HasOpenEndings MayEndLater (encoding e)
encode_ends e = record { finished = λ place n. by (is_half e.parts.coding n) place (ended_plan e (shapes_at e n) (stream_place e n)); cut = λ at. refl }
  where
    by : (half : Bool) (place : ℕ) (schedule : Schedule) → MayEndLater (ended_at half place schedule)
    by true place schedule = refl
    by false place schedule = tt

-- nothing was read
pub soon_unread : (e : Asked) → 0 < raw_size e → (rest : Option (List ℕ)) → PicturesSoon MayEndLater (encode_machine e) rest rest
soon_unread e some rest = soon_unbegun MayEndLater (frame_under e.parts) (encoding e) (encode_ends e) some rest

-- ---- one picture more
-- the units that are due with the next picture
abbrev pub units_of_next : Asked → ℕ → PictureSamples → List ℕ
units_of_next e n p = units_at e n (slices_of (frame_under e.parts) e.params p)

-- those that the writer writes
abbrev pub units_of : StreamWriterSeen → PictureSamples → List ℕ
units_of w p = due_units w (slices_of (frame_under w.settings.parts) w.settings.params p)

pub units_are : (e : Asked) (n : ℕ) (w : StreamWriterSeen) (p : PictureSamples) → 1 ≤ slice_count e.params.slicing → IsBehind e n w → units_of w p ≡ units_of_next e n p
units_are e n w p some is =
    ap (λ (x : StreamWriterSeen). due_units w (slices_of (frame_under x.settings.parts) x.settings.params p)) is ∙ due_is e some n w (slices_of (frame_under e.parts) e.params p) is

-- the plan is of the units alone
pub planned : (list : UnitShapesSeen) (rate : Rate) (idle : ℕ) (units : List UnitShape) (total : ℕ) → list.units ≡ units → list.total ≡ total → plan_of list rate idle ≡ plan_of (shapes_in units total) rate idle
planned list rate idle units total u t = ap (λ (l : List UnitShape). plan_of (shapes_in l list.total) rate idle) u ∙ ap (λ (k : ℕ). plan_of (shapes_in units k) rate idle) t

-- the bytes of the units and the end
pub with_end : (w : StreamWriterSeen) → total_length (after_end w).shapes ≡ next_place w + 13
with_end w = total_push w.shapes (plain_shape (next_place w) 13) ∙ ap (λ (k : ℕ). next_place w + k) (plain_length (next_place w) 13)

-- the run is over, and all was written
pub closes_ended : (half : Bool) (place previous : ℕ) (schedule told : Schedule) (out0 out1 : Option (List ℕ)) → half ≡ false → told ≡ schedule → Appends out0 out1 (end_unit previous) → Closes (ended_at half place schedule) (last_text half previous) out0 out1 (Ok (Done (Encoded told)))
closes_ended true place previous schedule told out0 out1 none same wrote = absurd cc
closes_ended false place previous schedule told out0 out1 none same wrote = (ap (λ (x : Schedule). Done (Encoded x)) same, wrote)

-- ---- the loop

refused_done : {Any : Type 0} (result : Result Ending Halt) (place : ℕ) (reason : Reason) (ending : Ending) → result ≡ Ok (refused_at place reason) → result ≡ Ok ending → IsDone ending → Any
refused_done result place reason ending told is done = let same : refused_at place reason ≡ ending = by (refused_at place reason) ending (sym told ∙ is) in absurd (subst IsDone (sym same) done)
  where
    ok : Ending → Result Ending Halt
    ok x = Ok x

    by : (a b : Ending) → ok a ≡ ok b → a ≡ b
    by a b e = cc

-- no writer was made
pub runs_unopened : (e : Asked) (rest out0 out1 : Option (List ℕ)) (src to0 to1 : ℕ) (stop : WriteStop) → IsSteepOkUnder (written_under e) → Starts (written_under e) out0 out1 (Err stop) → WriteCause {X = StreamWriterSeen} to0 to1 (Err stop)
    → Runs (encode_machine e) IsDone (record { was = rest; is = rest; faults_were = src; faults_are = src }) (record { was = out0; is = out1; faults_were = to0; faults_are = to1 }) (told_of_stop 0 stop)
runs_unopened e rest out0 out1 src to0 to1 stops.OutFault steep starts why = record {
  ran = ran_unopened (encode_machine e) rest out0 out1 starts.1;
  limit = takes_none rest;
  cause = (refl, why.0, why.1);
  end = λ ending e done. absurd cc;
}
runs_unopened e rest out0 out1 src to0 to1 stops.MatrixTooSteep steep starts why = absurd (starts.0 steep)
runs_unopened e rest out0 out1 src to0 to1 stops.StreamTooLong steep starts why = absurd starts
runs_unopened e rest out0 out1 src to0 to1 stops.NoMemory steep starts why = record {
  ran = ran_unbegun (encode_machine e) rest out0 out1 starts.1;
  limit = takes_none rest;
  cause = (refl, why);
  end = λ ending e done. absurd cc;
}

pub goes_first : (e : Asked) (rest out0 out1 : Option (List ℕ)) (r : RawReaderSeen) (w : StreamWriterSeen) → 0 < raw_size e → frame_of r.shape ≡ frame_under e.parts → r.place ≡ 0 → r.refused ≡ false → w ≡ writer_begun (written_under e)
    → Appends out0 out1 (header_unit e.parts) → WritesPictures e 0 rest rest out0 out1 r w
goes_first e rest out0 out1 r w some frame at unrefused start wrote = record {
  frame = frame;
  unrefused = unrefused;
  writer = start;
  run = subst (λ (place : ℕ). pictures.Goes (frame_under e.parts) (encoding e) (record { place = place; own = 0 }) rest rest out0 out1) (sym at)
      (turns.goes_first (frame_under e.parts) (encoding e) some rest out0 out1 wrote);
}

module _ (e : Asked) (n : ℕ) (rest0 rest1 out0 out1 : Option (List ℕ)) (reader : RawReaderSeen) (w : StreamWriterSeen) (some : 0 < raw_size e) (goes : WritesPictures e n rest0 rest1 out0 out1 reader w) where
  abbrev f : Frame
  f = frame_under e.parts

  abbrev now : BehindPictures ℕ
  now = record { place = reader.place; own = n }

  -- what the reader read stands in front
  pub at_place : (rest2 : Option (List ℕ)) (p : PictureSamples) (result : Result RawStep RawFault) → ReadsFront (frame_of reader.shape) reader.place rest1 rest2 p result → ReadsFront (frame_under e.parts) reader.place rest1 rest2 p result
  at_place rest2 p result r = subst (λ (h : Frame). ReadsFront h reader.place rest1 rest2 p result) goes.frame r

  most_taken : (rest2 : Option (List ℕ)) (p : PictureSamples) (result : Result RawStep RawFault) → ReadsFront f reader.place rest1 rest2 p result → TakesAtMost (2 ^ 40 + 1) rest0 rest2
  most_taken rest2 p result r = turns.most_taken f (encoding e) some now rest0 rest1 out0 out1 goes.run rest2 p result r

  -- however the picture came out
  pub soon_read : (rest2 : Option (List ℕ)) (p : PictureSamples) (result : Result RawStep RawFault) → ReadsFront (frame_under e.parts) reader.place rest1 rest2 p result → PicturesSoon MayEndLater (encode_machine e) rest0 rest2
  soon_read rest2 p result r = soon_behind MayEndLater f (encoding e) (encode_ends e) some now rest0 rest1 rest2 out0 out1 goes.run p result r

  pub soon_on : PicturesSoon MayEndLater (encode_machine e) rest0 rest1
  soon_on = soon_between MayEndLater f (encoding e) (encode_ends e) some now rest0 rest1 out0 out1 goes.run

  module _ (rest2 : Option (List ℕ)) (p : PictureSamples) (r : ReadsFront (frame_under e.parts) reader.place rest1 rest2 p (Ok steps.Picture)) where
    with_room : has_room e n ≡ true → (encoding e).stops reader.place n ≡ None
    with_room room = by (has_room e n) room
      where
        by : (room : Bool) → room ≡ true → cond room None (Some (refused_at reader.place reasons.StreamTooLong)) ≡ None
        by true t = refl
        by false t = absurd cc

    without_room : has_room e n ≡ false → (encoding e).stops reader.place n ≡ Some (refused_at reader.place reasons.StreamTooLong)
    without_room none = by (has_room e n) none
      where
        by : (room : Bool) → room ≡ false → cond room None (Some (refused_at reader.place reasons.StreamTooLong)) ≡ Some (refused_at reader.place reasons.StreamTooLong)
        by true t = absurd cc
        by false t = refl

    pub goes_more : (out2 : Option (List ℕ)) (reader' : RawReaderSeen) (w' : StreamWriterSeen) → 1 ≤ slice_count e.params.slicing → reader' ≡ reader_after reader (Ok steps.Picture)
        → WritesPicture w w' (slices_of (frame_under w.settings.parts) w.settings.params p) out1 out2 (Ok tt) → WritesPictures e (n + 1) rest0 rest2 out0 out2 reader' w'
    goes_more out2 reader' w' slices after wrote =
        let text : Appends out1 out2 (units_of_next e n p) = subst (λ (l : List ℕ). Appends out1 out2 l) (units_are e n w p slices goes.writer) wrote.wrote in
        let run = turns.goes_more f (encoding e) some now rest0 rest1 out0 out1 goes.run rest2 p r out2 (with_room (room_is e slices n w goes.writer wrote.why)) text in
        let place : reader'.place ≡ reader.place + raw_length f = ap (λ (x : RawReaderSeen). x.place) after ∙ ap (λ (h : Frame). reader.place + raw_length h) goes.frame in
        record {
          frame = ap (λ (x : RawReaderSeen). frame_of x.shape) after ∙ goes.frame;
          unrefused = ap (λ (x : RawReaderSeen). x.refused) after ∙ goes.unrefused;
          writer = behind_next e slices n w w' goes.writer wrote.after;
          run = subst (λ (k : ℕ). pictures.Goes (frame_under e.parts) (encoding e) (record { place = k; own = n + 1 }) rest0 rest2 out0 out2) (sym place) run;
        }

    -- its units were not written
    pub runs_stopped : (out2 : Option (List ℕ)) (w' : StreamWriterSeen) (place src0 src1 src2 to0 to1 to2 : ℕ) (stop : WriteStop) → 1 ≤ slice_count e.params.slicing → place ≡ reader.place → src1 ≡ src0 → src2 ≡ src1 → to1 ≡ to0
        → WritesPicture w w' (slices_of (frame_under w.settings.parts) w.settings.params p) out1 out2 (Err stop) → WriteCause {X = Unit {0}} to1 to2 (Err stop)
        → Runs (encode_machine e) IsDone (record { was = rest0; is = rest2; faults_were = src0; faults_are = src2 }) (record { was = out0; is = out2; faults_were = to0; faults_are = to2 }) (told_of_stop place stop)
    runs_stopped out2 w' place src0 src1 src2 to0 to1 to2 stops.OutFault slices at steady read steady_out wrote why =
        let short : GrewShort out1 out2 (units_of_next e n p) = subst (λ (l : List ℕ). GrewShort out1 out2 l) (units_are e n w p slices goes.writer) wrote.wrote in
        record {
          ran = turns.ran_short f (encoding e) some now rest0 rest1 out0 out1 goes.run rest2 p r out2 (with_room (room_is e slices n w goes.writer wrote.why)) short;
          limit = most_taken rest2 p (Ok steps.Picture) r;
          cause = (read ∙ steady, subst (λ (k : ℕ). k ≤ to2) steady_out why.0, subst (λ (k : ℕ). Rose k to2) steady_out why.1);
          end = λ ending e done. absurd cc;
        }
    runs_stopped out2 w' place src0 src1 src2 to0 to1 to2 stops.StreamTooLong slices at steady read steady_out wrote why =
        let ran = turns.ran_stopped f (encoding e) some now rest0 rest1 out0 out1 goes.run rest2 p r (refused_at reader.place reasons.StreamTooLong) (without_room (no_room_is e slices n w goes.writer wrote.why)) in
        record {
          ran = subst (λ (o : Option (List ℕ)). Ran (encode_machine e) rest0 rest2 out0 o (Ok (refused_at place reasons.StreamTooLong))) (sym wrote.wrote)
              (subst (λ (k : ℕ). Ran (encode_machine e) rest0 rest2 out0 out1 (Ok (refused_at k reasons.StreamTooLong))) (sym at) ran);
          limit = most_taken rest2 p (Ok steps.Picture) r;
          cause = (read ∙ steady, why ∙ steady_out);
          end = λ ending e done. refused_done (told_of_stop place stops.StreamTooLong) place reasons.StreamTooLong ending refl e done;
        }
    runs_stopped out2 w' place src0 src1 src2 to0 to1 to2 stops.MatrixTooSteep slices at steady read steady_out wrote why = absurd wrote.why
    runs_stopped out2 w' place src0 src1 src2 to0 to1 to2 stops.NoMemory slices at steady read steady_out wrote why = record {
      ran = subst (λ (o : Option (List ℕ)). Ran (encode_machine e) rest0 rest2 out0 o (Err halts.NoMemory)) (sym wrote.wrote) (turns.ran_unwritten f (encoding e) some now rest0 rest1 out0 out1 goes.run rest2 p r);
      limit = most_taken rest2 p (Ok steps.Picture) r;
      cause = (read ∙ steady, why ∙ steady_out);
      end = λ ending e done. absurd cc;
    }

  -- there is no next picture
  pub runs_refused : (rest2 : Option (List ℕ)) (p : PictureSamples) (src0 src1 src2 to0 to1 : ℕ) (fault : RawFault) → src1 ≡ src0 → to1 ≡ to0
      → ReadsFront (frame_under e.parts) reader.place rest1 rest2 p (Err fault) → RawCause {X = RawStep} src1 src2 (Err fault)
      → Runs (encode_machine e) IsDone (record { was = rest0; is = rest2; faults_were = src0; faults_are = src2 }) (record { was = out0; is = out1; faults_were = to0; faults_are = to1 }) (told_of_fault fault)
  runs_refused rest2 p src0 src1 src2 to0 to1 (faults.SampleTooLarge at) steady steady_out r why = record {
    ran = turns.ran_large f (encoding e) some now rest0 rest1 out0 out1 goes.run rest2 p at r;
    limit = most_taken rest2 p (Err (faults.SampleTooLarge at)) r;
    cause = (why ∙ steady, steady_out);
    end = λ ending e done. refused_done (told_of_fault (faults.SampleTooLarge at)) at reasons.SampleTooLarge ending refl e done;
  }
  runs_refused rest2 p src0 src1 src2 to0 to1 (faults.RawTruncated at) steady steady_out r why = record {
    ran = turns.ran_cut f (encoding e) some now rest0 rest1 out0 out1 goes.run rest2 p at r;
    limit = most_taken rest2 p (Err (faults.RawTruncated at)) r;
    cause = (why ∙ steady, steady_out);
    end = λ ending e done. refused_done (told_of_fault (faults.RawTruncated at)) at reasons.RawTruncated ending refl e done;
  }
  runs_refused rest2 p src0 src1 src2 to0 to1 faults.TooLong steady steady_out r why = record {
    ran = turns.ran_past f (encoding e) some now rest0 rest1 out0 out1 goes.run rest2 p r;
    limit = most_taken rest2 p (Err faults.TooLong) r;
    cause = (why ∙ steady, steady_out);
    end = λ ending e done. refused_done (told_of_fault faults.TooLong) limit reasons.StreamTooLong ending refl e done;
  }
  runs_refused rest2 p src0 src1 src2 to0 to1 faults.ReadFault steady steady_out r why = record {
    ran = turns.ran_lost f (encoding e) some now rest0 rest1 out0 out1 goes.run rest2 p r;
    limit = most_taken rest2 p (Err faults.ReadFault) r;
    cause = (subst (λ (k : ℕ). k ≤ src2) steady why.0, subst (λ (k : ℕ). Rose k src2) steady why.1, steady_out);
    end = λ ending e done. absurd cc;
  }

  -- the input is over
  module _ (rest2 : Option (List ℕ)) (p : PictureSamples) (r : ReadsFront (frame_under e.parts) reader.place rest1 rest2 p (Ok steps.End)) where
    ran_closed : (out2 : Option (List ℕ)) (result : Result Ending Halt) → Closes ((encoding e).finished reader.place n) ((encoding e).last reader.place n) out1 out2 result → Ran (encode_machine e) rest0 rest2 out0 out2 result
    ran_closed out2 (Ok told) c = subst (λ (x : Ending). Ran (encode_machine e) rest0 rest2 out0 out2 (Ok x)) (sym c.0)
        (turns.ran_over f (encoding e) some now rest0 rest1 out0 out1 goes.run rest2 p r out2 c.1)
    ran_closed out2 (Err halts.ReadFault) c = absurd c
    ran_closed out2 (Err halts.OutFault) c = turns.ran_over_short f (encoding e) some now rest0 rest1 out0 out1 goes.run rest2 p r out2 c
    ran_closed out2 (Err halts.NoMemory) c =
        subst (λ (o : Option (List ℕ)). Ran (encode_machine e) rest0 rest2 out0 o (Err halts.NoMemory)) (sym c) (turns.ran_over_unwritten f (encoding e) some now rest0 rest1 out0 out1 goes.run rest2 p r)

    -- what the writer's units and the place come to, is what the input's end comes to
    closes_here : (out2 : Option (List ℕ)) (pictures place : ℕ) (result : Result Ending Halt) → pictures ≡ n → place ≡ reader.place
        → (let half = is_half e.parts.coding pictures in Closes (ended_at half place (ended_plan e w.shapes (next_place w))) (last_text half (next_previous w)) out1 out2 result)
        → Closes ((encoding e).finished reader.place n) ((encoding e).last reader.place n) out1 out2 result
    closes_here out2 pictures place result count at c =
        subst (λ (x : StreamWriterSeen). let half = is_half e.parts.coding n in Closes (ended_at half reader.place (ended_plan e x.shapes (next_place x))) (last_text half (next_previous x)) out1 out2 result) goes.writer
        (subst (λ (k : ℕ). let half = is_half e.parts.coding n in Closes (ended_at half k (ended_plan e w.shapes (next_place w))) (last_text half (next_previous w)) out1 out2 result) at
        (subst (λ (k : ℕ). let half = is_half e.parts.coding k in Closes (ended_at half place (ended_plan e w.shapes (next_place w))) (last_text half (next_previous w)) out1 out2 result) count c))

    pub runs_closed : (out2 : Option (List ℕ)) (pictures place src0 src1 src2 to0 to1 to2 : ℕ) (result : Result Ending Halt) → pictures ≡ n → place ≡ reader.place → src1 ≡ src0 → src2 ≡ src1 → to1 ≡ to0
        → (let half = is_half e.parts.coding pictures in Closes (ended_at half place (ended_plan e w.shapes (next_place w))) (last_text half (next_previous w)) out1 out2 result) → HaltHasCause 0 0 to1 to2 result
        → Runs (encode_machine e) IsDone (record { was = rest0; is = rest2; faults_were = src0; faults_are = src2 }) (record { was = out0; is = out2; faults_were = to0; faults_are = to2 }) result
    runs_closed out2 pictures place src0 src1 src2 to0 to1 to2 result count at steady read steady_out closes why = record {
      ran = ran_closed out2 result (closes_here out2 pictures place result count at closes);
      limit = most_taken rest2 p (Ok steps.End) r;
      cause = cause_then src0 src2 to0 to1 to2 result (read ∙ steady) steady_out why;
      end = λ ending e done. r.front.1;
    }

  -- no memory
  pub runs_on : (src0 src1 to0 to1 : ℕ) → src1 ≡ src0 → to1 ≡ to0 → Runs (encode_machine e) IsDone (record { was = rest0; is = rest1; faults_were = src0; faults_are = src1 }) (record { was = out0; is = out1; faults_were = to0; faults_are = to1 }) (Err halts.NoMemory)
  runs_on src0 src1 to0 to1 steady steady_out = record {
    ran = turns.ran_on f (encoding e) some now rest0 rest1 out0 out1 goes.run;
    limit = ((goes.run).taken, omega (arith, (goes.run).total, (goes.run).most), (goes.run).took);
    cause = (steady, steady_out);
    end = λ ending e done. absurd cc;
  }
