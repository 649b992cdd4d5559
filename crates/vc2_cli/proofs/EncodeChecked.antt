-- `check` with the schedule of what was encoded runs.
use Rattle.std.proofs.Common.{◌≡◌, ℕ, zero, suc, ◌+◌, ◌-◌, ◌*◌, ◌%◌, ◌^◌, ◌<◌, ◌≤◌, List, [], ◌∷◌, ◌++◌, length, map, Option, None, Bool, true, false, refl, sym, ap, subst, ◌∙◌, arith, lit≤, append_assoc}
use Rattle.std.specs.Prelude.{min, Result}
use Rattle.std.specs.List.{AllByRecursion}
use Rattle.std.proofs.lemmas.List.{length-append, length-map}
use Rattle.slice_geometry.specs.declared.Size.{Size}
use Rattle.slice_geometry.specs.declared.PictureShape.{PictureShape}
use Rattle.slice_geometry.specs.Frames.{Frame, frame_of}
use Rattle.slice_geometry.specs.declared.unit_list.UnitShape.{UnitShape}
use Rattle.slice_geometry.specs.UnitLengths as lengths
use Rattle.slice_geometry.specs.UnitLengths.{IsUnitAllowed, ShapesInTurn, UnitShapesSeen}
use Rattle.slice_geometry.specs.Slicing.{slice_count, total_bytes}
use Rattle.slice_geometry.proofs.UnitLemmas.{in_turn-push}
use Rattle.sequence_header.specs.declared.parts.HeaderParts.{HeaderParts}
use Rattle.sequence_header.specs.Coding.{IsShapeOf}
use Rattle.transform_params.specs.Params.{Params}
use Rattle.transform_params.specs.ParameterFields.{unit_length, AreLawfulParams}
use Rattle.transform_params.proofs.Bounds.{unit_small}
use Rattle.channel_schedule.specs.declared.schedule.Schedule.{Schedule}
use Rattle.channel_schedule.specs.declared.schedule.Outcome.{Outcome}
use Rattle.channel_schedule.specs.declared.schedule.Outcome.TheVariants.{Runs}
use Rattle.channel_schedule.specs.Rates.{IsRate}
use Rattle.channel_schedule.specs.declared.schedule.Rate.{Rate}
use Rattle.channel_schedule.specs.declared.schedule.Outcome.TheVariants.{Late, Overfull}
use Rattle.channel_schedule.specs.Repeats as repeats
use Rattle.channel_schedule.specs.Repeats.{units_repeated, units_placed, length_of, stream_of_units, sequence, picture_slots}
use Rattle.channel_schedule.proofs.Repeated.{length_of-append}
use Rattle.channel_schedule.proofs.Known.{pictures_known}
use Rattle.vc2_cli.specs.declared.status.Status.TheVariants as status
use Rattle.vc2_cli.specs.LeastLines.{RunsNot, TheLineIsLeast, IsUsual, TheLineIsKnown}
use Rattle.channel_schedule.specs.Courses.{Course, Run, IsOutcome, course_of, count_in, bytes_held, outcome_from}
use Rattle.channel_schedule.specs.Plans.{IsPlan, lead_of, greatest, plan_delay, plan_size, plan_of}
use Rattle.channel_schedule.proofs.Unique.{greatest-is, plan_found, plan_replays, one_outcome}
use Rattle.channel_schedule.proofs.Leads.{lead_low, ceil_low}
use Rattle.picture_codec.specs.Samples.{SamplesSeen, PictureSamples, AreSamples, HaveShape, picture_of}
use Rattle.picture_codec.specs.Encoding.{slices_of}
use Rattle.picture_codec.proofs.Runs.{below-all}
use Rattle.picture_codec.proofs.Tables.{positive}
use Rattle.raw_video.specs.RawText.{raw_text}
use Rattle.raw_video.specs.RawParse.{AreRows, IsOfFrame, raw_texts}
use Rattle.run_theory.specs.Walk.{Answer, answer_from, answer_to, before}
use Rattle.stream_rows.specs.Units.{Past, nothing_yet, DataUnit, Sequence, Picture, End, after}
use Rattle.stream_rows.specs.Streams.{Entry, total, limit, frame_under}
use Rattle.stream_writer.specs.StreamPictures.{pictures_of}
use Rattle.stream_reader.specs.Turns.{shape_of}
use Rattle.stream_writer.specs.EncodedStream.{Settings, begins_at, header_length, header_unit, picture_unit, end_unit, number_after, units_with, units_behind, found_before, pictures_under, units_of, AreLawful, IsSliced}
use Rattle.stream_writer.specs.Writer.{plain_shape, picture_shape, head_bytes_before, due_shapes}
use Rattle.stream_writer.proofs.WriterCalls.{length-with}
use Rattle.stream_writer.proofs.WrittenShapes.{plain_length, picture_length}
use Rattle.stream_writer.proofs.EncodedUnits.{length-header_unit, length-picture_unit, length-end_unit}
use Rattle.stream_writer.proofs.EncodedStreams.{Going, going_start, header_small, encoded_fits, encoded_stream, encoded_pictures}
use Rattle.run_theory.specs.Fronts.{Between, Command, Close}
use Rattle.stream_rows.specs.declared.reason.Reason.{Reason}
use Rattle.stream_rows.proofs.Answering.{machine}
use Rattle.stream_writer.proofs.EncodedPictures.{all_sliced}
use Rattle.stream_rows.proofs.Frames.{frame_is}
use Rattle.stream_writer.proofs.SameShapes.{steep_for}
use Rattle.vc2_words.specs.Settings.{Asked}
use Rattle.vc2_cli.specs.declared.status.Ending.{Ending}
use Rattle.vc2_cli.specs.Decode.{unit_pictures, unit_slices}
use Rattle.vc2_cli.specs.Endings.{replayed_close}
use Rattle.vc2_cli.specs.Scheduled.{Replayed, nothing_replayed, shapes_in, outcome_of, replaying, replay_machine}
use Rattle.vc2_words.specs.declared.keys.WordFault.{WordFault}
use Rattle.vc2_words.specs.Commands.{AskedCommand}
use Rattle.vc2_cli.specs.Reply.{Reply, reply_of, command_reply, schedule_status, fault_of}
use Rattle.vc2_cli.specs.ScheduleWords.{HasWords}
use Rattle.vc2_cli.proofs.ScheduleWords.{line_is_read}
use Rattle.vc2_cli.specs.StreamReplies as streams
use Rattle.vc2_cli.specs.WholePictures.{raw_input, stream_of, decoded_of, plan_for, stream_length}
use Rattle.vc2_cli.specs.EncodeReply.{MayBeWritten, AreSettings, replayed_reply, TheScheduleRuns, decoded_reply, AreDecoded}
use Rattle.vc2_cli.specs.Texts.{decoded_line}
use Rattle.vc2_cli.proofs.StreamReplies.{is_decoded}
use Rattle.vc2_cli.proofs.EncodeReplies.{header_shape, header_has}
use Rattle.vc2_cli.specs.Encode.{written_under, stream_place, place_due, shapes_at, ended_plan}
use Rattle.vc2_cli.proofs.Behind.{place_first, place_next}
use Rattle.vc2_cli.proofs.EncodedWalk.{behind_unit, behind_header, behind_picture, behind_due, front_first, front_due, front_last, going_due}

-- ---- the units stand one after another

module _ (s : Asked) (f : AreLawfulParams s.params) where
  picture_allowed : (place : ℕ) → IsUnitAllowed (picture_shape s.params place)
  picture_allowed place = record {
    some = f.allowed.share.some;
    byte = f.allowed.share.byte;
    count = f.allowed.slices.count;
    share = f.allowed.share.total;
  }

  plain_allowed : (place size : ℕ) → IsUnitAllowed (plain_shape place size)
  plain_allowed place size = record { some = lit≤ tt; byte = lit≤ tt; count = lit≤ tt; share = lit≤ tt }

  -- with the units that are due with a picture
  due_in_turn : (begins : Bool) (list : List UnitShape) (place : ℕ) → ShapesInTurn 0 list place → ShapesInTurn 0 (list ++ due_shapes s.parts s.params begins place) (place + head_bytes_before s.parts begins + unit_length s.params)
  due_in_turn false list place there =
      let u = picture_shape s.params (place + 0) in
      subst (λ (k : ℕ). ShapesInTurn 0 (list ++ u ∷ []) k) (omega (arith, picture_length s.params (place + 0))) (in_turn-push 0 list place u there (omega arith) (picture_allowed (place + 0)))
  due_in_turn true list place there =
      let h = header_length s.parts in
      let a = plain_shape place 13 in
      let b = plain_shape (place + 13) h in
      let c = picture_shape s.params (place + head_bytes_before s.parts true) in
      let ends : place + lengths.shape_length a ≡ place + 13 = ap (λ (k : ℕ). place + k) (plain_length place 13) in
      let one = subst (λ (k : ℕ). ShapesInTurn 0 (list ++ a ∷ []) k) ends (in_turn-push 0 list place a there refl (plain_allowed place 13)) in
      let two = in_turn-push 0 (list ++ a ∷ []) (place + 13) b one refl (plain_allowed (place + 13) h) in
      let begins : place + head_bytes_before s.parts true ≡ place + 13 + lengths.shape_length b = omega (arith, plain_length (place + 13) h) in
      let three = in_turn-push 0 ((list ++ a ∷ []) ++ b ∷ []) (place + 13 + lengths.shape_length b) c two begins (picture_allowed (place + head_bytes_before s.parts true)) in
      let all : ((list ++ a ∷ []) ++ b ∷ []) ++ c ∷ [] ≡ list ++ a ∷ b ∷ c ∷ [] = append_assoc (list ++ a ∷ []) (b ∷ []) (c ∷ []) ∙ append_assoc list (a ∷ []) (b ∷ c ∷ []) in
      subst (λ (l : List UnitShape). ShapesInTurn 0 l (place + head_bytes_before s.parts true + unit_length s.params)) all
      (subst (λ (k : ℕ). ShapesInTurn 0 (((list ++ a ∷ []) ++ b ∷ []) ++ c ∷ []) k) (omega (arith, begins, picture_length s.params (place + head_bytes_before s.parts true))) three)

  in_turn : (n : ℕ) → ShapesInTurn 0 (shapes_at s n) (stream_place s n)
  in_turn zero = (refl, plain_allowed 0 (header_length s.parts), omega (arith, plain_length 0 (header_length s.parts)))
  in_turn (suc n) = subst (λ (k : ℕ). ShapesInTurn 0 (shapes_at s (suc n)) k) (sym (place_next s n)) (due_in_turn (begins_at s.group n) (shapes_at s n) (stream_place s n) (in_turn n))

  all_in_turn : (n : ℕ) → ShapesInTurn 0 (shapes_at s n ++ plain_shape (stream_place s n) 13 ∷ []) (stream_place s n + 13)
  all_in_turn n = subst (λ (k : ℕ). ShapesInTurn 0 (shapes_at s n ++ plain_shape (stream_place s n) 13 ∷ []) (stream_place s n + k)) (plain_length (stream_place s n) 13)
      (in_turn-push 0 (shapes_at s n) (stream_place s n) (plain_shape (stream_place s n) 13) (in_turn n) refl (plain_allowed (stream_place s n) 13))

  -- the bytes of the units behind n pictures
  pub units_length : (pictures : List (List (List ℕ))) (previous number n m : ℕ) → m ≡ n + length pictures → AllByRecursion (IsSliced s.parts s.params) pictures → stream_place s n + length (units_behind (written_under s) n previous number pictures) ≡ stream_place s m + 13
  units_length [] previous number n m e sliced = let here : n ≡ m = omega (arith, e) in ap (λ (k : ℕ). stream_place s k + 13) here
  units_length (slices ∷ pictures) previous number n m e sliced =
      let due = units_with s.parts s.params (begins_at s.group n) previous number slices in
      let next : suc n ≡ n + 1 = omega arith in
      let rest = units_behind (written_under s) (n + 1) (unit_length s.params) (number_after number) pictures in
      let long = length-with s.parts s.params (begins_at s.group n) previous number slices f sliced.0 in
      let more = units_length pictures (unit_length s.params) (number_after number) (n + 1) m (omega (arith, e)) sliced.1 in
      let place : stream_place s (n + 1) ≡ place_due s n = ap (stream_place s) (sym next) ∙ place_next s n in
      omega (arith, length-append due rest, long, place, more)

-- ---- the walk of `check` over what was written

module _ (s : Asked) (schedule : Schedule) (f : AreLawful (written_under s)) where
  abbrev close : ℕ → ℕ → Close Ending
  close m slices = replayed_close m slices (stream_place s m + 13) (outcome_of schedule (shapes_at s m ++ plain_shape (stream_place s m) 13 ∷ []) (stream_place s m + 13))

  -- a picture's unit by its bytes
  picture_is : (z : Past) (number : ℕ) (slices : List (List ℕ)) (unit : List ℕ) (place : ℕ) → z.place ≡ place → length unit ≡ unit_length s.params → shape_of z (Picture s.parts number s.params slices) unit ≡ picture_shape s.params place
  picture_is z number slices unit place at long =
      ap (λ (k : ℕ). let u : UnitShape = record { start = k; head = length unit - total_bytes s.params.slicing; slices = slice_count s.params.slicing; a = s.params.slicing.a; b = s.params.slicing.b } in u) at
      ∙ ap (λ (k : ℕ). let u : UnitShape = record { start = place; head = k; slices = slice_count s.params.slicing; a = s.params.slicing.a; b = s.params.slicing.b } in u) (omega (arith, long))

  abbrev plain : Replayed → ℕ → ℕ → List UnitShape
  plain own place size = own.shapes ++ plain_shape place size ∷ []

  -- the command behind n pictures and units of these shapes, which end at this place
  pub record Stands (n place : ℕ) (list : List UnitShape) (b : Between Past Replayed) : Type 0 where
    pub at : b.past.place ≡ place
    pub of : b.own.schedule ≡ schedule
    pub pictures : b.own.pictures ≡ n
    pub slices : b.own.slices ≡ n * slice_count s.params.slicing
    pub shapes : b.own.shapes ≡ list

  counted : (n size : ℕ) → n * size + size ≡ suc n * size
  counted n size = grind arith

  abbrev command : Command Past Reason DataUnit Replayed Ending
  command = replaying schedule

  abbrev quiet : (z : Past) (own : Replayed) (unit : DataUnit) (bytes : List ℕ) → command.text z own unit bytes ≡ []
  quiet z own unit bytes = refl

  stands_plain : (n place size : ℕ) (list : List UnitShape) (b : Between Past Replayed) (unit : DataUnit) (bytes : List ℕ) → length bytes ≡ size → (after b.past unit bytes).place ≡ b.past.place + length bytes → unit_pictures unit ≡ 0 → unit_slices unit ≡ 0 → shape_of b.past unit bytes ≡ plain_shape b.past.place (length bytes)
      → Stands n place list b → Stands n (place + size) (list ++ plain_shape place size ∷ []) (behind_unit command quiet (written_under s) f b unit bytes)
  stands_plain n place size list b unit bytes long at none no_slices shape st = record {
    at = omega (arith, at, st.at, long);
    of = st.of;
    pictures = omega (arith, none, st.pictures);
    slices = omega (arith, no_slices, st.slices);
    shapes = ap (λ (u : UnitShape). b.own.shapes ++ u ∷ []) shape ∙ ap (λ (k : ℕ). plain b.own k (length bytes)) st.at ∙ ap (λ (k : ℕ). plain b.own place k) long ∙ ap (λ (l : List UnitShape). l ++ plain_shape place size ∷ []) st.shapes;
  }

  stands_picture : (n place place' previous number : ℕ) (list : List UnitShape) (b : Between Past Replayed) (slices : List (List ℕ)) → place' ≡ place → IsSliced s.parts s.params slices → Stands n place list b
      → Stands (suc n) (place + unit_length s.params) (list ++ picture_shape s.params place' ∷ []) (behind_picture command quiet (written_under s) f b previous number slices)
  stands_picture n place place' previous number list b slices same sliced st =
      let unit = picture_unit s.params previous number slices in
      let long = length-picture_unit s.parts s.params previous number slices f.params sliced in
      record {
        at = omega (arith, st.at, long);
        of = st.of;
        pictures = omega (arith, st.pictures);
        slices = ap (λ (k : ℕ). k + slice_count s.params.slicing) st.slices ∙ counted n (slice_count s.params.slicing);
        shapes = ap (λ (u : UnitShape). b.own.shapes ++ u ∷ []) (picture_is b.past number slices unit place' (st.at ∙ sym same) long) ∙ ap (λ (l : List UnitShape). l ++ picture_shape s.params place' ∷ []) st.shapes;
      }

  stands_due : (begins : Bool) (n place previous number : ℕ) (list : List UnitShape) (b : Between Past Replayed) (slices : List (List ℕ)) → IsSliced s.parts s.params slices → Stands n place list b
      → Stands (suc n) (place + head_bytes_before s.parts begins + unit_length s.params) (list ++ due_shapes s.parts s.params begins place) (behind_due command quiet (written_under s) f begins b previous number slices)
  stands_due false n place previous number list b slices sliced st =
      let none : place + 0 ≡ place = omega arith in
      let here = stands_picture n place (place + 0) previous number list b slices none sliced st in
      record { at = omega (arith, here.at); of = here.of; pictures = here.pictures; slices = here.slices; shapes = here.shapes }
  stands_due true n place previous number list b slices sliced st =
      let h = header_length s.parts in
      let header = header_unit s.parts in
      let end = end_unit previous in
      let a = plain_shape place 13 in
      let d = plain_shape (place + 13) h in
      let c = picture_shape s.params (place + head_bytes_before s.parts true) in
      let one = stands_plain n place 13 list b End end (length-end_unit previous) refl refl refl refl st in
      let two = stands_plain n (place + 13) h (list ++ a ∷ []) (behind_unit command quiet (written_under s) f b End end) (Sequence s.parts) header (length-header_unit s.parts) refl refl refl refl one in
      let all : ((list ++ a ∷ []) ++ d ∷ []) ++ c ∷ [] ≡ list ++ a ∷ d ∷ c ∷ [] = append_assoc (list ++ a ∷ []) (d ∷ []) (c ∷ []) ∙ append_assoc list (a ∷ []) (d ∷ c ∷ []) in
      let here = stands_picture n (place + 13 + h) (place + head_bytes_before s.parts true) h number ((list ++ a ∷ []) ++ d ∷ []) (behind_header command quiet (written_under s) f b previous) slices (omega arith) sliced two in
      record { at = omega (arith, here.at); of = here.of; pictures = here.pictures; slices = here.slices; shapes = here.shapes ∙ all }

  abbrev StandsAt : ℕ → Between Past Replayed → Type 0
  StandsAt n b = Stands n (stream_place s n) (shapes_at s n) b

  stands_next : (n previous number : ℕ) (b : Between Past Replayed) (slices : List (List ℕ)) → IsSliced s.parts s.params slices → StandsAt n b → StandsAt (suc n) (behind_due command quiet (written_under s) f (begins_at s.group n) b previous number slices)
  stands_next n previous number b slices sliced st =
      subst (λ (k : ℕ). Stands (suc n) k (shapes_at s (suc n)) (behind_due command quiet (written_under s) f (begins_at s.group n) b previous number slices)) (sym (place_next s n))
      (stands_due (begins_at s.group n) n (stream_place s n) previous number (shapes_at s n) b slices sliced st)

  finished_is : (n previous : ℕ) (b : Between Past Replayed) → StandsAt n b → command.finished b.past b.own End (end_unit previous) ≡ close n (n * slice_count s.params.slicing)
  finished_is n previous b st =
      let unit = end_unit previous in
      let place : b.past.place + length unit ≡ stream_place s n + 13 = omega (arith, st.at, length-end_unit previous) in
      let list : b.own.shapes ++ shape_of b.past End unit ∷ [] ≡ shapes_at s n ++ plain_shape (stream_place s n) 13 ∷ [] =
      ap (λ (k : ℕ). plain b.own k 13) st.at ∙ ap (λ (l : List UnitShape). l ++ plain_shape (stream_place s n) 13 ∷ []) st.shapes in
      ap (λ (k : ℕ). replayed_close k b.own.slices (b.past.place + length unit) (outcome_of b.own.schedule (b.own.shapes ++ shape_of b.past End unit ∷ []) (b.past.place + length unit))) st.pictures
      ∙ ap (λ (k : ℕ). replayed_close n k (b.past.place + length unit) (outcome_of b.own.schedule (b.own.shapes ++ shape_of b.past End unit ∷ []) (b.past.place + length unit))) st.slices
      ∙ ap (λ (k : ℕ). replayed_close n (n * slice_count s.params.slicing) k (outcome_of b.own.schedule (b.own.shapes ++ shape_of b.past End unit ∷ []) k)) place
      ∙ ap (λ (c : Schedule). replayed_close n (n * slice_count s.params.slicing) (stream_place s n + 13) (outcome_of c (b.own.shapes ++ shape_of b.past End unit ∷ []) (stream_place s n + 13))) st.of
      ∙ ap (λ (l : List UnitShape). replayed_close n (n * slice_count s.params.slicing) (stream_place s n + 13) (outcome_of schedule l (stream_place s n + 13))) list

  abbrev answer : ℕ → Answer Ending
  answer m = record { ending = (close m (m * slice_count s.params.slicing)).ending; text = []; last = (close m (m * slice_count s.params.slicing)).last }

  pub walked : (pictures : List (List (List ℕ))) (b : Between Past Replayed) (n m previous number : ℕ) → previous < 2 ^ 32 → number < 2 ^ 32 → Going s.parts b.past previous number n → AllByRecursion (IsSliced s.parts s.params) pictures
      → (s.parts.coding ≡ 1 → m % 2 ≡ 0) → m ≡ n + length pictures → stream_place s m + 13 ≤ limit → StandsAt n b
      → answer_from (machine command) b (units_behind (written_under s) n previous number pictures) ≡ answer m
  walked [] b n m previous number short fits g sliced even e within st =
      let here : m ≡ n = omega (arith, e) in
      let room : stream_place s n + 13 ≤ limit = subst (λ (k : ℕ). stream_place s k + 13 ≤ limit) here within in
      front_last command quiet (written_under s) f b previous number n short g (λ c. subst (λ (k : ℕ). k % 2 ≡ 0) here (even c)) (omega (arith, st.at, room))
      ∙ ap (λ (x : Close Ending). let a : Answer Ending = record { ending = x.ending; text = []; last = x.last } in a) (finished_is n previous b st)
      ∙ ap answer (sym here)
  walked (slices ∷ pictures) b n m previous number short fits g sliced even e within st =
      let begins = begins_at s.group n in
      let few = unit_small s.params f.params in
      let next : suc n ≡ n + 1 = omega arith in
      let rest = units_behind (written_under s) (n + 1) (unit_length s.params) (number_after number) pictures in
      let all = units_length s f.params (slices ∷ pictures) previous number n m e sliced in
      front_due command quiet (written_under s) f slices sliced.0 number n fits begins b previous rest refl short g (omega (arith, st.at, all, within))
      ∙ walked pictures (behind_due command quiet (written_under s) f begins b previous number slices) (n + 1) m (unit_length s.params) (number_after number) few (omega arith)
      (going_due command quiet (written_under s) f slices sliced.0 number n fits begins b previous refl g) sliced.1 even (omega (arith, e)) within
      (subst (λ (k : ℕ). StandsAt k (behind_due command quiet (written_under s) f begins b previous number slices)) next (stands_next n previous number b slices sliced.0 st))

-- ---- the least schedule runs

plan_runs : (s : Asked) (n : ℕ) → AreLawfulParams s.params → IsRate s.rate → outcome_of (ended_plan s (shapes_at s n) (stream_place s n)) (shapes_at s n ++ plain_shape (stream_place s n) 13 ∷ []) (stream_place s n + 13) ≡ Runs
plan_runs s n f rate =
    let list = shapes_in (shapes_at s n ++ plain_shape (stream_place s n) 13 ∷ []) (stream_place s n + 13) in
    let delay = plan_delay list s.rate s.idle in
    let size = plan_size list s.rate s.idle in
    let course = course_of list s.rate s.idle delay in
    plan_replays list s.rate s.idle delay size (outcome_from course size 0 (count_in list)) (plan_found list s.rate s.idle rate (all_in_turn s f n)) (one_outcome course size (count_in list)).found

-- ---- samples that are read have the shape

rows_fit : (size : Size) (depth : ℕ) (r : SamplesSeen) → AreRows size depth r → AreSamples size depth r
rows_fit size depth r a = record { width = a.width; height = a.height; small = below-all (2 ^ depth) r.cells (positive depth) a.below }

has_shape : (s : Asked) (shape : PictureShape) (p : PictureSamples) → IsShapeOf shape s.parts → IsOfFrame (frame_under s.parts) p → HaveShape shape p
has_shape s shape p is of =
    let g : IsOfFrame (frame_of shape) p = subst (λ (f : Frame). IsOfFrame f p) (sym (frame_is s.parts shape is)) of in
    record {
      luma = rows_fit shape.luma shape.luma_depth p.luma g.luma;
      c1 = rows_fit shape.colour shape.colour_depth p.c1 g.c1;
      c2 = rows_fit shape.colour shape.colour_depth p.c2 g.c2;
    }

pub have_shape : (s : Asked) (shape : PictureShape) (pictures : List PictureSamples) → IsShapeOf shape s.parts → AllByRecursion (IsOfFrame (frame_under s.parts)) pictures → AllByRecursion (HaveShape shape) pictures
have_shape s shape [] is each = tt
have_shape s shape (p ∷ pictures) is each = (has_shape s shape p is each.0, have_shape s shape pictures is each.1)

-- ---- the whole stream

module _ (s : Asked) (pictures : List PictureSamples) (settings : AreSettings s) (may : MayBeWritten s pictures) where
  abbrev shape : PictureShape
  shape = header_shape s.parts settings.lawful.header.passes

  is : IsShapeOf (header_shape s.parts settings.lawful.header.passes) s.parts
  is = header_has s.parts settings.lawful.header.passes

  pub sliced : AllByRecursion (IsSliced s.parts s.params) (map (slices_of (frame_under s.parts) s.params) pictures)
  sliced = all_sliced s.parts s.params shape pictures settings.lawful.params is (steep_for (written_under s) shape is settings.steep) (have_shape s shape pictures is may.each)

  many : length (map (slices_of (frame_under s.parts) s.params) pictures) ≡ length pictures
  many = length-map pictures (slices_of (frame_under s.parts) s.params)

  pub length_is : length (stream_of s pictures) ≡ stream_length s pictures
  length_is =
      let unit = header_unit s.parts in
      let rest = units_behind (written_under s) 0 (header_length s.parts) s.first (map (slices_of (frame_under s.parts) s.params) pictures) in
      let all = units_length s settings.lawful.params (map (slices_of (frame_under s.parts) s.params) pictures) (header_length s.parts) s.first 0 (length pictures) (omega (arith, many)) sliced in
      omega (arith, length-append unit rest, length-header_unit s.parts, place_first s, all)

  -- how `check` comes out over the stream with this outcome
  abbrev told : Outcome → Answer Ending
  told o = let e : Close Ending = replayed_close (length pictures) (length pictures * slice_count s.params.slicing) (stream_place s (length pictures) + 13) o in
      record { ending = e.ending; text = []; last = e.last }

  -- with any schedule
  replays_with : (schedule : Schedule) → reply_of [] (answer_to (replay_machine schedule) (stream_of s pictures))
      ≡ reply_of [] (told (outcome_of schedule (shapes_at s (length pictures) ++ plain_shape (stream_place s (length pictures)) 13 ∷ []) (stream_place s (length pictures) + 13)))
  replays_with schedule =
      let unit = header_unit s.parts in
      let rest = units_behind (written_under s) 0 (header_length s.parts) s.first (map (slices_of (frame_under s.parts) s.params) pictures) in
      let f = settings.lawful in
      let command = replaying schedule in
      let first : Between Past Replayed = record { past = after nothing_yet (Sequence s.parts) unit; own = command.next nothing_yet (nothing_replayed schedule) (Sequence s.parts) unit } in
      let long : length unit ≡ header_length s.parts = length-header_unit s.parts in
      let at_start : Stands s schedule f 0 (stream_place s 0) (shapes_at s 0) first = record {
        at = omega (arith, long, place_first s);
        of = refl;
        pictures = refl;
        slices = omega arith;
        shapes = ap (λ (k : ℕ). plain_shape 0 k ∷ []) long;
      } in
      let walk = walked s schedule f (map (slices_of (frame_under s.parts) s.params) pictures) first 0 (length pictures) (header_length s.parts) s.first (header_small (written_under s) f) f.first (going_start (written_under s) f) sliced may.even (omega (arith, many)) may.stream at_start in
      ap (λ (a : Answer Ending). reply_of [] (before [] a))
      (front_first command (λ z own unit bytes. refl) (written_under s) f (nothing_replayed schedule) rest (omega (arith, length_is, may.stream)) ∙ walk)

  replays : reply_of [] (answer_to (replay_machine (plan_for s pictures)) (stream_of s pictures)) ≡ replayed_reply s pictures
  replays = replays_with (plan_for s pictures) ∙ ap (λ (o : Outcome). reply_of [] (told o)) (plan_runs s (length pictures) settings.lawful.params settings.rate)

-- its numbers are such that words can have
held_low : (total came gone : ℕ) → min total came - gone ≤ total
held_low total came gone = omega arith

plan_has_words : (s : Asked) (pictures : List PictureSamples) → AreSettings s → MayBeWritten s pictures → HasWords (plan_for s pictures)
plan_has_words s pictures settings may =
    let n = length pictures in
    let list = shapes_in (shapes_at s n ++ plain_shape (stream_place s n) 13 ∷ []) (stream_place s n + 13) in
    let in_turn = all_in_turn s settings.lawful.params n in
    let lead = (greatest-is (lead_of list s.rate s.idle) (count_in list)).least (2 ^ 72) (λ k lt. lead_low list s.rate s.idle k in_turn may.stream settings.slots) in
    let held_most = (greatest-is (bytes_held (course_of list s.rate s.idle (plan_delay list s.rate s.idle))) (count_in list)).least (stream_place s n + 13) (λ k lt. held_low _ _ _) in
    record {
      lawful = record { rate = settings.rate; short = omega (arith, ceil_low (greatest (lead_of list s.rate s.idle) (count_in list)) s.rate.num settings.rate.some_bytes, lead) };
      bytes = settings.bytes;
      slots = settings.slots;
      size = omega (arith, held_most, may.stream);
      idle = settings.idle;
    }

pub the_schedule_runs : (s : Asked) (pictures : List PictureSamples) → TheScheduleRuns s pictures
the_schedule_runs s pictures settings may =
    ap (λ (c : Result AskedCommand WordFault). command_reply c (stream_of s pictures)) (line_is_read (plan_for s pictures) (plan_has_words s pictures settings may)).asked
    ∙ replays s pictures settings may

-- ---- and the pictures that are decoded

decoded_texts : (f : Frame) (p : Params) (pictures : List PictureSamples)
    → streams.raw_texts_of (map (λ slices. (f, picture_of f p slices)) (map (slices_of f p) pictures)) ≡ raw_texts f (map (λ x. picture_of f p (slices_of f p x)) pictures)
decoded_texts f p [] = refl
decoded_texts f p (x ∷ pictures) = ap (λ (l : List ℕ). raw_text f (picture_of f p (slices_of f p x)) ++ l) (decoded_texts f p pictures)

-- the pictures among these units
abbrev picture_count : List DataUnit → ℕ
picture_count [] = 0
picture_count (unit ∷ others) = unit_pictures unit + picture_count others

count_found : (es : List Entry) → total unit_pictures es ≡ picture_count (map (λ (e : Entry). e.unit) es)
count_found [] = refl
count_found (x ∷ es) = ap (λ (k : ℕ). unit_pictures x.unit + k) (count_found es)

none_before : (parts : HeaderParts) (begins : Bool) (found : List DataUnit) → picture_count (found_before parts begins ++ found) ≡ picture_count found
none_before parts true found = omega arith
none_before parts false found = refl

count_under : (w : Settings) (position number : ℕ) (found : List (List (List ℕ))) → picture_count (pictures_under w position number found) ≡ length found
count_under w position number [] = refl
count_under w position number (slices ∷ found) =
    none_before w.parts (begins_at w.group position) (Picture w.parts number w.params slices ∷ pictures_under w (position + 1) (number_after number) found)
    ∙ ap (λ (k : ℕ). 1 + k) (count_under w (position + 1) (number_after number) found) ∙ omega arith

count_all : (es : List Entry) (w : Settings) (found : List (List (List ℕ))) → map (λ (e : Entry). e.unit) es ≡ units_of w found → total unit_pictures es ≡ length found
count_all es w found e = count_found es ∙ ap picture_count e ∙ omega (arith, count_under w 0 w.first found)

pub are_decoded : (s : Asked) (pictures : List PictureSamples) → AreDecoded s pictures
are_decoded s pictures settings may =
    let w = written_under s in
    let bytes = stream_of s pictures in
    let found = map (slices_of (frame_under s.parts) s.params) pictures in
    let all = sliced s pictures settings may in
    let long = length_is s pictures settings may in
    let of = encoded_stream w found settings.lawful all (λ c. ap (λ (k : ℕ). k % 2) (length-map pictures (slices_of (frame_under s.parts) s.params)) ∙ may.even c) (omega (arith, long, may.stream)) in
    let shown : streams.pictures_text of.entries ≡ raw_input s (decoded_of s pictures) =
    ap (λ (l : List DataUnit). streams.raw_texts_of (pictures_of l)) of.found ∙ ap streams.raw_texts_of (encoded_pictures w found) ∙ decoded_texts (frame_under s.parts) s.params pictures in
    (is_decoded bytes (encoded_fits w found all)).stream of.entries of.last of.stream
    ∙ ap (λ (l : List ℕ). record (streams.decoded_reply bytes of.entries) { out = l }) shown
    ∙ ap (λ (k : ℕ). record (decoded_reply s pictures) { note = decoded_line k (length bytes) }) (count_all of.entries w found of.found ∙ length-map pictures (slices_of (frame_under s.parts) s.params))
    ∙ ap (λ (k : ℕ). record (decoded_reply s pictures) { note = decoded_line (length pictures) k }) long

-- ---- the line is the least

module _ (s : Asked) (pictures : List PictureSamples) (settings : AreSettings s) (may : MayBeWritten s pictures) where
  abbrev seen : UnitShapesSeen
  seen = shapes_in (shapes_at s (length pictures) ++ plain_shape (stream_place s (length pictures)) 13 ∷ []) (stream_place s (length pictures) + 13)

  is_plan : IsPlan seen s.rate s.idle (plan_for s pictures).delay (plan_for s pictures).size
  is_plan = plan_found seen s.rate s.idle settings.rate (all_in_turn s settings.lawful.params (length pictures))

  not_done : (course : Course) (size n : ℕ) (o : Outcome) → IsOutcome course size n o → (Run course size n → ⊥) → schedule_status (fault_of o) ≡ status.Done → ⊥
  not_done course size n Runs is runs e = runs is
  not_done course size n (Late slot have need) is runs e = absurd cc
  not_done course size n (Overfull slot fill room) is runs e = absurd cc

  runs_not : (delay size : ℕ) → (Run (course_of seen s.rate s.idle delay) size (count_in seen) → ⊥) → RunsNot s pictures delay size
  runs_not delay size runs e =
      let schedule : Schedule = record { rate = s.rate; delay = delay; size = size; idle = s.idle } in
      let course = course_of seen s.rate s.idle delay in
      not_done course size (count_in seen) (outcome_from course size 0 (count_in seen)) (one_outcome course size (count_in seen)).found runs
      (ap (λ (r : Reply). r.status) (sym (replays_with s pictures settings may schedule)) ∙ e)

pub the_line_is_least : (s : Asked) (pictures : List PictureSamples) → TheLineIsLeast s pictures
the_line_is_least s pictures settings may = record {
  no_delay = λ delay size less. runs_not s pictures settings may delay size (λ run. absurd (omega (arith, less, (is_plan s pictures settings may).least delay run.in_time)));
  no_size = λ size less. runs_not s pictures settings may (plan_for s pictures).delay size (λ run. absurd (omega (arith, less, (is_plan s pictures settings may).most.least size run.within)));
}

-- ---- one sequence, at the usual rate

positive_product : (a b : ℕ) → 1 ≤ a → 1 ≤ b → 1 ≤ a * b
positive_product a b f g = grind arith

placed-append : (a b : List UnitShape) (place : ℕ) → units_placed place (a ++ b) ≡ units_placed place a ++ units_placed (place + length_of a) b
placed-append [] b place = ap (λ (k : ℕ). units_placed k b) (omega arith)
placed-append (u ∷ a) b place =
    let at = place + lengths.shape_length u in
    ap (λ (l : List UnitShape). record u { start = place } ∷ l) (placed-append a b at ∙ ap (λ (k : ℕ). units_placed at a ++ units_placed k b) (omega arith))

repeated-more : (n : ℕ) (u : UnitShape) → units_repeated (suc n) (u ∷ []) ≡ units_repeated n (u ∷ []) ++ u ∷ []
repeated-more zero u = refl
repeated-more (suc n) u = ap (λ (l : List UnitShape). u ∷ l) (repeated-more n u)

module _ (s : Asked) (one : s.group ≡ None) where
  abbrev picture : UnitShape
  picture = picture_shape s.params 0

  abbrev units : ℕ → List UnitShape
  units n = repeats.plain (header_length s.parts) ∷ units_repeated n (picture ∷ [])

  units_more : (n : ℕ) → units (suc n) ≡ units n ++ picture ∷ []
  units_more n = ap (λ (l : List UnitShape). repeats.plain (header_length s.parts) ∷ l) (repeated-more n picture)

  none_begins : (n : ℕ) → begins_at s.group n ≡ false
  none_begins n = ap (λ (g : Option ℕ). begins_at g n) one

  place_is : (n : ℕ) → stream_place s n ≡ length_of (units n)
  place_is zero = refl
  place_is (suc n) =
      let next : stream_place s (suc n) ≡ stream_place s n + unit_length s.params =
      place_next s n ∙ ap (λ (b : Bool). stream_place s n + head_bytes_before s.parts b + unit_length s.params) (none_begins n) ∙ omega arith in
      omega (arith, next, place_is n, ap length_of (units_more n), length_of-append (units n) (picture ∷ []), picture_length s.params 0)

  shapes_are : (n : ℕ) → shapes_at s n ≡ units_placed 0 (units n)
  shapes_are zero = refl
  shapes_are (suc n) =
      let place = stream_place s n in
      ap (λ (b : Bool). shapes_at s n ++ due_shapes s.parts s.params b place) (none_begins n)
      ∙ ap (λ (k : ℕ). shapes_at s n ++ picture_shape s.params k ∷ []) (omega (arith, place_is n))
      ∙ ap (λ (l : List UnitShape). l ++ picture_shape s.params (0 + length_of (units n)) ∷ []) (shapes_are n)
      ∙ sym (placed-append (units n) (picture ∷ []) 0)
      ∙ ap (units_placed 0) (sym (units_more n))

  stream_is : (n : ℕ) → shapes_in (shapes_at s n ++ plain_shape (stream_place s n) 13 ∷ []) (stream_place s n + 13) ≡ stream_of_units (sequence (header_length s.parts) 13 picture n)
  stream_is n =
      let place = stream_place s n in
      let all : shapes_at s n ++ plain_shape place 13 ∷ [] ≡ units_placed 0 (units n ++ repeats.plain 13 ∷ []) =
      ap (λ (k : ℕ). shapes_at s n ++ plain_shape k 13 ∷ []) (omega (arith, place_is n))
      ∙ ap (λ (l : List UnitShape). l ++ plain_shape (0 + length_of (units n)) 13 ∷ []) (shapes_are n)
      ∙ sym (placed-append (units n) (repeats.plain 13 ∷ []) 0) in
      let total : place + 13 ≡ length_of (units n ++ repeats.plain 13 ∷ []) = omega (arith, place_is n, length_of-append (units n) (repeats.plain 13 ∷ []), plain_length 0 13) in
      ap (λ (l : List UnitShape). shapes_in l (place + 13)) all ∙ ap (shapes_in (units_placed 0 (units n ++ repeats.plain 13 ∷ []))) total

the_line_from_two : (s : Asked) → AreSettings s → IsUsual s → (n : ℕ) → 2 ≤ n → ended_plan s (shapes_at s n) (stream_place s n) ≡ ended_plan s (shapes_at s 2) (stream_place s 2)
the_line_from_two s settings usual n few =
    let f = settings.lawful.params in
    let p = picture_shape s.params 0 in
    let some : 1 ≤ slice_count s.params.slicing = positive_product s.params.slicing.slices_x s.params.slicing.slices_y f.allowed.slices.some_across f.allowed.slices.some_down in
    let rate : s.rate ≡ record { num = lengths.shape_length p; den = picture_slots p s.idle } =
    usual.rate ∙ ap (λ (k : ℕ). let r : Rate = record { num = k; den = slice_count s.params.slicing + s.idle } in r) (sym (picture_length s.params 0)) in
    let known = (pictures_known (header_length s.parts) 13 p s.idle (picture_allowed s f 0) some).plans in
    let same : (m : ℕ) → ended_plan s (shapes_at s m) (stream_place s m) ≡ plan_of (stream_of_units (sequence (header_length s.parts) 13 p m)) (record { num = lengths.shape_length p; den = picture_slots p s.idle }) s.idle =
    λ m. ap (λ (u : UnitShapesSeen). plan_of u s.rate s.idle) (stream_is s usual.one m) ∙ ap (λ (r : Rate). plan_of (stream_of_units (sequence (header_length s.parts) 13 p m)) r s.idle) rate in
    same n ∙ known.plan n few ∙ sym (same 2)

pub the_line_is_known : (s : Asked) → TheLineIsKnown s
the_line_is_known s settings usual pictures others few fewer = the_line_from_two s settings usual (length pictures) few ∙ sym (the_line_from_two s settings usual (length others) fewer)
