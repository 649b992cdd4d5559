-- What `check` with a schedule replies to a stream, and to an input that is refused.
use Rattle.std.specs.Prelude.{◌≡◌, ℕ, List, [], ◌∷◌, ◌++◌, length, Some, Ok}
use Rattle.bit_codes.specs.Bits.{Cursor, cursor_at}
use Rattle.slice_geometry.specs.declared.unit_list.UnitShape.{UnitShape}
use Rattle.channel_schedule.specs.declared.schedule.Schedule.{Schedule}
use Rattle.channel_schedule.specs.declared.schedule.Outcome.{Outcome}
use Rattle.channel_schedule.specs.Courses.{course_of, count_in, IsOutcome}
use Rattle.stream_rows.specs.Refusals.{Refusal}
use Rattle.stream_rows.specs.Units.{Past, nothing_yet, after}
use Rattle.stream_rows.specs.Streams.{bytes_between, Entry, total, Units, IsStream, IsRefusal}
use Rattle.stream_reader.specs.Turns.{shape_of}
use Rattle.vc2_words.specs.Commands.{check}
use Rattle.vc2_cli.specs.Texts.{replayed_lines}
use Rattle.vc2_cli.specs.Decode.{unit_pictures, unit_slices}
use Rattle.vc2_cli.specs.Scheduled.{shapes_in}
use Rattle.vc2_cli.specs.Reply.{Reply, fault_of, schedule_status, schedule_note, command_reply}
use Rattle.vc2_cli.specs.StreamReplies.{refused_reply}

-- the shapes of units that stand one after another, each between two cursors
abbrev pub shapes_over : (z : Past) (c : Cursor) (es : List Entry) (z' : Past) (c' : Cursor) → Units z c es z' c' → List UnitShape
shapes_over z c [] z' c' stand = []
shapes_over z c (e ∷ es) z' c' stand = let bytes = bytes_between c stand.0 in
    shape_of z e.unit bytes ∷ shapes_over (after z e.unit bytes) stand.0 es z' c' stand.3

-- those of all units of a stream
abbrev pub shapes_of : (bytes : List ℕ) (es : List Entry) (last : Entry) → IsStream bytes es last → List UnitShape
shapes_of bytes es last is = let s = is.stream in shapes_over nothing_yet (cursor_at bytes 0) es s.left s.mid s.units
    ++ shape_of s.left last.unit (bytes_between s.mid s.behind) ∷ []

-- the schedule comes to this over units of these shapes, which have so many bytes
abbrev pub ComesTo : Schedule → List UnitShape → ℕ → Outcome → Type 0
ComesTo schedule units size outcome = let shapes = shapes_in units size in
    IsOutcome (course_of shapes schedule.rate schedule.idle schedule.delay) schedule.size (count_in shapes) outcome

-- the counts, and that the schedule runs, or its first fault
abbrev pub scheduled_reply : List ℕ → List Entry → Outcome → Reply
scheduled_reply bytes units outcome = record {
  status = schedule_status (fault_of outcome);
  rest = [];
  out = replayed_lines (total unit_pictures units) (total unit_slices units) (length bytes) outcome;
  note = schedule_note (fault_of outcome);
}

-- Of a stream it is told what the schedule comes to over its units; an input that is refused has no text.
pub record IsScheduled (schedule : Schedule) (bytes : List ℕ) : Type 0 where
  pub stream : (units : List Entry) (last : Entry) (is : IsStream bytes units last) (outcome : Outcome)
      → ComesTo schedule (shapes_of bytes units last is) (length bytes) outcome
      → command_reply (Ok (check (Some schedule))) bytes ≡ scheduled_reply bytes units outcome
  pub refusal : (refusal : Refusal) → IsRefusal bytes refusal
      → command_reply (Ok (check (Some schedule))) bytes ≡ refused_reply [] refusal
