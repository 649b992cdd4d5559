-- The command `frames`: the frames of a stream. Fields are woven, two and two, and other pictures are frames.
use Rattle.std.specs.Prelude.{◌≡◌, ◌≤◌, ◌==◌, ℕ, ◌+◌, Bool, true, false, List, [], length, Option, Some, None}
use Rattle.slice_geometry.specs.Frames.{Frame, frame_of}
use Rattle.sequence_header.specs.declared.parts.HeaderParts.{HeaderParts}
use Rattle.picture_codec.specs.Samples.{PictureSamples, PictureSeen, picture_of}
use Rattle.raw_video.specs.RawText.{raw_text}
use Rattle.run_theory.specs.Walk.{Machine}
use Rattle.run_theory.specs.Fronts.{Between, Command, machine_of}
use Rattle.stream_rows.specs.declared.reason.Reason.{Reason}
use Rattle.stream_rows.specs.Units.{Past, First, nothing_yet, DataUnit, Sequence, Repeated, Picture, Skipped, End, units}
use Rattle.stream_rows.specs.Streams.{limit, past_limit, refusal_of, frame_under}
use Rattle.stream_reader.specs.StreamTable.{StreamTableSeen}
use Rattle.field_weave.specs.declared.Order.{Order}
use Rattle.field_weave.specs.declared.Order.TheVariants.{Top}
use Rattle.field_weave.specs.Weaving.{frame_of_two, split}
use Rattle.field_weave.specs.WeaveRuns.{field_text}
use Rattle.vc2_cli.specs.Endings.{plain_close}
use Rattle.vc2_cli.specs.declared.status.Ending.{Ending}
use Rattle.vc2_cli.specs.declared.status.Ending.TheVariants.{Done, Refused}
use Rattle.vc2_cli.specs.declared.status.Note.TheVariants.{Nothing, Framed}

-- the pictures under a header are fields
abbrev pub are_fields : HeaderParts → Bool
are_fields parts = parts.coding == 1

-- the order that was asked for; how many frames there were so far, and the first field of the next one
pub record FramesSoFar : Type 0 where
  pub order : Order
  pub frames : ℕ
  pub first : Option PictureSamples

-- no frame so far
abbrev pub no_frames : Order → FramesSoFar
no_frames order = record { order = order; frames = 0; first = None }

-- ---- a picture

-- what it leaves, by the first field of its frame
abbrev pub frames_more : FramesSoFar → (fields : Bool) → PictureSamples → Option PictureSamples → FramesSoFar
frames_more own false p first = record own { frames = own.frames + 1 }
frames_more own true p None = record own { first = Some p }
frames_more own true p (Some first) = record own { frames = own.frames + 1; first = None }

-- a frame's text is its own, and a second field's is its frame's
abbrev pub frame_text : Order → Frame → (fields : Bool) → PictureSamples → Option PictureSamples → List ℕ
frame_text order f false p first = raw_text f p
frame_text order f true p first = field_text order f p first

-- ---- a unit

-- A sequence begins with no field: one that ends behind half a frame was refused.
abbrev pub frames_after : FramesSoFar → DataUnit → FramesSoFar
frames_after own (Sequence parts) = record own { first = None }
frames_after own (Picture parts number params slices) =
    frames_more own (are_fields parts) (picture_of (frame_under parts) params slices) own.first
frames_after own Repeated = own
frames_after own Skipped = own
frames_after own End = own

-- the frame that a unit completes
abbrev pub frames_text : FramesSoFar → DataUnit → List ℕ
frames_text own (Picture parts number params slices) =
    frame_text own.order (frame_under parts) (are_fields parts) (picture_of (frame_under parts) params slices) own.first
frames_text own (Sequence parts) = []
frames_text own Repeated = []
frames_text own Skipped = []
frames_text own End = []

-- frames: two fields as one frame
abbrev pub framing : Order → Command Past Reason DataUnit FramesSoFar Ending
framing order = record {
  opening = [];
  start = no_frames order;
  next = λ z own unit bytes. frames_after own unit;
  text = λ z own unit bytes. frames_text own unit;
  finished = λ z own unit bytes. plain_close (Done (Framed own.frames (z.place + length bytes)));
  rested = λ z own. plain_close (Done Nothing);
  refused = λ z own fault. plain_close (Refused (refusal_of fault));
  endless = Done Nothing;
}

-- frames over the units of a stream
abbrev pub frames_machine : Order → Machine (Between Past FramesSoFar) Ending
frames_machine order = machine_of limit past_limit units nothing_yet (framing order)

-- ---- for the code

-- the command but for its order, which what it begins with has
abbrev pub framing_any : Command Past Reason DataUnit FramesSoFar Ending
framing_any = framing Top

-- the first field of the frame that was begun
abbrev pub first_in : Order → (begun : Bool) → Option PictureSeen → Option HeaderParts → Option PictureSamples
first_in order true (Some frame) (Some parts) = Some (split order (frame_under parts) false frame.samples)
first_in order true frame header = None
first_in order false frame header = None

-- the frame of fields under this header
abbrev pub IsFrameFor : HeaderParts → Option PictureSeen → Type 0
IsFrameFor parts frame = are_fields parts ≡ true
    → (seen : PictureSeen) × (frame ≡ Some seen) × (frame_of seen.shape ≡ frame_of_two (frame_under parts))

-- behind the units so far: no more frames than bytes; and the sequence's header is the one that was read last, with a frame
-- for its fields
pub record KeepsFrame (written : ℕ) (held : Option PictureSeen) (table : StreamTableSeen) : Type 0 where
  pub few : written ≤ table.past.place
  pub makes : table.makes_pictures ≡ true
  pub header : (first : First) → table.past.first ≡ Some first → table.header ≡ Some first.parts
  pub frame : (first : First) → table.past.first ≡ Some first → IsFrameFor first.parts held
