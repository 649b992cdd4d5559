-- Cutting a stream: of some frames a stream of their own. Frames are counted from 0 through the whole stream: a picture is a
-- frame, and of a sequence whose pictures are fields two in a row are. Each sequence with a chosen picture gives its first
-- header, its chosen pictures and an end; their payloads are as they were, their offsets are new. Where no picture is chosen
-- there is one header, the first sequence's, and an end. Repeated headers, auxiliary data and padding are left out.
-- Sequences says so sequence by sequence, of the units that are defined here; the walk over units is for the code, and by the
-- law `cuts_by_sequences` comes to the same.
use Rattle.std.specs.Prelude.{ℕ, zero, suc, ◌+◌, ◌-◌, ◌/◌, ◌&&◌, Bool, List, [], ◌∷◌, ◌++◌, length, drop, Option, Some, None, nat_le, nat_lt, if◌then◌else◌}
use Rattle.parse_info.specs.declared.TheConstants.{HEAD_SIZE}
use Rattle.parse_info.specs.declared.Code.TheVariants.{SequenceHeader, LowDelayPicture}
use Rattle.parse_info.specs.Head.{head_bytes}
use Rattle.slice_geometry.specs.declared.unit_list.UnitShape.{UnitShape}
use Rattle.slice_geometry.specs.Slicing.{slice_count, total_bytes}
use Rattle.run_theory.specs.Walk.{Machine}
use Rattle.run_theory.specs.Fronts.{Between, Close, Command, machine_of}
use Rattle.stream_rows.specs.declared.reason.Reason.{Reason}
use Rattle.stream_rows.specs.Refusals.{Refusal}
use Rattle.stream_rows.specs.Units.{Past, nothing_yet, First, DataUnit, Sequence, Repeated, Picture, Skipped, End, has_fields, after}
use Rattle.stream_rows.specs.Streams.{limit, past_limit, refusal_of}
use Rattle.stream_writer.specs.EncodedStream.{end_unit}
use Rattle.stream_cut.specs.Skim.{skim_grammar}

-- ---- the frames

-- the frames from one to another, which itself isn't one of them
pub record Frames : Type 0 where
  pub from : ℕ
  pub to : ℕ

-- a frame is one of those that are cut out
abbrev pub is_in : Frames → ℕ → Bool
is_in frames frame = nat_le frames.from frame && nat_lt frame frames.to

-- the whole frames of a sequence so far
abbrev pub frames_so_far : Past → ℕ
frames_so_far z = if has_fields z.first then z.pictures / 2 else z.pictures

-- ---- units with other offsets

-- the first unit of a sequence: its previous offset is 0
abbrev pub cut_header_unit : List ℕ → List ℕ
cut_header_unit payload =
    head_bytes (record { code = SequenceHeader; next = HEAD_SIZE + length payload; previous = 0 }) ++ payload

-- the unit of a picture, behind a unit of so many bytes
abbrev pub cut_picture_unit : ℕ → List ℕ → List ℕ
cut_picture_unit previous payload =
    head_bytes (record { code = LowDelayPicture; next = HEAD_SIZE + length payload; previous = previous }) ++ payload

-- Where no picture is chosen, this is the stream.
abbrev pub empty_cut : List ℕ → List ℕ
empty_cut payload = cut_header_unit payload ++ end_unit (HEAD_SIZE + length payload)

-- a unit with its bytes
pub record Piece : Type 0 where
  pub unit : DataUnit
  pub bytes : List ℕ

-- ---- for the code: what the units so far leave to the cut

-- The frames of the sequences that are over; the first sequence's first header; the bytes that were written; and where the
-- sequence has a chosen picture, the length of the unit that was written last.
pub record Cutting : Type 0 where
  pub frames : ℕ
  pub first : Option First
  pub written : ℕ
  pub previous : Option ℕ

-- nothing is written so far
abbrev pub nothing_cut : Cutting
nothing_cut = record { frames = 0; first = None; written = 0; previous = None }

-- the frame of the next picture
abbrev pub frame_now : Past → Cutting → ℕ
frame_now z w = w.frames + frames_so_far z

-- the first header's bytes behind its head
abbrev pub payload_of : Option First → List ℕ
payload_of None = []
payload_of (Some first) = first.payload

-- the header's unit stands before the first chosen picture of its sequence
abbrev pub header_due : Past → Option ℕ → List ℕ
header_due z None = cut_header_unit (payload_of z.first)
header_due z (Some previous) = []

-- the length of the unit before the picture's
abbrev pub length_ahead : Past → Option ℕ → ℕ
length_ahead z None = HEAD_SIZE + length (payload_of z.first)
length_ahead z (Some previous) = previous

-- the end of the sequence, if anything was written
abbrev pub end_due : Option ℕ → List ℕ
end_due None = []
end_due (Some previous) = end_unit previous

-- what a unit of these bytes gives
abbrev pub cut_text : Frames → Past → Cutting → DataUnit → List ℕ → List ℕ
cut_text frames z w (Picture parts number p slices) bytes =
    if is_in frames (frame_now z w)
    then header_due z w.previous ++ cut_picture_unit (length_ahead z w.previous) (drop HEAD_SIZE bytes) else []
cut_text frames z w End bytes = end_due w.previous
cut_text frames z w (Sequence parts) bytes = []
cut_text frames z w Repeated bytes = []
cut_text frames z w Skipped bytes = []

-- the first of two, where there is one
abbrev pub or_else_some : {A : Type 0} → Option A → A → Option A
or_else_some None a = Some a
or_else_some (Some first) a = Some first

-- and what it leaves
abbrev pub cut_next : Frames → Past → Cutting → DataUnit → List ℕ → Cutting
cut_next frames z w (Sequence parts) bytes =
    record w { first = or_else_some w.first (record { parts = parts; payload = drop HEAD_SIZE bytes }) }
cut_next frames z w (Picture parts number p slices) bytes =
    if is_in frames (frame_now z w)
    then record w {
      written = w.written + length (cut_text frames z w (Picture parts number p slices) bytes);
      previous = Some (HEAD_SIZE + length (drop HEAD_SIZE bytes));
    }
    else w
cut_next frames z w End bytes = record {
  frames = frame_now z w;
  first = w.first;
  written = w.written + length (end_due w.previous);
  previous = None;
}
cut_next frames z w Repeated bytes = w
cut_next frames z w Skipped bytes = w

-- What the stream's last unit, an end of sequence, has the cut write: the end of a sequence that was begun; or, where nothing
-- was written, the cut of no frame.
abbrev pub closing_by : Option ℕ → ℕ → Option First → List ℕ
closing_by (Some previous) written first = end_unit previous
closing_by None zero (Some first) = empty_cut first.payload
closing_by None zero None = []
closing_by None (suc n) first = []

-- what is written at the end of the stream
abbrev pub closing : Cutting → List ℕ
closing w = closing_by w.previous w.written w.first

-- ---- the cut of units, by the walk

-- what is settled by units that stand in front of an input, and what they leave to the cut
abbrev pub front_from : Frames → Past → Cutting → List Piece → List ℕ
front_from frames z w [] = []
front_from frames z w (p ∷ pieces) = cut_text frames z w p.unit p.bytes
    ++ front_from frames (after z p.unit p.bytes) (cut_next frames z w p.unit p.bytes) pieces

-- what stands behind so many units
abbrev pub left_from : Frames → Past → Cutting → List Piece → Cutting
left_from frames z w [] = w
left_from frames z w (p ∷ pieces) = left_from frames (after z p.unit p.bytes) (cut_next frames z w p.unit p.bytes) pieces

-- The part of the cut that is settled by these units.
abbrev pub cut_front : Frames → List Piece → List ℕ
cut_front frames pieces = front_from frames nothing_yet nothing_cut pieces

-- The cut of a stream of these units and the end behind them.
abbrev pub cut_of : Frames → List Piece → List ℕ
cut_of frames pieces = cut_front frames pieces ++ closing (left_from frames nothing_yet nothing_cut pieces)

-- ---- the run

-- the shape of the header's unit, where it stands before a chosen picture
abbrev pub header_shapes : Past → ℕ → Option ℕ → List UnitShape
header_shapes z start None = record { start = start; head = HEAD_SIZE + length (payload_of z.first); slices = 0; a = 1; b = 1 } ∷ []
header_shapes z start (Some previous) = []

-- the shape of an end of sequence
abbrev pub end_shapes : ℕ → Option ℕ → List UnitShape
end_shapes start None = []
end_shapes start (Some previous) = record { start = start; head = HEAD_SIZE; slices = 0; a = 1; b = 1 } ∷ []

-- the shapes of what a unit has the cut write
abbrev pub cut_shapes : Frames → Past → Cutting → DataUnit → List ℕ → List UnitShape
cut_shapes frames z w (Picture parts number p slices) bytes =
    if is_in frames (frame_now z w)
    then header_shapes z w.written w.previous ++ record {
      start = w.written + length (header_due z w.previous);
      head = length bytes - total_bytes p.slicing;
      slices = slice_count p.slicing;
      a = p.slicing.a;
      b = p.slicing.b;
    } ∷ [] else []
cut_shapes frames z w End bytes = end_shapes w.written w.previous
cut_shapes frames z w (Sequence parts) bytes = []
cut_shapes frames z w Repeated bytes = []
cut_shapes frames z w Skipped bytes = []

-- those of what is written at the end: an end, or of no frames header and end
abbrev pub closing_shapes_by : Option ℕ → ℕ → Option First → List UnitShape
closing_shapes_by (Some previous) written first = end_shapes written (Some previous)
closing_shapes_by None zero (Some first) =
    record { start = 0; head = HEAD_SIZE + length first.payload; slices = 0; a = 1; b = 1 }
    ∷ record { start = HEAD_SIZE + length first.payload; head = HEAD_SIZE; slices = 0; a = 1; b = 1 } ∷ []
closing_shapes_by None zero None = []
closing_shapes_by None (suc n) first = []

-- the same behind what the units so far leave
abbrev pub closing_shapes : Cutting → List UnitShape
closing_shapes w = closing_shapes_by w.previous w.written w.first

-- what is left to a run: the frames that are chosen, what the units so far leave to the cut, and the units that were written,
-- by their lengths
pub record CutSoFar : Type 0 where
  pub frames : Frames
  pub cut : Cutting
  pub shapes : List UnitShape

-- a cut of these frames, of which nothing is written
abbrev pub no_cut : Frames → CutSoFar
no_cut frames = record { frames = frames; cut = nothing_cut; shapes = [] }

-- how it ends: with the units that were written, and the bytes that they have
pub data CutEnd : Type 0 where
  Whole : List UnitShape → ℕ → CutEnd
  Refused : Refusal → CutEnd

-- the end of a whole cut
abbrev pub whole_cut : CutSoFar → Close CutEnd
whole_cut s = record {
  ending = Whole (s.shapes ++ closing_shapes s.cut) (s.cut.written + length (closing s.cut));
  last = closing s.cut;
}

-- the cut with one unit more
abbrev pub cut_more : Past → CutSoFar → DataUnit → List ℕ → CutSoFar
cut_more z s unit bytes = record {
  frames = s.frames;
  cut = cut_next s.frames z s.cut unit bytes;
  shapes = s.shapes ++ cut_shapes s.frames z s.cut unit bytes;
}

-- cut, as a command over units
abbrev pub cutting : Frames → Command Past Reason DataUnit CutSoFar CutEnd
cutting frames = record {
  opening = [];
  start = no_cut frames;
  next = λ z s unit bytes. cut_more z s unit bytes;
  text = λ z s unit bytes. cut_text s.frames z s.cut unit bytes;
  finished = λ z s unit bytes. whole_cut s;
  rested = λ z s. whole_cut s;
  refused = λ z s fault. record { ending = Refused (refusal_of fault); last = [] };
  endless = Whole [] 0;
}

-- the same as a machine over the units of a skimmed stream
abbrev pub cut_machine : Frames → Machine (Between Past CutSoFar) CutEnd
cut_machine frames = machine_of limit past_limit skim_grammar nothing_yet (cutting frames)
