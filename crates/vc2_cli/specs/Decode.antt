-- The commands over the units of a stream: `decode` writes their pictures, and `check` counts them.
use Rattle.std.specs.Prelude.{◌≡◌, ◌≤◌, ℕ, ◌+◌, true, List, [], length, ◌++◌, ◌∷◌, Option, Some, None}
use Rattle.slice_geometry.specs.Slicing.{slice_count}
use Rattle.slice_geometry.specs.declared.unit_list.UnitShape.{UnitShape}
use Rattle.slice_geometry.specs.Frames.{frame_of}
use Rattle.picture_codec.specs.Samples.{PictureSeen, picture_of}
use Rattle.raw_video.specs.RawText.{raw_text}
use Rattle.run_theory.specs.Walk.{Machine}
use Rattle.run_theory.specs.Fronts.{Between, Command, machine_of}
use Rattle.stream_rows.specs.declared.reason.Reason.{Reason}
use Rattle.stream_rows.specs.Units.{Past, nothing_yet, DataUnit, Sequence, Repeated, Picture, Skipped, End, units}
use Rattle.stream_rows.specs.Streams.{limit, past_limit, refusal_of, frame_under}
use Rattle.stream_reader.specs.StreamTable.{StreamTableSeen}
use Rattle.stream_reader.specs.declared.stop.Item.{Item}
use Rattle.stream_reader.specs.declared.stop.Item.TheVariants as items
use Rattle.vc2_cli.specs.Endings.{plain_close, accepted_close}
use Rattle.vc2_cli.specs.declared.status.Ending.{Ending}
use Rattle.vc2_cli.specs.declared.status.Ending.TheVariants.{Done, Refused}
use Rattle.vc2_cli.specs.declared.status.Note.TheVariants.{Nothing, Decoded}

-- the raw text of a unit's picture, if it has one
abbrev pub unit_text : DataUnit → List ℕ
unit_text (Sequence parts) = []
unit_text Repeated = []
unit_text (Picture parts number params slices) = raw_text (frame_under parts) (picture_of (frame_under parts) params slices)
unit_text Skipped = []
unit_text End = []

-- the pictures of a unit
abbrev pub unit_pictures : DataUnit → ℕ
unit_pictures (Picture parts number params slices) = 1
unit_pictures (Sequence parts) = 0
unit_pictures Repeated = 0
unit_pictures Skipped = 0
unit_pictures End = 0

-- `decode`, which counts the pictures of all sequences: each picture's raw text, and at the end the number of pictures and of
-- bytes
abbrev pub decoding : Command Past Reason DataUnit ℕ Ending
decoding = record {
  opening = [];
  start = 0;
  next = λ z pictures unit bytes. pictures + unit_pictures unit;
  text = λ z pictures unit bytes. unit_text unit;
  finished = λ z pictures unit bytes. plain_close (Done (Decoded pictures (z.place + length bytes)));
  rested = λ z pictures. plain_close (Done Nothing);
  refused = λ z pictures fault. plain_close (Refused (refusal_of fault));
  endless = Done Nothing;
}

-- the slices of a unit
abbrev pub unit_slices : DataUnit → ℕ
unit_slices (Picture parts number params slices) = slice_count params.slicing
unit_slices (Sequence parts) = 0
unit_slices Repeated = 0
unit_slices Skipped = 0
unit_slices End = 0

-- the pictures and the slices of units
pub record Counts : Type 0 where
  pub pictures : ℕ
  pub slices : ℕ

-- no picture so far
abbrev pub nothing_counted : Counts
nothing_counted = record { pictures = 0; slices = 0 }

-- the counts with one unit more
abbrev pub counts_with : Counts → DataUnit → Counts
counts_with own unit = record { pictures = own.pictures + unit_pictures unit; slices = own.slices + unit_slices unit }

-- `check`, which counts the pictures and slices of all sequences: nothing before the end, and there their numbers and that of
-- bytes
abbrev pub checking : Command Past Reason DataUnit Counts Ending
checking = record {
  opening = [];
  start = nothing_counted;
  next = λ z own unit bytes. counts_with own unit;
  text = λ z own unit bytes. [];
  finished = λ z own unit bytes. accepted_close own.pictures own.slices (z.place + length bytes);
  rested = λ z own. plain_close (Done Nothing);
  refused = λ z own fault. plain_close (Refused (refusal_of fault));
  endless = Done Nothing;
}

-- decode over the units of a stream
abbrev pub decode_machine : Machine (Between Past ℕ) Ending
decode_machine = machine_of limit past_limit units nothing_yet decoding

-- check over the same
abbrev pub check_machine : Machine (Between Past Counts) Ending
check_machine = machine_of limit past_limit units nothing_yet checking

-- ---- for the code

-- the raw text of the picture that is shown, if one is
abbrev pub shown_text : Option PictureSeen → List ℕ
shown_text None = []
shown_text (Some seen) = raw_text (frame_of seen.shape) seen.samples

-- the pictures that an item tells
abbrev pub pictures_told : Item → ℕ
pictures_told (items.Picture number) = 1
pictures_told other = 0

-- so many slices has the last of these units
abbrev pub IsLastCount : List UnitShape → ℕ → Type 0
IsLastCount shapes count = (before : List UnitShape) (last : UnitShape) → shapes ≡ before ++ last ∷ [] → count ≡ last.slices

-- no more pictures and slices than bytes
pub record KeepsFew (pictures slices : ℕ) (table : StreamTableSeen) : Type 0 where
  pub pictures_few : pictures ≤ table.past.place
  pub slices_few : slices ≤ table.past.place

-- no more pictures than bytes, by a table that makes them
pub record KeepsPictures (pictures : ℕ) (table : StreamTableSeen) : Type 0 where
  pub few : pictures ≤ table.past.place
  pub makes : table.makes_pictures ≡ true
