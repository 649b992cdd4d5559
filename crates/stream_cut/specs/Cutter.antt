-- The cutter: what it is asked for, and what a cut leaves.
use Rattle.std.specs.Prelude.{◌≡◌, ◌≤◌, ℕ, ◌+◌, Bool, true, List, [], length, Option, Some, None, Result, Ok, Err}
use Rattle.parse_info.specs.declared.TheConstants.{HEAD_SIZE}
use Rattle.slice_geometry.specs.declared.unit_list.UnitShape.{UnitShape}
use Rattle.run_theory.specs.declared.Halt.{Halt}
use Rattle.run_theory.specs.declared.Halt.TheVariants as halts
use Rattle.stream_rows.specs.Refusals.{Refusal}
use Rattle.stream_rows.specs.Units.{First, is_truncated}
use Rattle.stream_cut.specs.Cut.{Frames, CutEnd, Whole, Refused, CutSoFar, frames_so_far}
use Rattle.stream_cut.specs.SkimTable.{SkimTableSeen}
use Rattle.stream_cut.specs.declared.cutter.CutStop.{CutStop}
use Rattle.stream_cut.specs.declared.cutter.CutRun.{CutRun}
use Rattle.stream_cut.specs.declared.cutter.CutStop.TheVariants as stops

-- What is seen of it: the frames that are chosen, the units that were written and their bytes, and whether it has cut.
pub record CutterSeen : Type 0 where
  pub frames : Frames
  pub shapes : List UnitShape
  pub total : ℕ
  pub has_cut : Bool

-- a cutter that has cut nothing yet
pub record IsNewCutter (frames : Frames) (cutter : CutterSeen) : Type 0 where
  pub frames_are : cutter.frames ≡ frames
  pub shapes : cutter.shapes ≡ []
  pub total : cutter.total ≡ 0

-- how the run of a cut came out, of which these units were written
abbrev pub run_of : {X : Type 0} → List UnitShape → ℕ → Result X CutStop → Result CutEnd Halt
run_of shapes total (Ok x) = Ok (Whole shapes total)
run_of shapes total (Err (stops.Refused refusal)) = Ok (Refused refusal)
run_of shapes total (Err stops.ReadFault) = Err halts.ReadFault
run_of shapes total (Err stops.OutFault) = Err halts.OutFault
run_of shapes total (Err stops.NoMemory) = Err halts.NoMemory

-- the input was read to its end
abbrev pub IsCutToTheEnd : CutEnd → Type 0
IsCutToTheEnd (Whole shapes total) = Unit {0}
IsCutToTheEnd (Refused refusal) = ⊥

-- more bytes may still change it
abbrev pub MayGoOn : CutEnd → Type 0
MayGoOn (Whole shapes total) = Unit {0}
MayGoOn (Refused refusal) = is_truncated refusal.reason ≡ true

-- ---- for the code

-- how it ends, by the units that were written and the refusal, if there is one
abbrev pub end_of_cut : List UnitShape → ℕ → Option Refusal → CutEnd
end_of_cut shapes total None = Whole shapes total
end_of_cut shapes total (Some refusal) = Refused refusal

-- what it leaves, by its fields
abbrev pub own_of : CutRun → CutSoFar
own_of c = record {
  frames = record { from = c.from; to = c.to };
  cut = record { frames = c.frames; first = c.first; written = c.shapes.total; previous = c.previous };
  shapes = c.shapes.units;
}

-- the bytes of the header that is due with the first chosen picture of the sequence
abbrev pub pending : Option First → Option ℕ → ℕ
pending (Some first) None = HEAD_SIZE + length first.payload
pending (Some first) (Some previous) = 0
pending None previous = 0

-- Behind the units so far: the frames of the sequence are counted, no more than bytes; and what was written, with the header
-- that is due, is no longer than what was read.
pub record KeepsCut (so_far : ℕ) (own : CutSoFar) (table : SkimTableSeen) : Type 0 where
  pub counted : so_far ≡ frames_so_far table.past
  pub few : own.cut.frames + table.past.pictures ≤ table.past.place
  pub due : own.cut.written + pending table.past.first own.cut.previous ≤ table.past.place
