-- Pieces of a stream's units are pieces of skimmed units: both have the same reasons.
use Rattle.std.specs.Prelude.{ℕ, List}
use Rattle.field_rows.specs.Rows.{Rows}
use Rattle.run_theory.specs.Begun.{Moves}
use Rattle.stream_rows.specs.declared.reason.Reason.{Reason}
use Rattle.stream_rows.specs.Units.{DataUnit, units}
use Rattle.stream_cut.specs.Skim.{skim_grammar}

pub skims : {left others : Rows Reason DataUnit} {at : ℕ} {piece : List ℕ} → Moves units left at piece others → Moves skim_grammar left at piece others
skims m = record { moves = m.moves }
