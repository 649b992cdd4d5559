-- How a unit of a stream stops, outside its rows and at the limit.
use Rattle.std.proofs.Common.{◌≡◌, ◌≤◌, ℕ, List, length, Option, refl, sym, ap, ◌∙◌, arith}
use Rattle.vc2_io.specs.declared.TheConstants.{READ_SIZE}
use Rattle.run_theory.specs.Grammar.{Inner, Final}
use Rattle.stream_rows.specs.declared.reason.Reason.{Reason}
use Rattle.stream_rows.specs.Units.{DataUnit, unit_behind}
use Rattle.run_theory.specs.declared.refusal.Refusal.{Refusal}
use Rattle.unit_reader.specs.declared.stop.ReadStop.{ReadStop}
use Rattle.unit_reader.specs.declared.stop.ReadStop.TheVariants as stops
use Rattle.picture_codec.specs.Decoding.{PictureDecoderSeen}
use Rattle.stream_rows.specs.Units.{Past}
use Rattle.stream_reader.specs.declared.parts.Found.{Found}
use Rattle.stream_reader.specs.declared.parts.Found.TheVariants as founds
use Rattle.stream_reader.specs.Held.{StopsHeld, BeforeSlices, InSlices, NoDecoder}
use Rattle.stream_reader.specs.StreamTable.{StreamTableSeen, IsFoundBy, StopsTable}

-- a stop before anything of the unit was read leaves the table
pub stops_before : (table : StreamTableSeen) (held0 : List ℕ) (rest0 : Option (List ℕ)) (held : List ℕ) (stop : ReadStop Reason) → length held ≤ READ_SIZE → StopsTable table table held0 rest0 held stop
stops_before table held0 rest0 held stop few = record { makes = refl; header = refl; shapes = refl; held = BeforeSlices refl (omega (arith, few)) }

-- a unit that is refused, whatever it is refused for
held_otherwise : (z : Past) (held0 : List ℕ) (rest0 : Option (List ℕ)) (old new : Option PictureDecoderSeen) (held : List ℕ) (refusal : Refusal Reason) (stop : ReadStop Reason) → StopsHeld z held0 rest0 old new held (stops.Refused refusal) → StopsHeld z held0 rest0 old new held stop
held_otherwise z held0 rest0 old new held refusal stop (BeforeSlices same few) = BeforeSlices same few
held_otherwise z held0 rest0 old new held refusal stop (InSlices p reads d is same few) = InSlices p reads d is same few
held_otherwise z held0 rest0 old new held refusal stop (NoDecoder want none few) = absurd cc

-- What holds where a unit is refused holds at any other stop there.
pub stops_otherwise : (before now : StreamTableSeen) (held0 : List ℕ) (rest0 : Option (List ℕ)) (held : List ℕ) (refusal : Refusal Reason) (stop : ReadStop Reason) → StopsTable before now held0 rest0 held (stops.Refused refusal) → StopsTable before now held0 rest0 held stop
stops_otherwise before now held0 rest0 held refusal stop h = record { makes = h.makes; header = h.header; shapes = h.shapes; held = held_otherwise before.past held0 rest0 before.decoder now.decoder held refusal stop h.held }

-- a stop behind the last unit
pub stops_behind : (before now : StreamTableSeen) (found : Found) (unit : DataUnit) (bytes : List ℕ) (held0 : List ℕ) (rest0 : Option (List ℕ)) (held : List ℕ) (stop : ReadStop Reason)
    → IsFoundBy before now found unit bytes → unit_behind unit ≡ Final → length held ≤ READ_SIZE → StopsTable before now held0 rest0 held stop
stops_behind before now (founds.Sequence first) unit bytes held0 rest0 held stop is final few = record { makes = is.makes; header = is.header; shapes = is.shapes; held = BeforeSlices is.kept (omega (arith, few)) }
stops_behind before now founds.Repeated unit bytes held0 rest0 held stop is final few = record { makes = is.makes; header = is.header; shapes = is.shapes; held = BeforeSlices is.kept (omega (arith, few)) }
stops_behind before now (founds.Picture shown) unit bytes held0 rest0 held stop is final few = absurd (let clash : Inner ≡ Final = sym (ap unit_behind is.is_read.0.2.is_picture) ∙ final in cc)
stops_behind before now founds.Skipped unit bytes held0 rest0 held stop is final few = record { makes = is.makes; header = is.header; shapes = is.shapes; held = BeforeSlices is.kept (omega (arith, few)) }
stops_behind before now founds.End unit bytes held0 rest0 held stop is final few = record { makes = is.makes; header = is.header; shapes = is.shapes; held = BeforeSlices is.kept (omega (arith, few)) }
