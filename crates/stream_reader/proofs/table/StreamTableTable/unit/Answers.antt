use Rattle.std.proofs.Common.{refl, sym, subst, arith}
use Rattle.std.proofs.lemmas.Grind.{common_steps}
use Rattle.run_theory.specs.Begun.{Begun}
use Rattle.unit_reader.specs.declared.stop.ReadStop.TheVariants as stops
use Rattle.unit_reader.specs.Reading.{UnitOver}
use Rattle.unit_reader.proofs.Stopping.{stops_due}
use Rattle.stream_rows.specs.Units.{units}
use Rattle.stream_reader.specs.Held.{BeforeSlices}
use Rattle.stream_reader.specs.StreamTable.{StreamTableSeen, IsFoundBy, StopsTable}
use Rattle.stream_reader.proofs.ReaderTurns.{unit_over}
use Rattle.stream_reader.proofs.table.StreamTableTable.unit.Goals as goal

pub returns-in-Err-clause-unit : goal.returns-in-Err-clause-unit
returns-in-Err-clause-unit g c = λ held0 rest0 b.
    let new : StreamTableSeen = record { makes_pictures = c.self.inside.makes_pictures; past = c.self.inside.earlier; header = c.self.inside.header; shapes = c.reserve.new.self; decoder = c.self.inside.decoder } in (
      stops_due c.args.window.now.room b c.requires.place,
      subst (λ (t : StreamTableSeen). StopsTable t new held0 rest0 c.args.window.now.held stops.NoMemory) c.self.view_is (record { makes = refl; header = refl; shapes = c.reserve.ensures.units; held = BeforeSlices refl (omega (arith, c.requires.few)) }),
    )

pub returns-clause-unit : goal.returns-clause-unit
returns-clause-unit g c = λ held0 rest0 b.
    let rest = g.S.Source.rest in
    let old : StreamTableSeen = record { makes_pictures = c.self.inside.makes_pictures; past = c.self.inside.earlier; header = c.self.inside.header; shapes = c.self.inside.shapes; decoder = c.self.inside.decoder } in
    let new : StreamTableSeen = record { makes_pictures = c.self.inside.makes_pictures; past = c.self.inside.earlier; header = c.self.inside.header; shapes = c.reserve.new.self; decoder = c.unit.new.kept } in
    let begun = subst (λ (t : StreamTableSeen). Begun units t.past held0 rest0 (rest c.args.src.now) t.past.place c.args.window.now.held ((units).rows t.past)) (sym c.self.view_is) b in
    subst (λ (t : StreamTableSeen). UnitOver units (IsFoundBy t new) (StopsTable t new) t.past held0 rest0 (rest c.unit.new.src) c.unit.new.window c.unit.result) c.self.view_is
    (unit_over old new held0 rest0 (rest c.unit.new.src) c.unit.new.window c.unit.result refl refl refl c.reserve.ensures.units c.in-Ok.ensures.room
    (c.unit.ensures.unit held0 rest0 begun) (c.unit.ensures.held held0 rest0 begun))

pub reserve-requires-clause-some : goal.reserve-requires-clause-some
reserve-requires-clause-some c = omega arith

pub returns-clause-cause : goal.returns-clause-cause
returns-clause-cause c = grind (arith, common_steps)
