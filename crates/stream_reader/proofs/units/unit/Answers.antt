use Rattle.std.proofs.Common.{refl}
use Rattle.stream_rows.specs.Units.{payload_rows}
use Rattle.stream_reader.specs.Held.{BeforeSlices}
use Rattle.stream_reader.proofs.UnitTurns.{unit_begun}
use Rattle.stream_reader.proofs.units.unit.Goals as goal

pub returns-in-Err-clause-unit : goal.returns-in-Err-clause-unit
returns-in-Err-clause-unit g c = λ held0 rest0 b.
    let z = c.args.earlier.now in
    c.in-Err.ensures.part (payload_rows z z.first) held0 rest0 (unit_begun b)

pub returns-clause-unit : goal.returns-clause-unit
returns-clause-unit g c = λ held0 rest0 b.
    let z = c.args.earlier.now in
    c.payload.ensures.unit held0 rest0 (c.in-Ok.ensures.part (payload_rows z z.first) held0 rest0 (unit_begun b))

pub returns-in-Err-clause-held : goal.returns-in-Err-clause-held
returns-in-Err-clause-held g c = λ held0 rest0 b. BeforeSlices refl c.head.ensures.held

pub returns-clause-held : goal.returns-clause-held
returns-clause-held g c = λ held0 rest0 b.
    let z = c.args.earlier.now in
    c.payload.ensures.held held0 rest0 (c.in-Ok.ensures.part (payload_rows z z.first) held0 rest0 (unit_begun b))
