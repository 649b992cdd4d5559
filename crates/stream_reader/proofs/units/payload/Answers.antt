use Rattle.std.proofs.Common.{refl, arith}
use Rattle.std.proofs.lemmas.Grind.{common_steps}
use Rattle.stream_rows.specs.Units.{End}
use Rattle.stream_reader.proofs.PartTurns.{takes}
use Rattle.stream_reader.specs.Turns.{IsFound, IsShown}
use Rattle.stream_reader.specs.declared.parts.Found.TheVariants as founds
use Rattle.stream_reader.proofs.UnitTurns.{along, takes_such, rows_first, rows_repeated, rows_picture, rows_skipped, rows_end}
use Rattle.stream_reader.specs.Held.{BeforeSlices}
use Rattle.stream_reader.proofs.units.payload.Goals as goal

pub returns-in-Ok-clause-unit : goal.returns-in-Ok-clause-unit
returns-in-Ok-clause-unit g c = λ held0 rest0 b. c.in-Ok.ensures.unit held0 rest0 (along _ _ (rows_first c.args.earlier.now c.args.earlier.now.first c.args.info (c.in_default.ensures.none.0 refl)) b)

pub returns-in-Err-clause-unit : goal.returns-in-Err-clause-unit
returns-in-Err-clause-unit g c = λ held0 rest0 b. c.in-Err.ensures.unit held0 rest0 (along _ _ (rows_first c.args.earlier.now c.args.earlier.now.first c.args.info (c.in_default.ensures.none.0 refl)) b)

pub returns-in-Ok-repeated-clause-unit : goal.returns-in-Ok-repeated-clause-unit
returns-in-Ok-repeated-clause-unit g c = λ held0 rest0 b. c.in-Ok-repeated.ensures.unit held0 rest0 (along _ _ (rows_repeated c.args.earlier.now c.args.earlier.now.first c.in-Some.first.now c.args.info c.in-Some.ensures.some c.in-SequenceHeader.is) b)

pub returns-in-Err-repeated-clause-unit : goal.returns-in-Err-repeated-clause-unit
returns-in-Err-repeated-clause-unit g c = λ held0 rest0 b. c.in-Err-repeated.ensures.unit held0 rest0 (along _ _ (rows_repeated c.args.earlier.now c.args.earlier.now.first c.in-Some.first.now c.args.info c.in-Some.ensures.some c.in-SequenceHeader.is) b)

pub returns-in-Ok-picture-clause-unit : goal.returns-in-Ok-picture-clause-unit
returns-in-Ok-picture-clause-unit g c = λ held0 rest0 b.
    takes_such (IsShown c.in-Some.first.now.parts c.in-Ok-picture.shown) (IsFound c.args.earlier.now (founds.Picture c.in-Ok-picture.shown)) (λ unit bytes h. (c.in-Some.first.now, c.in-Some.ensures.some, h))
    (c.in-Ok-picture.ensures.unit held0 rest0 (along _ _ (rows_picture c.args.earlier.now c.args.earlier.now.first c.in-Some.first.now c.args.info c.in-Some.ensures.some c.in-LowDelayPicture.is) b))

pub returns-in-Err-picture-clause-unit : goal.returns-in-Err-picture-clause-unit
returns-in-Err-picture-clause-unit g c = λ held0 rest0 b. c.in-Err-picture.ensures.unit held0 rest0 (along _ _ (rows_picture c.args.earlier.now c.args.earlier.now.first c.in-Some.first.now c.args.info c.in-Some.ensures.some c.in-LowDelayPicture.is) b)

pub returns-in-Ok-skipped-clause-unit : goal.returns-in-Ok-skipped-clause-unit
returns-in-Ok-skipped-clause-unit g c = λ held0 rest0 b. c.in-Ok-skipped.ensures.unit held0 rest0 (along _ _ (rows_skipped c.args.earlier.now c.args.earlier.now.first c.in-Some.first.now c.args.info c.in-Some.ensures.some c.in-Auxiliary.is) b)

pub returns-in-Err-skipped-clause-unit : goal.returns-in-Err-skipped-clause-unit
returns-in-Err-skipped-clause-unit g c = λ held0 rest0 b. c.in-Err-skipped.ensures.unit held0 rest0 (along _ _ (rows_skipped c.args.earlier.now c.args.earlier.now.first c.in-Some.first.now c.args.info c.in-Some.ensures.some c.in-Auxiliary.is) b)

pub returns-in-EndOfSequence-clause-unit : goal.returns-in-EndOfSequence-clause-unit
returns-in-EndOfSequence-clause-unit g c = λ held0 rest0 b.
    takes c.args.window.now.room (IsFound c.args.earlier.now founds.End) End (along _ _ (rows_end c.args.earlier.now c.args.earlier.now.first c.in-Some.first.now c.args.info c.in-Some.ensures.some c.in-EndOfSequence.is) b) (omega (arith, c.requires.place)) (omega arith) (λ bytes at. refl)

pub returns-in-Err-clause-held : goal.returns-in-Err-clause-held
returns-in-Err-clause-held g c = λ held0 rest0 b. BeforeSlices refl c.first_header.ensures.held

pub returns-in-Err-repeated-clause-held : goal.returns-in-Err-repeated-clause-held
returns-in-Err-repeated-clause-held g c = λ held0 rest0 b. BeforeSlices refl c.repeated.ensures.held

pub returns-in-Err-skipped-clause-held : goal.returns-in-Err-skipped-clause-held
returns-in-Err-skipped-clause-held g c = λ held0 rest0 b. BeforeSlices refl c.in-Err-skipped.ensures.held

pub returns-in-Err-picture-clause-held : goal.returns-in-Err-picture-clause-held
returns-in-Err-picture-clause-held g c = λ held0 rest0 b. c.in-Err-picture.ensures.held held0 rest0 (along _ _ (rows_picture c.args.earlier.now c.args.earlier.now.first c.in-Some.first.now c.args.info c.in-Some.ensures.some c.in-LowDelayPicture.is) b)

pub returns-in-EndOfSequence-clause-held : goal.returns-in-EndOfSequence-clause-held
returns-in-EndOfSequence-clause-held g c = λ held0 rest0 b. refl

pub returns-in-Err-skipped-clause-cause : goal.returns-in-Err-skipped-clause-cause
returns-in-Err-skipped-clause-cause c = grind (arith, common_steps)

pub returns-in-Err-picture-clause-cause : goal.returns-in-Err-picture-clause-cause
returns-in-Err-picture-clause-cause c = grind (arith, common_steps)

pub returns-in-Ok-skipped-clause-cause : goal.returns-in-Ok-skipped-clause-cause
returns-in-Ok-skipped-clause-cause c = grind (arith, common_steps)

pub returns-in-Err-clause-cause : goal.returns-in-Err-clause-cause
returns-in-Err-clause-cause c = grind (arith, common_steps)

pub returns-in-Ok-picture-clause-cause : goal.returns-in-Ok-picture-clause-cause
returns-in-Ok-picture-clause-cause c = grind (arith, common_steps)

pub returns-in-Err-repeated-clause-cause : goal.returns-in-Err-repeated-clause-cause
returns-in-Err-repeated-clause-cause c = grind (arith, common_steps)

pub returns-in-Ok-repeated-clause-cause : goal.returns-in-Ok-repeated-clause-cause
returns-in-Ok-repeated-clause-cause c = grind (arith, common_steps)
