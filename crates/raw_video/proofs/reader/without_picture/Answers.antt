use Rattle.std.proofs.Common.{subst, arith}
use Rattle.std.proofs.lemmas.Grind.{common_steps}
use Rattle.raw_video.specs.Reading.{FoundByte}
use Rattle.raw_video.proofs.Fronts.{read_past}
use Rattle.raw_video.proofs.reader.without_picture.Goals as goal

pub returns-in-Ok-true-clause-front : goal.returns-in-Ok-true-clause-front
returns-in-Ok-true-clause-front g c f rest cells samples r =
    let found = subst (FoundByte (g.S.Source.rest c.args.src.now) (g.S.Source.rest c.has_byte.new.src)) c.in-Ok-true.field-0-test c.in-Ok-true.ensures.ok in
    read_past f c.args.place (omega (arith, c.requires)) rest (g.S.Source.rest c.args.src.now) cells samples c.args.came r (g.S.Source.rest c.has_byte.new.src) found.0 c.if-place-came-eq-INPUT_LIMIT.true found.1

pub returns-in-Err-clause-front : goal.returns-in-Err-clause-front
returns-in-Err-clause-front c = grind (arith, common_steps)

pub returns-else-came-eq0-clause-front : goal.returns-else-came-eq0-clause-front
returns-else-came-eq0-clause-front c = grind (arith, common_steps)

pub returns-else-came-eq0-clause-cause : goal.returns-else-came-eq0-clause-cause
returns-else-came-eq0-clause-cause c = grind (arith, common_steps)

pub returns-then-came-eq0-clause-front : goal.returns-then-came-eq0-clause-front
returns-then-came-eq0-clause-front c = grind (arith, common_steps)

pub returns-in-Ok-true-clause-cause : goal.returns-in-Ok-true-clause-cause
returns-in-Ok-true-clause-cause c = grind (arith, common_steps)

pub returns-then-came-eq0-clause-cause : goal.returns-then-came-eq0-clause-cause
returns-then-came-eq0-clause-cause c = grind (arith, common_steps)

pub returns-in-Err-clause-cause : goal.returns-in-Err-clause-cause
returns-in-Err-clause-cause c = grind (arith, common_steps)
