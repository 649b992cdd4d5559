use Rattle.std.proofs.Common.{arith}
use Rattle.std.proofs.lemmas.Grind.{common_steps}
use Rattle.std.proofs.lemmas.Int.{ints}
use Rattle.lifting.proofs.Levels.{lower_levels_fit}
use Rattle.lifting.proofs.synthesis_samples.synth_samples_of.Goals as goal

pub sample_only-requires-clause-sizes : goal.sample_only-requires-clause-sizes
sample_only-requires-clause-sizes g c = grind (ints, arith, common_steps)

pub synth_levels_of-requires-clause-room : goal.synth_levels_of-requires-clause-room
synth_levels_of-requires-clause-room G c =
    lower_levels_fit c.args.bands.now c.args.plane.now c.args.scratch.now c.args.size.w c.args.size.h c.requires.room (omega (arith, c.depth.ensures.value, c.if-depth-eq0.false)) _ (omega (arith, c.depth-else-depth-eq0.ensures.value))

pub synth_last-requires-clause-room : goal.synth_last-requires-clause-room
synth_last-requires-clause-room g c = grind (ints, arith, common_steps)

pub synth_last-requires-clause-has_room : goal.synth_last-requires-clause-has_room
synth_last-requires-clause-has_room g c = grind (ints, arith, common_steps)

pub synth_last-requires-clause-below : goal.synth_last-requires-clause-below
synth_last-requires-clause-below g c = grind (ints, arith, common_steps)

pub returns-then-depth-eq0-clause-samples : goal.returns-then-depth-eq0-clause-samples
returns-then-depth-eq0-clause-samples g c = grind (ints, arith, common_steps)

pub returns-else-depth-eq0-clause-samples : goal.returns-else-depth-eq0-clause-samples
returns-else-depth-eq0-clause-samples g c = grind (ints, arith, common_steps)
