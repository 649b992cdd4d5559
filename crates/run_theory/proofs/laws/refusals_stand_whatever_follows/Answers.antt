use Rattle.run_theory.proofs.FrontLaws.{refusal_grows, refusal_grows_within}
use Rattle.run_theory.proofs.laws.refusals_stand_whatever_follows.Goals as goal

pub returns-clause-whole : goal.returns-clause-whole
returns-clause-whole g c = refusal_grows

pub returns-clause-within : goal.returns-clause-within
returns-clause-within g c = refusal_grows_within
