use Rattle.run_theory.proofs.FrontLaws.{front_laws, within_laws}
use Rattle.run_theory.proofs.laws.units_stand_whatever_follows.Goals as goal

pub returns-clause-whole : goal.returns-clause-whole
returns-clause-whole g c = front_laws

pub returns-clause-within : goal.returns-clause-within
returns-clause-within g c = within_laws
