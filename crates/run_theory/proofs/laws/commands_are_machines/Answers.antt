use Rattle.run_theory.proofs.FrontLaws.{machine_laws}
use Rattle.run_theory.proofs.laws.commands_are_machines.Goals as goal

pub returns : goal.returns
returns g c = machine_laws
