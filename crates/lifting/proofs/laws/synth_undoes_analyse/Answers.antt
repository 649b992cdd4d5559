use Rattle.lifting.proofs.GivenBack.{given_back, held_bounded, held_small}
use Rattle.lifting.proofs.laws.synth_undoes_analyse.Goals as goal

pub returns : goal.returns
returns c = record {
  back = given_back;
  bounded = held_bounded;
  taken = held_small;
}
