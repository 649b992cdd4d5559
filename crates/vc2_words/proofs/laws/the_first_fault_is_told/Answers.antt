use Rattle.vc2_words.proofs.Exchanging.{first_is_told}
use Rattle.vc2_words.proofs.laws.the_first_fault_is_told.Goals as goal

pub returns : goal.returns
returns c = first_is_told
