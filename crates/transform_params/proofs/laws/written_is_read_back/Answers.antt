use Rattle.transform_params.proofs.WrittenBack.{written_back}
use Rattle.transform_params.proofs.laws.written_is_read_back.Goals as goal

pub returns : goal.returns
returns c = written_back
