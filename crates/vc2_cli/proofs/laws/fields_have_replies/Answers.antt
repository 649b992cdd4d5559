use Rattle.vc2_cli.proofs.Weaving.{weave_replies, split_replies}
use Rattle.vc2_cli.proofs.laws.fields_have_replies.Goals as goal

pub returns-clause-weave : goal.returns-clause-weave
returns-clause-weave c = λ video input is. weave_replies video input is

pub returns-clause-split : goal.returns-clause-split
returns-clause-split c = λ video input is. split_replies video input is
