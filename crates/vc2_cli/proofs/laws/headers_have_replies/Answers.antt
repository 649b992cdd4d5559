use Rattle.vc2_cli.proofs.HeaderReplies.{is_headed}
use Rattle.vc2_cli.proofs.laws.headers_have_replies.Goals as goal

pub returns : goal.returns
returns c = is_headed
