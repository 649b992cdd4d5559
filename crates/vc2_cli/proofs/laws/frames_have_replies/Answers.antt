use Rattle.vc2_cli.proofs.FrameReplies.{is_framed}
use Rattle.vc2_cli.proofs.laws.frames_have_replies.Goals as goal

pub returns : goal.returns
returns c = is_framed
