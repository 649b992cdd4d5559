use Rattle.vc2_cli.proofs.ScheduleReplies.{is_scheduled}
use Rattle.vc2_cli.proofs.laws.schedules_have_replies.Goals as goal

pub returns : goal.returns
returns c = is_scheduled
