use Rattle.channel_schedule.proofs.Known.{groups_known}
use Rattle.channel_schedule.proofs.laws.groups_are_known.Goals as goal

pub returns : goal.returns
returns c = groups_known
