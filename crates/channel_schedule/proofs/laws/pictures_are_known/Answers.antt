use Rattle.channel_schedule.proofs.Known.{pictures_known}
use Rattle.channel_schedule.proofs.laws.pictures_are_known.Goals as goal

pub returns : goal.returns
returns c = pictures_known
