use Rattle.vc2_cli.proofs.ScheduleWords.{line_is_read}
use Rattle.vc2_cli.proofs.laws.lines_are_read.Goals as goal

pub returns : goal.returns
returns c = line_is_read
