use Rattle.vc2_cli.proofs.CutReplies.{cut_lines_are_least}
use Rattle.vc2_cli.proofs.laws.cut_lines_are_least.Goals as goal

pub returns : goal.returns
returns c = cut_lines_are_least
