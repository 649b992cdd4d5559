use Rattle.vc2_cli.proofs.EncodeChecked.{the_line_is_least, the_line_is_known}
use Rattle.vc2_cli.proofs.laws.lines_are_least.Goals as goal

pub returns-clause-least : goal.returns-clause-least
returns-clause-least c = the_line_is_least

pub returns-clause-known : goal.returns-clause-known
returns-clause-known c = the_line_is_known
