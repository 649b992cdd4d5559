use Rattle.std.proofs.Common.{arith}
use Rattle.slice_encoder.proofs.JoinedLooks.{joined_front, joined}
use Rattle.slice_encoder.proofs.looks.Look.then.Goals as goal

pub returns-then-behind-eq0-clause-look : goal.returns-then-behind-eq0-clause-look
returns-then-behind-eq0-clause-look c = λ vs ws count one two. joined_front c.args.self c.args.behind vs ws one two c.if-behind-eq0.true

pub returns-else-behind-eq0-clause-look : goal.returns-else-behind-eq0-clause-look
returns-else-behind-eq0-clause-look c = λ vs ws count one two. joined c.args.self c.args.behind vs ws one two c.args.places count (omega arith)
