use Rattle.vc2_cli.proofs.CutReplies.{are_cut, is_cut_whole, is_cut_refused}
use Rattle.vc2_cli.proofs.laws.cuts_have_replies.Goals as goal

pub returns-clause-stream : goal.returns-clause-stream
returns-clause-stream c = is_cut_whole

pub returns-clause-refusal : goal.returns-clause-refusal
returns-clause-refusal c = is_cut_refused

pub returns-clause-units : goal.returns-clause-units
returns-clause-units c = are_cut
