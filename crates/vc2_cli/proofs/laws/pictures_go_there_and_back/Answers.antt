use Rattle.vc2_cli.proofs.EncodeReplies.{are_encoded}
use Rattle.vc2_cli.proofs.EncodeChecked.{the_schedule_runs, are_decoded}
use Rattle.vc2_cli.proofs.laws.pictures_go_there_and_back.Goals as goal

pub returns-clause-encode : goal.returns-clause-encode
returns-clause-encode c = are_encoded

pub returns-clause-check : goal.returns-clause-check
returns-clause-check c = the_schedule_runs

pub returns-clause-decode : goal.returns-clause-decode
returns-clause-decode c = are_decoded
