use Rattle.vc2_cli.specs.Scheduled.{replay_machine}
use Rattle.vc2_cli.proofs.Replaying.{replay_laws, replay_opens}
use Rattle.unit_reader.proofs.Exits.{none_soon}
use Rattle.vc2_cli.specs.Endings.{MayEndOtherwise}
use Rattle.vc2_cli.proofs.scheduled.check_schedule.Goals as goal

pub returns-in-Err-clause-soon : goal.returns-in-Err-clause-soon
returns-in-Err-clause-soon g c = none_soon MayEndOtherwise (replay_machine c.args.schedule) (replay_laws c.args.schedule) (replay_opens c.args.schedule) (g.S.Source.rest c.args.src.now) _
