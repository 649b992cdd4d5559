use Rattle.vc2_cli.specs.Decode.{check_machine}
use Rattle.vc2_cli.proofs.Decoding.{check_laws, check_opens}
use Rattle.unit_reader.proofs.Exits.{none_soon}
use Rattle.vc2_cli.specs.Endings.{MayEndOtherwise}
use Rattle.vc2_cli.proofs.check.check.Goals as goal

pub returns-in-Err-clause-soon : goal.returns-in-Err-clause-soon
returns-in-Err-clause-soon g c = none_soon MayEndOtherwise check_machine check_laws check_opens (g.S.Source.rest c.args.src.now) _
