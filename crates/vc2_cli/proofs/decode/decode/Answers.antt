use Rattle.vc2_cli.specs.Decode.{decode_machine}
use Rattle.vc2_cli.proofs.Decoding.{decode_laws, decode_opens}
use Rattle.unit_reader.proofs.Exits.{none_soon}
use Rattle.vc2_cli.specs.Endings.{MayEndOtherwise}
use Rattle.vc2_cli.proofs.decode.decode.Goals as goal

pub returns-in-Err-clause-soon : goal.returns-in-Err-clause-soon
returns-in-Err-clause-soon g c = none_soon MayEndOtherwise decode_machine decode_laws decode_opens (g.S.Source.rest c.args.src.now) _
