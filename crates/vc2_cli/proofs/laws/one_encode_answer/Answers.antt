use Rattle.run_theory.proofs.UnitLaws.{run_of, answer_of_run}
use Rattle.vc2_cli.specs.Encode.{encode_machine}
use Rattle.vc2_cli.proofs.EncodeTurns.{encode_laws}
use Rattle.vc2_cli.proofs.EncodeReplies.{some_size}
use Rattle.vc2_cli.proofs.laws.one_encode_answer.Goals as goal

pub returns-clause-found : goal.returns-clause-found
returns-clause-found c = λ s input passes. run_of (encode_machine s) (encode_laws s (some_size s passes)) input

pub returns-clause-only : goal.returns-clause-only
returns-clause-only c = λ s input answer passes. answer_of_run (encode_machine s) (encode_laws s (some_size s passes)) input answer
