use Rattle.std.proofs.Common.{◌∙◌}
use Rattle.vc2_cli.specs.Reply.{reply_to}
use Rattle.vc2_c.specs.Call.{words_of}
use Rattle.vc2_c.proofs.Rooms.{seen, unanswered}
use Rattle.vc2_c.proofs.answer_text.Goals as goal

pub returns-in-Err-clause-answer : goal.returns-in-Err-clause-answer
returns-in-Err-clause-answer c =
    unanswered (reply_to (words_of c.args.text.now) c.args.input.now) (seen c.args.out.now) (seen c.args.note.now) c.from.result (c.requires.empty.0, c.requires.sound.0) (c.requires.empty.1, c.requires.sound.1) (c.from.ensures ∙ c.exit_code.ensures)
