use Rattle.std.proofs.Common.{Some}
use Rattle.vc2_words.specs.Commands.{check}
use Rattle.vc2_words.proofs.Settled.{words_say}
use Rattle.vc2_words.proofs.laws.schedules_are_lawful.Goals as goal

pub returns : goal.returns
returns c = λ words s e. words_say words (check (Some s)) e
