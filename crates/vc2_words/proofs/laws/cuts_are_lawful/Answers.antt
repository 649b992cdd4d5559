use Rattle.vc2_words.specs.Commands.{cut}
use Rattle.vc2_words.proofs.Settled.{words_say}
use Rattle.vc2_words.proofs.laws.cuts_are_lawful.Goals as goal

pub returns : goal.returns
returns c = λ words settings e. words_say words (cut settings) e
