use Rattle.vc2_words.specs.Commands.{weave, split}
use Rattle.vc2_words.proofs.Settled.{words_say}
use Rattle.vc2_words.proofs.laws.fields_are_lawful.Goals as goal

pub returns-clause-weave : goal.returns-clause-weave
returns-clause-weave c = λ words video e. words_say words (weave video) e

pub returns-clause-split : goal.returns-clause-split
returns-clause-split c = λ words video e. words_say words (split video) e
