use Rattle.std.proofs.Common.{◌∙◌, sym}
use Rattle.vc2_words.proofs.Small.{value_fit}
use Rattle.vc2_words.proofs.operands.take_word.Goals as goal

pub put-requires : goal.put-requires
put-requires c = value_fit _ _ _ (sym c.value.ensures ∙ c.in-Some-value.is)
