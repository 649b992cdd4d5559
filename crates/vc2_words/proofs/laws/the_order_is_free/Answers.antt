use Rattle.vc2_words.proofs.Exchanging.{order_is_free}
use Rattle.vc2_words.proofs.laws.the_order_is_free.Goals as goal

pub returns : goal.returns
returns c = order_is_free
