use Rattle.std.proofs.Common.{sym, ap}
use Rattle.vc2_words.specs.Keys.{key_of}
use Rattle.vc2_words.proofs.keys.key_of.Goals as goal

pub returns-in-seed : goal.returns-in-seed
returns-in-seed c = sym (ap key_of c.in-seed.is)

pub returns-in-pictures : goal.returns-in-pictures
returns-in-pictures c = sym (ap key_of c.in-pictures.is)

pub returns-in-group : goal.returns-in-group
returns-in-group c = sym (ap key_of c.in-group.is)

pub returns-in-idle : goal.returns-in-idle
returns-in-idle c = sym (ap key_of c.in-idle.is)

pub returns-in-order : goal.returns-in-order
returns-in-order c = sym (ap key_of c.in-order.is)

pub returns-in-from : goal.returns-in-from
returns-in-from c = sym (ap key_of c.in-from.is)

pub returns-in-to : goal.returns-in-to
returns-in-to c = sym (ap key_of c.in-to.is)

pub returns-in-level : goal.returns-in-level
returns-in-level c = sym (ap key_of c.in-level.is)
