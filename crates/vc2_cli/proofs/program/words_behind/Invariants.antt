use Rattle.std.proofs.Common.{◌≡◌, ◌++◌, drop}
use Rattle.std.specs.Vec.Iter.{into_iter_items}
use Rattle.vc2_cli.proofs.program.words_behind.Given as goal

abbrev pub invariant-loop-word : goal.invariant-loop-word
invariant-loop-word l = drop 1 (into_iter_items l.fn.args) ≡ l.words.items ++ into_iter_items l.word-iterator
