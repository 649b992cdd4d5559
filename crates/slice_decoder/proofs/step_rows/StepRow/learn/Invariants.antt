use Rattle.std.proofs.Common.{◌≡◌, length}
use Rattle.slice_decoder.specs.StepRows.{key_quantisers, AreSteps}
use Rattle.slice_decoder.proofs.step_rows.StepRow.learn.Given as goal

abbrev pub invariant-loop-k : goal.invariant-loop-k
invariant-loop-k l = record {
  from_is : l.from ≡ length (key_quantisers l.key l.k);
  key_is : l.self-inside.key ≡ l.key;
  factors_count : length l.self-inside.factors.items ≡ l.fn.self.room;
  adds_count : length l.self-inside.adds.items ≡ l.fn.self.room;
  limits_count : length l.self-inside.limits.items ≡ l.fn.self.room;
  steps : AreSteps (key_quantisers l.key l.k) l.from l.self-inside.factors.items l.self-inside.adds.items l.self-inside.limits.items;
}
