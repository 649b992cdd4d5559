use Rattle.std.proofs.Common.{◌≡◌}
use Rattle.slice_store.proofs.tests.runs_stand_in_the_order_of_the_stream.Given as goal

abbrev pub invariant-loop-k : goal.invariant-loop-k
invariant-loop-k g l = record {
  cut : l.store.slicing ≡ l.layout;
  size : l.store.size ≡ record { w = 5; h = 6 };
}
