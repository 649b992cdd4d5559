use Rattle.std.proofs.Common.{◌≡◌, ◌+◌, ◌-◌, ◌≤◌, length, map}
use Rattle.bounded_blocks.specs.Windows.{HoldsRead}
use Rattle.bounded_blocks.proofs.narrow_filling.fill_from.Given as goal

abbrev pub invariant-loop-done : goal.invariant-loop-done
invariant-loop-done g l = record {
  inside : l.done ≤ l.count + 7;
  length : length l.out ≡ length l.fn.out;
  holds : HoldsRead g.T.Held.most l.bytes l.start l.end l.done (map g.T.Held.value l.out) l.window;
}

abbrev pub decreases-loop-done : goal.decreases-loop-done
decreases-loop-done g l = l.count - l.done
