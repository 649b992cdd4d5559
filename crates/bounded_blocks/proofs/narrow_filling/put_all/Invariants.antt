use Rattle.std.proofs.Common.{◌≡◌, ◌+◌, ◌≤◌, length, take, ◌++◌}
use Rattle.bounded_blocks.proofs.narrow_filling.put_all.Given as goal

abbrev pub invariant-loop-i : goal.invariant-loop-i
invariant-loop-i g l = record {
  inside : l.i ≤ 8;
  length : length l.out ≡ length l.fn.out;
  so_far : take (l.at + l.i) l.out ≡ take l.at l.fn.out ++ take l.i l.eight;
}
