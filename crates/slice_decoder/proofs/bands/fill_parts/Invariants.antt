use Rattle.std.proofs.Common.{◌≡◌, ◌-◌, ◌*◌, ◌≤◌, true, replicate}
use Rattle.slice_decoder.specs.Slice.{are_small}
use Rattle.slice_decoder.specs.Dealing.{dealt, behind}
use Rattle.slice_decoder.proofs.Rects.{CellsHold}
use Rattle.slice_decoder.proofs.bands.fill_parts.Given as goal

abbrev pub invariant-loop-x : goal.invariant-loop-x
invariant-loop-x l = record {
  begun : l.x0 ≤ l.x;
  order : l.x ≤ l.x1;
  small : are_small (dealt l.fn.block (replicate (2 * (l.x - l.x0)) l.index)) ≡ true;
  left : l.block ≡ behind l.fn.block (replicate (2 * (l.x - l.x0)) l.index);
  first : CellsHold 2 0 l.x0 l.x (dealt l.fn.block (replicate (2 * (l.x - l.x0)) l.index)) l.fn.first l.first;
  second : CellsHold 2 1 l.x0 l.x (dealt l.fn.block (replicate (2 * (l.x - l.x0)) l.index)) l.fn.second l.second;
}

abbrev pub decreases-loop-x : goal.decreases-loop-x
decreases-loop-x l = l.x1 - l.x
