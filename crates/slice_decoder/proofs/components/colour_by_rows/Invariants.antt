use Rattle.std.proofs.Common.{◌≡◌, ℕ, ◌≤◌, true, length}
use Rattle.slice_decoder.specs.Slice.{are_small}
use Rattle.slice_decoder.specs.Dealing.{dealt, behind}
use Rattle.slice_decoder.specs.Jobs.{part_in}
use Rattle.slice_decoder.specs.Components.{Part, quantisers_before, BandsHold, BandsKeep}
use Rattle.slice_geometry.specs.SliceOrder.{numbered}
use Rattle.slice_decoder.proofs.components.colour_by_rows.Given as goal

abbrev pub invariant-loop-k : goal.invariant-loop-k
invariant-loop-k l =
    let part : Part = part_in l.job in
    record {
      room : length l.buffer ≡ 128;
      small : are_small (dealt l.fn.block (quantisers_before 2 part l.k)) ≡ true;
      left : l.block ≡ behind l.fn.block (quantisers_before 2 part l.k);
      first : BandsHold 2 0 part l.k l.fn.block l.fn.first l.first;
      second : BandsHold 2 1 part l.k l.fn.block l.fn.second l.second;
      first_keeps : BandsKeep part l.fn.first l.first;
      second_keeps : BandsKeep part l.fn.second l.second;
      first_rest : (k : ℕ) → l.k ≤ k → numbered l.first k ≡ numbered l.fn.first k;
      second_rest : (k : ℕ) → l.k ≤ k → numbered l.second k ≡ numbered l.fn.second k;
    }
