use Rattle.std.proofs.Common.{◌≡◌, ℕ, ◌≤◌, true}
use Rattle.slice_decoder.specs.Slice.{are_small}
use Rattle.slice_decoder.specs.Dealing.{dealt, behind}
use Rattle.slice_decoder.specs.Jobs.{part_in}
use Rattle.slice_decoder.specs.Components.{Part, quantisers_before, BandsHold, BandsKeep}
use Rattle.slice_geometry.specs.SliceOrder.{numbered}
use Rattle.slice_decoder.proofs.components.luma_by_rows.Given as goal

abbrev pub invariant-loop-k : goal.invariant-loop-k
invariant-loop-k l =
    let part : Part = part_in l.job in
    record {
      small : are_small (dealt l.fn.block (quantisers_before 1 part l.k)) ≡ true;
      left : l.block ≡ behind l.fn.block (quantisers_before 1 part l.k);
      holds : BandsHold 1 0 part l.k l.fn.block l.fn.bands l.bands;
      keeps : BandsKeep part l.fn.bands l.bands;
      rest : (k : ℕ) → l.k ≤ k → numbered l.bands k ≡ numbered l.fn.bands k;
    }
