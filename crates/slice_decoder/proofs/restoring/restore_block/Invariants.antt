use Rattle.std.proofs.Common.{◌≡◌, ℕ, ◌+◌, ◌*◌, ◌^◌, ◌<◌, ◌≤◌, length, get_or, pos}
use Rattle.slice_decoder.specs.Jobs.{part_in}
use Rattle.slice_decoder.specs.Components.{Part, quantisers_before}
use Rattle.slice_decoder.specs.Levels.{places_in}
use Rattle.slice_decoder.specs.Restored.{restored_at, AllWithin}
use Rattle.slice_decoder.proofs.restoring.restore_block.Given as goal

abbrev pub invariant-loop-k : goal.invariant-loop-k
invariant-loop-k l =
    let part : Part = part_in l.job in
    record {
      from : l.from ≡ l.each * places_in l.job.layout.now l.job.size l.job.place.sx l.job.place.sy l.k;
      length : length l.values ≡ length l.fn.values;
      small : AllWithin (2 ^ 36) (restored_at l.fn.values (quantisers_before l.each part (3 * l.job.layout.now.depth + 1))) 0 l.from;
      done : (j : ℕ) → j < l.from → get_or l.values j (pos 0) ≡ restored_at l.fn.values (quantisers_before l.each part (3 * l.job.layout.now.depth + 1)) j;
      rest : (j : ℕ) → l.from ≤ j → get_or l.values j (pos 0) ≡ get_or l.fn.values j (pos 0);
    }
