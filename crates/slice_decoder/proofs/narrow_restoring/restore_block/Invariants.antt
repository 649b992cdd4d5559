use Rattle.std.proofs.Common.{◌+◌, ◌*◌, ◌^◌}
use Rattle.slice_decoder.specs.Jobs.{part_in}
use Rattle.slice_decoder.specs.Components.{Part}
use Rattle.slice_decoder.specs.RestoredBands.{IsRestoredTo}
use Rattle.slice_decoder.proofs.narrow_restoring.restore_block.Given as goal

abbrev pub invariant-loop-level : goal.invariant-loop-level
invariant-loop-level l =
    let part : Part = part_in l.job in
    record { held : IsRestoredTo (2 ^ 18) l.each part (3 * l.level + 1) l.from l.fn.values l.values }
