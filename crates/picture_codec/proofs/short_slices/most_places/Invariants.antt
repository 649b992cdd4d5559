use Rattle.std.proofs.Common.{◌+◌, ◌*◌, ◌^◌, ◌≤◌}
use Rattle.picture_codec.proofs.short_slices.most_places.Given as goal

abbrev pub invariant-loop-level : goal.invariant-loop-level
invariant-loop-level l = l.sum ≤ (1 + 3 * l.level) * 2 ^ 26
