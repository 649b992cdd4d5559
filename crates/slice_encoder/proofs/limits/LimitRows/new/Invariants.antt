use Rattle.std.proofs.Common.{◌≡◌, ℕ, ◌<◌, length}
use Rattle.std.specs.Prelude.{slice_index_or}
use Rattle.slice_encoder.specs.Limits.{no_row}
use Rattle.slice_encoder.proofs.limits.LimitRows.new.Given as goal

abbrev pub invariant-loop : goal.invariant-loop
invariant-loop g l = record {
  count : length l.rows.items ≡ l.counter;
  each : (k : ℕ) → k < length l.rows.items → (slice_index_or l.rows.items k no_row).room ≡ l.room;
}
