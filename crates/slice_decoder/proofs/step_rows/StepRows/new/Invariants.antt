use Rattle.std.proofs.Common.{◌≡◌, ℕ, ◌<◌, length, get_or}
use Rattle.slice_decoder.specs.StepRows.{no_row}
use Rattle.slice_decoder.proofs.step_rows.StepRows.new.Given as goal

abbrev pub invariant-loop : goal.invariant-loop
invariant-loop l = record {
  count : length l.rows.items ≡ l.counter;
  each : (k : ℕ) → k < l.counter → (get_or l.rows.items k no_row).room ≡ l.places;
}
