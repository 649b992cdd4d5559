use Rattle.std.proofs.Common.{◌≡◌, ℕ, ◌<◌, ◌≤◌, min, length}
use Rattle.std.specs.Prelude.{slice_index}
use Rattle.slice_encoder.proofs.sizes.key_of.Given as goal

abbrev pub invariant-loop-k : goal.invariant-loop-k
invariant-loop-k l = record {
  front : l.key.front < l.k;
  count : length l.key.ends ≡ 16;
  entry_count : length l.key.entries ≡ 16;
  start : slice_index l.key.ends 0 ≡ 0;
  front_few : slice_index l.ends l.key.front ≤ 1024;
  ends_same : (j : ℕ) → j < l.k → slice_index l.key.ends j ≡ min (slice_index l.ends j) 65535;
  entries_same : (j : ℕ) → 1 ≤ j → j < l.k → slice_index l.key.entries j ≡ min (slice_index l.matrix.entries j) 127;
}
