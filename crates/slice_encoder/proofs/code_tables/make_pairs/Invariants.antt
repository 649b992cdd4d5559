use Rattle.std.proofs.Common.{◌≡◌, ℕ, ◌/◌, ◌%◌, ◌<◌, length, get_or}
use Rattle.slice_encoder.specs.CodeTables.{IsPairEntry}
use Rattle.slice_encoder.proofs.code_tables.make_pairs.Given as goal

abbrev pub invariant-loop-place : goal.invariant-loop-place
invariant-loop-place l = record {
  count : length l.entries.items ≡ 4096;
  so_far : (p : ℕ) → p < l.place → IsPairEntry (get_or l.entries.items p 0) (p / 64) (p % 64);
}
