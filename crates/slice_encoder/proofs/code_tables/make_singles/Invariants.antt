use Rattle.std.proofs.Common.{◌≡◌, ℕ, pos, ◌<◌, length, get_or}
use Rattle.std.specs.Prelude.{◌-ℤ◌}
use Rattle.bit_codes.specs.Codes.{signed_code_of}
use Rattle.slice_encoder.specs.CodeTables.{IsEntry}
use Rattle.slice_encoder.proofs.code_tables.make_singles.Given as goal

abbrev pub invariant-loop-place : goal.invariant-loop-place
invariant-loop-place l = record {
  count : length l.entries.items ≡ 1024;
  so_far : (p : ℕ) → p < l.place → IsEntry (get_or l.entries.items p 0) (signed_code_of (pos p -ℤ pos 512));
}
