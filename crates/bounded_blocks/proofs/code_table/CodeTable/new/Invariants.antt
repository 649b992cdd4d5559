use Rattle.std.proofs.Common.{◌≡◌, ℕ, ◌<◌, [], length}
use Rattle.std.specs.Prelude.{slice_index_or}
use Rattle.bit_codes.specs.Bits.{digits_below}
use Rattle.bounded_blocks.specs.CodeTable.{Begin, codes_of, no_head}
use Rattle.bounded_blocks.proofs.code_table.CodeTable.new.Given as goal

abbrev pub invariant-loop-k : goal.invariant-loop-k
invariant-loop-k l = record {
  values_count : length l.values.items ≡ 4096;
  heads_count : length l.heads.items ≡ 4096;
  so_far : (j : ℕ) → j < l.k → Begin (codes_of (slice_index_or l.values.items j []) (slice_index_or l.heads.items j no_head)) (digits_below 12 j);
}
