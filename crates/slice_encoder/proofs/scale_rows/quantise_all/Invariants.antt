use Rattle.std.proofs.Common.{◌≡◌, ℕ, ◌*◌, ◌%◌, ◌^◌, ◌<◌, length, pos}
use Rattle.std.specs.Prelude.{slice_index, slice_index_or, unsigned_abs}
use Rattle.slice_encoder.specs.ScaleRows.{short_quotient}
use Rattle.slice_encoder.proofs.scale_rows.quantise_all.Given as goal

abbrev pub invariant-loop-k : goal.invariant-loop-k
invariant-loop-k l = record {
  same_length : length l.out ≡ length l.fn.out;
  done : (p : ℕ) → p < l.k → slice_index l.out p ≡ short_quotient (slice_index l.numbers p) (slice_index l.shifts p) (4 * unsigned_abs (slice_index_or l.sizes p (pos 0)) % 2 ^ 16);
}
