use Rattle.std.proofs.Common.{◌≡◌, ℕ, ◌<◌, length, slice_index_or, pos, ◌-ℤ◌}
use Rattle.picture_codec.proofs.centring.put_row.Given as goal

abbrev pub invariant-loop-x : goal.invariant-loop-x
invariant-loop-x l = record {
  same_length : length l.row ≡ length l.fn.row;
  done : (x : ℕ) → x < l.x → slice_index_or l.row x (pos 0) ≡ pos (slice_index_or l.samples x 0) -ℤ l.half;
}
