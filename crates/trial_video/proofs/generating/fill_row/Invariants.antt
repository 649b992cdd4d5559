use Rattle.std.proofs.Common.{◌≡◌, ℕ, ◌+◌, ◌/◌, ◌%◌, ◌^◌, ◌<◌, length, slice_index_or}
use Rattle.trial_video.specs.Video.{state_at}
use Rattle.trial_video.proofs.generating.fill_row.Given as goal

abbrev pub invariant-loop-x : goal.invariant-loop-x
invariant-loop-x l = record {
  len : length l.row ≡ length l.fn.row;
  state : l.state ≡ state_at l.start l.x;
  low : l.state < 65536;
  done : (k : ℕ) → k < l.x → slice_index_or l.row k 0 ≡ (k + l.first + state_at l.start (k + 1) / 4096) % 2 ^ l.depth;
}
