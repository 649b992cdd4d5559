use Rattle.std.proofs.Common.{◌≡◌, ℕ, ◌-◌, ◌*◌, ◌<◌, length}
use Rattle.std.specs.Prelude.{slice_index}
use Rattle.slice_encoder.proofs.sizes.ends_of.Given as goal

abbrev pub invariant-loop-k : goal.invariant-loop-k
invariant-loop-k l = record {
  count : length l.ends ≡ 13;
  done : (j : ℕ) → j < l.k → slice_index l.ends j ≡ l.each * (slice_index l.gathered.ends j - slice_index l.gathered.ends 0);
}
