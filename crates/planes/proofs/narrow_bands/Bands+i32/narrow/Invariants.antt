use Rattle.std.proofs.Common.{◌≡◌, ℕ, ◌<◌, ◌≤◌, length, get_or}
use Rattle.planes.specs.Subbands.{no_band}
use Rattle.planes.proofs.narrow_bands.Bands+i32.narrow.Given as goal

abbrev pub invariant-loop-k : goal.invariant-loop-k
invariant-loop-k l = record {
  depth : l.self-inside.depth ≡ l.fn.self.depth;
  count : length l.self-inside.planes.items ≡ length l.fn.self.bands;
  done : (j : ℕ) → j < l.k → get_or l.self-inside.planes.items j no_band ≡ get_or l.wide.bands j no_band;
  rest : (j : ℕ) → l.k ≤ j → get_or l.self-inside.planes.items j no_band ≡ get_or l.fn.self.bands j no_band;
}
