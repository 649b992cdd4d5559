use Rattle.std.proofs.Common.{◌≡◌, ℕ, ◌<◌, ◌≤◌, length, get_or}
use Rattle.planes.specs.Raster.{height}
use Rattle.planes.specs.Subbands.{no_band}
use Rattle.planes.proofs.late.LateBands.make.Given as goal

abbrev pub invariant-loop-k : goal.invariant-loop-k
invariant-loop-k g l = record {
  depth : l.bands-inside.depth ≡ l.fn.bands.depth;
  count : length l.bands-inside.planes.items ≡ length l.fn.bands.bands;
  late_depth : l.self-inside.depth ≡ l.fn.self.depth;
  late_count : length l.self-inside.planes.items ≡ length l.fn.self.bands;
  left : (j : ℕ) → j < l.k → height (get_or l.self-inside.planes.items j no_band) ≡ 0;
  done : (j : ℕ) → j < l.k → get_or l.bands-inside.planes.items j no_band ≡ get_or l.fn.self.bands j no_band;
  rest : (j : ℕ) → l.k ≤ j → get_or l.bands-inside.planes.items j no_band ≡ get_or l.fn.bands.bands j no_band;
  late_rest : (j : ℕ) → l.k ≤ j → get_or l.self-inside.planes.items j no_band ≡ get_or l.fn.self.bands j no_band;
}
