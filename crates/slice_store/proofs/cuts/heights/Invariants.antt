use Rattle.std.proofs.Common.{◌≡◌, ℕ, ◌<◌, ◌≤◌, length, get_or}
use Rattle.slice_geometry.specs.Geometry.{band_size}
use Rattle.slice_store.proofs.cuts.heights.Given as goal

abbrev pub invariant-loop-level : goal.invariant-loop-level
invariant-loop-level l = record {
  size : length l.heights ≡ 5;
  value : (k : ℕ) → k < l.level → get_or l.heights k 0 ≡ (band_size l.layout.depth k l.size).h;
  most : (k : ℕ) → k < l.level → get_or l.heights k 0 ≤ 8192;
}
