use Rattle.std.proofs.Common.{◌≡◌, ℕ, ◌+◌, ◌*◌, ◌<◌, length, slice_index_or}
use Rattle.planes.specs.Valued.{grid_of}
use Rattle.lifting.specs.Clipping.{sample_of}
use Rattle.lifting.proofs.synthesis_samples.sample_lowest.Given as goal

abbrev pub invariant-loop-y : goal.invariant-loop-y
invariant-loop-y G l = record {
  count : length l.samples ≡ length l.fn.samples;
  done : (y x : ℕ) → y < l.y → x < l.area.w → slice_index_or l.samples (y * l.area.w + x) 0 ≡ sample_of l.area.depth (grid_of G.T.Number.value G.T.Number.none l.band y x);
}
