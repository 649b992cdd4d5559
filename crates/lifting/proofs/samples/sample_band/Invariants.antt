use Rattle.std.proofs.Common.{◌≡◌, ℕ, ◌<◌, slice_index_or}
use Rattle.planes.specs.Valued.{valued}
use Rattle.lifting.specs.Clipping.{sample_of}
use Rattle.lifting.proofs.samples.sample_band.Given as goal

abbrev pub invariant-loop-i : goal.invariant-loop-i
invariant-loop-i G l = record {
  done : (k : ℕ) → k < l.i → slice_index_or l.dst k 0 ≡ sample_of l.depth (valued G.T.Number.value G.T.Number.none l.row k);
}
