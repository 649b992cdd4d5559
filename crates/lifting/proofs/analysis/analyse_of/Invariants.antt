use Rattle.std.proofs.Common.{ℕ, suc, ◌<◌, ◌≤◌, ◌-◌, ◌*◌, ◌^◌}
use Rattle.planes.specs.Valued.{grid_of}
use Rattle.planes.specs.Raster.{height}
use Rattle.lifting.specs.Bands.{lowest, SameSizes, HoldLevel}
use Rattle.lifting.specs.Ranges.{SameInside}
use Rattle.lifting.specs.Transform.{remaining, analysed}
use Rattle.lifting.specs.Turns.{SameSize}
use Rattle.lifting.proofs.analysis.analyse_of.Given as goal

abbrev pub invariant-loop-j : goal.invariant-loop-j
invariant-loop-j G l =
    let depth = l.fn.bands.depth in
    let h = lowest depth (height l.fn.plane) in
    let w = lowest depth l.fn.plane.w in
    record {
      same_size : SameSize l.fn.plane l.plane;
      same_size_scratch : SameSize l.fn.scratch l.scratch;
      same_sizes : SameSizes l.fn.bands l.bands;
      left : SameInside (h * 2 ^ (depth - l.j)) (w * 2 ^ (depth - l.j)) (grid_of G.T.Number.value G.T.Number.none l.plane) (remaining l.wavelet h w depth (grid_of G.T.Number.value G.T.Number.none l.fn.plane) l.j);
      dealt : (n : ℕ) → n < depth → depth - l.j ≤ n → HoldLevel G.T.Number.value G.T.Number.none (h * 2 ^ n) (w * 2 ^ n) (analysed l.wavelet h w depth (grid_of G.T.Number.value G.T.Number.none l.fn.plane) (suc n)) (suc n) l.bands;
    }

abbrev pub ghost-analyse_next : goal.ghost-analyse_next
ghost-analyse_next g a = grid_of g.T.Number.value g.T.Number.none a.plane.now
