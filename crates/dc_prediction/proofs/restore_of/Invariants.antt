use Rattle.std.proofs.Common.{◌≡◌}
use Rattle.planes.specs.Raster.{height}
use Rattle.planes.specs.Rect.{IsInRect}
use Rattle.planes.specs.Valued.{grid_of}
use Rattle.dc_prediction.specs.AnyWidth.{Restores}
use Rattle.dc_prediction.proofs.Joined.{upper}
use Rattle.dc_prediction.proofs.restore_of.Given as goal

abbrev pub invariant-loop-y : goal.invariant-loop-y
invariant-loop-y G l =
    let grid = grid_of G.T.Number.value G.T.Number.none in
    record {
      same_width : l.plane.w ≡ l.fn.plane.w;
      same_height : height l.plane ≡ height l.fn.plane;
      restored : Restores G.T.Predicted.limit (IsInRect (upper l.rect l.y)) (grid l.fn.plane) (grid l.plane);
    }
