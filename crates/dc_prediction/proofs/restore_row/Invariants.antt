use Rattle.std.proofs.Common.{◌≡◌, ◌≤◌}
use Rattle.planes.specs.Raster.{height}
use Rattle.planes.specs.Rect.{IsInRect}
use Rattle.planes.specs.Valued.{grid_of}
use Rattle.dc_prediction.specs.Restoring.{row_rect}
use Rattle.dc_prediction.specs.AnyWidth.{Restores}
use Rattle.dc_prediction.proofs.restore_row.Given as goal

abbrev pub invariant-loop-x : goal.invariant-loop-x
invariant-loop-x G l =
    let grid = grid_of G.T.Number.value G.T.Number.none in
    record {
      from : l.x0 ≤ l.x;
      same_width : l.plane.w ≡ l.fn.plane.w;
      same_height : height l.plane ≡ height l.fn.plane;
      restored : Restores G.T.Predicted.limit (IsInRect (row_rect l.y l.x0 l.x)) (grid l.fn.plane) (grid l.plane);
    }
