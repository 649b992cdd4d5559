use Rattle.std.proofs.Common.{ℕ, ◌≤◌, ◌^◌, ◌-◌, pos}
use Rattle.std.specs.Prelude.{◌↔◌}
use Rattle.planes.specs.Raster.{at}
use Rattle.lifting.specs.Carried.{level_entered}
use Rattle.lifting.specs.LevelRoom.{last_rows}
use Rattle.lifting.specs.Ranges.{GridWithin}
use Rattle.lifting.proofs.carried.rows_with_room.Given as goal

abbrev pub invariant-loop-y : goal.invariant-loop-y
invariant-loop-y l =
    let v = l.level in
    record {
      low : (m : ℕ) → (l.carried.low ≤ m) ↔ GridWithin l.y v.w m (last_rows (λ u. u) (pos 0) v.h l.plane);
      high : (m : ℕ) → (l.carried.high ≤ m) ↔ (GridWithin l.y v.w m (at v.hl.now) × GridWithin l.y v.w m (at v.lh.now) × GridWithin l.y v.w m (at v.hh.now));
      few : level_entered l.carried.low l.carried.high ≤ 2 ^ 14 - 2;
    }
