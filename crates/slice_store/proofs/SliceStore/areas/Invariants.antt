use Rattle.std.proofs.Common.{◌≡◌, ℕ, ◌<◌, ◌≤◌, ◌^◌, length, get_or}
use Rattle.slice_geometry.specs.SliceOrder.{area, level_rect}
use Rattle.slice_store.proofs.SliceStore.areas.Given as goal

abbrev pub invariant-loop-level : goal.invariant-loop-level
invariant-loop-level g l = record {
  size : length l.areas ≡ 5;
  value : (i : ℕ) → i < l.level → get_or l.areas i 0 ≡ area (level_rect l.self.slicing l.self.size l.sx l.sy i);
  few : (i : ℕ) → i ≤ 4 → get_or l.areas i 0 ≤ 2 ^ 26;
}
