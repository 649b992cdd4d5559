use Rattle.std.proofs.Common.{◌≡◌, ℕ, ◌+◌, ◌-◌, ◌*◌, ◌<◌, ◌≤◌, true, replicate, get_or, pos}
use Rattle.planes.specs.Raster.{height, at}
use Rattle.planes.specs.Rect.{IsInRect}
use Rattle.slice_decoder.specs.Slice.{are_small}
use Rattle.slice_geometry.specs.SliceOrder.{number_in}
use Rattle.slice_decoder.specs.Dealing.{dealt, behind}
use Rattle.slice_decoder.proofs.bands.fill_rect.Given as goal

abbrev pub invariant-loop-y : goal.invariant-loop-y
invariant-loop-y l = record {
  begun : l.rect.y0 ≤ l.y;
  same_width : l.plane.w ≡ l.fn.plane.w;
  same_height : height l.plane ≡ height l.fn.plane;
  small : are_small (dealt l.fn.block (replicate (1 * ((l.y - l.rect.y0) * (l.rect.x1 - l.rect.x0))) l.index)) ≡ true;
  left : l.block ≡ behind l.fn.block (replicate (1 * ((l.y - l.rect.y0) * (l.rect.x1 - l.rect.x0))) l.index);
  inside : (y x : ℕ) → IsInRect l.rect y x → y < l.y → at l.plane y x ≡ get_or (dealt l.fn.block (replicate (1 * ((l.y - l.rect.y0) * (l.rect.x1 - l.rect.x0))) l.index)) (1 * number_in l.rect y x + 0) (pos 0);
  outside : (y x : ℕ) → (IsInRect l.rect y x → ⊥) → at l.plane y x ≡ at l.fn.plane y x;
}
