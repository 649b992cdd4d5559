use Rattle.std.proofs.Common.{◌≡◌, ℕ, ◌+◌, ◌-◌, ◌<◌, length}
use Rattle.std.specs.Prelude.{slice_index}
use Rattle.planes.specs.Subbands.{BandStack}
use Rattle.slice_geometry.specs.SliceOrder.{level_rect, area, level_of}
use Rattle.slice_encoder.specs.Gathering.{raw_before}
use Rattle.slice_encoder.proofs.slice_rects.SliceRects.ends.Given as goal

abbrev pub invariant-loop-k : goal.invariant-loop-k
invariant-loop-k l = record {
  area : l.area ≡ area (level_rect l.self.slicing l.self.size l.sx l.sy (level_of (l.k - 1)));
  place : (bands : BandStack) → l.place ≡ length (raw_before l.self.slicing l.self.size bands l.sx l.sy l.k);
  count : length l.ends ≡ 13;
  ends : (bands : BandStack) (i : ℕ) → i < l.k → slice_index l.ends i ≡ length (raw_before l.self.slicing l.self.size bands l.sx l.sy (i + 1));
}
