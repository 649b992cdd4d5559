use Rattle.std.proofs.Common.{◌≡◌, ℕ, ◌<◌}
use Rattle.planes.specs.Numbers.{Within}
use Rattle.planes.specs.Raster.{height, at}
use Rattle.slice_geometry.specs.Geometry.{band_size}
use Rattle.slice_geometry.specs.SliceOrder.{level_of, numbered}
use Rattle.picture_tests.proofs.slice_encoder_tests.is_ready.Given as goal

abbrev pub invariant-loop-k : goal.invariant-loop-k
invariant-loop-k l = (i : ℕ) → i < l.k
    → ((numbered l.bands i).w ≡ (band_size l.layout.depth (level_of i) l.size).w) × (height (numbered l.bands i) ≡ (band_size l.layout.depth (level_of i) l.size).h)
    × ((y x : ℕ) → Within l.most (at (numbered l.bands i) y x))
