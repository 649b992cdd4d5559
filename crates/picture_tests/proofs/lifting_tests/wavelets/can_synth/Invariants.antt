use Rattle.std.proofs.Common.{◌≡◌, ℕ, ◌+◌, ◌-◌, ◌/◌, ◌<◌, ◌≤◌, ◌^◌}
use Rattle.planes.specs.Numbers.{Within}
use Rattle.planes.specs.Raster.{height, at}
use Rattle.planes.specs.Subbands.{band_of}
use Rattle.picture_tests.proofs.lifting_tests.wavelets.can_synth.Given as goal

abbrev pub invariant-loop-n : goal.invariant-loop-n
invariant-loop-n l = (m orient : ℕ) → m < l.n → 1 ≤ orient → orient ≤ 3
    → ((band_of l.bands (m + 1) orient).w ≡ l.w / 2 ^ (l.depth - m)) × (height (band_of l.bands (m + 1) orient) ≡ l.h / 2 ^ (l.depth - m))
    × ((y x : ℕ) → Within (2 ^ 15) (at (band_of l.bands (m + 1) orient) y x))
