-- Numbers of a picture as samples (SMPTE ST 2042-1:2017, 15.5: clip_picture, offset_picture).
use Rattle.std.specs.Prelude.{◌≡◌, ℕ, ◌+◌, ◌*◌, ◌<◌, ◌-◌, ◌^◌, ℤ, pos, neg_ℤ, ◌+ℤ◌, ◌-ℤ◌, unsigned_abs, List, slice_index_or}
use Rattle.std.specs.Int.{int_min, int_max}
use Rattle.lifting.specs.Transform.{Grid}

-- the nearest number that fits in a signal of so many bits
abbrev pub clipped : ℕ → ℤ → ℤ
clipped depth v = int_max (neg_ℤ (pos (2 ^ (depth - 1)))) (int_min (pos (2 ^ (depth - 1) - 1)) v)

-- clipped, and offset to begin at 0
abbrev pub sample_of : ℕ → ℤ → ℕ
sample_of depth v = unsigned_abs (clipped depth v +ℤ pos (2 ^ (depth - 1)))

-- the same for numbers of which `half` are below 0
abbrev pub clipped_up : ℤ → ℤ → ℤ
clipped_up half v = int_max (neg_ℤ half) (int_min (half -ℤ pos 1) v) +ℤ half

-- h rows of w samples, row by row, are those of a grid
abbrev pub AreSamplesOf : ℕ → ℕ → ℕ → List ℕ → Grid → Type 0
AreSamplesOf w h depth samples g = (y x : ℕ) → y < h → x < w → slice_index_or samples (y * w + x) 0 ≡ sample_of depth (g y x)
