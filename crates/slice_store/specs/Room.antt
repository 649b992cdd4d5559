-- How much room strips have.
use Rattle.std.specs.Prelude.{◌≡◌, ℕ, zero, suc, ◌+◌, ◌-◌, ◌*◌, ◌/◌, ◌≤◌, ◌==◌, if◌then◌else◌, List, length, slice_index_or}
use Rattle.slice_geometry.specs.declared.Size.{Size}
use Rattle.slice_geometry.specs.Slicing.{Slicing}
use Rattle.slice_geometry.specs.Geometry.{band_size}
use Rattle.slice_store.specs.Places.{numbers_before}

-- as many numbers as a row of slices has at most in a band of a level
abbrev pub part_room : Slicing → Size → ℕ → ℕ
part_room s size level = (band_size s.depth level size).w * (((band_size s.depth level size).h + s.slices_y - 1) / s.slices_y)

-- and in the bands of all levels up to this one
abbrev pub strip_room : Slicing → Size → ℕ → ℕ
strip_room s size zero = part_room s size 0
strip_room s size (suc level) = strip_room s size level + 3 * part_room s size (suc level)

-- how many numbers a row of slices has
abbrev pub row_numbers : Slicing → Size → ℕ → ℕ
row_numbers s size sy = numbers_before s size s.slices_x sy

-- and a strip, of so many: where there is one for each row of slices as many as its row, else as many as a row has at most
abbrev pub strip_numbers : Slicing → Size → ℕ → ℕ → ℕ
strip_numbers s size strips k = if strips == s.slices_y then row_numbers s size k else strip_room s size s.depth

-- where strip k begins
abbrev pub strip_start : Slicing → Size → ℕ → ℕ → ℕ
strip_start s size strips zero = 0
strip_start s size strips (suc k) = strip_start s size strips k + strip_numbers s size strips k

-- a list of where the strips begin, and the last one ends
pub record AreStarts (starts : List ℕ) (s : Slicing) (size : Size) (strips : ℕ) : Type 0 where
  pub count : length starts ≡ strips + 1
  pub each : (k : ℕ) → k ≤ strips → slice_index_or starts k 0 ≡ strip_start s size strips k
