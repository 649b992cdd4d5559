-- The sides of a slice's rectangles.
use Rattle.std.specs.Prelude.{◌≡◌, ℕ, ◌+◌, ◌-◌, ◌*◌, ◌%◌, ◌≤◌}
use Rattle.slice_geometry.specs.declared.Size.{Size}
use Rattle.slice_geometry.specs.Slicing.{Slicing}
use Rattle.slice_geometry.specs.Geometry.{band_size, slice_start}
use Rattle.slice_geometry.specs.SliceOrder.{places_before}
use Rattle.slice_store.specs.Store.{Store}
use Rattle.slice_store.specs.Places.{run_start}

-- the first column of a column of slices in a level's bands, and the first row of a row of slices
abbrev pub left : Slicing → Size → ℕ → ℕ → ℕ
left s size level sx = slice_start (band_size s.depth level size).w s.slices_x sx

abbrev pub top : Slicing → Size → ℕ → ℕ → ℕ
top s size level sy = slice_start (band_size s.depth level size).h s.slices_y sy

-- how many columns of a level's bands a column of slices has, and how many rows a row of slices
abbrev pub wide : Slicing → Size → ℕ → ℕ → ℕ
wide s size level sx = left s size level (sx + 1) - left s size level sx

abbrev pub tall : Slicing → Size → ℕ → ℕ → ℕ
tall s size level sy = top s size level (sy + 1) - top s size level sy

-- where the piece of a band's row that a slice has begins
abbrev pub piece : {X : Type 0} → Store X → (level orient y sx sy : ℕ) → ℕ
piece s level orient y sx sy =
    run_start s sx sy + places_before s.slicing s.size sx sy level orient + (y - top s.slicing s.size level sy) * wide s.slicing s.size level sx

-- the columns of slices have one width, in the bands of all levels
abbrev pub AreEven : Slicing → Size → Type 0
AreEven s size = (level : ℕ) → level ≤ s.depth → (band_size s.depth level size).w % s.slices_x ≡ 0
