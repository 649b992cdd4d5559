-- Where the number of a band stands.
use Rattle.std.specs.Prelude.{◌≡◌, ℕ, zero, suc, ◌+◌, ◌%◌, ◌^◌, ◌<◌, ◌≤◌, length, slice_index_or, ℤ}
use Rattle.planes.specs.Raster.{at}
use Rattle.planes.specs.Subbands.{BandStack, BandExists, band_of}
use Rattle.slice_geometry.specs.declared.Size.{Size}
use Rattle.slice_geometry.specs.Shape.{IsSize}
use Rattle.slice_geometry.specs.Slicing.{Slicing, AreSlicesAllowed}
use Rattle.slice_geometry.specs.Geometry.{band_size, holding}
use Rattle.slice_geometry.specs.SliceOrder.{place_count, place_number}
use Rattle.slice_store.specs.Store.{Store}

-- the size of a level's bands
abbrev pub band : {X : Type 0} → Store X → ℕ → Size
band s level = band_size s.slicing.depth level s.size

-- the row of slices that has row y of them, and the column of slices that has column x
abbrev pub row_with : {X : Type 0} → Store X → ℕ → ℕ → ℕ
row_with s level y = holding s.slicing.slices_y (band s level).h y

abbrev pub column_with : {X : Type 0} → Store X → ℕ → ℕ → ℕ
column_with s level x = holding s.slicing.slices_x (band s level).w x

-- how many numbers the slices in front of column sx have in their row
abbrev pub numbers_before : Slicing → Size → ℕ → ℕ → ℕ
numbers_before s size zero sy = 0
numbers_before s size (suc sx) sy = numbers_before s size sx sy + place_count s size sx sy

-- where the numbers of slice (sx, sy) begin: row sy of slices is strip sy % strips, and in it slice stands behind slice
abbrev pub run_start : {X : Type 0} → Store X → ℕ → ℕ → ℕ
run_start s sx sy = slice_index_or s.starts (sy % s.strips) 0 + numbers_before s.slicing s.size sx sy

-- where the number of a band stands: in the slice that has it, at its place in the stream's order
abbrev pub place_of : {X : Type 0} → Store X → ℕ → ℕ → ℕ → ℕ → ℕ
place_of s level orient y x =
    run_start s (column_with s level x) (row_with s level y)
    + place_number s.slicing s.size (column_with s level x) (row_with s level y) level orient y x

abbrev pub number_at : {X : Type 0} → (X → ℤ) → X → Store X → ℕ → ℕ → ℕ → ℕ → ℤ
number_at value none s level orient y x = value (slice_index_or s.numbers (place_of s level orient y x) none)

-- a place of the bands
pub record IsPlace {X : Type 0} (s : Store X) (level orient y x : ℕ) : Type 0 where
  pub exists : BandExists s.slicing.depth level orient
  pub row : y < (band s level).h
  pub column : x < (band s level).w

-- the limits of a component that is cut into slices
pub record IsCut (s : Slicing) (component : Size) : Type 0 where
  pub depth : s.depth ≤ 4
  pub slices : AreSlicesAllowed s
  pub size : IsSize component.w component.h

-- each row of slices has room in its strip
pub record IsStoreSound {X : Type 0} (s : Store X) : Type 0 where
  pub cut : IsCut s.slicing s.size
  pub some : 1 ≤ s.strips
  pub count : length s.starts ≡ s.strips + 1
  pub rises : (k : ℕ) → k < s.strips → slice_index_or s.starts k 0 ≤ slice_index_or s.starts (k + 1) 0
  pub fits : (sy : ℕ) → sy < s.slicing.slices_y → run_start s s.slicing.slices_x sy ≤ slice_index_or s.starts (sy % s.strips + 1) 0
  pub last : slice_index_or s.starts s.strips 0 ≡ length s.numbers
  pub short : length s.numbers ≤ 2 ^ 50

-- two rows of slices can be in the ring at once
abbrev pub AreTogether : {X : Type 0} → Store X → ℕ → ℕ → Type 0
AreTogether s t u = t % s.strips ≡ u % s.strips → t ≡ u

-- Of rows `from` to `to` of slices each place holds the stack's number.
abbrev pub Shows : {X : Type 0} → (X → ℤ) → X → Store X → BandStack → ℕ → ℕ → Type 0
Shows value none s b from to = (level orient y x : ℕ) → IsPlace s level orient y x
    → from ≤ row_with s level y → row_with s level y < to → number_at value none s level orient y x ≡ at (band_of b level orient) y x
