-- Slices of 16 bits, and bands of another width that show the same.
use Rattle.std.specs.Prelude.{◌≡◌, ℕ, ◌^◌, ◌<◌, length, ℤ, pos}
use Rattle.planes.specs.Bounded.{IsWithin}
use Rattle.planes.specs.Raster.{Raster, height, row_of, at}
use Rattle.planes.specs.Subbands.{BandsOf, BandStack, BandExists, band_of}
use Rattle.planes.specs.Valued.{grid_of}
use Rattle.slice_store.specs.Store.{Store}
use Rattle.slice_store.specs.Sides.{top}
use Rattle.slice_store.specs.ShortBands.{shorts_of}

-- two stacks have the same bands, place by place
pub record ShowTheSame (a b : BandStack) : Type 0 where
  pub same_depth : b.depth ≡ a.depth
  pub widths : (level orient : ℕ) → BandExists a.depth level orient → (band_of b level orient).w ≡ (band_of a level orient).w
  pub heights : (level orient : ℕ) → BandExists a.depth level orient → height (band_of b level orient) ≡ height (band_of a level orient)
  pub places : (level orient y x : ℕ) → BandExists a.depth level orient → at (band_of b level orient) y x ≡ at (band_of a level orient) y x

-- the first n rows of a plane are those of another of its size, and no magnitude in them passes 2 ^ 18
pub record HaveRows {X : Type 0} (value : X → ℤ) (none : X) (p : Raster ℤ) (q : Raster X) (n : ℕ) : Type 0 where
  pub same_width : q.w ≡ p.w
  pub same_height : height q ≡ height p
  pub long : (y : ℕ) → y < n → length (row_of q y) ≡ q.w
  pub same : (y x : ℕ) → y < n → x < q.w → grid_of value none q y x ≡ at p y x
  pub within : (y x : ℕ) → y < n → x < q.w → IsWithin (pos (2 ^ 18)) (grid_of value none q y x)

-- in each band these are the rows of the first n rows of slices
abbrev pub HaveStrips : {X : Type 0} → (X → ℤ) → X → Store ℤ → BandsOf X → ℕ → Type 0
HaveStrips value none s b n = (level orient : ℕ) → BandExists s.slicing.depth level orient
    → HaveRows value none (band_of (shorts_of s) level orient) (band_of b level orient) (top s.slicing s.size level n)
