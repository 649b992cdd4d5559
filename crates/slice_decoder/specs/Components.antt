-- What reading a component's part of a slice leaves in its subbands, which are numbered in the slice's order.
use Rattle.std.specs.Prelude.{◌≡◌, ℕ, zero, suc, ◌*◌, ◌<◌, Bool, List, [], ◌++◌, replicate}
use Rattle.planes.specs.declared.Rect.{Rect}
use Rattle.planes.specs.Subbands.{BandStack}
use Rattle.slice_geometry.specs.declared.Size.{Size}
use Rattle.slice_geometry.specs.Slicing.{Slicing}
use Rattle.quant_factors.specs.Weights.{Weights, band_quantiser}
use Rattle.slice_geometry.specs.SliceOrder.{level_rect, area, level_of, orient_of, numbered}
use Rattle.slice_decoder.specs.Dealing.{dealt, behind, HoldsRect, KeepsOutside}

-- the slice in column sx and row sy, as it is read into a component of this size
pub record Part : Type 0 where
  pub slicing : Slicing
  pub size : Size
  pub sx : ℕ
  pub sy : ℕ
  pub matrix : Weights
  pub qindex : ℕ

-- the part of all that it is made of
abbrev pub part_of : Slicing → Size → ℕ → ℕ → Weights → ℕ → Part
part_of s size sx sy matrix qindex = record { slicing = s; size = size; sx = sx; sy = sy; matrix = matrix; qindex = qindex }

-- its places in band k, and their quantiser
abbrev pub rect_of : Part → ℕ → Rect
rect_of p k = level_rect p.slicing p.size p.sx p.sy (level_of k)

-- and their quantiser there
abbrev pub index_of : Part → ℕ → ℕ
index_of p k = band_quantiser p.matrix p.qindex (level_of k) (orient_of k)

-- the quantisers of band k, where each place has so many values
abbrev pub quantisers_of : ℕ → Part → ℕ → List ℕ
quantisers_of each p k = replicate (each * area (rect_of p k)) (index_of p k)

-- and of the bands before band n
unfoldable pub quantisers_before : ℕ → Part → ℕ → List ℕ
quantisers_before each p zero = []
quantisers_before each p (suc k) = quantisers_before each p k ++ quantisers_of each p k

-- the first n bands hold their values
pub record BandsHold (each from : ℕ) (p : Part) (n : ℕ) (block : List Bool) (old new : BandStack) : Type 0 where
  pub same_depth : new.depth ≡ old.depth
  pub bands : (k : ℕ) → k < n → HoldsRect each from (rect_of p k)
      (dealt (behind block (quantisers_before each p k)) (quantisers_of each p k)) (numbered old k) (numbered new k)

-- nothing is known of the places inside
pub record BandsKeep (p : Part) (old new : BandStack) : Type 0 where
  pub same_depth : new.depth ≡ old.depth
  pub bands : (k : ℕ) → KeepsOutside (rect_of p k) (numbered old k) (numbered new k)
