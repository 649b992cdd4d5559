-- The buffers of an encoder.
use Rattle.std.specs.Global.{Global}
use Rattle.std.specs.declared.vec.Vec.{Vec}
use Rattle.std.specs.Prelude.{◌≡◌, ℕ, ◌*◌, ◌^◌, ◌<◌, ◌≤◌, ℤ}
use Rattle.std.specs.Vec.{vec_len}
use Rattle.slice_geometry.specs.declared.PictureShape.{PictureShape}
use Rattle.slice_geometry.specs.Slicing.{Slicing}
use Rattle.slice_geometry.specs.SliceOrder.{place_count}
use Rattle.slice_encoder.specs.declared.gathered.GatheredSlice.{GatheredSlice}
use Rattle.slice_encoder.specs.declared.writer.SliceWriter.{SliceWriter}
use Rattle.slice_encoder.specs.GatheredSlices.{CanHoldAll}

-- there is room for the values of each slice
pub record HasRoomForAll (s : Slicing) (shape : PictureShape) (lumas colours : Vec ℤ Global) : Type 0 where
  pub luma : (sx sy : ℕ) → sx < s.slices_x → sy < s.slices_y → place_count s shape.luma sx sy ≤ vec_len lumas
  pub colour : (sx sy : ℕ) → sx < s.slices_x → sy < s.slices_y → 2 * place_count s shape.colour sx sy ≤ vec_len colours
  pub few_luma : vec_len lumas ≤ 2 ^ 32
  pub few_colour : vec_len colours ≤ 2 ^ 32

-- There is room for the values of each slice outside its lowest subbands, for their places, and for their magnitudes.
pub record HasHighRoom (s : Slicing) (shape : PictureShape) (w : SliceWriter) : Type 0 where
  pub luma : (sx sy : ℕ) → sx < s.slices_x → sy < s.slices_y → place_count s shape.luma sx sy ≤ vec_len w.luma
  pub colour : (sx sy : ℕ) → sx < s.slices_x → sy < s.slices_y → 2 * place_count s shape.colour sx sy ≤ vec_len w.colour
  pub luma_places : vec_len w.luma_places ≡ vec_len w.luma
  pub colour_places : vec_len w.colour_places ≡ vec_len w.colour
  pub luma_sizes : vec_len w.luma ≤ vec_len w.scaled.sizes
  pub colour_sizes : vec_len w.colour ≤ vec_len w.scaled.sizes

-- Its buffers have room, and it looks for an index from one that there is.
pub record IsUsable (s : Slicing) (shape : PictureShape) (gathered : GatheredSlice) (near : ℕ)
    (lumas colours : Vec ℤ Global) (w : SliceWriter) : Type 0 where
  pub holds : CanHoldAll s shape gathered
  pub index : near ≤ 127
  pub room : HasRoomForAll s shape lumas colours
  pub lists : HasHighRoom s shape w
