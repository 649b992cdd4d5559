-- The shape of a picture as plain numbers.
use Rattle.std.specs.Prelude.{ℕ}
use Rattle.slice_geometry.specs.declared.Size.{Size}
use Rattle.slice_geometry.specs.declared.PictureShape.{PictureShape}

-- The sizes of a picture's components, and the bits of their samples.
pub record Frame : Type 0 where
  pub luma : Size
  pub colour : Size
  pub luma_depth : ℕ
  pub colour_depth : ℕ

-- the numbers of a shape, without what is known of them
abbrev pub frame_of : PictureShape → Frame
frame_of shape =
    record { luma = shape.luma; colour = shape.colour; luma_depth = shape.luma_depth; colour_depth = shape.colour_depth }
