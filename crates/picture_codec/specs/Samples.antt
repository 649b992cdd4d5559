-- The samples of a component and of a picture.
use Rattle.std.specs.Prelude.{◌≡◌, ℕ, ◌+◌, ◌*◌, ◌/◌, ◌%◌, ◌^◌, ◌<◌, ◌++◌, List, length, take, drop, map, replicate, slice_index_or, slice_set}
use Rattle.std.specs.List.{range_with_len}
use Rattle.slice_geometry.specs.declared.Component.{Component}
use Rattle.slice_geometry.specs.declared.Component.TheVariants.{Luma, C1, C2}
use Rattle.slice_geometry.specs.declared.Size.{Size}
use Rattle.slice_geometry.specs.declared.PictureShape.{PictureShape}
use Rattle.lifting.specs.Transform.{Grid}
use Rattle.transform_params.specs.Params.{Params}
use Rattle.slice_geometry.specs.Frames.{Frame, frame_of}
use Rattle.picture_codec.specs.Pictures.{size_of, depth_of, sample_of, sample}

-- h rows of w samples, row by row from the top
pub record SamplesSeen : Type 0 where
  pub w : ℕ
  pub h : ℕ
  pub cells : List ℕ

-- the sample in row y and column x
abbrev pub sample_at : SamplesSeen → ℕ → ℕ → ℕ
sample_at s y x = slice_index_or s.cells (y * s.w + x) 0

-- the samples that a function of row and column gives
abbrev pub samples_by : Size → (ℕ → ℕ → ℕ) → SamplesSeen
samples_by size g =
    record { w = size.w; h = size.h; cells = map (λ k. g (k / size.w) (k % size.w)) (range_with_len 0 (size.h * size.w)) }

-- all samples 0
abbrev pub blank : Size → SamplesSeen
blank size = record { w = size.w; h = size.h; cells = replicate (size.h * size.w) 0 }

-- v in row y and column x, and all else as it was
abbrev pub with_sample : SamplesSeen → ℕ → ℕ → ℕ → SamplesSeen
with_sample s y x v = record s { cells = slice_set s.cells (y * s.w + x) v }

-- samples from one place on, row by row, and all else as it was
abbrev pub with_run : SamplesSeen → ℕ → List ℕ → SamplesSeen
with_run s from samples = record s { cells = take from s.cells ++ (samples ++ drop (from + length samples) s.cells) }

-- each number is below m
abbrev pub AreBelow : ℕ → List ℕ → Type 0
AreBelow m cells = (k : ℕ) → slice_index_or cells k 0 < m

-- samples of a component of this size, each of so many bits
pub record AreSamples (size : Size) (depth : ℕ) (s : SamplesSeen) : Type 0 where
  pub width : s.w ≡ size.w
  pub height : s.h ≡ size.h
  pub small : AreBelow (2 ^ depth) s.cells

-- A picture: the samples of its components.
pub record PictureSamples : Type 0 where
  pub luma : SamplesSeen
  pub c1 : SamplesSeen
  pub c2 : SamplesSeen

-- the samples of a component
abbrev pub component_of : PictureSamples → Component → SamplesSeen
component_of s Luma = s.luma
component_of s C1 = s.c1
component_of s C2 = s.c2

-- the picture of one unit
abbrev pub picture_of : Frame → Params → List (List ℕ) → PictureSamples
picture_of f p slices = record {
  luma = samples_by f.luma (sample f p slices Luma);
  c1 = samples_by f.colour (sample f p slices C1);
  c2 = samples_by f.colour (sample f p slices C2);
}

-- all samples 0
abbrev pub blank_picture : PictureShape → PictureSamples
blank_picture shape = record { luma = blank shape.luma; c1 = blank shape.colour; c2 = blank shape.colour }

-- a picture with other samples in a component
abbrev pub with_component : PictureSamples → Component → SamplesSeen → PictureSamples
with_component s Luma rows = record s { luma = rows }
with_component s C1 rows = record s { c1 = rows }
with_component s C2 rows = record s { c2 = rows }

-- the samples of a picture of this shape
pub record HaveShape (shape : PictureShape) (s : PictureSamples) : Type 0 where
  pub luma : AreSamples shape.luma shape.luma_depth s.luma
  pub c1 : AreSamples shape.colour shape.colour_depth s.c1
  pub c2 : AreSamples shape.colour shape.colour_depth s.c2

-- What is seen of a picture: its shape and its samples.
pub record PictureSeen : Type 0 where
  pub shape : PictureShape
  pub samples : PictureSamples

-- the samples of the component, of this picture
abbrev pub component_shown : PictureSeen → Component → SamplesSeen
component_shown p c = component_of p.samples c

-- the width of a component
abbrev pub width_of : PictureSeen → Component → ℕ
width_of p c = (size_of (frame_of p.shape) c).w

-- its height
abbrev pub height_of : PictureSeen → Component → ℕ
height_of p c = (size_of (frame_of p.shape) c).h

-- the bits of its samples
abbrev pub sample_bits : PictureSeen → Component → ℕ
sample_bits p c = depth_of (frame_of p.shape) c

-- a component's samples from a plane: its numbers clipped and offset
abbrev pub with_shown : PictureSeen → Component → Grid → PictureSeen
with_shown p c g = record p {
  samples = with_component p.samples c
      (samples_by (size_of (frame_of p.shape) c) (λ y x. sample_of (sample_bits p c) (g y x)));
}
