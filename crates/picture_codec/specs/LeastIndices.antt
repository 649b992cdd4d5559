-- The indices of a picture's slices: each is the least at which its slice fits after those before it.
use Rattle.std.specs.Prelude.{◌≡◌, ℕ, ◌<◌, List, [], ◌∷◌, ◌++◌, length, take, slice_index}
use Rattle.slice_geometry.specs.declared.PictureShape.{PictureShape}
use Rattle.slice_geometry.specs.Frames.{frame_of}
use Rattle.slice_geometry.specs.Slicing.{slice_count}
use Rattle.slice_encoder.specs.Choice.{IsLeastIndex}
use Rattle.slice_encoder.specs.Chosen.{chosen, lists_of_slice, share_of_slice}
use Rattle.slice_encoder.specs.Trials.{CodedPicture}
use Rattle.slice_encoder.specs.Ready.{AreGiven}
use Rattle.transform_params.specs.Params.{Params}
use Rattle.transform_params.specs.ParameterFields.{AreLawfulParams}
use Rattle.picture_codec.specs.Samples.{PictureSamples, HaveShape}
use Rattle.picture_codec.specs.Encoding.{coded_from, IsSteepOkFor}

-- an index for each slice, and no smaller one fits it
pub record AreLeast (j : CodedPicture) (indices : List ℕ) : Type 0 where
  pub count : length indices ≡ slice_count j.slicing
  pub each : (n : ℕ) → n < slice_count j.slicing
      → IsLeastIndex (share_of_slice j n) (λ i. lists_of_slice j n (take n indices ++ i ∷ [])) (slice_index indices n)

-- the indices that a picture's slices take are so, and no others are
pub record OneChoice (j : CodedPicture) : Type 0 where
  pub found : AreLeast j (chosen j (slice_count j.slicing))
  pub only : (indices : List ℕ) → AreLeast j indices → indices ≡ chosen j (slice_count j.slicing)

-- Each picture has one choice of least indices.
abbrev pub EachHasOneChoice : Type 0
EachHasOneChoice = (shape : PictureShape) (p : Params) (s : PictureSamples) → AreLawfulParams p → IsSteepOkFor shape p
    → HaveShape shape s → OneChoice (coded_from (frame_of shape) p s)

-- the coefficients of a picture are those that slices can be written of
abbrev pub EachIsGiven : Type 0
EachIsGiven = (shape : PictureShape) (p : Params) (s : PictureSamples) → AreLawfulParams p → HaveShape shape s
    → AreGiven (coded_from (frame_of shape) p s)
