-- Pictures that are given back as they were.
use Rattle.std.specs.Prelude.{◌≡◌, ℕ, ◌<◌, slice_index}
use Rattle.planes.specs.Subbands.{BandExists}
use Rattle.quant_factors.specs.Weights.{band_quantiser}
use Rattle.slice_geometry.specs.declared.Component.{Component}
use Rattle.slice_geometry.specs.declared.PictureShape.{PictureShape}
use Rattle.slice_geometry.specs.Slicing.{slice_count}
use Rattle.slice_encoder.specs.Chosen.{chosen}
use Rattle.transform_params.specs.Params.{Params}
use Rattle.transform_params.specs.ParameterFields.{AreLawfulParams}
use Rattle.picture_codec.specs.Pictures.{size_of, sample}
use Rattle.slice_geometry.specs.Frames.{frame_of}
use Rattle.picture_codec.specs.Samples.{PictureSamples, HaveShape, component_of, sample_at}
use Rattle.picture_codec.specs.Encoding.{coded_from, slices_of, IsSteepOkFor}

-- every slice has quantiser 0 in every band
abbrev pub IsLossless : PictureShape → Params → PictureSamples → Type 0
IsLossless shape p s = (n level orient : ℕ) → n < slice_count p.slicing → BandExists p.slicing.depth level orient
    → band_quantiser p.matrix (slice_index (chosen (coded_from (frame_of shape) p s) (slice_count p.slicing)) n) level orient ≡ 0

-- Then each sample that is decoded of what was written is the one that was there.
abbrev pub LosslessIsGivenBack : Type 0
LosslessIsGivenBack = (shape : PictureShape) (p : Params) (s : PictureSamples) → AreLawfulParams p → IsSteepOkFor shape p
    → HaveShape shape s → IsLossless shape p s
    → (c : Component) (y x : ℕ) → y < (size_of (frame_of shape) c).h → x < (size_of (frame_of shape) c).w
    → sample (frame_of shape) p (slices_of (frame_of shape) p s) c y x ≡ sample_at (component_of s c) y x
