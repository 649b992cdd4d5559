-- What an encoder makes of a picture: the coefficients of its components, and the slices that they are written into.
use Rattle.std.specs.Prelude.{ℕ, ◌-◌, ◌^◌, List, [], ◌∷◌, ◌++◌, map, min, max, ℤ, pos, ◌-ℤ◌}
use Rattle.std.specs.List.{flat_map, range_with_len, concat}
use Rattle.std.specs.Int.{w32, to_be_bytes}
use Rattle.planes.specs.Raster.{Raster, Grid}
use Rattle.planes.specs.Subbands.{BandStack}
use Rattle.lifting.specs.declared.Wavelet.{Wavelet}
use Rattle.lifting.specs.Transform.{Coefficients, analysis}
use Rattle.slice_geometry.specs.declared.Size.{Size}
use Rattle.slice_geometry.specs.declared.PictureShape.{PictureShape}
use Rattle.slice_geometry.specs.Frames.{Frame}
use Rattle.slice_geometry.specs.Geometry.{band_size}
use Rattle.slice_encoder.specs.TrialLaws.{IsSteepOk}
use Rattle.slice_encoder.specs.Trials.{CodedPicture}
use Rattle.slice_encoder.specs.Chosen.{written_slices}
use Rattle.transform_params.specs.Params.{Params}
use Rattle.transform_params.specs.ParameterFields.{params_bytes}
use Rattle.picture_codec.specs.Samples.{SamplesSeen, sample_at, PictureSamples}

-- ---- the coefficients

-- A component's samples of d bits, counted from the middle of their range. Beyond its edges each place has the sample of
-- the nearest place inside.
abbrev pub centred : ℕ → Size → SamplesSeen → Grid
centred d size s y x = pos (sample_at s (min y (size.h - 1)) (min x (size.w - 1))) -ℤ pos (2 ^ (d - 1))

-- h rows of w numbers
abbrev pub raster_from : ℕ → ℕ → Grid → Raster ℤ
raster_from w h g = record { w = w; rows = map (λ y. map (g y) (range_with_len 0 w)) (range_with_len 0 h) }

-- HL, LH and HH of a level
abbrev pub level_bands : ℕ → Size → Coefficients → ℕ → List (Raster ℤ)
level_bands depth size c level =
    let band = band_size depth level size in
    raster_from band.w band.h (c.hl level) ∷ raster_from band.w band.h (c.lh level) ∷ raster_from band.w band.h (c.hh level) ∷ []

-- all bands, LL first
abbrev pub bands_from : ℕ → Size → Coefficients → BandStack
bands_from depth size c =
    let lowest = band_size depth 0 size in
    record {
      depth = depth;
      bands = raster_from lowest.w lowest.h c.ll
          ∷ flat_map (level_bands depth size c) (range_with_len 1 depth);
    }

-- the bands of a component: its padded samples, analysed
abbrev pub analysed_bands : Wavelet → ℕ → Size → ℕ → SamplesSeen → BandStack
analysed_bands wavelet depth size d s =
    let lowest = band_size depth 0 size in
    bands_from depth size (analysis wavelet lowest.h lowest.w depth (centred d size s))

-- a picture as it is written
abbrev pub coded_from : Frame → Params → PictureSamples → CodedPicture
coded_from f p s = record {
  slicing = p.slicing;
  frame = f;
  matrix = p.matrix;
  coefficients = record {
    luma = analysed_bands p.wavelet p.slicing.depth f.luma f.luma_depth s.luma;
    c1 = analysed_bands p.wavelet p.slicing.depth f.colour f.colour_depth s.c1;
    c2 = analysed_bands p.wavelet p.slicing.depth f.colour f.colour_depth s.c2;
  };
}

-- ---- what is written

-- the slices of a picture
abbrev pub slices_of : Frame → Params → PictureSamples → List (List ℕ)
slices_of f p s = written_slices (coded_from f p s)

-- the payload of a picture unit: its number, the transform parameters, and the slices
abbrev pub picture_bytes : Params → ℕ → List (List ℕ) → List ℕ
picture_bytes p number slices = to_be_bytes w32 number ++ (params_bytes p ++ concat slices)

-- ---- an encoder

-- what contracts see of it
pub record PictureEncoderSeen : Type 0 where
  pub shape : PictureShape
  pub params : Params

-- the matrix leaves index 127 coarse enough for every picture of this shape
abbrev pub IsSteepOkFor : PictureShape → Params → Type 0
IsSteepOkFor shape p = IsSteepOk p.slicing.depth (max shape.luma_depth shape.colour_depth) p.matrix
