-- The picture of one unit, place by place (SMPTE ST 2042-1:2017, 15.3 inverse_wavelet_transform, 15.5 clip_picture,
-- offset_picture).
use Rattle.std.specs.Prelude.{ℕ, ◌+◌, ◌*◌, List, [], slice_index_or, ℤ, pos}
use Rattle.slice_geometry.specs.Frames.{Frame}
use Rattle.slice_geometry.specs.declared.Size.{Size}
use Rattle.slice_geometry.specs.declared.Component.{Component}
use Rattle.slice_geometry.specs.declared.Component.TheVariants.{Luma, C1, C2}
use Rattle.slice_geometry.specs.Slicing.{slice_number}
use Rattle.slice_geometry.specs.Geometry.{band_size, holding}
use Rattle.slice_decoder.specs.Slice.{slice_at, luma_values, colour_values}
use Rattle.slice_geometry.specs.SliceOrder.{place_number}
use Rattle.dc_prediction.specs.Prediction.{restored}
use Rattle.lifting.specs.Transform.{Grid, Coefficients, synthesis}
pub use Rattle.lifting.specs.Clipping.{clipped, sample_of}
use Rattle.transform_params.specs.Params.{Params}

-- the size of a component
abbrev pub size_of : Frame → Component → Size
size_of f Luma = f.luma
size_of f C1 = f.colour
size_of f C2 = f.colour

-- the bits of its samples
abbrev pub depth_of : Frame → Component → ℕ
depth_of f Luma = f.luma_depth
depth_of f C1 = f.colour_depth
depth_of f C2 = f.colour_depth

-- ---- the bands

-- the value of a component at a place of its slice, by the place's number
abbrev pub component_value : Component → List ℤ → List ℤ → ℕ → ℤ
component_value Luma lumas colours k = slice_index_or lumas k (pos 0)
component_value C1 lumas colours k = slice_index_or colours (2 * k) (pos 0)
component_value C2 lumas colours k = slice_index_or colours (2 * k + 1) (pos 0)

-- the dequantised value that the slice of these bytes, in column sx and row sy, gives a place of its rectangle in a band
abbrev pub slice_value : Frame → Params → Component → ℕ → ℕ → List ℕ → ℕ → ℕ → Grid
slice_value f p c sx sy bytes level orient y x =
    let s = p.slicing in
    let slice = slice_at s f.luma f.colour sx sy bytes in
    component_value c (luma_values s f.luma sx sy p.matrix slice) (colour_values s f.colour sx sy p.matrix slice)
    (place_number s (size_of f c) sx sy level orient y x)

-- The dequantised value at a place of a band: that of the one slice whose rectangle holds the place.
unfoldable pub coefficient : Frame → Params → List (List ℕ) → Component → ℕ → ℕ → Grid
coefficient f p slices c level orient y x =
    let band = band_size p.slicing.depth level (size_of f c) in
    let sx = holding p.slicing.slices_x band.w x in
    let sy = holding p.slicing.slices_y band.h y in
    slice_value f p c sx sy (slice_index_or slices (slice_number p.slicing sx sy) []) level orient y x

-- the bands of a component: level 0 restored from its residuals, and the others as they are
abbrev pub coefficients : Frame → Params → List (List ℕ) → Component → Coefficients
coefficients f p slices c = record {
  ll = restored (coefficient f p slices c 0 0);
  hl = λ level. coefficient f p slices c level 1;
  lh = λ level. coefficient f p slices c level 2;
  hh = λ level. coefficient f p slices c level 3;
}

-- ---- the samples

-- The sample of a component in row y and column x: over the synthesis of its bands.
unfoldable pub sample : Frame → Params → List (List ℕ) → Component → ℕ → ℕ → ℕ
sample f p slices c y x =
    let lowest = band_size p.slicing.depth 0 (size_of f c) in
    sample_of (depth_of f c) (synthesis p.wavelet lowest.h lowest.w (coefficients f p slices c) p.slicing.depth y x)
