-- What a decoder makes of slices that were written: it gets back all that the encoder kept.
use Rattle.std.specs.Prelude.{◌≡◌, ℕ, ◌+◌, ◌*◌, ◌<◌, ◌≤◌, true, false, List, [], length, take, slice_index, slice_index_or}
use Rattle.std.specs.List.{All}
use Rattle.planes.specs.Subbands.{BandExists}
use Rattle.bit_codes.specs.Bits.{bits_of}
use Rattle.bounded_blocks.specs.Writing.{need}
use Rattle.dc_prediction.specs.Prediction.{restored}
use Rattle.quant_factors.specs.Factors.{inverse_of, forward_of}
use Rattle.quant_factors.specs.Weights.{band_quantiser}
use Rattle.lifting.specs.declared.Wavelet.{Wavelet}
use Rattle.slice_geometry.specs.declared.Component.{Component}
use Rattle.slice_geometry.specs.declared.Component.TheVariants.{Luma, C1, C2}
use Rattle.slice_geometry.specs.Slicing.{IsAllowed, slice_number}
use Rattle.slice_geometry.specs.Geometry.{band_size, holding}
use Rattle.slice_decoder.specs.Slice.{slice_of}
use Rattle.slice_encoder.specs.Trials as trials
use Rattle.slice_encoder.specs.Trials.{CodedComponent, CodedPicture, luma_of, c1_of, c2_of, Lists, last_lists, restored_after}
use Rattle.slice_encoder.specs.Choice.{fits, slice_bits}
use Rattle.slice_encoder.specs.TrialLaws.{IsIndex, AreSmallValues}
use Rattle.slice_encoder.specs.Ready.{AreGiven}
use Rattle.transform_params.specs.Params.{Params}
use Rattle.picture_codec.specs.Pictures.{size_of, coefficient}

-- ---- a slice

-- The reader of slices gives back what was written: the index, the need of the luma list as the length of its block, and
-- the two lists.
abbrev pub WrittenIsRead : Type 0
WrittenIsRead = (bytes : List ℕ) (index n : ℕ) (l : Lists) → 1 ≤ length bytes → index ≤ 127 → AreSmallValues l.luma
    → AreSmallValues l.colour → length l.colour ≡ 2 * n
    → fits (length bytes) l ≡ true → bits_of bytes ≡ slice_bits (length bytes) index l
    → slice_of bytes (length l.luma) n ≡ record {
      qindex = index;
      luma_bits = need l.luma;
      too_long = false;
      luma = l.luma;
      colour = l.colour;
    }

-- ---- a picture

-- the bytes of a slice were written at an index, at which its lists fit
pub record IsWritten (bytes : List ℕ) (index : ℕ) (l : Lists) : Type 0 where
  pub some : 1 ≤ length bytes
  pub fit : fits (length bytes) l ≡ true
  pub bits : bits_of bytes ≡ slice_bits (length bytes) index l

-- Each slice of a picture was written at its index, after the slices before it.
abbrev pub AreWritten : CodedPicture → List ℕ → List (List ℕ) → Type 0
AreWritten j indices slices = (sx sy : ℕ) → sx < j.slicing.slices_x → sy < j.slicing.slices_y
    → (let n = slice_number j.slicing sx sy in
    IsWritten (slice_index_or slices n []) (slice_index indices n) (last_lists j (take (n + 1) indices) sx sy))

-- the transform parameters of a coded picture
abbrev pub coded_params : Wavelet → CodedPicture → Params
coded_params wavelet j = record { wavelet = wavelet; slicing = j.slicing; matrix = j.matrix }

-- a component of a coded picture
abbrev pub component_coded : CodedPicture → Component → CodedComponent
component_coded j Luma = luma_of j
component_coded j C1 = c1_of j
component_coded j C2 = c2_of j

-- the quantiser of a place of a band, by the index of the slice that holds it
abbrev pub quantiser_at : CodedPicture → List ℕ → Component → ℕ → ℕ → ℕ → ℕ → ℕ
quantiser_at j indices c level orient y x =
    let band = band_size j.slicing.depth level (size_of j.frame c) in
    let n = slice_number j.slicing (holding j.slicing.slices_x band.w x) (holding j.slicing.slices_y band.h y) in
    band_quantiser j.matrix (slice_index indices n) level orient

-- A decoder has in the lowest subbands the values that the encoder restored, and elsewhere the coefficients, quantised
-- and dequantised. At a place whose quantiser is 0 it has the coefficient itself.
pub record RestoresWhatWasWritten (j : CodedPicture) (indices : List ℕ) (slices : List (List ℕ)) (wavelet : Wavelet)
    (c : Component) : Type 0 where
  pub lowest : (y x : ℕ) → y < (band_size j.slicing.depth 0 (size_of j.frame c)).h
      → x < (band_size j.slicing.depth 0 (size_of j.frame c)).w
      → restored (coefficient j.frame (coded_params wavelet j) slices c 0 0) y x ≡ restored_after (component_coded j c) indices y x
  pub others : (level orient y x : ℕ) → BandExists j.slicing.depth level orient → 1 ≤ level
      → y < (band_size j.slicing.depth level (size_of j.frame c)).h → x < (band_size j.slicing.depth level (size_of j.frame c)).w
      → (let q = quantiser_at j indices c level orient y x in
      coefficient j.frame (coded_params wavelet j) slices c level orient y x
      ≡ inverse_of (forward_of (trials.coefficient (component_coded j c) level orient y x) q) q)
  pub lowest_lossless : (y x : ℕ)
      → y < (band_size j.slicing.depth 0 (size_of j.frame c)).h → x < (band_size j.slicing.depth 0 (size_of j.frame c)).w
      → quantiser_at j indices c 0 0 y x ≡ 0
      → restored (coefficient j.frame (coded_params wavelet j) slices c 0 0) y x ≡ trials.coefficient (component_coded j c) 0 0 y x
  pub others_lossless : (level orient y x : ℕ) → BandExists j.slicing.depth level orient → 1 ≤ level
      → y < (band_size j.slicing.depth level (size_of j.frame c)).h → x < (band_size j.slicing.depth level (size_of j.frame c)).w
      → quantiser_at j indices c level orient y x ≡ 0
      → coefficient j.frame (coded_params wavelet j) slices c level orient y x
      ≡ trials.coefficient (component_coded j c) level orient y x

-- What is written is restored: a decoder finds in the slices the quantised coefficients.
abbrev pub WrittenIsRestored : Type 0
WrittenIsRestored = (j : CodedPicture) (indices : List ℕ) (slices : List (List ℕ)) (wavelet : Wavelet) (c : Component)
    → IsAllowed j.slicing → AreGiven j → All IsIndex indices → AreWritten j indices slices
    → RestoresWhatWasWritten j indices slices wavelet c
