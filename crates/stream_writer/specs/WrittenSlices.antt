-- The slices that were written of a picture are slices of a stream.
use Rattle.std.specs.Prelude.{◌≡◌, ℕ, ◌+◌, ◌<◌, false, List, [], length, take, slice_index, slice_index_or, max}
use Rattle.std.specs.List.{All, AllByRecursion}
use Rattle.bounded_blocks.specs.Writing.{need}
use Rattle.sequence_header.specs.declared.parts.HeaderParts.{HeaderParts}
use Rattle.sequence_header.specs.Coding.{luma_size, colour_size}
use Rattle.lifting.specs.declared.Wavelet.{Wavelet}
use Rattle.slice_geometry.specs.Slicing.{IsAllowed, slice_count, slice_number}
use Rattle.transform_params.specs.Params.{Params}
use Rattle.slice_decoder.specs.Slice.{slice_at}
use Rattle.slice_encoder.specs.Trials.{CodedPicture, luma_of, c1_of, c2_of, restored_after, lists}
use Rattle.slice_encoder.specs.Chosen.{chosen, written_slices}
use Rattle.slice_encoder.specs.TrialLaws.{IsIndex, IsSteepOk}
use Rattle.slice_encoder.specs.Ready.{AreGiven}
use Rattle.picture_codec.specs.Written.{AreWritten, coded_params}
use Rattle.stream_rows.specs.Units.{share}
use Rattle.stream_writer.specs.EncodedStream.{IsSliced}

-- so many slices as the picture has, each of its share of bytes
pub record HaveShares (p : Params) (slices : List (List ℕ)) : Type 0 where
  pub count : length slices ≡ slice_count p.slicing
  pub many : (n : ℕ) → n < length slices → length (slice_index_or slices n []) ≡ share p n
  pub fit : (n : ℕ) → n < length slices → AllByRecursion (λ b. b < 256) (slice_index_or slices n [])

-- A reader finds in each slice the index that it was written at, and the encoder's lists.
abbrev pub HoldLists : CodedPicture → List ℕ → List (List ℕ) → Type 0
HoldLists j indices slices = (sx sy : ℕ) → sx < j.slicing.slices_x → sy < j.slicing.slices_y
    → (let n = slice_number j.slicing sx sy in
    let front = take (n + 1) indices in
    let index = slice_index indices n in
    let l = lists j (restored_after (luma_of j) front) (restored_after (c1_of j) front)
    (restored_after (c2_of j) front) index sx sy in
    slice_at j.slicing j.frame.luma j.frame.colour sx sy (slice_index_or slices n [])
    ≡ record { qindex = index; luma_bits = need l.luma; too_long = false; luma = l.luma; colour = l.colour })

-- Slices that were written, each at its index in its share of bytes, pass a reader's rules, and hold the encoder's lists.
abbrev pub WrittenAreSliced : Type 0
WrittenAreSliced = (parts : HeaderParts) (wavelet : Wavelet) (j : CodedPicture) (indices : List ℕ)
    (slices : List (List ℕ)) → IsAllowed j.slicing → AreGiven j → All IsIndex indices → AreWritten j indices slices
    → j.frame.luma ≡ luma_size parts → j.frame.colour ≡ colour_size parts → HaveShares (coded_params wavelet j) slices
    → IsSliced parts (coded_params wavelet j) slices × HoldLists j indices slices

-- So are the slices that an encoder chooses for a picture, each at the least index at which it fits after those before it.
abbrev pub ChosenAreSliced : Type 0
ChosenAreSliced = (parts : HeaderParts) (wavelet : Wavelet) (j : CodedPicture) → IsAllowed j.slicing → AreGiven j
    → IsSteepOk j.slicing.depth (max j.frame.luma_depth j.frame.colour_depth) j.matrix
    → j.frame.luma ≡ luma_size parts → j.frame.colour ≡ colour_size parts
    → IsSliced parts (coded_params wavelet j) (written_slices j) × HoldLists j (chosen j (slice_count j.slicing)) (written_slices j)
