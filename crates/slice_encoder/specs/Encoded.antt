-- What encoding a slice leaves.
use Rattle.std.specs.Prelude.{◌≡◌, ℕ, List, ◌++◌, ◌∷◌, [], length}
use Rattle.planes.specs.declared.ThreePlanes.{ThreePlanes}
use Rattle.bit_codes.specs.Bits.{bits_of}
use Rattle.bounded_blocks.specs.Writing.{need}
use Rattle.slice_geometry.specs.declared.PictureShape.{PictureShape}
use Rattle.slice_geometry.specs.declared.SliceHead.{SliceHead}
use Rattle.slice_geometry.specs.Slicing.{Slicing, slice_bytes, slice_number}
use Rattle.slice_encoder.specs.declared.encoder.Trial.{Trial}
use Rattle.slice_encoder.specs.Trials.{CodedPicture, Lists, last_lists, AreKept}
use Rattle.slice_encoder.specs.Choice.{fits, IsLeastIndex, slice_bits}

-- The slice takes the least index that fits of these lists, its head tells the index and the need of its luma list, and
-- its bytes are its bits.
pub record IsEncoded (lists_at : ℕ → Lists) (bytes : List ℕ) (head : SliceHead) : Type 0 where
  pub least : IsLeastIndex (length bytes) lists_at head.qindex
  pub luma_bits : head.luma_bits ≡ need (lists_at head.qindex).luma
  pub bits : bits_of bytes ≡ slice_bits (length bytes) head.qindex (lists_at head.qindex)

-- The same after slices with these indices, whose values are kept from then on.
pub record IsEncodedAfter (j : CodedPicture) (indices : List ℕ) (sx sy : ℕ) (bytes : List ℕ) (head : SliceHead)
    (kept : ThreePlanes) : Type 0 where
  pub slice : IsEncoded (λ i. last_lists j (indices ++ i ∷ []) sx sy) bytes head
  pub values : AreKept j (indices ++ head.qindex ∷ []) kept

-- what contracts see of an encoder
pub record SliceEncoderSeen : Type 0 where
  pub slicing : Slicing
  pub shape : PictureShape

-- ---- a trial

-- how many bytes the slice in column sx and row sy has
abbrev pub share_of : Slicing → ℕ → ℕ → ℕ
share_of s sx sy = slice_bytes s.a s.b (slice_number s sx sy)

-- what it answers of lists
abbrev pub trial_of : ℕ → Lists → Trial
trial_of bytes l = record { luma_need = need l.luma; colour_need = need l.colour; fits = fits bytes l }

-- A trial after slices with these indices.
pub record IsTriedAfter (j : CodedPicture) (indices : List ℕ) (sx sy index : ℕ) (trial : Trial)
    (kept : ThreePlanes) : Type 0 where
  pub answer : trial ≡ trial_of (share_of j.slicing sx sy) (last_lists j (indices ++ index ∷ []) sx sy)
  pub values : AreKept j (indices ++ index ∷ []) kept
