-- The cuts of worked sequences: of one byte of header, and of one byte a picture.
use Rattle.std.proofs.Common.{◌≡◌, ℕ, List, [], ◌∷◌, ◌++◌, refl}
use Rattle.sequence_header.specs.declared.parts.HeaderParts.{HeaderParts}
use Rattle.transform_params.specs.Params.{Params}
use Rattle.stream_writer.specs.EncodedStream.{end_unit}
use Rattle.stream_rows.specs.Units.{DataUnit, Sequence, Picture, Skipped, End}
use Rattle.stream_cut.specs.Cut.{Frames, Piece, cut_header_unit, cut_picture_unit}
use Rattle.stream_cut.specs.Sequences.{sequences_cut, first_payload, or_empty}

abbrev piece : DataUnit → ℕ → Piece
piece unit byte = record { unit = unit; bytes = 0 ∷ 0 ∷ 0 ∷ 0 ∷ 0 ∷ 0 ∷ 0 ∷ 0 ∷ 0 ∷ 0 ∷ 0 ∷ 0 ∷ 0 ∷ byte ∷ [] }

abbrev second : Frames
second = record { from = 1; to = 2 }

module _ (parts : HeaderParts) (p : Params) where
  abbrev picture : ℕ → Piece
  picture byte = piece (Picture parts 0 p []) byte

  abbrev sequence : List Piece
  sequence = piece (Sequence parts) 7 ∷ picture 8 ∷ piece Skipped 0 ∷ picture 9 ∷ piece End 0 ∷ []

  -- of two frames the second
  of_frames : parts.coding ≡ 0 → sequences_cut second 0 sequence ≡ cut_header_unit (7 ∷ []) ++ cut_picture_unit 14 (9 ∷ []) ++ end_unit 14
  of_frames e = rw e refl

  -- before its end stands
  not_over : parts.coding ≡ 0 → sequences_cut second 0 (piece (Sequence parts) 7 ∷ picture 8 ∷ picture 9 ∷ []) ≡ cut_header_unit (7 ∷ []) ++ cut_picture_unit 14 (9 ∷ [])
  not_over e = rw e refl

  -- two fields are one frame, and none is the second; the second of two such sequences is
  of_fields : parts.coding ≡ 1 → sequences_cut second 0 sequence ≡ []
  of_fields e = rw e refl

  of_two_sequences : parts.coding ≡ 1 → sequences_cut second 0 (sequence ++ sequence) ≡ cut_header_unit (7 ∷ []) ++ cut_picture_unit 14 (8 ∷ []) ++ cut_picture_unit 14 (9 ∷ []) ++ end_unit 14
  of_two_sequences e = rw e refl

  -- and where nothing is chosen there are two units
  of_nothing : parts.coding ≡ 1 → or_empty (first_payload sequence) (sequences_cut second 0 sequence) ≡ cut_header_unit (7 ∷ []) ++ end_unit 14
  of_nothing e = rw e refl
