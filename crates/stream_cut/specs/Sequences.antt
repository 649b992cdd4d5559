-- A cut by its sequences: each gives its first header, its chosen pictures and an end, with new offsets.
use Rattle.std.specs.Prelude.{◌≡◌, ◌<◌, ℕ, ◌+◌, ◌/◌, ◌==◌, Bool, true, false, List, [], ◌∷◌, ◌++◌, length, drop, if◌then◌else◌}
use Rattle.std.specs.List.{AllByRecursion}
use Rattle.parse_info.specs.declared.TheConstants.{HEAD_SIZE}
use Rattle.stream_rows.specs.Units.{Past, nothing_yet, DataUnit, Sequence, Repeated, Picture, Skipped, End}
use Rattle.stream_writer.specs.EncodedStream.{end_unit}
use Rattle.stream_cut.specs.Skim.{skim_rows}
use Rattle.stream_cut.specs.Cut.{Frames, is_in, cut_header_unit, cut_picture_unit, empty_cut, Piece, cut_front, cut_of}
use Rattle.stream_cut.specs.CutLaws.{piece_bytes, StandWithin, IsStreamWith}

-- ---- a sequence by its units: up to the end, or up to where the units are over

-- the payloads of its pictures
abbrev pub payload_before : DataUnit → List ℕ → List (List ℕ) → List (List ℕ)
payload_before (Picture parts number p slices) payload others = payload ∷ others
payload_before Repeated payload others = others
payload_before Skipped payload others = others
payload_before (Sequence parts) payload others = []
payload_before End payload others = []

abbrev pub sequence_payloads : List Piece → List (List ℕ)
sequence_payloads [] = []
sequence_payloads (p ∷ pieces) = payload_before p.unit (drop HEAD_SIZE p.bytes) (sequence_payloads pieces)

-- its end stands
abbrev pub ends_before : DataUnit → Bool → Bool
ends_before End more = true
ends_before (Sequence parts) more = false
ends_before (Picture parts number p slices) more = more
ends_before Repeated more = more
ends_before Skipped more = more

abbrev pub has_end : List Piece → Bool
has_end [] = false
has_end (p ∷ pieces) = ends_before p.unit (has_end pieces)

-- so many pictures are so many whole frames
abbrev pub frames_in : (fields : Bool) → ℕ → ℕ
frames_in fields pictures = if fields then pictures / 2 else pictures

-- a picture, if it is chosen, before others
abbrev pub chosen_if : Bool → List ℕ → List (List ℕ) → List (List ℕ)
chosen_if true payload others = payload ∷ others
chosen_if false payload others = others

-- the chosen ones of these pictures, the first being picture n of a sequence that begins with this frame
abbrev pub chosen_of : Frames → (fields : Bool) → ℕ → ℕ → List (List ℕ) → List (List ℕ)
chosen_of frames fields before n [] = []
chosen_of frames fields before n (payload ∷ payloads) =
    chosen_if (is_in frames (before + frames_in fields n)) payload (chosen_of frames fields before (n + 1) payloads)

-- ---- its cut

-- units of these pictures, and an end where it stands, behind a unit of so many bytes
abbrev pub pictures_behind : ℕ → List (List ℕ) → Bool → List ℕ
pictures_behind previous [] over = if over then end_unit previous else []
pictures_behind previous (payload ∷ payloads) over =
    cut_picture_unit previous payload ++ pictures_behind (HEAD_SIZE + length payload) payloads over

-- a sequence of these pictures: its header, they, and an end; nothing of no pictures
abbrev pub sequence_cut : List ℕ → List (List ℕ) → Bool → List ℕ
sequence_cut header [] over = []
sequence_cut header (payload ∷ payloads) over =
    cut_header_unit header ++ pictures_behind (HEAD_SIZE + length header) (payload ∷ payloads) over

-- the cut of a sequence that begins with a unit of this payload, of which these units follow
abbrev pub begun_cut : Frames → ℕ → DataUnit → List ℕ → List Piece → List ℕ
begun_cut frames before (Sequence parts) header pieces =
    sequence_cut header (chosen_of frames (parts.coding == 1) before 0 (sequence_payloads pieces)) (has_end pieces)
begun_cut frames before Repeated header pieces = []
begun_cut frames before (Picture parts number p slices) header pieces = []
begun_cut frames before Skipped header pieces = []
begun_cut frames before End header pieces = []

-- the first frame behind it
abbrev pub frame_behind : ℕ → DataUnit → List Piece → ℕ
frame_behind before (Sequence parts) pieces = before + frames_in (parts.coding == 1) (length (sequence_payloads pieces))
frame_behind before Repeated pieces = before
frame_behind before (Picture parts number p slices) pieces = before
frame_behind before Skipped pieces = before
frame_behind before End pieces = before

-- The cuts of the sequences that begin in these units, the first with this frame.
abbrev pub sequences_cut : Frames → ℕ → List Piece → List ℕ
sequences_cut frames before [] = []
sequences_cut frames before (p ∷ pieces) = begun_cut frames before p.unit (drop HEAD_SIZE p.bytes) pieces
    ++ sequences_cut frames (frame_behind before p.unit pieces) pieces

-- the payload of a header, or else that of the first one of others
abbrev pub header_or : DataUnit → List ℕ → List ℕ → List ℕ
header_or (Sequence parts) payload others = payload
header_or (Picture parts number p slices) payload others = others
header_or Repeated payload others = others
header_or Skipped payload others = others
header_or End payload others = others

-- the payload of the first header
abbrev pub first_payload : List Piece → List ℕ
first_payload [] = []
first_payload (p ∷ pieces) = header_or p.unit (drop HEAD_SIZE p.bytes) (first_payload pieces)

-- where nothing is chosen, the first header and an end
abbrev pub or_empty : List ℕ → List ℕ → List ℕ
or_empty header [] = empty_cut header
or_empty header (byte ∷ bytes) = byte ∷ bytes

-- ---- the law

-- What the walk of a cut writes is the cut by its sequences: of the units before the last, and of the whole.
pub record IsBySequences (frames : Frames) (pieces : List Piece) (last : Piece) : Type 0 where
  pub front : cut_front frames pieces ≡ sequences_cut frames 0 pieces
  pub whole : cut_of frames pieces ≡ or_empty (first_payload pieces) (sequences_cut frames 0 (pieces ++ last ∷ []))

-- So it is of each skimmed stream.
abbrev pub CutsBySequences : Type 0
CutsBySequences = (frames : Frames) (bytes : List ℕ) (pieces : List Piece) (last : Piece)
    → AllByRecursion (λ b. b < 256) bytes → IsStreamWith skim_rows nothing_yet bytes pieces last → IsBySequences frames pieces last

-- What units settle that stand in front of an input is the cut by their sequences, the last of which may have no end yet.
abbrev pub CutFrontsBySequences : Type 0
CutFrontsBySequences = (frames : Frames) (pieces : List Piece) (tail : List ℕ) (left : Past)
    → AllByRecursion (λ b. b < 256) (piece_bytes pieces ++ tail) → StandWithin nothing_yet pieces tail left
    → cut_front frames pieces ≡ sequences_cut frames 0 pieces
