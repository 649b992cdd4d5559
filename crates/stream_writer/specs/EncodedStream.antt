-- The stream that an encoder writes: a sequence header, a unit for each picture, and an end. With a group an end and the same
-- header stand before each picture whose position is a positive multiple of it, so that a new sequence begins there. Next
-- offsets are the units' lengths, those of ends are 0; previous offsets are true, and 0 on each sequence's first unit. The
-- slices of a picture are given as bytes.
use Rattle.std.specs.Prelude.{◌≡◌, ℕ, zero, suc, ◌+◌, ◌%◌, ◌^◌, ◌<◌, ◌≤◌, ◌==◌, ◌&&◌, nat_lt, Bool, false, List, [], ◌∷◌, ◌++◌, length, map, Option, None, Some, if◌then◌else◌}
use Rattle.parse_info.specs.declared.TheConstants.{HEAD_SIZE}
use Rattle.std.specs.List.{AllByRecursion}
use Rattle.field_rows.specs.Rows.{first_broken}
use Rattle.parse_info.specs.declared.Code.TheVariants.{SequenceHeader, EndOfSequence, LowDelayPicture}
use Rattle.parse_info.specs.Head.{head_bytes}
use Rattle.sequence_header.specs.declared.parts.HeaderParts.{HeaderParts}
use Rattle.sequence_header.specs.Bytes.{header_len, header_bytes}
use Rattle.sequence_header.specs.Checking as checking
use Rattle.slice_geometry.specs.Slicing.{slice_count}
use Rattle.transform_params.specs.Params.{Params}
use Rattle.transform_params.specs.ParameterFields.{unit_length, AreLawfulParams}
use Rattle.picture_codec.specs.Encoding.{picture_bytes}
use Rattle.stream_rows.specs.Units.{DataUnit, Sequence, Picture, End, share, slice_rules}
use Rattle.stream_rows.specs.Streams.{Entry, IsStream}

-- ---- units as bytes

-- the first unit of a sequence: its next offset is its length
abbrev pub header_unit : HeaderParts → List ℕ
header_unit parts =
    head_bytes (record { code = SequenceHeader; next = HEAD_SIZE + header_len parts; previous = 0 }) ++ header_bytes parts

-- the unit of a picture, behind a unit of so many bytes
abbrev pub picture_unit : Params → ℕ → ℕ → List (List ℕ) → List ℕ
picture_unit p previous number slices =
    head_bytes (record { code = LowDelayPicture; next = unit_length p; previous = previous }) ++ picture_bytes p number slices

-- the end of a sequence, behind a unit of so many bytes
abbrev pub end_unit : ℕ → List ℕ
end_unit previous = head_bytes (record { code = EndOfSequence; next = 0; previous = previous })

-- ---- the stream

-- What a stream is written under: the header, the transform parameters of every picture, the first picture's number, and
-- behind how many pictures a new sequence begins.
pub record Settings : Type 0 where
  pub parts : HeaderParts
  pub params : Params
  pub first : ℕ
  pub group : Option ℕ

-- numbers rise by one modulo 2 ^ 32
abbrev pub number_after : ℕ → ℕ
number_after number = (number + 1) % 2 ^ 32

-- A new sequence begins before the picture at this position, counted from 0.
abbrev pub begins_at : Option ℕ → ℕ → Bool
begins_at None position = false
begins_at (Some zero) position = false
begins_at (Some (suc n)) position = nat_lt 0 position && position % suc n == 0

-- the bytes of a header's unit
abbrev pub header_length : HeaderParts → ℕ
header_length parts = HEAD_SIZE + header_len parts

-- Behind a unit of so many bytes: what stands before a picture, by whether a new sequence begins with it.
abbrev pub units_before : HeaderParts → Bool → ℕ → List ℕ
units_before parts begins previous = if begins then end_unit previous ++ header_unit parts else []

-- the length of the unit before the picture's
abbrev pub length_before : HeaderParts → Bool → ℕ → ℕ
length_before parts begins previous = if begins then header_length parts else previous

-- the picture's unit, with those before it
abbrev pub units_with : HeaderParts → Params → Bool → ℕ → ℕ → List (List ℕ) → List ℕ
units_with parts p begins previous number slices =
    units_before parts begins previous ++ picture_unit p (length_before parts begins previous) number slices

-- the pictures from a position on, and the end, behind a unit of so many bytes
abbrev pub units_behind : Settings → ℕ → ℕ → ℕ → List (List (List ℕ)) → List ℕ
units_behind s position previous number [] = end_unit previous
units_behind s position previous number (slices ∷ pictures) =
    units_with s.parts s.params (begins_at s.group position) previous number slices
    ++ units_behind s (position + 1) (unit_length s.params) (number_after number) pictures

-- The stream of pictures, each given by the bytes of its slices.
abbrev pub encoded : Settings → List (List (List ℕ)) → List ℕ
encoded s pictures = header_unit s.parts ++ units_behind s 0 (header_length s.parts) s.first pictures

-- ---- what a reader finds in it

-- before a picture, by whether a new sequence begins with it
abbrev pub found_before : HeaderParts → Bool → List DataUnit
found_before parts begins = if begins then End ∷ Sequence parts ∷ [] else []

-- the units of pictures, with headers again in front of each group
abbrev pub pictures_under : Settings → ℕ → ℕ → List (List (List ℕ)) → List DataUnit
pictures_under s position number [] = []
pictures_under s position number (slices ∷ pictures) = found_before s.parts (begins_at s.group position)
    ++ Picture s.parts number s.params slices ∷ pictures_under s (position + 1) (number_after number) pictures

-- all units of a written stream but its end
abbrev pub units_of : Settings → List (List (List ℕ)) → List DataUnit
units_of s pictures = Sequence s.parts ∷ pictures_under s 0 s.first pictures

-- ---- what has to hold of the settings and the slices

-- The bytes of slice n: its share of them, and a reader's rules hold: its luma length fits and no dequantised magnitude
-- is too large.
pub record IsSlice (parts : HeaderParts) (p : Params) (n : ℕ) (bytes : List ℕ) : Type 0 where
  pub many : length bytes ≡ share p n
  pub fit : AllByRecursion (λ b. b < 256) bytes
  pub passes : first_broken (slice_rules parts p n bytes) ≡ None

-- slices from slice n on
abbrev pub AreSlices : HeaderParts → Params → ℕ → List (List ℕ) → Type 0
AreSlices parts p n [] = Unit {0}
AreSlices parts p n (slice ∷ slices) = IsSlice parts p n slice × AreSlices parts p (n + 1) slices

-- all slices of a picture
pub record IsSliced (parts : HeaderParts) (p : Params) (slices : List (List ℕ)) : Type 0 where
  pub count : length slices ≡ slice_count p.slicing
  pub each : AreSlices parts p 0 slices

-- a group has a picture, and where pictures are fields it has whole frames
abbrev pub IsGroup : ℕ → Option ℕ → Type 0
IsGroup coding None = Unit {0}
IsGroup coding (Some group) = (1 ≤ group) × (coding ≡ 1 → group % 2 ≡ 0)

-- settings that break no rule
pub record AreLawful (s : Settings) : Type 0 where
  pub header : checking.IsLawfulHeader s.parts
  pub params : AreLawfulParams s.params
  pub first : s.first < 2 ^ 32
  pub even : s.parts.coding ≡ 1 → s.first % 2 ≡ 0
  pub group : IsGroup s.parts.coding s.group

-- The stream's units are these and the last end.
pub record IsStreamOf (bytes : List ℕ) (units : List DataUnit) : Type 0 where
  pub entries : List Entry
  pub last : Entry
  pub stream : IsStream bytes entries last
  pub found : map (λ (e : Entry). e.unit) entries ≡ units
  pub ends : last.unit ≡ End
