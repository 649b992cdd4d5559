-- The rows of the sequence header, in order (SMPTE ST 2042-1:2017, 11: sequence_header). Beside each group stands its
-- name there. A number past its rule is refused at its own field.
use Rattle.std.specs.Prelude.{ℕ, ◌*◌, ◌-◌, ◌^◌, ◌%◌, ◌&&◌, ◌||◌, not, List, [], ◌∷◌, Option, nat_le, ◌==◌, if◌then◌else◌}
use Rattle.std.specs.Int.{is_in_range}
use Rattle.bit_codes.specs.declared.CodeFault.{CodeFault}
use Rattle.bit_codes.specs.declared.CodeFault.TheVariants as codes
use Rattle.field_rows.specs.Rows.{Rule, ◌or_else◌, Rows, done, ◌>>=◌, number, within, number_under, flag, flag_set, if_set, whole_bytes, Fault}
use Rattle.sequence_header.specs.declared.parts.FieldName.TheVariants as field_names
use Rattle.sequence_header.specs.declared.parts.HeaderReason.{HeaderReason}
use Rattle.sequence_header.specs.declared.parts.HeaderReason.TheVariants.{Truncated, NumberTooLarge, VersionRefused, NotLowDelay, PresetFormat, DefaultTaken, SizeRefused, SamplingUnknown, SizeNotDivisible, ScanUnknown, RateRefused, SignalRefused, CodingModeUnknown}
use Rattle.sequence_header.specs.declared.parts.HeaderFault.{HeaderFault}
use Rattle.sequence_header.specs.declared.parts.HeaderParts.{HeaderParts}
use Rattle.sequence_header.specs.declared.parts.Version.{Version}
use Rattle.slice_geometry.specs.declared.Size.{Size}
use Rattle.sequence_header.specs.declared.parts.CleanArea.{CleanArea}
use Rattle.sequence_header.specs.declared.parts.RateField.{RateField}
use Rattle.sequence_header.specs.declared.parts.RateField.TheVariants as rates
use Rattle.sequence_header.specs.declared.parts.AspectField.{AspectField}
use Rattle.sequence_header.specs.declared.parts.AspectField.TheVariants as aspects
use Rattle.sequence_header.specs.declared.parts.SignalField.{SignalField}
use Rattle.sequence_header.specs.declared.parts.SignalField.TheVariants as signals
use Rattle.sequence_header.specs.declared.parts.ColourField.{ColourField}
use Rattle.sequence_header.specs.declared.parts.ColourField.TheVariants as colours

-- the reasons of a short field and of a number that is too large
abbrev pub reason_of : CodeFault → HeaderReason
reason_of codes.Short = Truncated
reason_of codes.TooLarge = NumberTooLarge

-- a fault as rows have it
abbrev pub header_fault : HeaderFault → Fault HeaderReason
header_fault f = record { place = f.bit; reason = f.reason }

-- parse_parameters (11.2), and the base video format (11.3)
unfoldable pub version_rows : Rows HeaderReason Version
version_rows = do
  major ← within 1 2 VersionRefused
  minor ← number
  profile ← within 0 0 NotLowDelay
  level ← number
  base ← within 0 0 PresetFormat
  done (record { major = major; minor = minor; level = level })

-- the rules of a height beside this width
abbrev pub height_rules : ℕ → ℕ → List (Rule HeaderReason)
height_rules width v = ((is_in_range 1 8192 v && nat_le (width * v) (2 ^ 24)) or_else SizeRefused) ∷ []

-- frame_size (11.4.3)
unfoldable pub size_rows : Rows HeaderReason Size
size_rows = do
  size_flag ← flag_set (DefaultTaken field_names.Size)
  width ← within 1 8192 SizeRefused
  height ← number_under (height_rules width)
  done (record { w = width; h = height })

-- The rules of a sampling index beside this size of a frame. 0 is 4:4:4, 1 is 4:2:2, 2 is 4:2:0.
abbrev pub sampling_rules : Size → ℕ → List (Rule HeaderReason)
sampling_rules size v =
    (nat_le v 2 or_else SamplingUnknown)
    ∷ ((v == 0 || size.w % 2 == 0) or_else SizeNotDivisible)
    ∷ ((not (v == 2) || size.h % 2 == 0) or_else SizeNotDivisible) ∷ []

-- color_diff_sampling_format (11.4.4)
unfoldable pub sampling_rows : Size → Rows HeaderReason ℕ
sampling_rows size = do
  sampling_flag ← flag_set (DefaultTaken field_names.Sampling)
  index ← number_under (sampling_rules size)
  done index

-- scan_format (11.4.5): 0 is progressive, 1 is interlaced
unfoldable pub scan_rows : Rows HeaderReason (Option ℕ)
scan_rows = do
  scan_flag ← flag
  if_set scan_flag (within 0 1 ScanUnknown)

-- frame_rate (11.4.6)
unfoldable pub rate_rows : Rows HeaderReason RateField
rate_rows = do
  rate_flag ← flag_set (DefaultTaken field_names.Rate)
  index ← within 0 8 RateRefused
  if index == 0
      then (do
        numerator ← within 1 (2 ^ 32 - 1) RateRefused
        denominator ← within 1 (2 ^ 32 - 1) RateRefused
        done (rates.Pair numerator denominator))
      else done (rates.Index index)

-- pixel_aspect_ratio (11.4.7)
unfoldable pub aspect_rows : Rows HeaderReason AspectField
aspect_rows = do
  aspect_flag ← flag
  if aspect_flag
      then (do
        index ← number
        if index == 0
            then (do
              numerator ← number
              denominator ← number
              done (aspects.Pair numerator denominator))
            else done (aspects.Index index))
      else done aspects.Default

-- clean_area (11.4.8)
unfoldable pub clean_rows : Rows HeaderReason (Option CleanArea)
clean_rows = do
  clean_flag ← flag
  if_set clean_flag (do
    width ← number
    height ← number
    left ← number
    top ← number
    done (record { width = width; height = height; left = left; top = top }))

-- the rule of both excursions
unfoldable pub excursion : Rows HeaderReason ℕ
excursion = within 1 65535 SignalRefused

-- signal_range (11.4.9)
unfoldable pub signal_rows : Rows HeaderReason SignalField
signal_rows = do
  signal_flag ← flag_set (DefaultTaken field_names.Signal)
  index ← within 0 4 SignalRefused
  if index == 0
      then (do
        luma_offset ← number
        luma_excursion ← excursion
        colour_offset ← number
        colour_excursion ← excursion
        done (signals.Custom (record {
          luma_offset = luma_offset;
          luma_excursion = luma_excursion;
          colour_offset = colour_offset;
          colour_excursion = colour_excursion;
        })))
      else done (signals.Index index)

-- an index behind its flag, as of color_primaries, color_matrix and transfer_function
unfoldable pub flagged_index : Rows HeaderReason (Option ℕ)
flagged_index = do
  index_flag ← flag
  if_set index_flag (number)

-- color_spec (11.4.10)
unfoldable pub colour_rows : Rows HeaderReason ColourField
colour_rows = do
  colour_flag ← flag
  if colour_flag
      then (do
        index ← number
        if index == 0
            then (do
              primaries ← flagged_index
              matrix ← flagged_index
              transfer ← flagged_index
              done (colours.Custom primaries matrix transfer))
            else done (colours.Index index))
      else done colours.Default

-- The rules of a picture coding mode beside this size of a frame and this sampling. 0 is frames, 1 is fields.
abbrev pub coding_rules : Size → ℕ → ℕ → List (Rule HeaderReason)
coding_rules size sampling v =
    (nat_le v 1 or_else CodingModeUnknown)
    ∷ ((v == 0 || (size.h % 2 == 0 && (not (sampling == 2) || size.h % 4 == 0))) or_else SizeNotDivisible) ∷ []

-- the picture coding mode (11.5)
unfoldable pub coding_rows : Size → ℕ → Rows HeaderReason ℕ
coding_rows size sampling = number_under (coding_rules size sampling)

-- all fields of the header
unfoldable pub header_fields : Rows HeaderReason HeaderParts
header_fields = do
  version ← version_rows
  size ← size_rows
  sampling ← sampling_rows size
  scan ← scan_rows
  rate ← rate_rows
  aspect ← aspect_rows
  clean ← clean_rows
  signal ← signal_rows
  colour ← colour_rows
  coding ← coding_rows size sampling
  done (record {
    major = version.major;
    minor = version.minor;
    level = version.level;
    width = size.w;
    height = size.h;
    sampling = sampling;
    scan = scan;
    rate = rate;
    aspect = aspect;
    clean = clean;
    signal = signal;
    colour = colour;
    coding = coding;
  })

-- the header, and the bits up to the byte's end
unfoldable pub header_rows : Rows HeaderReason HeaderParts
header_rows = whole_bytes header_fields
