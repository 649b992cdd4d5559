-- The settings that operands ask for, and the rules on them.
use Rattle.std.specs.Prelude.{ℕ, zero, suc, ◌+◌, ◌-◌, ◌*◌, ◌/◌, ◌^◌, ◌%◌, ◌==◌, ◌&&◌, ◌||◌, not, nat_le, Bool, true, List, [], ◌∷◌, length, slice_index, Option, Some, None, if◌then◌else◌}
use Rattle.std.specs.Int.{is_in_range}
use Rattle.field_rows.specs.Rows.{Rule, ◌or_else◌, first_broken}
use Rattle.sequence_header.specs.declared.parts.HeaderParts.{HeaderParts}
use Rattle.vc2_words.specs.declared.settings.CutSettings.{CutSettings}
use Rattle.vc2_words.specs.declared.settings.FieldVideo.{FieldVideo}
use Rattle.sequence_header.specs.declared.parts.RateField.{RateField}
use Rattle.sequence_header.specs.declared.parts.RateField.TheVariants as rates
use Rattle.sequence_header.specs.declared.parts.AspectField.TheVariants as aspects
use Rattle.sequence_header.specs.declared.parts.ColourField.TheVariants as colours
use Rattle.sequence_header.specs.declared.parts.SignalField.{SignalField}
use Rattle.sequence_header.specs.declared.parts.SignalField.TheVariants as signals
use Rattle.sequence_header.specs.Bytes.{header_len}
use Rattle.slice_geometry.specs.Slicing.{Slicing, slice_count, total_bytes}
use Rattle.lifting.specs.declared.Wavelet.{Wavelet}
use Rattle.lifting.specs.declared.Wavelet.TheVariants.{LeGall, HaarFlat, HaarShift}
use Rattle.transform_params.specs.Params.{Params}
use Rattle.transform_params.specs.ParameterFields.{unit_length}
use Rattle.vc2_words.specs.declared.keys.Key.TheVariants as of_key
use Rattle.vc2_words.specs.declared.keys.Key.{Key}
use Rattle.vc2_words.specs.declared.keys.Rule.TheVariants as broken
use Rattle.vc2_words.specs.declared.keys.Rule as settings
use Rattle.channel_schedule.specs.declared.schedule.Rate.{Rate}
use Rattle.vc2_words.specs.Operands.{Table, value_of}

-- ---- numbers of operands

-- number i of a value, 0 where none is given
abbrev pub number_of : Option (List ℕ) → ℕ → ℕ
number_of None i = 0
number_of (Some ns) i = slice_index ns i

-- number i of what a key was given
abbrev pub given_number : Table → Key → ℕ → ℕ
given_number given key i = number_of (value_of given key) i

-- the first number of a value, where one is given
abbrev pub first_given : Option (List ℕ) → Option ℕ
first_given None = None
first_given (Some ns) = Some (slice_index ns 0)

-- ---- the header

-- the rate by its index where it is one of the standard's table
abbrev pub rate_field : ℕ → ℕ → RateField
rate_field num den =
    if num == 24000 && den == 1001 then rates.Index 1 else (
    if num == 24 && den == 1 then rates.Index 2 else (
    if num == 25 && den == 1 then rates.Index 3 else (
    if num == 30000 && den == 1001 then rates.Index 4 else (
    if num == 30 && den == 1 then rates.Index 5 else (
    if num == 50 && den == 1 then rates.Index 6 else (
    if num == 60000 && den == 1001 then rates.Index 7 else (
    if num == 60 && den == 1 then rates.Index 8 else rates.Pair num den)))))))

-- an index where one number is given, else the range
abbrev pub signal_of : Option (List ℕ) → SignalField
signal_of None = signals.Index 1
signal_of (Some ns) =
    if length ns == 1
    then signals.Index (slice_index ns 0)
    else signals.Custom (record {
      luma_offset = slice_index ns 0;
      luma_excursion = slice_index ns 1;
      colour_offset = slice_index ns 2;
      colour_excursion = slice_index ns 3;
    })

-- the header's parts that are asked for (11.1, the scan 11.4.5)
abbrev pub parts_of : Table → HeaderParts
parts_of given = record {
  major = 1;
  minor = 0;
  level = 0;
  width = given_number given of_key.Size 0;
  height = given_number given of_key.Size 1;
  sampling = given_number given of_key.Sampling 0;
  scan = first_given (value_of given of_key.Scan);
  rate = rate_field (given_number given of_key.Fps 0) (given_number given of_key.Fps 1);
  aspect = aspects.Default;
  clean = None;
  signal = signal_of (value_of given of_key.Signal);
  colour = colours.Default;
  coding = given_number given of_key.Fields 0;
}

-- sides of 1 to 8192 samples, and at most 2^24 samples in all
abbrev pub is_size : HeaderParts → Bool
is_size p = is_in_range 1 8192 p.width && (is_in_range 1 8192 p.height && nat_le (p.width * p.height) (2 ^ 24))

-- colour and fields have whole numbers of samples and lines
abbrev pub is_divided : HeaderParts → Bool
is_divided p =
    (p.sampling == 0 || p.width % 2 == 0)
    && ((not (p.sampling == 2) || p.height % 2 == 0)
    && (p.coding == 0 || (p.height % 2 == 0 && (not (p.sampling == 2) || p.height % 4 == 0))))

-- a range of its own has excursions of 1 to 65535
abbrev pub is_signal : SignalField → Bool
is_signal (signals.Index n) = true
is_signal (signals.Custom r) = is_in_range 1 65535 r.luma_excursion && is_in_range 1 65535 r.colour_excursion

-- ---- fields

-- the parts of raw fields; raw video has no rate, so any stands for it
abbrev pub of_fields : HeaderParts → HeaderParts
of_fields p = record p { rate = rates.Index 1; coding = 1 }

-- the header of raw fields
abbrev pub field_parts : Table → HeaderParts
field_parts given = of_fields (parts_of given)

-- the rules of raw fields, in the order in which they are asked
abbrev pub field_rules : HeaderParts → List (Rule settings.Rule)
field_rules parts =
    (is_size parts or_else broken.Size) ∷ (is_divided parts or_else broken.Divide)
    ∷ (is_signal parts.signal or_else broken.Signal) ∷ []

-- the first field has line 0 of the frame
abbrev pub is_top : Table → Bool
is_top given = given_number given of_key.Order 0 == 1

-- the video of raw fields
abbrev pub video_of : Table → FieldVideo
video_of given = record { header = field_parts given; top = is_top given }

-- ---- the parameters

-- the wavelet by the number of its name
abbrev pub wavelet_of : ℕ → Wavelet
wavelet_of n = if n == 0 then LeGall else (if n == 1 then HaarFlat else HaarShift)

-- the depth, the slices and a slice's share (12.4.5.2)
abbrev pub slicing_of : Table → Slicing
slicing_of given = record {
  depth = given_number given of_key.Depth 0;
  slices_x = given_number given of_key.Slices 0;
  slices_y = given_number given of_key.Slices 1;
  a = given_number given of_key.Bytes 0;
  b = given_number given of_key.Bytes 1;
}

-- the numbers that are given
abbrev pub entries_of : Option (List ℕ) → List ℕ
entries_of None = []
entries_of (Some ns) = ns

-- the transform parameters that are asked for (12.4)
abbrev pub params_of : Table → Params
params_of given = record {
  wavelet = wavelet_of (given_number given of_key.Wavelet 0);
  slicing = slicing_of given;
  matrix = record { depth = given_number given of_key.Depth 0; entries = entries_of (value_of given of_key.Matrix) };
}

-- 1 to 8192 slices a side, and at most 2^20 of them
abbrev pub are_slices : Slicing → Bool
are_slices s = is_in_range 1 8192 s.slices_x && (is_in_range 1 8192 s.slices_y && nat_le (slice_count s) (2 ^ 20))

-- a byte a slice at least, and at most 2^28 a picture
abbrev pub is_share : Slicing → Bool
is_share s = nat_le 1 s.b && (nat_le s.b s.a && nat_le (total_bytes s) (2 ^ 28))

-- ---- all rules

-- fields come in pairs
abbrev pub is_even_with : ℕ → ℕ → Bool
is_even_with coding n = not (coding == 1) || n % 2 == 0

-- a number that may be left out is even where pictures are fields
abbrev pub are_paired : ℕ → Option ℕ → Bool
are_paired coding None = true
are_paired coding (Some n) = is_even_with coding n

-- how many sequences begin behind the first one: one before each picture whose position is a positive multiple of the group
abbrev pub later_sequences : Option ℕ → ℕ → ℕ
later_sequences None pictures = 0
later_sequences (Some zero) pictures = 0
later_sequences (Some (suc n)) pictures = (pictures - 1) / suc n

-- the bytes of a stream of so many pictures: a header unit and an end unit for each sequence, and a unit for each picture
abbrev pub asked_length : HeaderParts → Params → Option ℕ → ℕ → ℕ
asked_length parts params group pictures =
    (1 + later_sequences group pictures) * (13 + header_len parts + 13) + pictures * unit_length params

-- a trial's stream has at most 2^28 bytes
abbrev pub is_short : HeaderParts → Params → Option ℕ → Option ℕ → Bool
is_short parts params group None = true
is_short parts params group (Some pictures) = nat_le (asked_length parts params group pictures) (2 ^ 28)

-- the rules on the numbers of `encode` and of `trial`, which has a number of pictures
abbrev pub trial_number_rules : HeaderParts → Params → ℕ → Option ℕ → Option ℕ → List (Rule settings.Rule)
trial_number_rules parts params first group pictures =
    (is_size parts or_else broken.Size)
    ∷ (is_divided parts or_else broken.Divide)
    ∷ (is_signal parts.signal or_else broken.Signal)
    ∷ (nat_le params.slicing.depth 4 or_else broken.Depth)
    ∷ (are_slices params.slicing or_else broken.Slices)
    ∷ (is_share params.slicing or_else broken.Share)
    ∷ ((length params.matrix.entries == 1 + 3 * params.slicing.depth) or_else broken.MatrixCount)
    ∷ (is_even_with parts.coding first or_else broken.FirstOdd)
    ∷ (are_paired parts.coding pictures or_else broken.FieldCount)
    ∷ (are_paired parts.coding group or_else broken.GroupOdd) ∷ []

-- and on a trial's length
abbrev pub trial_rules : HeaderParts → Params → Option ℕ → Option ℕ → List (Rule settings.Rule)
trial_rules parts params group pictures = (is_short parts params group pictures or_else broken.TrialSize) ∷ []

-- the first of two rules that are broken
abbrev pub or_first : Option settings.Rule → Option settings.Rule → Option settings.Rule
or_first None later = later
or_first (Some rule) later = Some rule

-- the first rule that these operands break
abbrev pub broken_rule : Table → Option ℕ → Option settings.Rule
broken_rule given pictures =
    let group = first_given (value_of given of_key.Group) in
    or_first (first_broken (trial_number_rules (parts_of given) (params_of given) (given_number given of_key.First 0) group pictures))
    (first_broken (trial_rules (parts_of given) (params_of given) group pictures))

-- what is asked of a stream; a new sequence begins behind every so many pictures
pub record Asked : Type 0 where
  pub parts : HeaderParts
  pub params : Params
  pub first : ℕ
  pub rate : Rate
  pub group : Option ℕ
  pub idle : ℕ

-- the rate that is given: so many bytes in so many slots
abbrev pub rate_given : Option (List ℕ) → Option Rate
rate_given None = None
rate_given (Some ns) = Some (record { num = slice_index ns 0; den = slice_index ns 1 })

-- the buffer that is given, in bytes
abbrev pub buffer_given : Option (List ℕ) → Option ℕ
buffer_given given = first_given given

-- the rate that is given, else the usual one
abbrev pub rate_or : Rate → Option Rate → Rate
rate_or usual None = usual
rate_or usual (Some rate) = rate

-- a picture unit's bytes in as many slots as it has slices and idle slots behind them, where no rate is given
abbrev pub rate_of : Params → ℕ → Option (List ℕ) → Rate
rate_of params idle given =
    rate_or (record { num = unit_length params; den = slice_count params.slicing + idle }) (rate_given given)

-- all that is asked for of a stream
abbrev pub asked_of : Table → Asked
asked_of given = record {
  parts = parts_of given;
  params = params_of given;
  first = given_number given of_key.First 0;
  rate = rate_of (params_of given) (given_number given of_key.Idle 0) (value_of given of_key.Rate);
  group = first_given (value_of given of_key.Group);
  idle = given_number given of_key.Idle 0;
}

-- ---- a cut

-- its rate is given, since the command has to have one
abbrev pub cut_of : Table → CutSettings
cut_of given = record {
  from = given_number given of_key.From 0;
  to = given_number given of_key.To 0;
  rate = record { num = given_number given of_key.Rate 0; den = given_number given of_key.Rate 1 };
  idle = given_number given of_key.Idle 0;
}

-- there is a frame from the one number on and before the other
abbrev pub cut_rules : CutSettings → List (Rule settings.Rule)
cut_rules c = (nat_le (c.from + 1) c.to or_else broken.CutOrder) ∷ []
