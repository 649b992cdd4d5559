-- The table computes: worked headers, by evaluation.
use Rattle.std.specs.Prelude.{◌==◌, ◌&&◌}
use Rattle.bit_codes.specs.Codes.{code_of}
use Rattle.field_rows.specs.Given.{checked}
use Rattle.sequence_header.specs.HeaderFields.{fields_of}
use Rattle.sequence_header.specs.Bytes.{header_bits, header_len}
use Rattle.std.proofs.Common.{◌≡◌, ℕ, zero, suc, List, [], ◌∷◌, Some, None, Result, Ok, Err, refl, Bool, false, true, take}
use Rattle.bit_codes.specs.Bits.{Cursor, cursor_at}
use Rattle.field_rows.specs.Rows.{Fault, read, spelled, field_at, ◌>>=◌, number, within, number_under, flag, flag_set, byte_end, whole_bytes, if_set}
use Rattle.sequence_header.specs.declared.parts.FieldName.TheVariants as field_names
use Rattle.sequence_header.specs.declared.parts.HeaderReason.{HeaderReason}
use Rattle.sequence_header.specs.declared.parts.HeaderReason.TheVariants.{Truncated, NumberTooLarge, DefaultTaken}
use Rattle.sequence_header.specs.declared.parts.HeaderParts.{HeaderParts}
use Rattle.sequence_header.specs.declared.parts.RateField.TheVariants as rates
use Rattle.sequence_header.specs.declared.parts.AspectField.TheVariants as aspects
use Rattle.sequence_header.specs.declared.parts.SignalField.TheVariants as signals
use Rattle.sequence_header.specs.declared.parts.ColourField.TheVariants as colours
use Rattle.sequence_header.specs.Header.{reason_of, version_rows, size_rows, sampling_rows, excursion, scan_rows, rate_rows, aspect_rows, clean_rows, signal_rows, flagged_index, colour_rows, coding_rows, header_fields, header_rows}

abbrev header_of : List ℕ → Result (HeaderParts × Cursor) (Fault HeaderReason)
header_of bytes = read reason_of header_rows (cursor_at bytes 0)

smallest : header_of (63 ∷ 39 ∷ 66 ∷ 74 ∷ []) ≡ Ok (
  record {
    major = 1;
    minor = 0;
    level = 0;
    width = 1;
    height = 1;
    sampling = 0;
    scan = None;
    rate = rates.Index 3;
    aspect = aspects.Default;
    clean = None;
    signal = signals.Index 1;
    colour = colours.Default;
    coding = 0;
  },
  record { place = 32; rest = [] },
)
unfolding header_rows header_fields version_rows size_rows sampling_rows excursion scan_rows rate_rows aspect_rows clean_rows signal_rows colour_rows coding_rows flagged_index field_at spelled read ◌>>=◌ number within number_under flag flag_set byte_end whole_bytes if_set
smallest = refl

-- every optional field
fullest : header_of (0x7F ∷ 0x2F ∷ 0x9D ∷ 0x9C ∷ 0x99 ∷ 0x7F ∷ 0x0B ∷ 0x0F ∷ 0x28 ∷ 0x48 ∷ []) ≡ Ok (
  record {
    major = 2;
    minor = 0;
    level = 0;
    width = 1;
    height = 2;
    sampling = 0;
    scan = Some 1;
    rate = rates.Pair 2 1;
    aspect = aspects.Pair 1 1;
    clean = Some (record { width = 1; height = 2; left = 0; top = 0 });
    signal = signals.Custom (record { luma_offset = 0; luma_excursion = 3; colour_offset = 2; colour_excursion = 3 });
    colour = colours.Custom (Some 1) None (Some 3);
    coding = 1;
  },
  record { place = 80; rest = [] },
)
unfolding header_rows header_fields version_rows size_rows sampling_rows excursion scan_rows rate_rows aspect_rows clean_rows signal_rows colour_rows coding_rows flagged_index field_at spelled read ◌>>=◌ number within number_under flag flag_set byte_end whole_bytes if_set
fullest = refl

too_large : header_of (0x3F ∷ 0 ∷ 0 ∷ 0 ∷ 0 ∷ 0 ∷ 0 ∷ 0 ∷ 0 ∷ 0 ∷ []) ≡ Err (record { place = 8; reason = NumberTooLarge })
unfolding header_rows header_fields version_rows size_rows sampling_rows excursion scan_rows rate_rows aspect_rows clean_rows signal_rows colour_rows coding_rows flagged_index field_at spelled read ◌>>=◌ number within number_under flag flag_set byte_end whole_bytes if_set
too_large = refl

short : header_of (0x3F ∷ 0 ∷ 0 ∷ 0 ∷ 0 ∷ 0 ∷ 0 ∷ 0 ∷ 0 ∷ []) ≡ Err (record { place = 8; reason = Truncated })
unfolding header_rows header_fields version_rows size_rows sampling_rows excursion scan_rows rate_rows aspect_rows clean_rows signal_rows colour_rows coding_rows flagged_index field_at spelled read ◌>>=◌ number within number_under flag flag_set byte_end whole_bytes if_set
short = refl

no_size : header_of (0x3E ∷ 39 ∷ 66 ∷ 74 ∷ []) ≡ Err (record { place = 7; reason = DefaultTaken field_names.Size })
unfolding header_rows header_fields version_rows size_rows sampling_rows excursion scan_rows rate_rows aspect_rows clean_rows signal_rows colour_rows coding_rows flagged_index field_at spelled read ◌>>=◌ number within number_under flag flag_set byte_end whole_bytes if_set
no_size = refl

-- ---- a width that is cut short at each of its bits

-- the fields before the width of 1920 (21 bits), and so many of its bits
abbrev width_cut : ℕ → Cursor
width_cut k = record { place = 0; rest = false ∷ false ∷ true ∷ true ∷ true ∷ true ∷ true ∷ true ∷ take k (code_of 1920) }

abbrev is_truncated : Result (HeaderParts × Cursor) (Fault HeaderReason) → Bool
is_truncated (Err f) = f.place == 8 && is_short f.reason
  where
    is_short : HeaderReason → Bool
    is_short Truncated = true
    is_short _ = false
is_truncated (Ok x) = false

abbrev are_truncated : ℕ → Bool
are_truncated zero = true
are_truncated (suc k) = is_truncated (read reason_of header_rows (width_cut k)) && are_truncated k

each_cut : are_truncated 21 ≡ true
unfolding code_of header_rows header_fields version_rows size_rows sampling_rows excursion scan_rows rate_rows aspect_rows clean_rows signal_rows colour_rows coding_rows flagged_index field_at spelled read ◌>>=◌ number within number_under flag flag_set byte_end whole_bytes if_set
each_cut = refl

-- ---- written headers

large_parts : HeaderParts
large_parts = record {
  major = 1;
  minor = 0;
  level = 0;
  width = 1920;
  height = 1080;
  sampling = 1;
  scan = None;
  rate = rates.Index 3;
  aspect = aspects.Default;
  clean = None;
  signal = signals.Index 3;
  colour = colours.Default;
  coding = 0;
}

large_length : header_len large_parts ≡ 9
unfolding header_bits fields_of code_of large_parts
large_length = refl

large_passes : checked header_fields (fields_of large_parts) ≡ Ok (large_parts, [])
unfolding large_parts fields_of header_fields version_rows size_rows sampling_rows excursion scan_rows rate_rows aspect_rows clean_rows signal_rows colour_rows coding_rows flagged_index checked ◌>>=◌ number within number_under flag flag_set if_set
large_passes = refl
