-- When the parts of a header pass the rules of its rows.
use Rattle.std.specs.Prelude.{◌≡◌, ◌≤◌, List, [], Result, Ok, Err}
use Rattle.field_rows.specs.Rows.{Value, Rows}
use Rattle.field_rows.specs.Given.{checked, Pass, Fail, AreOfKind}
use Rattle.sequence_header.specs.declared.parts.HeaderReason.{HeaderReason}
use Rattle.sequence_header.specs.declared.parts.HeaderParts.{HeaderParts}
use Rattle.sequence_header.specs.declared.parts.RateField.{RateField}
use Rattle.sequence_header.specs.declared.parts.RateField.TheVariants as rates
use Rattle.sequence_header.specs.declared.parts.SignalField.{SignalField}
use Rattle.sequence_header.specs.declared.parts.SignalField.TheVariants as signals
use Rattle.sequence_header.specs.declared.parts.AspectField.{AspectField}
use Rattle.sequence_header.specs.declared.parts.AspectField.TheVariants as aspects
use Rattle.sequence_header.specs.declared.parts.ColourField.{ColourField}
use Rattle.sequence_header.specs.declared.parts.ColourField.TheVariants as colours
use Rattle.sequence_header.specs.Header.{version_rows, size_rows, sampling_rows, scan_rows, rate_rows, aspect_rows, clean_rows, signal_rows, colour_rows, coding_rows, header_fields}
use Rattle.sequence_header.specs.HeaderFields.{version_fields, size_fields, sampling_fields, scan_fields, rate_fields, aspect_fields, clean_fields, signal_fields, colour_fields, coding_fields, version_of, frame_size, fields_of}

-- Each group of the parts passes its rows. These are all rules of the header.
pub record PassesRules (p : HeaderParts) : Type 0 where
  pub version : Pass version_rows (version_fields (version_of p)) (version_of p)
  pub size : Pass size_rows (size_fields (frame_size p)) (frame_size p)
  pub sampling : Pass (sampling_rows (frame_size p)) (sampling_fields p.sampling) p.sampling
  pub scan : Pass scan_rows (scan_fields p.scan) p.scan
  pub rate : Pass rate_rows (rate_fields p.rate) p.rate
  pub aspect : Pass aspect_rows (aspect_fields p.aspect) p.aspect
  pub clean : Pass clean_rows (clean_fields p.clean) p.clean
  pub signal : Pass signal_rows (signal_fields p.signal) p.signal
  pub colour : Pass colour_rows (colour_fields p.colour) p.colour
  pub coding : Pass (coding_rows (frame_size p) p.sampling) (coding_fields p.coding) p.coding

-- Parts that are written as they are read: they pass every rule, and each number is one that a field holds.
pub record IsLawfulHeader (p : HeaderParts) : Type 0 where
  pub passes : PassesRules p
  pub kinds : AreOfKind header_fields (fields_of p)

-- an index of aspect or colour announces no numbers
abbrev pub HasAspectIndex : AspectField → Type 0
HasAspectIndex (aspects.Index n) = 1 ≤ n
HasAspectIndex _ = Unit {0}

-- an index that isn't that of custom colours
abbrev pub HasColourIndex : ColourField → Type 0
HasColourIndex (colours.Index n) = 1 ≤ n
HasColourIndex _ = Unit {0}

-- no index stands where a pair or a range of zeros would be written
abbrev pub HasRateIndex : RateField → Type 0
HasRateIndex (rates.Index n) = 1 ≤ n
HasRateIndex _ = Unit {0}

-- an index that isn't that of a custom range
abbrev pub HasSignalIndex : SignalField → Type 0
HasSignalIndex (signals.Index n) = 1 ≤ n
HasSignalIndex _ = Unit {0}

-- What a check of a group answers: the group passes, or its first broken rule.
abbrev pub Checks : {A : Type 0} → Result (Unit {0}) HeaderReason → Rows HeaderReason A → List Value → A → Type 0
Checks (Ok _) rows fields a = Pass rows fields a
Checks (Err reason) rows fields a = Fail rows fields reason

-- What a check of all parts answers: a header of these parts, which pass every rule of the table, or the first broken
-- rule in field order.
abbrev pub IsCheckOf : Result HeaderParts HeaderReason → HeaderParts → Type 0
IsCheckOf (Ok header) parts = (header ≡ parts) × (checked header_fields (fields_of parts) ≡ Ok (parts, []))
IsCheckOf (Err reason) parts = checked header_fields (fields_of parts) ≡ Err reason
