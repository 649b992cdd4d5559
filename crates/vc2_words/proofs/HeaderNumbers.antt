-- Each number of a header that words ask for is one that its field holds.
use Rattle.std.proofs.Common.{ℕ, ◌≤◌, Bool, true, false, List, Option, Some, None, length, arith}
use Rattle.std.specs.Prelude.{◌==◌, slice_index, if◌then◌else◌}
use Rattle.field_rows.specs.Given.{AreOfKind}
use Rattle.sequence_header.specs.declared.parts.RateField.{RateField}
use Rattle.sequence_header.specs.declared.parts.RateField.TheVariants as rates
use Rattle.sequence_header.specs.declared.parts.SignalField.{SignalField}
use Rattle.sequence_header.specs.declared.parts.SignalField.TheVariants as signals
use Rattle.sequence_header.specs.Header.{scan_rows, rate_rows, signal_rows}
use Rattle.sequence_header.specs.HeaderFields.{scan_fields, rate_fields, signal_fields, version_of, frame_size}
use Rattle.sequence_header.specs.Checking.{PassesRules, IsLawfulHeader}
use Rattle.sequence_header.proofs.FieldKinds.{version_kinds, size_kinds, sampling_kinds, scan_kinds_none, scan_kinds, rate_kinds, rate_kinds_pair, aspect_kinds_none, clean_kinds_none, signal_kinds, signal_kinds_custom, colour_kinds_none, coding_kinds}
use Rattle.sequence_header.proofs.WroteText.{HaveKinds, header_kinds}
use Rattle.vc2_words.specs.declared.keys.Key.TheVariants as of_key
use Rattle.vc2_words.specs.Forms.{greatest_number}
use Rattle.vc2_words.specs.Operands.{Table, value_of}
use Rattle.vc2_words.specs.Plain.{IsPlain, IsPlainScan, IsPlainRate, IsPlainSignal}
use Rattle.vc2_words.proofs.Given.{IsTableRead}
use Rattle.vc2_words.specs.Settings.{number_of, signal_of, parts_of, field_parts}
use Rattle.vc2_words.proofs.Small.{number_small}

scans : (scan : Option ℕ) → IsPlainScan scan → AreOfKind scan_rows (scan_fields scan)
scans None plain = scan_kinds_none
scans (Some n) plain = scan_kinds n (omega (arith, plain))

rated : (rate : RateField) → IsPlainRate rate → AreOfKind rate_rows (rate_fields rate)
rated (rates.Index n) plain = rate_kinds n plain.0 (omega (arith, plain.1))
rated (rates.Pair n d) plain = rate_kinds_pair n d plain.2 plain.3

-- the numbers of a range have at most 32 bits
abbrev HasLow : SignalField → Type 0
HasLow (signals.Index n) = Unit {0}
HasLow (signals.Custom r) = (r.luma_offset ≤ greatest_number) × (r.luma_excursion ≤ greatest_number) × (r.colour_offset ≤ greatest_number) × (r.colour_excursion ≤ greatest_number)

signal_low : (v : Option (List ℕ)) → ((i : ℕ) → number_of v i ≤ greatest_number) → HasLow (signal_of v)
signal_low None low = tt
signal_low (Some ns) low = by (length ns == 1)
  where
    by : (one : Bool) → HasLow (if one then signals.Index (slice_index ns 0) else signals.Custom (record { luma_offset = slice_index ns 0; luma_excursion = slice_index ns 1; colour_offset = slice_index ns 2; colour_excursion = slice_index ns 3 }))
    by true = tt
    by false = (low 0, low 1, low 2, low 3)

signalled : (signal : SignalField) → IsPlainSignal signal → HasLow signal → AreOfKind signal_rows (signal_fields signal)
signalled (signals.Index n) plain low = signal_kinds n plain.0 (omega (arith, plain.1))
signalled (signals.Custom r) plain low = signal_kinds_custom r (omega (arith, low.0)) (omega (arith, low.1)) (omega (arith, low.2)) (omega (arith, low.3))

pub parts_lawful : (given : Table) → IsTableRead given → IsPlain (parts_of given) → PassesRules (parts_of given) → IsLawfulHeader (parts_of given)
parts_lawful given read plain passes =
    let p = parts_of given in
    let width = number_small given of_key.Size 0 read in
    let height = number_small given of_key.Size 1 read in
    let signal = signal_low (value_of given of_key.Signal) (λ i. number_small given of_key.Signal i read) in
    let kinds : HaveKinds p = record {
      version = version_kinds (version_of p) (omega arith) (omega arith) (omega arith);
      size = size_kinds (frame_size p) (omega (arith, width)) (omega (arith, height));
      sampling = sampling_kinds (frame_size p) p.sampling (omega (arith, plain.sampling));
      scan = scans p.scan plain.scan;
      rate = rated p.rate plain.rate;
      aspect = aspect_kinds_none;
      clean = clean_kinds_none;
      signal = signalled p.signal plain.signal signal;
      colour = colour_kinds_none;
      coding = coding_kinds (frame_size p) p.sampling p.coding (omega (arith, plain.coding));
    } in
    record { passes = passes; kinds = header_kinds p passes kinds }

-- the same of fields
pub field_parts_lawful : (given : Table) → IsTableRead given → IsPlain (field_parts given) → PassesRules (field_parts given) → IsLawfulHeader (field_parts given)
field_parts_lawful given read plain passes =
    let p = field_parts given in
    let width = number_small given of_key.Size 0 read in
    let height = number_small given of_key.Size 1 read in
    let signal = signal_low (value_of given of_key.Signal) (λ i. number_small given of_key.Signal i read) in
    let kinds : HaveKinds p = record {
      version = version_kinds (version_of p) (omega arith) (omega arith) (omega arith);
      size = size_kinds (frame_size p) (omega (arith, width)) (omega (arith, height));
      sampling = sampling_kinds (frame_size p) p.sampling (omega (arith, plain.sampling));
      scan = scans p.scan plain.scan;
      rate = rated p.rate plain.rate;
      aspect = aspect_kinds_none;
      clean = clean_kinds_none;
      signal = signalled p.signal plain.signal signal;
      colour = colour_kinds_none;
      coding = coding_kinds (frame_size p) p.sampling p.coding (omega (arith, plain.coding));
    } in
    record { passes = passes; kinds = header_kinds p passes kinds }
