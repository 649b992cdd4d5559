-- A header is short.
use Rattle.std.proofs.Common.{ℕ, zero, suc, ◌+◌, ◌≤◌, ◌++◌, Option, Some, None, arith}
use Rattle.field_rows.proofs.CodeLengths.{AreFew, AreFew-append, few_short}
use Rattle.slice_geometry.specs.declared.Size.{Size}
use Rattle.sequence_header.specs.declared.parts.HeaderParts.{HeaderParts}
use Rattle.sequence_header.specs.declared.parts.Version.{Version}
use Rattle.sequence_header.specs.declared.parts.CleanArea.{CleanArea}
use Rattle.sequence_header.specs.declared.parts.RateField.{RateField}
use Rattle.sequence_header.specs.declared.parts.RateField.TheVariants as rates
use Rattle.sequence_header.specs.declared.parts.AspectField.{AspectField}
use Rattle.sequence_header.specs.declared.parts.AspectField.TheVariants as aspects
use Rattle.sequence_header.specs.declared.parts.SignalField.{SignalField}
use Rattle.sequence_header.specs.declared.parts.SignalField.TheVariants as signals
use Rattle.sequence_header.specs.declared.parts.ColourField.{ColourField}
use Rattle.sequence_header.specs.declared.parts.ColourField.TheVariants as colours
use Rattle.sequence_header.specs.Header.{header_fields}
use Rattle.sequence_header.specs.HeaderFields.{version_fields, size_fields, sampling_fields, scan_fields, rate_fields, aspect_fields, clean_fields, signal_fields, index_fields, colour_fields, coding_fields, version_of, frame_size, fields_of}
use Rattle.sequence_header.specs.Bytes.{header_bits, header_len}
use Rattle.sequence_header.specs.Checking.{IsLawfulHeader}

few_version : (v : Version) → AreFew 5 (version_fields v)
few_version v = record { each = (tt, (tt, (tt, (tt, (tt, tt))))); count = omega arith }

few_size : (size : Size) → AreFew 3 (size_fields size)
few_size size = record { each = (tt, (tt, (tt, tt))); count = omega arith }

few_sampling : (index : ℕ) → AreFew 2 (sampling_fields index)
few_sampling index = record { each = (tt, (tt, tt)); count = omega arith }

few_scan : (scan : Option ℕ) → AreFew 2 (scan_fields scan)
few_scan None = record { each = (tt, tt); count = omega arith }
few_scan (Some n) = record { each = (tt, (tt, tt)); count = omega arith }

few_rate : (rate : RateField) → AreFew 4 (rate_fields rate)
few_rate (rates.Index zero) = record { each = (tt, (tt, (tt, (tt, tt)))); count = omega arith }
few_rate (rates.Index (suc n)) = record { each = (tt, (tt, tt)); count = omega arith }
few_rate (rates.Pair n d) = record { each = (tt, (tt, (tt, (tt, tt)))); count = omega arith }

few_aspect : (aspect : AspectField) → AreFew 4 (aspect_fields aspect)
few_aspect aspects.Default = record { each = (tt, tt); count = omega arith }
few_aspect (aspects.Index n) = record { each = (tt, (tt, tt)); count = omega arith }
few_aspect (aspects.Pair n d) = record { each = (tt, (tt, (tt, (tt, tt)))); count = omega arith }

few_clean : (clean : Option CleanArea) → AreFew 5 (clean_fields clean)
few_clean None = record { each = (tt, tt); count = omega arith }
few_clean (Some area) = record { each = (tt, (tt, (tt, (tt, (tt, tt))))); count = omega arith }

few_signal : (signal : SignalField) → AreFew 6 (signal_fields signal)
few_signal (signals.Index zero) = record { each = (tt, (tt, (tt, (tt, (tt, (tt, tt)))))); count = omega arith }
few_signal (signals.Index (suc n)) = record { each = (tt, (tt, tt)); count = omega arith }
few_signal (signals.Custom range) = record { each = (tt, (tt, (tt, (tt, (tt, (tt, tt)))))); count = omega arith }

few_index : (index : Option ℕ) → AreFew 2 (index_fields index)
few_index None = record { each = (tt, tt); count = omega arith }
few_index (Some n) = record { each = (tt, (tt, tt)); count = omega arith }

few_colour : (colour : ColourField) → AreFew 8 (colour_fields colour)
few_colour colours.Default = record { each = (tt, tt); count = omega arith }
few_colour (colours.Index n) = record { each = (tt, (tt, tt)); count = omega arith }
few_colour (colours.Custom primaries matrix transfer) =
    let three : AreFew (2 + (2 + 2)) (index_fields primaries ++ (index_fields matrix ++ index_fields transfer)) =
    AreFew-append 2 (2 + 2) _ _ (few_index primaries) (AreFew-append 2 2 _ _ (few_index matrix) (few_index transfer)) in
    record { each = (tt, (tt, three.each)); count = omega (arith, three.count) }

few_coding : (coding : ℕ) → AreFew 1 (coding_fields coding)
few_coding coding = record { each = (tt, tt); count = omega arith }

few_fields : (p : HeaderParts) → AreFew (5 + (3 + (2 + (2 + (4 + (4 + (5 + (6 + (8 + 1))))))))) (fields_of p)
unfolding fields_of
few_fields p =
    AreFew-append 5 (3 + (2 + (2 + (4 + (4 + (5 + (6 + (8 + 1)))))))) _ _ (few_version (version_of p))
    (AreFew-append 3 (2 + (2 + (4 + (4 + (5 + (6 + (8 + 1))))))) _ _ (few_size (frame_size p))
    (AreFew-append 2 (2 + (4 + (4 + (5 + (6 + (8 + 1)))))) _ _ (few_sampling p.sampling)
    (AreFew-append 2 (4 + (4 + (5 + (6 + (8 + 1))))) _ _ (few_scan p.scan)
    (AreFew-append 4 (4 + (5 + (6 + (8 + 1)))) _ _ (few_rate p.rate)
    (AreFew-append 4 (5 + (6 + (8 + 1))) _ _ (few_aspect p.aspect)
    (AreFew-append 5 (6 + (8 + 1)) _ _ (few_clean p.clean)
    (AreFew-append 6 (8 + 1) _ _ (few_signal p.signal)
    (AreFew-append 8 1 _ _ (few_colour p.colour) (few_coding p.coding)))))))))

-- forty fields of at most 65 bits
pub header_short : (p : HeaderParts) → IsLawfulHeader p → header_len p ≤ 325
unfolding header_bits
header_short p f = omega (arith, few_short 40 header_fields (fields_of p) (few_fields p) f.kinds)
