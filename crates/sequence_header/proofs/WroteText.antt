-- What was written is the header's text, and it is read back.
use Rattle.std.proofs.Common.{◌≡◌, ℕ, ◌*◌, Bool, List, [], ◌++◌, length, take, refl, sym, ap, ◌∙◌, append_assoc}
use Rattle.std.proofs.Math.Seq.{take-length}
use Rattle.bit_codes.specs.Bits.{bits_of, bits_before}
use Rattle.bit_codes.proofs.BitLemmas.{length-bits}
use Rattle.field_rows.specs.Given.{AreOfKind}
use Rattle.field_rows.proofs.Passing.{kinds-bind, Pass-read_bytes}
use Rattle.field_rows.proofs.Filled.{bits_of-filled}
use Rattle.sequence_header.specs.declared.parts.HeaderParts.{HeaderParts}
use Rattle.sequence_header.specs.Header.{reason_of, version_rows, size_rows, sampling_rows, scan_rows, rate_rows, aspect_rows, clean_rows, signal_rows, colour_rows, coding_rows, header_fields, header_rows}
use Rattle.sequence_header.specs.HeaderFields.{version_fields, size_fields, sampling_fields, scan_fields, rate_fields, aspect_fields, clean_fields, signal_fields, colour_fields, coding_fields, version_of, frame_size, fields_of}
use Rattle.sequence_header.specs.Checking.{PassesRules, IsLawfulHeader}
use Rattle.sequence_header.specs.Bytes.{header_bits, header_bytes, IsHeaderReadBack}
use Rattle.sequence_header.proofs.Whole.{header_pass}

-- the fields of all groups are of their rows' kinds
pub record HaveKinds (p : HeaderParts) : Type 0 where
  pub version : AreOfKind version_rows (version_fields (version_of p))
  pub size : AreOfKind size_rows (size_fields (frame_size p))
  pub sampling : AreOfKind (sampling_rows (frame_size p)) (sampling_fields p.sampling)
  pub scan : AreOfKind scan_rows (scan_fields p.scan)
  pub rate : AreOfKind rate_rows (rate_fields p.rate)
  pub aspect : AreOfKind aspect_rows (aspect_fields p.aspect)
  pub clean : AreOfKind clean_rows (clean_fields p.clean)
  pub signal : AreOfKind signal_rows (signal_fields p.signal)
  pub colour : AreOfKind colour_rows (colour_fields p.colour)
  pub coding : AreOfKind (coding_rows (frame_size p) p.sampling) (coding_fields p.coding)

pub header_kinds : (p : HeaderParts) → PassesRules p → HaveKinds p → AreOfKind header_fields (fields_of p)
unfolding header_fields fields_of
header_kinds p q k =
    kinds-bind _ _ _ _ _ q.version k.version (kinds-bind _ _ _ _ _ q.size k.size (kinds-bind _ _ _ _ _ q.sampling k.sampling (kinds-bind _ _ _ _ _ q.scan k.scan (kinds-bind _ _ _ _ _ q.rate k.rate
    (kinds-bind _ _ _ _ _ q.aspect k.aspect (kinds-bind _ _ _ _ _ q.clean k.clean (kinds-bind _ _ _ _ _ q.signal k.signal (kinds-bind _ _ _ _ _ q.colour k.colour (kinds-bind _ _ _ [] _ q.coding k.coding refl)))))))))

-- a header that is written is read back
pub header_back : (p : HeaderParts) → IsLawfulHeader p → IsHeaderReadBack (header_bytes p) p
unfolding header_rows header_bits
header_back p f = λ more. Pass-read_bytes reason_of header_fields (fields_of p) p (header_bytes p) more (header_pass p f.passes) f.kinds (bits_of-filled (header_bits p))

-- groups that were appended one after the other
pub joined : (t0 t1 t2 t3 t4 t5 t6 t7 t8 t9 t10 t11 w1 w2 w3 w4 w5 w6 w7 w8 w9 w10 z : List Bool) → t0 ≡ [] → t1 ≡ t0 ++ w1 → t2 ≡ t1 ++ w2 → t3 ≡ t2 ++ w3 → t4 ≡ t3 ++ w4 → t5 ≡ t4 ++ w5 → t6 ≡ t5 ++ w6 → t7 ≡ t6 ++ w7 → t8 ≡ t7 ++ w8 → t9 ≡ t8 ++ w9 → t10 ≡ t9 ++ w10 → t11 ≡ t10 ++ z → t11 ≡ (w1 ++ (w2 ++ (w3 ++ (w4 ++ (w5 ++ (w6 ++ (w7 ++ (w8 ++ (w9 ++ w10))))))))) ++ z
joined t0 t1 t2 t3 t4 t5 t6 t7 t8 t9 t10 t11 w1 w2 w3 w4 w5 w6 w7 w8 w9 w10 z e0 e1 e2 e3 e4 e5 e6 e7 e8 e9 e10 e11 =
    rw (e11, e10, e9, e8, e7, e6, e5, e4, e3, e2, e1, e0) (simp append_assoc)

-- the bits before the end of bytes are all of them
pub all_bits : (place : ℕ) (bytes : List ℕ) → place ≡ 8 * length bytes → bits_before place bytes ≡ bits_of bytes
all_bits place bytes e = ap (λ (n : ℕ). take n (bits_of bytes)) (e ∙ sym (length-bits bytes)) ∙ take-length (bits_of bytes)

-- and none stand before the first
pub no_bits : (place : ℕ) (bytes : List ℕ) → place ≡ 0 → bits_before place bytes ≡ []
no_bits place bytes e = ap (λ (n : ℕ). take n (bits_of bytes)) e
