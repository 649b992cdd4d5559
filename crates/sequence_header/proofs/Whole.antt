-- The groups of a header that pass, put together.
use Rattle.std.proofs.Common.{◌≡◌, [], Ok, Err}
use Rattle.field_rows.specs.Given.{Pass, Fail, checked}
use Rattle.field_rows.proofs.Passing.{Pass-bind, Pass-then, Pass-done, passed_alone, Fail-first, Fail-later, failed_alone}
use Rattle.sequence_header.specs.declared.parts.HeaderParts.{HeaderParts}
use Rattle.sequence_header.specs.declared.parts.HeaderReason.{HeaderReason}
use Rattle.sequence_header.specs.Header.{version_rows, size_rows, sampling_rows, scan_rows, rate_rows, aspect_rows, clean_rows, signal_rows, colour_rows, coding_rows, header_fields}
use Rattle.sequence_header.specs.HeaderFields.{version_fields, size_fields, sampling_fields, scan_fields, rate_fields, aspect_fields, clean_fields, signal_fields, colour_fields, coding_fields, version_of, frame_size, fields_of}
use Rattle.sequence_header.specs.Checking.{PassesRules}

pub header_pass : (p : HeaderParts) → PassesRules p → Pass header_fields (fields_of p) p
unfolding header_fields fields_of
header_pass p q =
    Pass-bind _ _ _ _ _ _ q.version (Pass-bind _ _ _ _ _ _ q.size (Pass-bind _ _ _ _ _ _ q.sampling (Pass-bind _ _ _ _ _ _ q.scan (Pass-bind _ _ _ _ _ _ q.rate
    (Pass-bind _ _ _ _ _ _ q.aspect (Pass-bind _ _ _ _ _ _ q.clean (Pass-bind _ _ _ _ _ _ q.signal (Pass-bind _ _ _ _ _ _ q.colour (Pass-then _ _ _ _ _ _ q.coding (Pass-done _))))))))))

pub passed_whole : (p : HeaderParts) → PassesRules p → checked header_fields (fields_of p) ≡ Ok (p, [])
passed_whole p q = passed_alone header_fields (fields_of p) p (header_pass p q)

-- ---- the first group that fails

pub version_fails : (p : HeaderParts) (reason : HeaderReason) → Fail version_rows (version_fields (version_of p)) reason → checked header_fields (fields_of p) ≡ Err reason
unfolding header_fields fields_of
version_fails p reason f = failed_alone _ _ _ (Fail-first _ _ _ _ _ f)

pub size_fails : (p : HeaderParts) (reason : HeaderReason) → Pass version_rows (version_fields (version_of p)) (version_of p) → Fail size_rows (size_fields (frame_size p)) reason → checked header_fields (fields_of p) ≡ Err reason
unfolding header_fields fields_of
size_fails p reason q0 f = failed_alone _ _ _ (Fail-later _ _ _ _ _ _ q0 (Fail-first _ _ _ _ _ f))

pub sampling_fails : (p : HeaderParts) (reason : HeaderReason) → Pass version_rows (version_fields (version_of p)) (version_of p) → Pass size_rows (size_fields (frame_size p)) (frame_size p) → Fail (sampling_rows (frame_size p)) (sampling_fields p.sampling) reason → checked header_fields (fields_of p) ≡ Err reason
unfolding header_fields fields_of
sampling_fails p reason q0 q1 f = failed_alone _ _ _ (Fail-later _ _ _ _ _ _ q0 (Fail-later _ _ _ _ _ _ q1 (Fail-first _ _ _ _ _ f)))

pub scan_fails : (p : HeaderParts) (reason : HeaderReason) → Pass version_rows (version_fields (version_of p)) (version_of p) → Pass size_rows (size_fields (frame_size p)) (frame_size p) → Pass (sampling_rows (frame_size p)) (sampling_fields p.sampling) p.sampling → Fail scan_rows (scan_fields p.scan) reason → checked header_fields (fields_of p) ≡ Err reason
unfolding header_fields fields_of
scan_fails p reason q0 q1 q2 f = failed_alone _ _ _ (Fail-later _ _ _ _ _ _ q0 (Fail-later _ _ _ _ _ _ q1 (Fail-later _ _ _ _ _ _ q2 (Fail-first _ _ _ _ _ f))))

pub rate_fails : (p : HeaderParts) (reason : HeaderReason) → Pass version_rows (version_fields (version_of p)) (version_of p) → Pass size_rows (size_fields (frame_size p)) (frame_size p) → Pass (sampling_rows (frame_size p)) (sampling_fields p.sampling) p.sampling → Pass scan_rows (scan_fields p.scan) p.scan → Fail rate_rows (rate_fields p.rate) reason → checked header_fields (fields_of p) ≡ Err reason
unfolding header_fields fields_of
rate_fails p reason q0 q1 q2 q3 f = failed_alone _ _ _ (Fail-later _ _ _ _ _ _ q0 (Fail-later _ _ _ _ _ _ q1 (Fail-later _ _ _ _ _ _ q2 (Fail-later _ _ _ _ _ _ q3 (Fail-first _ _ _ _ _ f)))))

pub signal_fails : (p : HeaderParts) (reason : HeaderReason) → Pass version_rows (version_fields (version_of p)) (version_of p) → Pass size_rows (size_fields (frame_size p)) (frame_size p) → Pass (sampling_rows (frame_size p)) (sampling_fields p.sampling) p.sampling → Pass scan_rows (scan_fields p.scan) p.scan → Pass rate_rows (rate_fields p.rate) p.rate → Pass aspect_rows (aspect_fields p.aspect) p.aspect → Pass clean_rows (clean_fields p.clean) p.clean → Fail signal_rows (signal_fields p.signal) reason → checked header_fields (fields_of p) ≡ Err reason
unfolding header_fields fields_of
signal_fails p reason q0 q1 q2 q3 q4 q5 q6 f = failed_alone _ _ _ (Fail-later _ _ _ _ _ _ q0 (Fail-later _ _ _ _ _ _ q1 (Fail-later _ _ _ _ _ _ q2 (Fail-later _ _ _ _ _ _ q3 (Fail-later _ _ _ _ _ _ q4 (Fail-later _ _ _ _ _ _ q5 (Fail-later _ _ _ _ _ _ q6 (Fail-first _ _ _ _ _ f))))))))

pub coding_fails : (p : HeaderParts) (reason : HeaderReason) → Pass version_rows (version_fields (version_of p)) (version_of p) → Pass size_rows (size_fields (frame_size p)) (frame_size p) → Pass (sampling_rows (frame_size p)) (sampling_fields p.sampling) p.sampling → Pass scan_rows (scan_fields p.scan) p.scan → Pass rate_rows (rate_fields p.rate) p.rate → Pass aspect_rows (aspect_fields p.aspect) p.aspect → Pass clean_rows (clean_fields p.clean) p.clean → Pass signal_rows (signal_fields p.signal) p.signal → Pass colour_rows (colour_fields p.colour) p.colour → Fail (coding_rows (frame_size p) p.sampling) (coding_fields p.coding) reason → checked header_fields (fields_of p) ≡ Err reason
unfolding header_fields fields_of
coding_fails p reason q0 q1 q2 q3 q4 q5 q6 q7 q8 f = failed_alone _ _ _ (Fail-later _ _ _ _ _ _ q0 (Fail-later _ _ _ _ _ _ q1 (Fail-later _ _ _ _ _ _ q2 (Fail-later _ _ _ _ _ _ q3 (Fail-later _ _ _ _ _ _ q4 (Fail-later _ _ _ _ _ _ q5 (Fail-later _ _ _ _ _ _ q6 (Fail-later _ _ _ _ _ _ q7 (Fail-later _ _ _ _ _ _ q8 (Fail-first _ _ _ [] _ f))))))))))
