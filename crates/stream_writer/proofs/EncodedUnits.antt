-- The units that are written, whole.
use Rattle.std.proofs.Common.{◌≡◌, ℕ, ◌+◌, ◌^◌, ◌<◌, List, [], ◌∷◌, length, Some, None, refl, sym, ap, subst, append-nil, arith}
use Rattle.std.specs.List.{concat}
use Rattle.std.specs.Int.{w32, to_be_bytes}
use Rattle.std.proofs.lemmas.List.{length-append}
use Rattle.field_rows.specs.Rows.{Rows, done, ◌>>=◌, renamed, first_broken}
use Rattle.field_rows.specs.Given.{value_bits}
use Rattle.field_rows.proofs.Filled.{length-filled}
use Rattle.parse_info.specs.Head.{head_bytes}
use Rattle.parse_info.specs.declared.Code.TheVariants.{SequenceHeader, EndOfSequence, LowDelayPicture}
use Rattle.parse_info.specs.declared.ParseInfo.{ParseInfo}
use Rattle.sequence_header.specs.declared.parts.HeaderParts.{HeaderParts}
use Rattle.sequence_header.specs.Bytes.{header_bits, header_len, header_bytes}
use Rattle.sequence_header.specs.Checking as checking
use Rattle.slice_geometry.specs.Slicing.{slice_count, bytes_before, total_bytes}
use Rattle.slice_geometry.proofs.Shares.{bytes_before-rises, bytes_before-zero}
use Rattle.transform_params.specs.Params.{Params, params_rows}
use Rattle.transform_params.specs.ParameterFields.{fields_of, byte_length, unit_length, params_bytes, AreLawfulParams}
use Rattle.run_theory.specs.Begun.{Moves}
use Rattle.stream_rows.specs.declared.reason.Reason.{Reason}
use Rattle.stream_rows.specs.Units.{First, Past, DataUnit, Sequence, Picture, End, transform_reason, code_rules, previous_rules, number_rules, slice_rows, next_checked, picture_payload, payload_of, payload_rows, unit_rows, units}
use Rattle.picture_codec.specs.Encoding.{picture_bytes}
use Rattle.stream_writer.specs.EncodedStream.{header_unit, picture_unit, end_unit, AreSlices, IsSliced}
use Rattle.stream_writer.proofs.EncodedPieces.{moves_then, moves_none, moves_word}
use Rattle.stream_writer.proofs.EncodedParts.{true_previous, moves_head, moves_header, moves_checked, moves_params, moves_slices}

-- ---- lengths

pub length-header_unit : (parts : HeaderParts) → length (header_unit parts) ≡ 13 + header_len parts
length-header_unit parts = omega (arith, length-append (head_bytes (record { code = SequenceHeader; next = 13 + header_len parts; previous = 0 })) (header_bytes parts), length-filled (header_bits parts))

pub length-end_unit : (previous : ℕ) → length (end_unit previous) ≡ 13
length-end_unit previous = refl

-- slices from slice n on have the bytes between
length-slices : (parts : HeaderParts) (p : Params) (n : ℕ) (slices : List (List ℕ)) → AreLawfulParams p → AreSlices parts p n slices → bytes_before p.slicing.a p.slicing.b n + length (concat slices) ≡ bytes_before p.slicing.a p.slicing.b (n + length slices)
length-slices parts p n [] f s =
    let none : n ≡ n + 0 = omega arith in
    let all : bytes_before p.slicing.a p.slicing.b n ≡ bytes_before p.slicing.a p.slicing.b (n + 0) = ap (λ k. bytes_before p.slicing.a p.slicing.b k) none in
    omega (arith, all)
length-slices parts p n (slice ∷ slices) f s =
    let rises = bytes_before-rises p.slicing.a p.slicing.b n (n + 1) f.allowed.share.some (omega arith) in
    let others = length-slices parts p (n + 1) slices f s.1 in
    let more : n + 1 + length slices ≡ n + length (slice ∷ slices) = omega arith in
    let all : bytes_before p.slicing.a p.slicing.b (n + 1 + length slices) ≡ bytes_before p.slicing.a p.slicing.b (n + length (slice ∷ slices)) = ap (λ k. bytes_before p.slicing.a p.slicing.b k) more in
    omega (arith, rises, s.0.many, length-append slice (concat slices), others, all)

pub length-all_slices : (parts : HeaderParts) (p : Params) (slices : List (List ℕ)) → AreLawfulParams p → IsSliced parts p slices → length (concat slices) ≡ total_bytes p.slicing
length-all_slices parts p slices f s =
    let all = length-slices parts p 0 slices f s.each in
    let count : 0 + length slices ≡ slice_count p.slicing = omega (arith, s.count) in
    let whole : bytes_before p.slicing.a p.slicing.b (0 + length slices) ≡ total_bytes p.slicing = ap (λ k. bytes_before p.slicing.a p.slicing.b k) count in
    omega (arith, all, whole, bytes_before-zero p.slicing.a p.slicing.b)

pub length-picture_unit : (parts : HeaderParts) (p : Params) (previous number : ℕ) (slices : List (List ℕ)) → AreLawfulParams p → IsSliced parts p slices → length (picture_unit p previous number slices) ≡ unit_length p
length-picture_unit parts p previous number slices f s =
    omega (arith, length-append (params_bytes p) (concat slices), length-filled (value_bits (fields_of p)), length-all_slices parts p slices f s)

-- ---- what a unit's rows make of its bytes

pub moves_header_unit : (z : Past) (parts : HeaderParts) → z.first ≡ None → first_broken (previous_rules z 0) ≡ None → checking.IsLawfulHeader parts → 13 + header_len parts < 2 ^ 32
    → Moves units (unit_rows z) z.place (header_unit parts) (done (Sequence parts))
unfolding unit_rows payload_rows
moves_header_unit z parts none previous_holds f few =
    let info : ParseInfo = record { code = SequenceHeader; next = 13 + header_len parts; previous = 0 } in
    let rest : Moves units (payload_rows z z.first info) (z.place + 13) (header_bytes parts) (done (Sequence parts)) =
    subst (λ o. Moves units (payload_rows z o info) (z.place + 13) (header_bytes parts) (done (Sequence parts))) (sym none) (moves_header z parts f) in
    moves_then units _ _ _ z.place (z.place + 13) (head_bytes info) _ refl
    (moves_head z SequenceHeader (13 + header_len parts) 0 (payload_rows z z.first) few (omega arith) (rw none refl) refl previous_holds)
    rest

pub moves_picture_unit : (z : Past) (first : First) (p : Params) (previous number : ℕ) (slices : List (List ℕ)) → z.first ≡ Some first → AreLawfulParams p → IsSliced first.parts p slices → previous ≡ z.previous → previous < 2 ^ 32 → number < 2 ^ 32 → unit_length p < 2 ^ 32
    → first_broken (code_rules z LowDelayPicture) ≡ None → first_broken (number_rules z number) ≡ None
    → Moves units (unit_rows z) z.place (picture_unit p previous number slices) (done (Picture first.parts number p slices))
unfolding unit_rows payload_rows payload_of picture_payload
moves_picture_unit z first p previous number slices there f s true_one previous_fits number_fits few code_holds number_holds =
    let length_of = length-picture_unit first.parts p previous number slices f s in
    let behind_params : Params → Rows Reason DataUnit = λ params. slice_rows first.parts params (slice_count params.slicing) [] >>= λ slices. next_checked z (unit_length p) >>= λ length. done (Picture first.parts number params slices) in
    let behind_slices : List (List ℕ) → Rows Reason DataUnit = λ slices. next_checked z (unit_length p) >>= λ length. done (Picture first.parts number p slices) in
    let end : z.place + unit_length p ≡ z.place + 17 + byte_length p + length (concat slices) = omega (arith, length-all_slices first.parts p slices f s) in
    let checked : Moves units (behind_slices slices) (z.place + 17 + byte_length p + length (concat slices)) [] (done (Picture first.parts number p slices)) =
    subst (λ n. Moves units (behind_slices slices) n [] (done (Picture first.parts number p slices))) end (moves_checked z (unit_length p) (Picture first.parts number p slices)) in
    let in_slices : Moves units (behind_params p) (z.place + 17 + byte_length p) (concat slices) (behind_slices slices) =
    subst (λ n. Moves units (slice_rows first.parts p n [] >>= behind_slices) (z.place + 17 + byte_length p) (concat slices) (behind_slices slices)) s.count (moves_slices first.parts p slices [] behind_slices (z.place + 17 + byte_length p) s.each) in
    let all_slices : Moves units (behind_params p) (z.place + 17 + byte_length p) (concat slices) (done (Picture first.parts number p slices)) =
    subst (λ l. Moves units (behind_params p) (z.place + 17 + byte_length p) l (done (Picture first.parts number p slices))) (append-nil (concat slices)) (moves_then units _ _ _ (z.place + 17 + byte_length p) _ (concat slices) [] refl in_slices checked) in
    let payload : Moves units (picture_payload z (unit_length p) first.parts) (z.place + 13) (picture_bytes p number slices) (done (Picture first.parts number p slices)) =
    moves_then units _ _ _ (z.place + 13) (z.place + 17) (to_be_bytes w32 number) _ (omega arith)
    (moves_word units (number_rules z) (λ number. renamed transform_reason params_rows >>= λ params. slice_rows first.parts params (slice_count params.slicing) [] >>= λ slices. next_checked z (unit_length p) >>= λ length. done (Picture first.parts number params slices)) (z.place + 13) number number_fits number_holds)
    (moves_then units _ _ _ (z.place + 17) (z.place + 17 + byte_length p) (params_bytes p) (concat slices) (omega (arith, length-filled (value_bits (fields_of p)))) (moves_params p behind_params (z.place + 17) f) all_slices) in
    let info : ParseInfo = record { code = LowDelayPicture; next = unit_length p; previous = previous } in
    let rest : Moves units (payload_rows z z.first info) (z.place + 13) (picture_bytes p number slices) (done (Picture first.parts number p slices)) =
    subst (λ o. Moves units (payload_rows z o info) (z.place + 13) (picture_bytes p number slices) (done (Picture first.parts number p slices))) (sym there) payload in
    moves_then units _ _ _ z.place (z.place + 13) (head_bytes info) _ refl
    (moves_head z LowDelayPicture (unit_length p) previous (payload_rows z z.first) few previous_fits code_holds refl (true_previous z previous true_one))
    rest

pub moves_end_unit : (z : Past) (first : First) (previous : ℕ) → z.first ≡ Some first → previous ≡ z.previous → previous < 2 ^ 32 → first_broken (code_rules z EndOfSequence) ≡ None → Moves units (unit_rows z) z.place (end_unit previous) (done End)
unfolding unit_rows payload_rows payload_of
moves_end_unit z first previous there true_one fits code_holds =
    let info : ParseInfo = record { code = EndOfSequence; next = 0; previous = previous } in
    let rest : Moves units (payload_rows z z.first info) (z.place + 13) [] (done End) =
    subst (λ o. Moves units (payload_rows z o info) (z.place + 13) [] (done End)) (sym there) (moves_none units (done End) (z.place + 13)) in
    subst (λ l. Moves units (unit_rows z) z.place l (done End)) (append-nil (end_unit previous))
    (moves_then units _ _ _ z.place (z.place + 13) (head_bytes info) [] refl (moves_head z EndOfSequence 0 previous (payload_rows z z.first) (omega arith) fits code_holds refl (true_previous z previous true_one)) rest)
