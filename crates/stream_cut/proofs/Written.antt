-- The units that a cut writes, each in front of what follows it.
use Rattle.std.proofs.Common.{◌≡◌, ℕ, ◌+◌, ◌%◌, ◌^◌, ◌<◌, Bool, true, false, not, List, [], ◌∷◌, ◌++◌, length, Some, None, Ok, refl, sym, ap, subst, ◌∙◌, append_assoc, append-nil, arith}
use Rattle.std.specs.Prelude.{◌==◌, ◌&&◌}
use Rattle.std.proofs.lemmas.Bool.{ne_eqb}
use Rattle.std.proofs.lemmas.List.{length-append}
use Rattle.bit_codes.specs.Bits.{bits_of}
use Rattle.bit_codes.proofs.BitLemmas.{length-bits}
use Rattle.field_rows.specs.Rows.{done, first_broken, is_nil}
use Rattle.field_rows.proofs.Reading.{read-done}
use Rattle.parse_info.specs.declared.Code.TheVariants.{SequenceHeader, EndOfSequence, LowDelayPicture}
use Rattle.parse_info.specs.declared.ParseInfo.{ParseInfo}
use Rattle.parse_info.specs.Head.{head_bytes}
use Rattle.sequence_header.specs.declared.parts.HeaderParts.{HeaderParts}
use Rattle.transform_params.specs.Params.{Params}
use Rattle.run_theory.specs.Grammar.{Behind, Inner, Final, bytes_at, unit_at}
use Rattle.run_theory.specs.Begun.{Moves}
use Rattle.run_theory.specs.Fronts.{Stands, Finishes, size_to, front_behind, front_by, front_of}
use Rattle.stream_rows.specs.declared.reason.Reason.{Reason}
use Rattle.stream_rows.specs.Units.{Past, First, DataUnit, Sequence, Picture, End, unit_behind, reason_of, has_fields, code_rules, previous_rules, number_rules, payload_rows, payload_of, after}
use Rattle.stream_cut.specs.Skim.{skim_payload_of, skim_payload, skim_rows, skim_grammar}
use Rattle.stream_writer.specs.EncodedStream.{end_unit}
use Rattle.stream_cut.specs.Cut.{cut_header_unit, cut_picture_unit, Piece}
use Rattle.stream_cut.specs.CutLaws.{piece_bytes, IsStreamWith}
use Rattle.stream_writer.proofs.EncodedPieces.{moves_then, moves_none}
use Rattle.stream_writer.proofs.EncodedParts.{moves_head, true_previous}
use Rattle.stream_cut.proofs.SkimmedParts.{skims}
use Rattle.stream_cut.proofs.UnitsRead.{IsHeader, IsPicture}

-- ---- whole units

pub moves_header_unit : (z : Past) (parts : HeaderParts) (payload : List ℕ) → z.first ≡ None → first_broken (previous_rules z 0) ≡ None → IsHeader parts payload → Moves skim_grammar (skim_rows z) z.place (cut_header_unit payload) (done (Sequence parts))
unfolding skim_rows skim_payload payload_rows
moves_header_unit z parts payload none previous h =
    let info : ParseInfo = record { code = SequenceHeader; next = 13 + length payload; previous = 0 } in
    let rest : Moves skim_grammar (skim_payload z z.first info) (z.place + 13) payload (done (Sequence parts)) =
    subst (λ o. Moves skim_grammar (skim_payload z o info) (z.place + 13) payload (done (Sequence parts))) (sym none) (h.moves z) in
    moves_then skim_grammar _ _ _ z.place (z.place + 13) (head_bytes info) _ refl
    (skims (moves_head z SequenceHeader (13 + length payload) 0 (skim_payload z z.first) (omega (arith, h.most)) (omega arith) (rw none refl) refl previous))
    rest

pub picture_code : (z : Past) (first : First) → z.first ≡ Some first → first_broken (code_rules z LowDelayPicture) ≡ None
picture_code z first there = rw there refl

pub moves_picture_unit : (z : Past) (first : First) (parts : HeaderParts) (number : ℕ) (p : Params) (slices : List (List ℕ)) (previous : ℕ) (payload : List ℕ) → z.first ≡ Some first → first.parts ≡ parts → previous ≡ z.previous → previous < 2 ^ 32
    → first_broken (number_rules z number) ≡ None → IsPicture parts number p slices payload → Moves skim_grammar (skim_rows z) z.place (cut_picture_unit previous payload) (done (Picture parts number p slices))
unfolding skim_rows skim_payload skim_payload_of
moves_picture_unit z first parts number p slices previous payload there of true_one short rule h =
    let info : ParseInfo = record { code = LowDelayPicture; next = 13 + length payload; previous = previous } in
    let unit = Picture parts number p slices in
    let under : Moves skim_grammar (skim_payload z (Some first) info) (z.place + 13) payload (done unit) =
    subst (λ q. Moves skim_grammar (skim_payload z (Some (record first { parts = q })) info) (z.place + 13) payload (done unit)) (sym of) (h.moves z rule) in
    let rest : Moves skim_grammar (skim_payload z z.first info) (z.place + 13) payload (done unit) = subst (λ o. Moves skim_grammar (skim_payload z o info) (z.place + 13) payload (done unit)) (sym there) under in
    moves_then skim_grammar _ _ _ z.place (z.place + 13) (head_bytes info) _ refl
    (skims (moves_head z LowDelayPicture (13 + length payload) previous (skim_payload z z.first) h.most short (picture_code z first there) refl (true_previous z previous true_one)))
    rest

pub moves_end_unit : (z : Past) (first : First) (previous : ℕ) → z.first ≡ Some first → previous ≡ z.previous → previous < 2 ^ 32 → first_broken (code_rules z EndOfSequence) ≡ None → Moves skim_grammar (skim_rows z) z.place (end_unit previous) (done End)
unfolding skim_rows skim_payload skim_payload_of payload_of
moves_end_unit z first previous there true_one short code =
    let info : ParseInfo = record { code = EndOfSequence; next = 0; previous = previous } in
    let rest : Moves skim_grammar (skim_payload z z.first info) (z.place + 13) [] (done End) = subst (λ o. Moves skim_grammar (skim_payload z o info) (z.place + 13) [] (done End)) (sym there) (moves_none skim_grammar (done End) (z.place + 13)) in
    subst (λ l. Moves skim_grammar (skim_rows z) z.place l (done End)) (append-nil (end_unit previous))
    (moves_then skim_grammar _ _ _ z.place (z.place + 13) (head_bytes info) [] refl (skims (moves_head z EndOfSequence 0 previous (skim_payload z z.first) (omega arith) short code refl (true_previous z previous true_one))) rest)

-- ---- units before others

-- from a state on the bytes are these units, the last of which ends the stream
pub record Found (z : Past) (bytes : List ℕ) (found : List Piece) : Type 0 where
  pub some : 0 < length bytes
  pub pieces : List Piece
  pub last : Piece
  pub stream : IsStreamWith skim_rows z bytes pieces last
  pub units : pieces ++ last ∷ [] ≡ found

moved_to : (z : Past) (unit : DataUnit) (bytes more : List ℕ) → Moves skim_grammar (skim_rows z) z.place bytes (done unit) → unit_at skim_grammar z (bytes ++ more) ≡ Ok (unit, bytes_at (z.place + length bytes) more)
moved_to z unit bytes more m = m.moves more ∙ read-done reason_of unit (bytes_at (z.place + length bytes) more)

size : (place : ℕ) (bytes more : List ℕ) → size_to (bytes ++ more) (bytes_at place more) ≡ length bytes
size place bytes more = omega (arith, length-append bytes more, length-bits more)

not_last : (b : Behind) (n : ℕ) (unit : DataUnit) → front_behind {R = Reason} b false n unit ≡ Stands n unit
not_last Inner n unit = refl
not_last Final n unit = refl

some_bits : (bytes : List ℕ) → 0 < length bytes → is_nil (bits_of bytes) ≡ false
some_bits [] h = absurd (omega arith)
some_bits (b ∷ bytes) h = refl

pub front_more : (z : Past) (unit : DataUnit) (bytes more : List ℕ) → Moves skim_grammar (skim_rows z) z.place bytes (done unit) → 0 < length more → front_of skim_grammar z (bytes ++ more) ≡ Stands (length bytes) unit
front_more z unit bytes more m some =
    let behind = bytes_at (z.place + length bytes) more in
    ap (front_by skim_grammar (λ fault. fault) false (bytes ++ more)) (moved_to z unit bytes more m)
    ∙ ap (λ empty. front_behind (unit_behind unit) (empty && true) (size_to (bytes ++ more) behind) unit) (some_bits more some)
    ∙ not_last (unit_behind unit) (size_to (bytes ++ more) behind) unit
    ∙ ap (λ n. Stands n unit) (size (z.place + length bytes) bytes more)

front_end : (z : Past) (bytes : List ℕ) → Moves skim_grammar (skim_rows z) z.place bytes (done End) → front_of skim_grammar z bytes ≡ Finishes (length bytes) End
front_end z bytes m =
    let whole : bytes ++ [] ≡ bytes = append-nil bytes in
    subst (λ l. front_of skim_grammar z l ≡ Finishes (length bytes) End) whole
    (ap (front_by skim_grammar (λ fault. fault) false (bytes ++ [])) (moved_to z End bytes [] m) ∙ ap (λ n. Finishes n End) (size (z.place + length bytes) bytes []))

pub found_more : (z : Past) (unit : DataUnit) (bytes more : List ℕ) (found : List Piece) → Moves skim_grammar (skim_rows z) z.place bytes (done unit) → 0 < length bytes → Found (after z unit bytes) more found → Found z (bytes ++ more) (record { unit = unit; bytes = bytes } ∷ found)
found_more z unit bytes more found m some f = record {
  some = omega (arith, length-append bytes more, some);
  pieces = record { unit = unit; bytes = bytes } ∷ f.pieces;
  last = f.last;
  stream = record {
    left = f.stream.left;
    parts = ap (λ l. bytes ++ l) f.stream.parts ∙ sym (append_assoc bytes (piece_bytes f.pieces) f.last.bytes);
    units = (subst (λ l. front_of skim_grammar z (bytes ++ l) ≡ Stands (length bytes) unit) f.stream.parts (front_more z unit bytes more m f.some), f.stream.units);
    end = f.stream.end;
  };
  units = ap (λ l. record { unit = unit; bytes = bytes } ∷ l) f.units;
}

pub found_end : (z : Past) (bytes : List ℕ) → Moves skim_grammar (skim_rows z) z.place bytes (done End) → 0 < length bytes → Found z bytes (record { unit = End; bytes = bytes } ∷ [])
found_end z bytes m some = record {
  some = some;
  pieces = [];
  last = record { unit = End; bytes = bytes };
  stream = record { left = z; parts = refl; units = refl; end = front_end z bytes m };
  units = refl;
}

-- ---- the rules

whole_frame : (fields odd : Bool) → (fields ≡ true → odd ≡ false) → not (true && fields && odd) ≡ true
whole_frame true true h = sym (h refl)
whole_frame true false h = refl
whole_frame false odd h = refl

pub end_code : (z : Past) (first : First) → z.first ≡ Some first → (has_fields z.first ≡ true → z.pictures % 2 ≡ 0) → first_broken (code_rules z EndOfSequence) ≡ None
end_code z first there even =
    let fields : has_fields z.first ≡ (first.parts.coding == 1) = ap has_fields there in
    rw (there, whole_frame (first.parts.coding == 1) (z.pictures % 2 == 1) (λ e. ne_eqb (z.pictures % 2) 1 (λ (q : z.pictures % 2 ≡ 1). omega (arith, q, even (fields ∙ e))))) refl
