-- A cut has no more bytes than the stream that it is of.
use Rattle.std.proofs.Common.{◌≡◌, ℕ, zero, suc, ◌+◌, ◌≤◌, Bool, true, false, cond, List, [], ◌∷◌, ◌++◌, length, drop, Option, Some, None, refl, sym, ap, subst, ◌∙◌, append_assoc, arith}
use Rattle.std.proofs.lemmas.List.{length-append, length-drop}
use Rattle.parse_info.specs.declared.TheConstants.{HEAD_SIZE}
use Rattle.sequence_header.specs.declared.parts.HeaderParts.{HeaderParts}
use Rattle.transform_params.specs.Params.{Params}
use Rattle.run_theory.specs.Grammar.{unit_at}
use Rattle.run_theory.specs.Fronts.{Finishes, front_of}
use Rattle.stream_rows.specs.Units.{Past, nothing_yet, First, DataUnit, Sequence, Repeated, Picture, Skipped, End, after}
use Rattle.stream_cut.specs.Skim.{skim_rows, skim_grammar}
use Rattle.stream_writer.specs.EncodedStream.{end_unit}
use Rattle.stream_cut.specs.Cut.{Frames, is_in, cut_header_unit, cut_picture_unit, Cutting, nothing_cut, frame_now, payload_of, header_due, length_ahead, end_due, cut_text, cut_next, or_else_some, closing_by, closing, Piece, front_from, left_from, cut_of}
use Rattle.stream_cut.specs.CutLaws.{piece_bytes, StandWith, IsStreamWith}
use Rattle.stream_cut.specs.Cutter.{pending}
use Rattle.stream_rows.proofs.Answering.{after-place}
use Rattle.stream_cut.proofs.Fields.{IsBytes}
use Rattle.stream_cut.proofs.UnitsRead.{Facts, unit_long}
use Rattle.stream_cut.proofs.CutPieces.{length-header, length-picture}
use Rattle.stream_cut.proofs.Cuts.{by_reading, last_reading, facts_of, fit_behind}

-- ---- what is still due of the units so far: the header of a sequence of which no picture was chosen

record Few (z : Past) (w : Cutting) : Type 0 where
  due : w.written + pending z.first w.previous ≤ z.place
  first : (f : First) → w.first ≡ Some f → 13 + length f.payload ≤ z.place

few_header : (z : Past) (w : Cutting) (parts : HeaderParts) (frames : Frames) (bytes : List ℕ) → 13 ≤ length bytes → Few z w → Few (after z (Sequence parts) bytes) (cut_next frames z w (Sequence parts) bytes)
few_header z w parts frames bytes long f = record { due = by w.previous; first = λ g e. first w.first g f.first e }
  where
    by : (o : Option ℕ) → w.written + pending (Some (record { parts = parts; payload = drop 13 bytes })) o ≤ z.place + length bytes
    by None = omega (arith, f.due, length-drop 13 bytes, long)
    by (Some previous) = omega (arith, f.due)

    first : (o : Option First) (g : First) → ((f : First) → o ≡ Some f → 13 + length f.payload ≤ z.place) → or_else_some o (record { parts = parts; payload = drop 13 bytes }) ≡ Some g → 13 + length g.payload ≤ z.place + length bytes
    first None g h e =
        let its : First = record { parts = parts; payload = drop 13 bytes } in
        let c : (let s : Option First = Some its in s) ≡ Some g = e in
        let same : its ≡ g = cc in
        omega (arith, ap (λ (q : First). length q.payload) same, length-drop 13 bytes, long)
    first (Some a) g h e = omega (arith, h g e)

enough : (z : Past) (w : Cutting) (bytes : List ℕ) (f : First) → z.first ≡ Some f → 13 ≤ length bytes → (o : Option ℕ) → w.written + pending z.first o ≤ z.place → w.written + length (header_due z o ++ cut_picture_unit (length_ahead z o) (drop 13 bytes)) ≤ z.place + length bytes
enough z w bytes f there long None h =
    let hu = cut_header_unit (payload_of z.first) in
    let pend : pending z.first None ≡ 13 + length (payload_of z.first) = ap (λ x. pending x None) there ∙ ap (λ x. 13 + length (payload_of x)) (sym there) in
    omega (arith, h, pend, length-append hu (cut_picture_unit (length_ahead z None) (drop 13 bytes)), length-header (payload_of z.first), length-picture (length_ahead z None) (drop 13 bytes), length-drop 13 bytes, long)
enough z w bytes f there long (Some previous) h = omega (arith, h, length-picture previous (drop 13 bytes), length-drop 13 bytes, long)

few_picture : (frames : Frames) (z : Past) (w : Cutting) (parts : HeaderParts) (number : ℕ) (p : Params) (slices : List (List ℕ)) (bytes : List ℕ) (f : First) → z.first ≡ Some f → 13 ≤ length bytes → Few z w → Few (after z (Picture parts number p slices) bytes) (cut_next frames z w (Picture parts number p slices) bytes)
few_picture frames z w parts number p slices bytes f there long few = by (is_in frames (frame_now z w))
  where
    by : (c : Bool)
        → Few (after z (Picture parts number p slices) bytes)
        (cond c (record w { written = w.written + length (cond c (header_due z w.previous ++ cut_picture_unit (length_ahead z w.previous) (drop HEAD_SIZE bytes)) []); previous = Some (HEAD_SIZE + length (drop HEAD_SIZE bytes)) }) w)
    by true =
        let none : pending z.first (Some (13 + length (drop 13 bytes))) ≡ 0 = ap (λ x. pending x (Some (13 + length (drop 13 bytes)))) there in
        record { due = omega (arith, enough z w bytes f there long w.previous few.due, none); first = λ g e. omega (arith, few.first g e) }
    by false = record { due = omega (arith, few.due); first = λ g e. omega (arith, few.first g e) }

few_end : (frames : Frames) (z : Past) (w : Cutting) (bytes : List ℕ) → 13 ≤ length bytes → Few z w → Few (after z End bytes) (cut_next frames z w End bytes)
few_end frames z w bytes long few = record { due = omega (arith, by w.previous, few.due); first = λ g e. omega (arith, few.first g e) }
  where
    by : (o : Option ℕ) → length (end_due o) ≤ 13
    by None = omega arith
    by (Some previous) = omega arith

few_unit : (frames : Frames) (z : Past) (w : Cutting) (unit : DataUnit) (bytes : List ℕ) → Facts z (drop 13 bytes) unit → 13 ≤ length bytes → Few z w → Few (after z unit bytes) (cut_next frames z w unit bytes)
few_unit frames z w (Sequence parts) bytes f long few = few_header z w parts frames bytes long few
few_unit frames z w Repeated bytes f long few = record { due = omega (arith, few.due); first = λ g e. omega (arith, few.first g e) }
few_unit frames z w Skipped bytes f long few = record { due = omega (arith, few.due); first = λ g e. omega (arith, few.first g e) }
few_unit frames z w (Picture parts number p slices) bytes f long few = few_picture frames z w parts number p slices bytes f.0 f.1 long few
few_unit frames z w End bytes f long few = few_end frames z w bytes long few

-- what is written is counted
pub written_by : (frames : Frames) (z : Past) (w : Cutting) (unit : DataUnit) (bytes : List ℕ) → (cut_next frames z w unit bytes).written ≡ w.written + length (cut_text frames z w unit bytes)
written_by frames z w (Sequence parts) bytes = omega arith
written_by frames z w Repeated bytes = omega arith
written_by frames z w Skipped bytes = omega arith
written_by frames z w End bytes = refl
written_by frames z w (Picture parts number p slices) bytes = by (is_in frames (frame_now z w))
  where
    by : (c : Bool) → (let due = header_due z w.previous ++ cut_picture_unit (length_ahead z w.previous) (drop HEAD_SIZE bytes) in
        let next : Cutting = cond c (record w { written = w.written + length (cond c due []); previous = Some (HEAD_SIZE + length (drop HEAD_SIZE bytes)) }) w in next.written ≡ w.written + length (cond c due []))
    by true = refl
    by false = omega arith

closing_few : (w : Cutting) (place : ℕ) → w.written ≤ place → ((f : First) → w.first ≡ Some f → 13 + length f.payload ≤ place) → w.written + length (closing w) ≤ place + 13
closing_few w place le first = by w.previous w.written w.first refl refl
  where
    by : (previous : Option ℕ) (written : ℕ) (o : Option First) → w.written ≡ written → w.first ≡ o → w.written + length (closing_by previous written o) ≤ place + 13
    by (Some previous) written o e g = omega (arith, le)
    by None zero (Some f) e g = omega (arith, first f g, e, length-append (cut_header_unit f.payload) (end_unit (13 + length f.payload)), length-header f.payload)
    by None zero None e g = omega (arith, le)
    by None (suc n) o e g = omega (arith, le)

-- all units
few_from : (frames : Frames) (pieces : List Piece) (z : Past) (w : Cutting) (left : Past) (last : Piece) → IsBytes (piece_bytes pieces ++ last.bytes) → StandWith skim_rows z pieces last.bytes left → front_of skim_grammar left last.bytes ≡ Finishes (length last.bytes) last.unit → Few z w
    → w.written + length (front_from frames z w pieces ++ closing (left_from frames z w pieces)) ≤ z.place + length (piece_bytes pieces ++ last.bytes)
few_from frames [] z w left last fits units end few =
    let r = last_reading left last.bytes (length last.bytes) last.unit (unit_at skim_grammar left last.bytes) refl end in
    let long = unit_long left last.bytes last.unit r.0 fits r.1 in
    omega (arith, closing_few w z.place (omega (arith, few.due)) few.first, long, r.2)
few_from frames (p ∷ pieces) z w left last fits units end few =
    let z1 = after z p.unit p.bytes in
    let w1 = cut_next frames z w p.unit p.bytes in
    let all = piece_bytes pieces ++ last.bytes in
    let fits' : IsBytes (p.bytes ++ all) = subst IsBytes (append_assoc p.bytes (piece_bytes pieces) last.bytes) fits in
    let r = by_reading z (p.bytes ++ all) (length p.bytes) p.unit (unit_at skim_grammar z (p.bytes ++ all)) refl units.0 in
    let long = unit_long z (p.bytes ++ all) p.unit r.0 fits' r.1 in
    let f = facts_of z p.bytes all p.unit fits' units.0 in
    let next = few_unit frames z w p.unit p.bytes f (omega (arith, long, r.2)) few in
    let others = few_from frames pieces z1 w1 left last (fit_behind p.bytes all fits') units.1 end next in
    let text = cut_text frames z w p.unit p.bytes in
    let rest = front_from frames z1 w1 pieces in
    let close = closing (left_from frames z1 w1 pieces) in
    let all_out : length ((text ++ rest) ++ close) ≡ length text + length (rest ++ close) = ap (λ (l : List ℕ). length l) (append_assoc text rest close) ∙ length-append text (rest ++ close) in
    let all_in : length ((p.bytes ++ piece_bytes pieces) ++ last.bytes) ≡ length p.bytes + length all = ap (λ (l : List ℕ). length l) (append_assoc p.bytes (piece_bytes pieces) last.bytes) ∙ length-append p.bytes all in
    omega (arith, others, written_by frames z w p.unit p.bytes, after-place z p.unit p.bytes, all_out, all_in)

-- the cut of a skimmed stream is no longer
pub cuts_to_no_more : (frames : Frames) (bytes : List ℕ) (pieces : List Piece) (last : Piece) → IsBytes bytes → IsStreamWith skim_rows nothing_yet bytes pieces last → length (cut_of frames pieces) ≤ length bytes
cuts_to_no_more frames bytes pieces last fits s =
    let few : Few nothing_yet nothing_cut = record { due = omega arith; first = λ f e. absurd (let c : (let n : Option First = None in n) ≡ Some f = e in cc) } in
    let all = few_from frames pieces nothing_yet nothing_cut s.left last (subst IsBytes s.parts fits) s.units s.end few in
    omega (arith, all, ap (λ (l : List ℕ). length l) s.parts)
