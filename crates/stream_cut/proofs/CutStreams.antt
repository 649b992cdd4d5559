-- The cut of a stream is a stream.
use Rattle.std.proofs.Common.{◌≡◌, ℕ, zero, suc, ◌+◌, Bool, true, false, cond, List, [], ◌∷◌, ◌++◌, length, map, drop, Option, Some, None, refl, sym, ap, subst, ◌∙◌, append_assoc, arith}
use Rattle.std.specs.List.{AllByRecursion}
use Rattle.parse_info.specs.declared.TheConstants.{HEAD_SIZE}
use Rattle.parse_info.specs.declared.Code.TheVariants.{SequenceHeader, EndOfSequence, LowDelayPicture}
use Rattle.parse_info.specs.declared.ParseInfo.{ParseInfo}
use Rattle.parse_info.specs.Head.{head_bytes}
use Rattle.parse_info.proofs.WrittenHeads.{head_fits}
use Rattle.sequence_header.specs.declared.parts.HeaderParts.{HeaderParts}
use Rattle.stream_rows.specs.Units.{Past, nothing_yet, First, DataUnit, Sequence, Repeated, Picture, Skipped, End, after}
use Rattle.stream_rows.specs.Streams.{Entry}
use Rattle.stream_cut.specs.SkimLaws.{UnitHolds}
use Rattle.stream_writer.specs.EncodedStream.{end_unit}
use Rattle.stream_cut.specs.Cut.{Frames, is_in, cut_header_unit, cut_picture_unit, Cutting, nothing_cut, frame_now, payload_of, header_due, length_ahead, end_due, cut_text, cut_next, or_else_some, closing_by, closing, Piece, front_from, left_from, cut_of}
use Rattle.stream_cut.specs.CutLaws.{piece_bytes, header_found, end_found, cut_found, closing_found, found_from, units_of_cut, frames_behind, chosen_one, chosen_from, piece_pictures, CutsToStreams}
use Rattle.stream_cut.proofs.Fields.{IsBytes, fit_drop}
use Rattle.stream_cut.proofs.Skimming.{skims}
use Rattle.stream_cut.proofs.Cuts.{cuts_to_a_skimmed_stream, cut_has_shapes, fit_behind}
use Rattle.stream_cut.proofs.NoLonger.{cuts_to_no_more}
use Rattle.stream_cut.proofs.Bridge.{has_pieces, made_of}
use Rattle.stream_cut.proofs.InTurn.{in_turn}
use Rattle.slice_geometry.specs.declared.unit_list.UnitShape.{UnitShape}
use Rattle.slice_geometry.specs.UnitLengths.{ShapesInTurn}

-- ---- what is written is bytes

fit_append : (a b : List ℕ) → IsBytes a → IsBytes b → IsBytes (a ++ b)
fit_append [] b f g = g
fit_append (x ∷ a) b f g = (f.0, fit_append a b f.1 g)

fit_front : (a b : List ℕ) → IsBytes (a ++ b) → IsBytes a
fit_front [] b f = tt
fit_front (x ∷ a) b f = (f.0, fit_front a b f.1)

header_fits : (payload : List ℕ) → IsBytes payload → IsBytes (cut_header_unit payload)
header_fits payload f = let info : ParseInfo = record { code = SequenceHeader; next = HEAD_SIZE + length payload; previous = 0 } in fit_append (head_bytes info) payload (head_fits info) f

picture_fits : (previous : ℕ) (payload : List ℕ) → IsBytes payload → IsBytes (cut_picture_unit previous payload)
picture_fits previous payload f = let info : ParseInfo = record { code = LowDelayPicture; next = HEAD_SIZE + length payload; previous = previous } in fit_append (head_bytes info) payload (head_fits info) f

end_fits : (previous : ℕ) → IsBytes (end_unit previous)
end_fits previous = head_fits (record { code = EndOfSequence; next = 0; previous = previous })

abbrev FirstFits : Option First → Type 0
FirstFits None = Unit {0}
FirstFits (Some first) = IsBytes first.payload

payload_fits : (o : Option First) → FirstFits o → IsBytes (payload_of o)
payload_fits None f = tt
payload_fits (Some first) f = f

header_due_fits : (z : Past) (o : Option ℕ) → FirstFits z.first → IsBytes (header_due z o)
header_due_fits z None f = header_fits (payload_of z.first) (payload_fits z.first f)
header_due_fits z (Some previous) f = tt

end_due_fits : (o : Option ℕ) → IsBytes (end_due o)
end_due_fits None = tt
end_due_fits (Some previous) = end_fits previous

text_fits : (frames : Frames) (z : Past) (w : Cutting) (unit : DataUnit) (bytes : List ℕ) → FirstFits z.first → IsBytes bytes → IsBytes (cut_text frames z w unit bytes)
text_fits frames z w (Sequence parts) bytes f g = tt
text_fits frames z w Repeated bytes f g = tt
text_fits frames z w Skipped bytes f g = tt
text_fits frames z w End bytes f g = end_due_fits w.previous
text_fits frames z w (Picture parts number p slices) bytes f g = by (is_in frames (frame_now z w))
  where
    by : (c : Bool) → IsBytes (cond c (header_due z w.previous ++ cut_picture_unit (length_ahead z w.previous) (drop HEAD_SIZE bytes)) [])
    by true = fit_append (header_due z w.previous) (cut_picture_unit (length_ahead z w.previous) (drop 13 bytes)) (header_due_fits z w.previous f) (picture_fits (length_ahead z w.previous) (drop 13 bytes) (fit_drop 13 bytes g))
    by false = tt

first_after : (z : Past) (unit : DataUnit) (bytes : List ℕ) → FirstFits z.first → IsBytes bytes → FirstFits (after z unit bytes).first
first_after z (Sequence parts) bytes f g = fit_drop 13 bytes g
first_after z Repeated bytes f g = f
first_after z (Picture parts number p slices) bytes f g = f
first_after z Skipped bytes f g = f
first_after z End bytes f g = tt

first_next : (frames : Frames) (z : Past) (w : Cutting) (unit : DataUnit) (bytes : List ℕ) → FirstFits w.first → IsBytes bytes → FirstFits (cut_next frames z w unit bytes).first
first_next frames z w (Sequence parts) bytes f g = by w.first f
  where
    by : (o : Option First) → FirstFits o → FirstFits (or_else_some o (record { parts = parts; payload = drop HEAD_SIZE bytes }))
    by None f = fit_drop 13 bytes g
    by (Some first) f = f
first_next frames z w Repeated bytes f g = f
first_next frames z w (Picture parts number p slices) bytes f g = by (is_in frames (frame_now z w))
  where
    by : (c : Bool) → (let q : Cutting = cond c (record w { written = w.written + length (cut_text frames z w (Picture parts number p slices) bytes); previous = Some (HEAD_SIZE + length (drop HEAD_SIZE bytes)) }) w in FirstFits q.first)
    by true = f
    by false = f
first_next frames z w Skipped bytes f g = f
first_next frames z w End bytes f g = f

closing_fits : (w : Cutting) → FirstFits w.first → IsBytes (closing w)
closing_fits w f = by w.previous w.written w.first f
  where
    by : (previous : Option ℕ) (written : ℕ) (first : Option First) → FirstFits first → IsBytes (closing_by previous written first)
    by (Some previous) written first f = end_fits previous
    by None zero (Some first) f = fit_append (cut_header_unit first.payload) (end_unit (13 + length first.payload)) (header_fits first.payload f) (end_fits (13 + length first.payload))
    by None zero None f = tt
    by None (suc n) first f = tt

all_fit : (frames : Frames) (pieces : List Piece) (z : Past) (w : Cutting) → IsBytes (piece_bytes pieces) → FirstFits z.first → FirstFits w.first → IsBytes (front_from frames z w pieces ++ closing (left_from frames z w pieces))
all_fit frames [] z w g f h = closing_fits w h
all_fit frames (p ∷ pieces) z w g f h =
    let one = fit_front p.bytes (piece_bytes pieces) g in
    let z1 = after z p.unit p.bytes in
    let w1 = cut_next frames z w p.unit p.bytes in
    let text = cut_text frames z w p.unit p.bytes in
    let close = closing (left_from frames z1 w1 pieces) in
    subst IsBytes (sym (append_assoc text (front_from frames z1 w1 pieces) close))
    (fit_append text (front_from frames z1 w1 pieces ++ close) (text_fits frames z w p.unit p.bytes f one)
    (all_fit frames pieces z1 w1 (fit_behind p.bytes (piece_bytes pieces) g) (first_after z p.unit p.bytes f one) (first_next frames z w p.unit p.bytes h one)))

-- ---- the slices of a cut hold where those of its stream do

abbrev Hold : List DataUnit → Type 0
Hold units = AllByRecursion UnitHolds units

hold_append : (a b : List DataUnit) → Hold a → Hold b → Hold (a ++ b)
hold_append [] b f g = g
hold_append (u ∷ a) b f g = (f.0, hold_append a b f.1 g)

hold_header : (parts : HeaderParts) (o : Option ℕ) → Hold (header_found parts o)
hold_header parts None = (tt, tt)
hold_header parts (Some previous) = tt

hold_end : (o : Option ℕ) → Hold (end_found o)
hold_end None = tt
hold_end (Some previous) = (tt, tt)

hold_unit : (frames : Frames) (z : Past) (w : Cutting) (unit : DataUnit) → UnitHolds unit → Hold (cut_found frames z w unit)
hold_unit frames z w (Sequence parts) f = tt
hold_unit frames z w Repeated f = tt
hold_unit frames z w Skipped f = tt
hold_unit frames z w End f = hold_end w.previous
hold_unit frames z w (Picture parts number p slices) f = by (is_in frames (frame_now z w))
  where
    by : (c : Bool) → Hold (cond c (header_found parts w.previous ++ Picture parts number p slices ∷ []) [])
    by true = hold_append (header_found parts w.previous) (Picture parts number p slices ∷ []) (hold_header parts w.previous) (f, tt)
    by false = tt

hold_closing : (previous : Option ℕ) (written : ℕ) (first : Option First) → Hold (closing_found previous written first)
hold_closing (Some previous) written first = (tt, tt)
hold_closing None zero (Some first) = (tt, (tt, tt))
hold_closing None zero None = tt
hold_closing None (suc n) first = tt

hold_from : (frames : Frames) (pieces : List Piece) (z : Past) (w : Cutting) → Hold (map (λ (p : Piece). p.unit) pieces) → (let w' = left_from frames z w pieces in Hold (found_from frames z w pieces ++ closing_found w'.previous w'.written w'.first))
hold_from frames [] z w f = hold_closing w.previous w.written w.first
hold_from frames (p ∷ pieces) z w f =
    let z1 = after z p.unit p.bytes in
    let w1 = cut_next frames z w p.unit p.bytes in
    let w' = left_from frames z1 w1 pieces in
    let close = closing_found w'.previous w'.written w'.first in
    subst Hold (sym (append_assoc (cut_found frames z w p.unit) (found_from frames z1 w1 pieces) close))
    (hold_append (cut_found frames z w p.unit) (found_from frames z1 w1 pieces ++ close) (hold_unit frames z w p.unit f.0) (hold_from frames pieces z1 w1 f.1))

units_hold : (es : List Entry) → AllByRecursion (λ (e : Entry). UnitHolds e.unit) es → Hold (map (λ (e : Entry). e.unit) es)
units_hold [] f = tt
units_hold (e ∷ es) f = (f.0, units_hold es f.1)

entries_hold : (es : List Entry) (more : List DataUnit) → Hold (map (λ (e : Entry). e.unit) es ++ more) → AllByRecursion (λ (e : Entry). UnitHolds e.unit) es
entries_hold [] more f = tt
entries_hold (e ∷ es) more f = (f.0, entries_hold es more f.1)

-- ---- the pictures of a cut

among_append : (a b : List DataUnit) → piece_pictures (a ++ b) ≡ piece_pictures a ++ piece_pictures b
among_append [] b = refl
among_append (u ∷ a) b = ap (λ l. chosen_one true u ++ l) (among_append a b) ∙ sym (append_assoc (chosen_one true u) (piece_pictures a) (piece_pictures b))

none_closing : (previous : Option ℕ) (written : ℕ) (first : Option First) → piece_pictures (closing_found previous written first) ≡ []
none_closing (Some previous) written first = refl
none_closing None zero (Some first) = refl
none_closing None zero None = refl
none_closing None (suc n) first = refl

none_end : (o : Option ℕ) → piece_pictures (end_found o) ≡ []
none_end None = refl
none_end (Some previous) = refl

one_found : (frames : Frames) (z : Past) (w : Cutting) (unit : DataUnit) → piece_pictures (cut_found frames z w unit) ≡ chosen_one (is_in frames (frame_now z w)) unit
one_found frames z w (Sequence parts) = refl
one_found frames z w Repeated = refl
one_found frames z w Skipped = refl
one_found frames z w End = none_end w.previous
one_found frames z w (Picture parts number p slices) = by (is_in frames (frame_now z w)) w.previous
  where
    by : (c : Bool) (o : Option ℕ) → piece_pictures (cond c (header_found parts o ++ Picture parts number p slices ∷ []) []) ≡ chosen_one c (Picture parts number p slices)
    by true None = refl
    by true (Some previous) = refl
    by false o = refl

frames_next : (frames : Frames) (z : Past) (w : Cutting) (unit : DataUnit) (bytes : List ℕ) → (cut_next frames z w unit bytes).frames ≡ frames_behind w.frames z unit
frames_next frames z w (Sequence parts) bytes = refl
frames_next frames z w Repeated bytes = refl
frames_next frames z w Skipped bytes = refl
frames_next frames z w End bytes = refl
frames_next frames z w (Picture parts number p slices) bytes = by (is_in frames (frame_now z w))
  where
    by : (c : Bool) → (let q : Cutting = cond c (record w { written = w.written + length (cut_text frames z w (Picture parts number p slices) bytes); previous = Some (HEAD_SIZE + length (drop HEAD_SIZE bytes)) }) w in q.frames ≡ w.frames)
    by true = refl
    by false = refl

pictures_from : (frames : Frames) (pieces : List Piece) (z : Past) (w : Cutting) → (let w' = left_from frames z w pieces in piece_pictures (found_from frames z w pieces ++ closing_found w'.previous w'.written w'.first) ≡ chosen_from frames w.frames z pieces)
pictures_from frames [] z w = none_closing w.previous w.written w.first
pictures_from frames (p ∷ pieces) z w =
    let z1 = after z p.unit p.bytes in
    let w1 = cut_next frames z w p.unit p.bytes in
    let w' = left_from frames z1 w1 pieces in
    let close = closing_found w'.previous w'.written w'.first in
    let here = cut_found frames z w p.unit in
    let found = found_from frames z1 w1 pieces in
    ap piece_pictures (append_assoc here found close) ∙ among_append here (found ++ close)
    ∙ ap (λ l. l ++ piece_pictures (found ++ close)) (one_found frames z w p.unit)
    ∙ ap (λ l. chosen_one (is_in frames (frame_now z w)) p.unit ++ l) (pictures_from frames pieces z1 w1 ∙ ap (λ n. chosen_from frames n z1 pieces) (frames_next frames z w p.unit p.bytes))

-- ---- the law

pub cuts_to_streams : CutsToStreams
cuts_to_streams frames bytes es last fits s =
    let h = has_pieces bytes es last fits s in
    let out = cut_of frames h.pieces in
    let c = cuts_to_a_skimmed_stream frames bytes h.pieces h.last_piece fits h.stream in
    let short = cuts_to_no_more frames bytes h.pieces h.last_piece fits h.stream in
    let in_pieces : IsBytes (piece_bytes h.pieces) = fit_front (piece_bytes h.pieces) h.last_piece.bytes (subst IsBytes h.stream.parts fits) in
    let out_fits = all_fit frames h.pieces nothing_yet nothing_cut in_pieces tt tt in
    let m = made_of out c.pieces c.last out_fits (omega (arith, short, s.within)) c.stream in
    let sh = cut_has_shapes frames bytes h.pieces h.last_piece fits h.stream in
    let found : map (λ (e : Entry). e.unit) m.es ++ m.last_entry.unit ∷ [] ≡ units_of_cut frames h.pieces =
    ap (λ l. l ++ m.last_entry.unit ∷ []) m.same ∙ ap (λ u. map (λ (p : Piece). p.unit) c.pieces ++ u ∷ []) m.last_same ∙ c.found in
    record {
      units = h;
      cut = record {
        es = m.es;
        last = m.last_entry;
        skimmed = m.stream;
        stream = λ t.
            let held = ((skims bytes es last).0 t).1 in
            let all : Hold (units_of_cut frames h.pieces) = hold_from frames h.pieces nothing_yet nothing_cut (subst Hold (sym h.same) (units_hold es held)) in
            (skims out m.es m.last_entry).1 (m.stream, entries_hold m.es (m.last_entry.unit ∷ []) (subst Hold (sym found) all));
        found = found;
      };
      short = short;
      pictures = pictures_from frames h.pieces nothing_yet nothing_cut;
      shapes = sh;
      in_turn = subst (λ (l : List UnitShape). ShapesInTurn 0 l (length out)) sh.read
          (in_turn sh.pieces nothing_yet sh.stream.left sh.last (length out) (subst IsBytes sh.stream.parts out_fits) sh.stream.units sh.stream.end (ap (λ (l : List ℕ). length l) sh.stream.parts ∙ omega arith));
    }
