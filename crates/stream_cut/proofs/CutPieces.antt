-- The units of a cut with their bytes; what they are, and their shapes as a reader of the cut finds them.
use Rattle.std.specs.Prelude.{if◌then◌else◌}
use Rattle.std.proofs.Common.{◌≡◌, ℕ, zero, suc, ◌+◌, ◌-◌, ◌≤◌, Bool, true, false, cond, List, [], ◌∷◌, ◌++◌, length, map, drop, Option, Some, None, refl, sym, ap, ◌∙◌, append_assoc, arith}
use Rattle.std.specs.List.{AllByRecursion}
use Rattle.std.proofs.lemmas.List.{length-append, length-drop}
use Rattle.parse_info.specs.declared.TheConstants.{HEAD_SIZE}
use Rattle.sequence_header.specs.declared.parts.HeaderParts.{HeaderParts}
use Rattle.slice_geometry.specs.declared.unit_list.UnitShape.{UnitShape}
use Rattle.slice_geometry.specs.Slicing.{slice_count, total_bytes}
use Rattle.transform_params.specs.Params.{Params}
use Rattle.stream_rows.specs.Units.{Past, First, DataUnit, Sequence, Repeated, Picture, Skipped, End, after}
use Rattle.stream_writer.specs.EncodedStream.{end_unit}
use Rattle.stream_cut.specs.Cut.{Frames, is_in, cut_header_unit, cut_picture_unit, Cutting, frame_now, payload_of, header_due, length_ahead, cut_next, end_due, Piece, left_from, header_shapes, end_shapes, cut_shapes, closing_shapes_by}
use Rattle.stream_cut.specs.CutLaws.{header_found, end_found, cut_found, closing_found, found_from, shapes_from, shapes_read}

pub length-header : (payload : List ℕ) → length (cut_header_unit payload) ≡ 13 + length payload
length-header payload = omega arith

pub length-picture : (previous : ℕ) (payload : List ℕ) → length (cut_picture_unit previous payload) ≡ 13 + length payload
length-picture previous payload = omega arith

abbrev pub header_piece : HeaderParts → List ℕ → Piece
header_piece parts payload = record { unit = Sequence parts; bytes = cut_header_unit payload }

abbrev pub end_piece : ℕ → Piece
end_piece previous = record { unit = End; bytes = end_unit previous }

abbrev pub picture_piece : DataUnit → ℕ → List ℕ → Piece
picture_piece unit previous bytes = record { unit = unit; bytes = cut_picture_unit previous (drop HEAD_SIZE bytes) }

abbrev pub header_pieces : HeaderParts → Past → Option ℕ → List Piece
header_pieces parts z None = header_piece parts (payload_of z.first) ∷ []
header_pieces parts z (Some previous) = []

abbrev pub end_pieces : Option ℕ → List Piece
end_pieces None = []
end_pieces (Some previous) = end_piece previous ∷ []

abbrev pub cut_pieces : Frames → Past → Cutting → DataUnit → List ℕ → List Piece
cut_pieces frames z w (Picture parts number p slices) bytes =
    if is_in frames (frame_now z w)
    then header_pieces parts z w.previous ++ picture_piece (Picture parts number p slices) (length_ahead z w.previous) bytes ∷ [] else []
cut_pieces frames z w End bytes = end_pieces w.previous
cut_pieces frames z w (Sequence parts) bytes = []
cut_pieces frames z w Repeated bytes = []
cut_pieces frames z w Skipped bytes = []

abbrev pub closing_pieces : Option ℕ → ℕ → Option First → List Piece
closing_pieces (Some previous) written first = end_piece previous ∷ []
closing_pieces None zero (Some first) = header_piece first.parts first.payload ∷ end_piece (HEAD_SIZE + length first.payload) ∷ []
closing_pieces None zero None = []
closing_pieces None (suc n) first = []

abbrev pub pieces_from : Frames → Past → Cutting → List Piece → List Piece
pieces_from frames z w [] = []
pieces_from frames z w (p ∷ pieces) = cut_pieces frames z w p.unit p.bytes
    ++ pieces_from frames (after z p.unit p.bytes) (cut_next frames z w p.unit p.bytes) pieces

-- ---- what they are

abbrev made : List Piece → List DataUnit
made pieces = map (λ (p : Piece). p.unit) pieces

pub made_append : (a b : List Piece) → made (a ++ b) ≡ made a ++ made b
made_append [] b = refl
made_append (p ∷ a) b = ap (λ l. p.unit ∷ l) (made_append a b)

unit_made : (frames : Frames) (z : Past) (w : Cutting) (unit : DataUnit) (bytes : List ℕ) → made (cut_pieces frames z w unit bytes) ≡ cut_found frames z w unit
unit_made frames z w (Sequence parts) bytes = refl
unit_made frames z w Repeated bytes = refl
unit_made frames z w Skipped bytes = refl
unit_made frames z w End bytes = by w.previous
  where
    by : (o : Option ℕ) → made (end_pieces o) ≡ end_found o
    by None = refl
    by (Some previous) = refl
unit_made frames z w (Picture parts number p slices) bytes = by (is_in frames (frame_now z w)) w.previous
  where
    by : (c : Bool) (o : Option ℕ) → made (cond c (header_pieces parts z o ++ picture_piece (Picture parts number p slices) (length_ahead z o) bytes ∷ []) []) ≡ cond c (header_found parts o ++ Picture parts number p slices ∷ []) []
    by true None = refl
    by true (Some previous) = refl
    by false o = refl

closing_made : (previous : Option ℕ) (written : ℕ) (first : Option First) → made (closing_pieces previous written first) ≡ closing_found previous written first
closing_made (Some previous) written first = refl
closing_made None zero (Some first) = refl
closing_made None zero None = refl
closing_made None (suc n) first = refl

pub from_made : (frames : Frames) (pieces : List Piece) (z : Past) (w : Cutting) → (let w' = left_from frames z w pieces in made (pieces_from frames z w pieces ++ closing_pieces w'.previous w'.written w'.first) ≡ found_from frames z w pieces ++ closing_found w'.previous w'.written w'.first)
from_made frames [] z w = closing_made w.previous w.written w.first
from_made frames (p ∷ pieces) z w =
    let z1 = after z p.unit p.bytes in
    let w1 = cut_next frames z w p.unit p.bytes in
    let w' = left_from frames z1 w1 pieces in
    let here = cut_pieces frames z w p.unit p.bytes in
    let more = pieces_from frames z1 w1 pieces in
    let close = closing_pieces w'.previous w'.written w'.first in
    ap made (append_assoc here more close) ∙ made_append here (more ++ close)
    ∙ ap (λ l. l ++ made (more ++ close)) (unit_made frames z w p.unit p.bytes)
    ∙ ap (λ l. cut_found frames z w p.unit ++ l) (from_made frames pieces z1 w1)
    ∙ sym (append_assoc (cut_found frames z w p.unit) (found_from frames z1 w1 pieces) (closing_found w'.previous w'.written w'.first))

-- ---- their shapes

abbrev plain : ℕ → ℕ → UnitShape
plain start head = record { start = start; head = head; slices = 0; a = 1; b = 1 }

same_plain : (start start' head head' : ℕ) → start ≡ start' → head ≡ head' → plain start head ≡ plain start' head'
same_plain start start' head head' e h = ap (λ n. plain n head) e ∙ ap (plain start') h

abbrev pictured : Params → ℕ → ℕ → UnitShape
pictured p start length' = record { start = start; head = length' - total_bytes p.slicing; slices = slice_count p.slicing; a = p.slicing.a; b = p.slicing.b }

same_pictured : (p : Params) (start start' long long' : ℕ) → start ≡ start' → long ≡ long' → pictured p start long ≡ pictured p start' long'
same_pictured p start start' long long' e h = ap (λ n. pictured p n long) e ∙ ap (pictured p start') h

-- what a reader of the units of a cut finds behind others, where their bytes were counted
record Counted (v : Past) (written : ℕ) (pieces : List Piece) (shapes : List UnitShape) : Type 0 where
  behind : Past
  place : behind.place ≡ written
  read : (more : List Piece) → shapes_read v (pieces ++ more) ≡ shapes ++ shapes_read behind more

picture_counted : (z v : Past) (n : ℕ) (parts : HeaderParts) (number : ℕ) (p : Params) (slices : List (List ℕ)) (bytes : List ℕ) → v.place ≡ n → 13 ≤ length bytes → (o : Option ℕ)
    → (let unit = Picture parts number p slices in Counted v (n + length (header_due z o ++ cut_picture_unit (length_ahead z o) (drop 13 bytes))) (header_pieces parts z o ++ picture_piece unit (length_ahead z o) bytes ∷ []) (header_shapes z n o ++ pictured p (n + length (header_due z o)) (length bytes) ∷ []))
picture_counted z v n parts number p slices bytes at long (Some previous) =
    let pu = cut_picture_unit previous (drop 13 bytes) in
    let size : length pu ≡ length bytes = omega (arith, length-picture previous (drop 13 bytes), length-drop 13 bytes, long) in
    record {
      behind = after v (Picture parts number p slices) pu;
      place = omega (arith, at);
      read = λ more. ap (λ s. s ∷ shapes_read (after v (Picture parts number p slices) pu) more) (same_pictured p v.place (n + 0) (length pu) (length bytes) (omega (arith, at)) size);
    }
picture_counted z v n parts number p slices bytes at long None =
    let hu = cut_header_unit (payload_of z.first) in
    let pu = cut_picture_unit (HEAD_SIZE + length (payload_of z.first)) (drop 13 bytes) in
    let v1 = after v (Sequence parts) hu in
    let v2 = after v1 (Picture parts number p slices) pu in
    let size : length pu ≡ length bytes = omega (arith, length-picture (HEAD_SIZE + length (payload_of z.first)) (drop 13 bytes), length-drop 13 bytes, long) in
    record {
      behind = v2;
      place = omega (arith, at, length-append hu pu);
      read = λ more. ap (λ s. s ∷ pictured p (v.place + length hu) (length pu) ∷ shapes_read v2 more) (same_plain v.place n (length hu) (HEAD_SIZE + length (payload_of z.first)) at (length-header (payload_of z.first)))
          ∙ ap (λ s. plain n (HEAD_SIZE + length (payload_of z.first)) ∷ s ∷ shapes_read v2 more) (same_pictured p (v.place + length hu) (n + length hu) (length pu) (length bytes) (omega (arith, at)) size);
    }

nothing_counted : (v : Past) (n : ℕ) → v.place ≡ n → Counted v n [] []
nothing_counted v n at = record { behind = v; place = at; read = λ more. refl }

end_counted : (v : Past) (n : ℕ) → v.place ≡ n → (o : Option ℕ) → Counted v (n + length (end_due o)) (end_pieces o) (end_shapes n o)
end_counted v n at None = record { behind = v; place = omega (arith, at); read = λ more. refl }
end_counted v n at (Some previous) = record {
  behind = after v End (end_unit previous);
  place = omega (arith, at);
  read = λ more. ap (λ s. s ∷ shapes_read (after v End (end_unit previous)) more) (same_plain v.place n (length (end_unit previous)) HEAD_SIZE at (omega arith));
}

unit_counted : (frames : Frames) (z : Past) (w : Cutting) (v : Past) (unit : DataUnit) (bytes : List ℕ) → v.place ≡ w.written → 13 ≤ length bytes → Counted v (cut_next frames z w unit bytes).written (cut_pieces frames z w unit bytes) (cut_shapes frames z w unit bytes)
unit_counted frames z w v (Sequence parts) bytes at long = nothing_counted v w.written at
unit_counted frames z w v Repeated bytes at long = nothing_counted v w.written at
unit_counted frames z w v Skipped bytes at long = nothing_counted v w.written at
unit_counted frames z w v End bytes at long = end_counted v w.written at w.previous
unit_counted frames z w v (Picture parts number p slices) bytes at long = by (is_in frames (frame_now z w))
  where
    by : (c : Bool)
        → (let due = header_due z w.previous ++ cut_picture_unit (length_ahead z w.previous) (drop HEAD_SIZE bytes) in
        let next : Cutting = cond c (record w { written = w.written + length (cond c due []); previous = Some (HEAD_SIZE + length (drop HEAD_SIZE bytes)) }) w in
        Counted v next.written (cond c (header_pieces parts z w.previous ++ picture_piece (Picture parts number p slices) (length_ahead z w.previous) bytes ∷ []) [])
        (cond c (header_shapes z w.written w.previous ++ pictured p (w.written + length (header_due z w.previous)) (length bytes) ∷ []) []))
    by true = picture_counted z v w.written parts number p slices bytes at long w.previous
    by false = nothing_counted v w.written at

closing_counted : (v : Past) (previous : Option ℕ) (written : ℕ) (first : Option First) → v.place ≡ written → shapes_read v (closing_pieces previous written first) ≡ closing_shapes_by previous written first
closing_counted v (Some previous) written first at = ap (λ s. s ∷ []) (same_plain v.place written (length (end_unit previous)) HEAD_SIZE at (omega arith))
closing_counted v None zero (Some first) at =
    let size = HEAD_SIZE + length first.payload in
    ap (λ s. s ∷ plain (v.place + length (cut_header_unit first.payload)) (length (end_unit size)) ∷ []) (same_plain v.place 0 (length (cut_header_unit first.payload)) size at (length-header first.payload))
    ∙ ap (λ s. plain 0 size ∷ s ∷ []) (same_plain (v.place + length (cut_header_unit first.payload)) size (length (end_unit size)) HEAD_SIZE (omega (arith, at, length-header first.payload)) (omega arith))
closing_counted v None zero None at = refl
closing_counted v None (suc n) first at = refl

pub shapes_counted : (frames : Frames) (pieces : List Piece) (z : Past) (w : Cutting) (v : Past) → v.place ≡ w.written → AllByRecursion (λ (p : Piece). 13 ≤ length p.bytes) pieces
    → (let w' = left_from frames z w pieces in shapes_read v (pieces_from frames z w pieces ++ closing_pieces w'.previous w'.written w'.first) ≡ shapes_from frames z w pieces ++ closing_shapes_by w'.previous w'.written w'.first)
shapes_counted frames [] z w v at long = closing_counted v w.previous w.written w.first at
shapes_counted frames (p ∷ pieces) z w v at long =
    let z1 = after z p.unit p.bytes in
    let w1 = cut_next frames z w p.unit p.bytes in
    let w' = left_from frames z1 w1 pieces in
    let c = unit_counted frames z w v p.unit p.bytes at long.0 in
    let more = pieces_from frames z1 w1 pieces ++ closing_pieces w'.previous w'.written w'.first in
    ap (shapes_read v) (append_assoc (cut_pieces frames z w p.unit p.bytes) (pieces_from frames z1 w1 pieces) (closing_pieces w'.previous w'.written w'.first))
    ∙ c.read more
    ∙ ap (λ l. cut_shapes frames z w p.unit p.bytes ++ l) (shapes_counted frames pieces z1 w1 c.behind c.place long.1)
    ∙ sym (append_assoc (cut_shapes frames z w p.unit p.bytes) (shapes_from frames z1 w1 pieces) (closing_shapes_by w'.previous w'.written w'.first))
