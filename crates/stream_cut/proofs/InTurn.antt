-- The units of a skimmed stream stand in turn, by their shapes.
use Rattle.std.proofs.Common.{◌≡◌, ℕ, ◌+◌, ◌-◌, ◌≤◌, List, [], ◌∷◌, ◌++◌, length, drop, refl, sym, ap, subst, arith, lit≤, append_assoc}
use Rattle.std.proofs.lemmas.List.{length-append, length-drop}
use Rattle.slice_geometry.specs.declared.unit_list.UnitShape.{UnitShape}
use Rattle.slice_geometry.specs.UnitLengths.{IsUnitAllowed, ShapesInTurn, shape_length}
use Rattle.run_theory.specs.Grammar.{unit_at}
use Rattle.run_theory.specs.Fronts.{Finishes, front_of}
use Rattle.stream_rows.specs.Units.{Past, DataUnit, Sequence, Repeated, Picture, Skipped, End, after}
use Rattle.stream_rows.proofs.Answering.{IsBytes, after-place}
use Rattle.stream_reader.specs.Turns.{shape_of}
use Rattle.stream_cut.specs.Skim.{skim_rows, skim_grammar}
use Rattle.stream_cut.specs.Cut.{Piece}
use Rattle.stream_cut.specs.CutLaws.{piece_bytes, StandWith, shapes_read}
use Rattle.stream_cut.proofs.UnitsRead.{Facts}
use Rattle.stream_cut.proofs.Cuts.{facts_of, fit_behind, last_reading, only_end}

record Fits (place : ℕ) (bytes : List ℕ) (u : UnitShape) : Type 0 where
  starts : u.start ≡ place
  allowed : IsUnitAllowed u
  long : shape_length u ≡ length bytes

plain_fits : (place : ℕ) (bytes : List ℕ) → Fits place bytes (record { start = place; head = length bytes; slices = 0; a = 1; b = 1 })
plain_fits place bytes = record {
  starts = refl;
  allowed = record { some = lit≤ tt; byte = lit≤ tt; count = lit≤ tt; share = lit≤ tt };
  long = omega arith;
}

-- a unit of these bytes
unit_fits : (z : Past) (unit : DataUnit) (bytes : List ℕ) → Facts z (drop 13 bytes) unit → Fits z.place bytes (shape_of z unit bytes)
unit_fits z (Sequence parts) bytes f = plain_fits z.place bytes
unit_fits z Repeated bytes f = plain_fits z.place bytes
unit_fits z Skipped bytes f = plain_fits z.place bytes
unit_fits z End bytes f = plain_fits z.place bytes
unit_fits z (Picture parts number p slices) bytes f =
    let few = f.4.few in
    record {
      starts = refl;
      allowed = record { some = few.some; byte = few.byte; count = few.count; share = few.total };
      long = omega (arith, f.4.long, length-drop 13 bytes);
    }

pub in_turn : (pieces : List Piece) (z left : Past) (last : Piece) (total : ℕ) → IsBytes (piece_bytes pieces ++ last.bytes) → StandWith skim_rows z pieces last.bytes left
    → front_of skim_grammar left last.bytes ≡ Finishes (length last.bytes) last.unit → total ≡ z.place + length (piece_bytes pieces ++ last.bytes) → ShapesInTurn z.place (shapes_read z (pieces ++ last ∷ [])) total
in_turn [] z left last total fits units end e =
    let is : last.unit ≡ End = only_end last.unit (last_reading left last.bytes (length last.bytes) last.unit (unit_at skim_grammar left last.bytes) refl end).3 in
    let u = plain_fits z.place last.bytes in
    subst (λ (x : DataUnit). ShapesInTurn z.place (shape_of z x last.bytes ∷ []) total) (sym is) (u.starts, u.allowed, omega (arith, e, u.long))
in_turn (p ∷ pieces) z left last total fits units end e =
    let all = piece_bytes pieces ++ last.bytes in
    let joined = append_assoc p.bytes (piece_bytes pieces) last.bytes in
    let fits' : IsBytes (p.bytes ++ all) = subst IsBytes joined fits in
    let z1 = after z p.unit p.bytes in
    let u = unit_fits z p.unit p.bytes (facts_of z p.bytes all p.unit fits' units.0) in
    let at : z1.place ≡ z.place + shape_length (shape_of z p.unit p.bytes) = omega (arith, after-place z p.unit p.bytes, u.long) in
    let ends : total ≡ z1.place + length all = omega (arith, e, ap (λ (l : List ℕ). length l) joined, length-append p.bytes all, after-place z p.unit p.bytes) in
    (u.starts, u.allowed, subst (λ (k : ℕ). ShapesInTurn k (shapes_read z1 (pieces ++ last ∷ [])) total) at (in_turn pieces z1 left last total (fit_behind p.bytes all fits') units.1 end ends))
