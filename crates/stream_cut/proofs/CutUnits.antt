-- What a unit leaves to a cut.
use Rattle.std.proofs.Common.{◌≡◌, ◌≢◌, ℕ, ◌+◌, ◌-◌, ◌≤◌, cond, Bool, true, false, List, [], ◌∷◌, ◌++◌, length, drop, Option, Some, None, Result, Ok, Err, refl, sym, ap, subst, ◌∙◌, append-nil, arith}
use Rattle.std.specs.Prelude.{OnOk, OnErr}
use Rattle.std.proofs.lemmas.List.{length-append, length-drop}
use Rattle.std.specs.Io.KnownBytes.{Appends}
use Rattle.vc2_io.specs.Outside.{GrewShort}
use Rattle.vc2_io.proofs.Known.{Appends-none, Appends-along}
use Rattle.vc2_io.proofs.Short.{GrewShort-along}
use Rattle.run_theory.specs.declared.Halt.{Halt}
use Rattle.run_theory.specs.declared.Halt.TheVariants as halts
use Rattle.run_theory.specs.Runs.{WritesText}
use Rattle.slice_geometry.specs.declared.unit_list.UnitShape.{UnitShape}
use Rattle.slice_geometry.specs.Slicing.{slice_count, total_bytes}
use Rattle.sequence_header.specs.declared.parts.HeaderParts.{HeaderParts}
use Rattle.transform_params.specs.Params.{Params}
use Rattle.unit_reader.specs.Running.{Turns}
use Rattle.stream_rows.specs.Units.{Past, First, DataUnit, Sequence, Repeated, Picture, Skipped, End, after}
use Rattle.stream_cut.specs.Cut.{Frames, is_in, frames_so_far, frame_now, payload_of, header_due, length_ahead, cut_header_unit, cut_picture_unit, header_shapes, or_else_some, CutSoFar, cutting}
use Rattle.stream_cut.specs.Cutter.{own_of, pending, KeepsCut}
use Rattle.stream_cut.specs.SkimTable.{SkimTableSeen, IsKnownUnit, item_of, kept_behind, shape_behind}
use Rattle.stream_cut.specs.declared.table.SkimItem.TheVariants as items
use Rattle.stream_cut.specs.declared.cutter.CutRun.{CutRun}

abbrev none : Frames
none = record { from = 0; to = 0 }

-- ---- a first header

pub sequence_turn : (z past : Past) (unit : DataUnit) (bytes : List ℕ) (old new : CutRun) (out : Option (List ℕ)) (result : Result (Unit {0}) Halt) → items.Sequence ≡ item_of unit → past ≡ after z unit bytes
    → ((first : First) → past.first ≡ Some first → OnOk result (new ≡ record old { first = or_else_some old.first first })) → OnErr result (result ≡ Err halts.NoMemory) → Turns (cutting none) z unit bytes (own_of old) (own_of new) out out result
sequence_turn z past (Sequence parts) bytes old new out (Ok x) is at ok err =
    let e = ok (record { parts = parts; payload = drop 13 bytes }) (ap (λ (q : Past). q.first) at) in
    (Appends-none out out refl, ap own_of e ∙ ap (λ (l : List UnitShape). let s : CutSoFar = record { frames = (own_of old).frames; cut = record (own_of old).cut { first = or_else_some old.first (record { parts = parts; payload = drop 13 bytes }) }; shapes = l } in s) (sym (append-nil old.shapes.units)))
sequence_turn z past (Sequence parts) bytes old new out (Err halts.NoMemory) is at ok err = refl
sequence_turn z past (Sequence parts) bytes old new out (Err halts.ReadFault) is at ok err = absurd cc
sequence_turn z past (Sequence parts) bytes old new out (Err halts.OutFault) is at ok err = absurd cc
sequence_turn z past Repeated bytes old new out result is at ok err = absurd cc
sequence_turn z past (Picture parts number p slices) bytes old new out result is at ok err = absurd cc
sequence_turn z past Skipped bytes old new out result is at ok err = absurd cc
sequence_turn z past End bytes old new out result is at ok err = absurd cc

pub sequence_keeps : (before table : SkimTableSeen) (unit : DataUnit) (bytes : List ℕ) (was : ℕ) (old new : CutRun) (result : Result (Unit {0}) Halt) → items.Sequence ≡ item_of unit → table.past ≡ after before.past unit bytes → 13 ≤ length bytes
    → ((first : First) → table.past.first ≡ Some first → OnOk result (new ≡ record old { first = or_else_some old.first first })) → old.so_far ≡ frames_so_far table.past → KeepsCut was (own_of old) before → OnOk result (KeepsCut new.so_far (own_of new) table)
sequence_keeps before table (Sequence parts) bytes was old new (Ok x) is at long ok counted k =
    let e = ok (record { parts = parts; payload = drop 13 bytes }) (ap (λ (q : Past). q.first) at) in
    subst (λ (n : CutRun). KeepsCut n.so_far (own_of n) table) (sym e) (record {
      counted = counted;
      few = omega (arith, k.few, ap (λ (q : Past). q.pictures) at, ap (λ (q : Past). q.place) at);
      due = subst (λ (q : Past). old.shapes.total + pending q.first old.previous ≤ q.place) (sym at) (by old.previous k.due);
    })
  where
    by : (o : Option ℕ) → old.shapes.total + pending before.past.first o ≤ before.past.place → old.shapes.total + pending (Some (record { parts = parts; payload = drop 13 bytes })) o ≤ before.past.place + length bytes
    by None h = omega (arith, h, length-drop 13 bytes, long)
    by (Some previous) h = omega (arith, h)
sequence_keeps before table (Sequence parts) bytes was old new (Err halt) is at long ok counted k = tt
sequence_keeps before table Repeated bytes was old new result is at long ok counted k = absurd cc
sequence_keeps before table (Picture parts number p slices) bytes was old new result is at long ok counted k = absurd cc
sequence_keeps before table Skipped bytes was old new result is at long ok counted k = absurd cc
sequence_keeps before table End bytes was old new result is at long ok counted k = absurd cc

-- ---- a picture

abbrev text_of : Past → Option ℕ → List ℕ → List ℕ
text_of z o unit = header_due z o ++ cut_picture_unit (length_ahead z o) (drop 13 unit)

same_text : (z : Past) (parts : HeaderParts) (number : ℕ) (p : Params) (slices : List (List ℕ)) (bytes unit : List ℕ) (o : Option ℕ) → text_of (after z (Picture parts number p slices) bytes) o unit ≡ text_of z o unit
same_text z parts number p slices bytes unit None = refl
same_text z parts number p slices bytes unit (Some previous) = refl

same_shapes : (z : Past) (parts : HeaderParts) (number : ℕ) (p : Params) (slices : List (List ℕ)) (bytes : List ℕ) (start : ℕ) (o : Option ℕ) → header_shapes (after z (Picture parts number p slices) bytes) start o ≡ header_shapes z start o
same_shapes z parts number p slices bytes start None = refl
same_shapes z parts number p slices bytes start (Some previous) = refl

due_length : (z : Past) (first : Option First) (o : Option ℕ) → z.first ≡ first → first ≢ None → pending z.first o ≡ length (header_due z o)
due_length z None o is some = absurd (some refl)
due_length z (Some first) None is some = ap (λ f. pending f None) is ∙ (let n : 13 + length first.payload ≡ 13 + length (payload_of z.first) = ap (λ f. 13 + length (payload_of f)) (sym is) in n) ∙ (let n : 13 + length (payload_of z.first) ≡ length (cut_header_unit (payload_of z.first)) = omega arith in n)
due_length z (Some first) (Some previous) is some = ap (λ f. pending f (Some previous)) is

length_text : (z : Past) (o : Option ℕ) (bytes : List ℕ) → 13 ≤ length bytes → length (text_of z o bytes) ≡ length (header_due z o) + length bytes
length_text z o bytes long = omega (arith, length-append (header_due z o) (cut_picture_unit (length_ahead z o) (drop 13 bytes)), (let n : length (cut_picture_unit (length_ahead z o) (drop 13 bytes)) ≡ 13 + length (drop 13 bytes) = omega arith in n), length-drop 13 bytes, long)

abbrev shape_at : ℕ → Params → List ℕ → UnitShape
shape_at start p bytes = record { start = start; head = length bytes - total_bytes p.slicing; slices = slice_count p.slicing; a = p.slicing.a; b = p.slicing.b }

-- what a picture leaves, where it is chosen and where it isn't
abbrev left_by : Bool → Past → CutSoFar → Params → List ℕ → CutSoFar
left_by b z s p bytes = record {
  frames = s.frames;
  cut = cond b (record s.cut { written = s.cut.written + length (cond b (text_of z s.cut.previous bytes) []); previous = Some (13 + length (drop 13 bytes)) }) s.cut;
  shapes = s.shapes ++ cond b (header_shapes z s.cut.written s.cut.previous ++ shape_at (s.cut.written + length (header_due z s.cut.previous)) p bytes ∷ []) [];
}

is_frame : (z : Past) (old : CutRun) (was : ℕ) (chosen : Bool) → was ≡ frames_so_far z → chosen ≡ is_in (own_of old).frames (old.frames + was) → is_in (own_of old).frames (frame_now z (own_of old).cut) ≡ chosen
is_frame z old was chosen counted is = ap (λ n. is_in (own_of old).frames (old.frames + n)) (sym counted) ∙ sym is

pub picture_passed : (z : Past) (unit : DataUnit) (bytes : List ℕ) (old new : CutRun) (was : ℕ) (out : Option (List ℕ)) → items.Picture ≡ item_of unit → was ≡ frames_so_far z → is_in (own_of old).frames (old.frames + was) ≡ false → own_of new ≡ own_of old
    → Turns (cutting none) z unit bytes (own_of old) (own_of new) out out (let done : Result (Unit {0}) Halt = Ok tt in done)
picture_passed z (Picture parts number p slices) bytes old new was out is counted not_chosen same =
    let s = own_of old in
    let b : is_in s.frames (frame_now z s.cut) ≡ false = is_frame z old was false counted (sym not_chosen) in
    (subst (λ c. Appends out out (cond c (text_of z old.previous bytes) [])) (sym b) (Appends-none out out refl), subst (λ c. own_of new ≡ left_by c z s p bytes) (sym b) (same ∙ ap (λ (l : List UnitShape). let t : CutSoFar = record { frames = s.frames; cut = s.cut; shapes = l } in t) (sym (append-nil old.shapes.units))))
picture_passed z (Sequence parts) bytes old new was out is counted not_chosen same = absurd cc
picture_passed z Repeated bytes old new was out is counted not_chosen same = absurd cc
picture_passed z Skipped bytes old new was out is counted not_chosen same = absurd cc
picture_passed z End bytes old new was out is counted not_chosen same = absurd cc

record Leaves (old new : CutRun) (table : SkimTableSeen) : Type 0 where
  units : new.shapes.units ≡ old.shapes.units ++ (header_shapes table.past old.shapes.total old.previous ++ record table.shape { start = old.shapes.total + pending table.past.first old.previous } ∷ [])
  total : new.shapes.total ≡ old.shapes.total + pending table.past.first old.previous + length table.unit
  others : new ≡ record old { shapes = new.shapes; previous = Some (length table.unit) }

leaves_own : (z : Past) (parts : HeaderParts) (number : ℕ) (p : Params) (slices : List (List ℕ)) (bytes : List ℕ) (was : UnitShape) (old new : CutRun) (table : SkimTableSeen) → table.past ≡ after z (Picture parts number p slices) bytes → table.unit ≡ bytes
    → table.shape ≡ shape_behind z (Picture parts number p slices) bytes was → z.first ≢ None → 13 ≤ length bytes → Leaves old new table → own_of new ≡ left_by true z (own_of old) p bytes
leaves_own z parts number p slices bytes was old new table at kept shape some long l =
    let s = own_of old in
    let due : pending table.past.first old.previous ≡ length (header_due z old.previous) = ap (λ (q : Past). pending q.first old.previous) at ∙ due_length z z.first old.previous refl some in
    let size : length table.unit ≡ length bytes = ap (λ (l : List ℕ). length l) kept in
    let made : ℕ → ℕ → List UnitShape → CutSoFar = λ written previous shapes. record { frames = s.frames; cut = record { frames = old.frames; first = old.first; written = written; previous = Some previous }; shapes = shapes } in
    let units = l.units
    ∙ ap (λ (q : Past). old.shapes.units ++ (header_shapes q old.shapes.total old.previous ++ record table.shape { start = old.shapes.total + pending table.past.first old.previous } ∷ [])) at
    ∙ ap (λ hs. old.shapes.units ++ (hs ++ record table.shape { start = old.shapes.total + pending table.past.first old.previous } ∷ [])) (same_shapes z parts number p slices bytes old.shapes.total old.previous)
    ∙ ap (λ (u : UnitShape). old.shapes.units ++ (header_shapes z old.shapes.total old.previous ++ record u { start = old.shapes.total + pending table.past.first old.previous } ∷ [])) shape
    ∙ ap (λ n. old.shapes.units ++ (header_shapes z old.shapes.total old.previous ++ shape_at (old.shapes.total + n) p bytes ∷ [])) due in
    ap own_of l.others
    ∙ ap (λ n. made n (length table.unit) new.shapes.units) (let n : new.shapes.total ≡ old.shapes.total + length (text_of z old.previous bytes) = omega (arith, l.total, due, size, length_text z old.previous bytes long) in n)
    ∙ ap (λ n. made (old.shapes.total + length (text_of z old.previous bytes)) n new.shapes.units) (let n : length table.unit ≡ 13 + length (drop 13 bytes) = omega (arith, size, length-drop 13 bytes, long) in n)
    ∙ ap (made (old.shapes.total + length (text_of z old.previous bytes)) (13 + length (drop 13 bytes))) units

text_is : (z : Past) (parts : HeaderParts) (number : ℕ) (p : Params) (slices : List (List ℕ)) (bytes : List ℕ) (o : Option ℕ) (table : SkimTableSeen) → table.past ≡ after z (Picture parts number p slices) bytes → table.unit ≡ bytes → text_of table.past o table.unit ≡ text_of z o bytes
text_is z parts number p slices bytes o table at kept = ap (λ (q : Past). text_of q o table.unit) at ∙ same_text z parts number p slices bytes table.unit o ∙ ap (text_of z o) kept

pub picture_turn : (z : Past) (unit : DataUnit) (bytes kept_before : List ℕ) (shape_before : UnitShape) (old new : CutRun) (was : ℕ) (table : SkimTableSeen) (out0 out1 : Option (List ℕ)) (result : Result (Unit {0}) Halt) → items.Picture ≡ item_of unit → was ≡ frames_so_far z → is_in (own_of old).frames (old.frames + was) ≡ true
    → table.past ≡ after z unit bytes → table.unit ≡ kept_behind unit bytes kept_before → table.shape ≡ shape_behind z unit bytes shape_before → z.first ≢ None → 13 ≤ length bytes → WritesText (text_of table.past old.previous table.unit) out0 out1 result
    → OnOk result (new.shapes.units ≡ old.shapes.units ++ (header_shapes table.past old.shapes.total old.previous ++ record table.shape { start = old.shapes.total + pending table.past.first old.previous } ∷ []))
    → OnOk result (new.shapes.total ≡ old.shapes.total + pending table.past.first old.previous + length table.unit) → OnOk result (new ≡ record old { shapes = new.shapes; previous = Some (length table.unit) })
    → Turns (cutting none) z unit bytes (own_of old) (own_of new) out0 out1 result
picture_turn z (Picture parts number p slices) bytes kept_before shape_before old new was table out0 out1 (Ok x) is counted chosen at kept shape some long wrote units total others =
    let s = own_of old in
    let b : is_in s.frames (frame_now z s.cut) ≡ true = is_frame z old was true counted (sym chosen) in (
      subst (λ c. Appends out0 out1 (cond c (text_of z old.previous bytes) [])) (sym b) (Appends-along _ _ _ _ (text_is z parts number p slices bytes old.previous table at kept) wrote),
      subst (λ c. own_of new ≡ left_by c z s p bytes) (sym b) (leaves_own z parts number p slices bytes shape_before old new table at kept shape some long (record { units = units; total = total; others = others })),
    )
picture_turn z (Picture parts number p slices) bytes kept_before shape_before old new was table out0 out1 (Err halts.OutFault) is counted chosen at kept shape some long wrote units total others =
    subst (λ c. GrewShort out0 out1 (cond c (text_of z old.previous bytes) [])) (sym (is_frame z old was true counted (sym chosen))) (GrewShort-along _ _ _ _ (text_is z parts number p slices bytes old.previous table at kept) wrote)
picture_turn z (Picture parts number p slices) bytes kept_before shape_before old new was table out0 out1 (Err halts.NoMemory) is counted chosen at kept shape some long wrote units total others = wrote
picture_turn z (Picture parts number p slices) bytes kept_before shape_before old new was table out0 out1 (Err halts.ReadFault) is counted chosen at kept shape some long wrote units total others = wrote
picture_turn z (Sequence parts) bytes kept_before shape_before old new was table out0 out1 result is counted chosen at kept shape some long wrote units total others = absurd cc
picture_turn z Repeated bytes kept_before shape_before old new was table out0 out1 result is counted chosen at kept shape some long wrote units total others = absurd cc
picture_turn z Skipped bytes kept_before shape_before old new was table out0 out1 result is counted chosen at kept shape some long wrote units total others = absurd cc
picture_turn z End bytes kept_before shape_before old new was table out0 out1 result is counted chosen at kept shape some long wrote units total others = absurd cc

pub stands_under : (z : Past) (unit : DataUnit) (bytes : List ℕ) → items.Picture ≡ item_of unit → IsKnownUnit z unit bytes → z.first ≢ None
stands_under z (Picture parts number p slices) bytes is h = h.0
stands_under z (Sequence parts) bytes is h = absurd cc
stands_under z Repeated bytes is h = absurd cc
stands_under z Skipped bytes is h = absurd cc
stands_under z End bytes is h = absurd cc
