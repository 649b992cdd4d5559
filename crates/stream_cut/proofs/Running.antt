-- What a run over an input comes to is its cut.
use Rattle.std.proofs.Common.{◌≡◌, ℕ, ◌+◌, arith, List, [], ◌∷◌, ◌++◌, length, take, drop, refl, sym, ap, ◌∙◌, append_assoc, append-nil}
use Rattle.std.proofs.Math.Seq.{drop-append_seam}
use Rattle.std.proofs.lemmas.List.{take_at, length-append}
use Rattle.slice_geometry.specs.declared.unit_list.UnitShape.{UnitShape}
use Rattle.stream_cut.proofs.NoLonger.{written_by}
use Rattle.run_theory.specs.Walk.{IsMachine, Answer, Ends, answer_from, answer_to, after_step, before}
use Rattle.run_theory.proofs.Walks.{answer_step}
use Rattle.run_theory.specs.Fronts.{Front, Stands, Finishes, Refuses, front_within, Between, Close, step_by}
use Rattle.run_theory.proofs.FrontLaws.{step-stands, machine_laws}
use Rattle.stream_rows.specs.declared.reason.Reason.{Reason}
use Rattle.stream_rows.specs.Units.{Past, nothing_yet, DataUnit, after}
use Rattle.stream_rows.specs.Streams.{limit, past_limit, refusal_of}
use Rattle.stream_cut.specs.Skim.{skim_grammar}
use Rattle.stream_cut.specs.SkimGrammar.{skimmed_laws}
use Rattle.stream_cut.specs.Cut.{Frames, Cutting, nothing_cut, cut_text, cut_next, closing, Piece, front_from, left_from, cut_front, cut_of, cut_shapes, CutSoFar, CutEnd, Whole, Refused, whole_cut, cut_more, cutting, cut_machine}
use Rattle.stream_cut.specs.CutLaws.{piece_bytes, shapes_from, shapes_of_cut, StandWithin, CutsByRunning}

pub laws : (frames : Frames) → IsMachine (cut_machine frames)
laws frames = machine_laws limit past_limit skim_grammar nothing_yet (cutting frames) skimmed_laws

before-before : (a b : List ℕ) (x : Answer CutEnd) → before a (before b x) ≡ before (a ++ b) x
before-before a b x = ap (λ l. record { ending = x.ending; text = l; last = x.last }) (sym (append_assoc a b x.text))

abbrev at : Past → CutSoFar → Between Past CutSoFar
at z s = record { past = z; own = s }

abbrev so_far : Frames → Cutting → List UnitShape → CutSoFar
so_far frames w shapes = record { frames = frames; cut = w; shapes = shapes }

one_unit : (frames : Frames) (z : Past) (s : CutSoFar) (unit : DataUnit) (bytes more : List ℕ) → front_within limit past_limit skim_grammar z (bytes ++ more) ≡ Stands (length bytes) unit
    → answer_from (cut_machine frames) (at z s) (bytes ++ more) ≡ before (cut_text s.frames z s.cut unit bytes) (answer_from (cut_machine frames) (at (after z unit bytes) (cut_more z s unit bytes)) more)
one_unit frames z s unit bytes more e =
    let all = bytes ++ more in
    let taken : take (length bytes) all ≡ bytes = take_at bytes more (length bytes) refl in
    let dropped : drop (length bytes) all ≡ more = drop-append_seam bytes more in
    answer_step (cut_machine frames) (laws frames) (at z s) all
    ∙ ap (λ x. after_step x (λ size left. answer_from (cut_machine frames) left (drop size all))) (step-stands limit past_limit skim_grammar skimmed_laws nothing_yet (cutting frames) z s all (length bytes) unit e)
    ∙ ap (λ t. before (cut_text s.frames z s.cut unit t) (answer_from (cut_machine frames) (at (after z unit t) (cut_more z s unit t)) (drop (length bytes) all))) taken
    ∙ ap (λ d. before (cut_text s.frames z s.cut unit bytes) (answer_from (cut_machine frames) (at (after z unit bytes) (cut_more z s unit bytes)) d)) dropped

walks : (frames : Frames) (pieces : List Piece) (z : Past) (w : Cutting) (shapes : List UnitShape) (tail : List ℕ) (left : Past) → StandWithin z pieces tail left
    → answer_from (cut_machine frames) (at z (so_far frames w shapes)) (piece_bytes pieces ++ tail) ≡ before (front_from frames z w pieces) (answer_from (cut_machine frames) (at left (so_far frames (left_from frames z w pieces) (shapes ++ shapes_from frames z w pieces))) tail)
walks frames [] z w shapes tail left f = ap (λ (x : Past). answer_from (cut_machine frames) (at x (so_far frames w shapes)) tail) f ∙ ap (λ l. before [] (answer_from (cut_machine frames) (at left (so_far frames w l)) tail)) (sym (append-nil shapes))
walks frames (p ∷ pieces) z w shapes tail left f =
    let z1 = after z p.unit p.bytes in
    let w1 = cut_next frames z w p.unit p.bytes in
    let here = cut_shapes frames z w p.unit p.bytes in
    let more = shapes_from frames z1 w1 pieces in
    ap (answer_from (cut_machine frames) (at z (so_far frames w shapes))) (append_assoc p.bytes (piece_bytes pieces) tail)
    ∙ one_unit frames z (so_far frames w shapes) p.unit p.bytes (piece_bytes pieces ++ tail) f.0
    ∙ ap (before (cut_text frames z w p.unit p.bytes)) (walks frames pieces z1 w1 (shapes ++ here) tail left f.1)
    ∙ before-before (cut_text frames z w p.unit p.bytes) (front_from frames z1 w1 pieces) (answer_from (cut_machine frames) (at left (so_far frames (left_from frames z1 w1 pieces) ((shapes ++ here) ++ more))) tail)
    ∙ ap (λ l. before (cut_text frames z w p.unit p.bytes ++ front_from frames z1 w1 pieces) (answer_from (cut_machine frames) (at left (so_far frames (left_from frames z1 w1 pieces) l)) tail)) (append_assoc shapes here more)

ends_with : (frames : Frames) (z : Past) (s : CutSoFar) (tail : List ℕ) (front : Front Reason DataUnit) (close : Close CutEnd) → front_within limit past_limit skim_grammar z tail ≡ front → step_by skim_grammar (cutting frames) z s tail front ≡ Ends close.ending close.last
    → answer_from (cut_machine frames) (at z s) tail ≡ record { ending = close.ending; text = []; last = close.last }
ends_with frames z s tail front close here ends =
    answer_step (cut_machine frames) (laws frames) (at z s) tail
    ∙ ap (λ p. after_step p (λ size left. answer_from (cut_machine frames) left (drop size tail))) (ap (step_by skim_grammar (cutting frames) z s tail) here ∙ ends)

abbrev left_by : Frames → List Piece → CutSoFar
left_by frames pieces = so_far frames (left_from frames nothing_yet nothing_cut pieces) (shapes_from frames nothing_yet nothing_cut pieces)

comes_to : (frames : Frames) (pieces : List Piece) (tail : List ℕ) (left : Past) (ending : CutEnd) (last : List ℕ) → StandWithin nothing_yet pieces tail left → answer_from (cut_machine frames) (at left (left_by frames pieces)) tail ≡ record { ending = ending; text = []; last = last }
    → answer_to (cut_machine frames) (piece_bytes pieces ++ tail) ≡ record { ending = ending; text = cut_front frames pieces; last = last }
comes_to frames pieces tail left ending last f e =
    ap (before []) (walks frames pieces nothing_yet nothing_cut [] tail left f ∙ ap (before (cut_front frames pieces)) e)
    ∙ ap (λ l. record { ending = ending; text = l; last = last }) (append-nil (cut_front frames pieces))

-- all that was written was counted
pub counted_from : (frames : Frames) (pieces : List Piece) (z : Past) (w : Cutting) → (left_from frames z w pieces).written ≡ w.written + length (front_from frames z w pieces)
counted_from frames [] z w = omega arith
counted_from frames (p ∷ pieces) z w =
    let z1 = after z p.unit p.bytes in
    let w1 = cut_next frames z w p.unit p.bytes in
    omega (arith, counted_from frames pieces z1 w1, written_by frames z w p.unit p.bytes, length-append (cut_text frames z w p.unit p.bytes) (front_from frames z1 w1 pieces))

pub cuts_by_running : CutsByRunning
cuts_by_running frames pieces tail left f =
    let s = left_by frames pieces in
    let w = left_from frames nothing_yet nothing_cut pieces in
    let counted : w.written + length (closing w) ≡ length (cut_of frames pieces) = omega (arith, counted_from frames pieces nothing_yet nothing_cut, length-append (cut_front frames pieces) (closing w)) in
    record {
      whole = λ unit e. comes_to frames pieces tail left (whole_cut s).ending (closing w) f (ends_with frames left s tail (Finishes (length tail) unit) (whole_cut s) e refl)
          ∙ ap (λ n. record { ending = Whole (shapes_of_cut frames pieces) n; text = cut_front frames pieces; last = closing w }) counted;
      refused = λ fault e. comes_to frames pieces tail left (Refused (refusal_of fault)) [] f (ends_with frames left s tail (Refuses fault) (record { ending = Refused (refusal_of fault); last = [] }) e refl);
    }
