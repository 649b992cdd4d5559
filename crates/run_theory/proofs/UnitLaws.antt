-- The answer to an input is that of its units, and no other.
use Rattle.std.proofs.Common.{◌≡◌, ℕ, zero, suc, ◌≤◌, List, [], ◌∷◌, ◌++◌, length, take, drop, refl, sym, ap, ◌∙◌, subst, arith, append_assoc}
use Rattle.std.proofs.lemmas.List.{take-append-drop, length-drop, length-take-le, drop_at}
use Rattle.std.specs.List.{concat}
use Rattle.run_theory.specs.Walk.{Machine, Step, Ends, Whole, Answer, before, answer_from, answer_to, after_step, IsMachine}
use Rattle.run_theory.specs.UnitRuns.{StandInTurn, IsRun}
use Rattle.run_theory.proofs.Walks.{answer_step}

-- what stands in turn, and then ends, is answered so
answer_in_turn : {Z E : Type 0} (machine : Machine Z E) → IsMachine machine → (z : Z) (units : List (List ℕ)) (tail text last : List ℕ) (left : Z) (ending : E) → StandInTurn machine z units tail text left → machine.step left tail ≡ Ends ending last
    → answer_from machine z (concat units ++ tail) ≡ record { ending = ending; text = text; last = last }
answer_in_turn machine laws z [] tail text last left ending s ends =
    answer_step machine laws z tail
    ∙ ap (λ p. after_step p (λ size left'. answer_from machine left' (drop size tail))) (ap (λ y. machine.step y tail) (sym s.1) ∙ ends)
    ∙ ap (λ l. record { ending = ending; text = l; last = last }) (sym s.0)
answer_in_turn machine laws z (unit ∷ units) tail text last left ending s ends =
    let line = s.0 in
    let next = s.2 in
    let rest = concat units ++ tail in
    ap (answer_from machine z) (append_assoc unit (concat units) tail)
    ∙ answer_step machine laws z (unit ++ rest)
    ∙ ap (λ p. after_step p (λ size left'. answer_from machine left' (drop size (unit ++ rest)))) s.3
    ∙ ap (λ l. before line (answer_from machine next l)) (drop_at unit rest (length unit) refl)
    ∙ ap (before line) (answer_in_turn machine laws next units tail s.1 last left ending s.5 ends)
    ∙ ap (λ l. record { ending = ending; text = l; last = last }) (sym s.4)

-- what is a run is answered so
pub answer_of_run : {Z E : Type 0} (machine : Machine Z E) → IsMachine machine → (input : List ℕ) (answer : Answer E) → IsRun machine input answer → answer_to machine input ≡ answer
answer_of_run machine laws input answer run =
    ap (before machine.opening) (ap (answer_from machine machine.start) run.whole
    ∙ answer_in_turn machine laws machine.start run.units run.tail run.text answer.last run.left answer.ending run.in_turn run.ends)
    ∙ ap (λ l. record { ending = answer.ending; text = l; last = answer.last }) (sym run.opened)

-- the units from a state on
record IsRunFrom {Z E : Type 0} (machine : Machine Z E) (z : Z) (bytes : List ℕ) (answer : Answer E) : Type 0 where
  units : List (List ℕ)
  tail : List ℕ
  left : Z
  whole : bytes ≡ concat units ++ tail
  in_turn : StandInTurn machine z units tail answer.text left
  ends : machine.step left tail ≡ Ends answer.ending answer.last

by_step : {Z E : Type 0} (machine : Machine Z E) → IsMachine machine → (z : Z) (bytes : List ℕ) (s : Step Z E) → machine.step z bytes ≡ s
    → ((size : ℕ) (text : List ℕ) (left : Z) → s ≡ Whole size text left → IsRunFrom machine left (drop size bytes) (answer_from machine left (drop size bytes)))
    → IsRunFrom machine z bytes (after_step s (λ size left. answer_from machine left (drop size bytes)))
by_step machine laws z bytes (Ends ending last) e h = record { units = []; tail = bytes; left = z; whole = refl; in_turn = (refl, refl); ends = e }
by_step machine laws z bytes (Whole size text next) e h =
    let rest = h size text next refl in
    let unit = take size bytes in
    let long : length unit ≡ size = length-take-le size bytes (laws.inside z bytes size text next e) in
    let both : unit ++ (concat rest.units ++ rest.tail) ≡ bytes = ap (λ l. unit ++ l) (sym rest.whole) ∙ take-append-drop size bytes in
    record {
      units = unit ∷ rest.units;
      tail = rest.tail;
      left = rest.left;
      whole = sym (append_assoc unit (concat rest.units) rest.tail ∙ both);
      in_turn = (text, (answer_from machine next (drop size bytes)).text, next, ap (machine.step z) both ∙ e ∙ ap (λ n. Whole n text next) (sym long), refl, rest.in_turn);
      ends = rest.ends;
    }

runs : {Z E : Type 0} (machine : Machine Z E) → IsMachine machine → (n : ℕ) (z : Z) (bytes : List ℕ) → length bytes ≤ n → IsRunFrom machine z bytes (answer_from machine z bytes)
runs machine laws zero z bytes le = subst (IsRunFrom machine z bytes) (sym (answer_step machine laws z bytes))
    (by_step machine laws z bytes (machine.step z bytes) refl (λ size text left e. absurd (omega (arith, laws.some z bytes size text left e, laws.inside z bytes size text left e))))
runs machine laws (suc n) z bytes le = subst (IsRunFrom machine z bytes) (sym (answer_step machine laws z bytes))
    (by_step machine laws z bytes (machine.step z bytes) refl (λ size text left e. runs machine laws n left (drop size bytes) (omega (arith, length-drop size bytes, laws.some z bytes size text left e))))

-- each input is a run
pub run_of : {Z E : Type 0} (machine : Machine Z E) → IsMachine machine → (input : List ℕ) → IsRun machine input (answer_to machine input)
run_of machine laws input =
    let r = runs machine laws (length input) machine.start input (omega arith) in
    record { units = r.units; tail = r.tail; left = r.left; text = (answer_from machine machine.start input).text; opened = refl; whole = r.whole; in_turn = r.in_turn; ends = r.ends }
