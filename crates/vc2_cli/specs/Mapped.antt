-- A machine whose endings are told in other words.
use Rattle.std.specs.Prelude.{Result, Ok, Err}
use Rattle.run_theory.specs.Walk.{Step, Ends, Whole, Answer, Machine}

-- a step whose ending is told in other words
abbrev pub step_told : {Z E F : Type 0} → (E → F) → Step Z E → Step Z F
step_told tell (Ends ending last) = Ends (tell ending) last
step_told tell (Whole size text left) = Whole size text left

-- an answer whose ending is
abbrev pub answer_told : {E F : Type 0} → (E → F) → Answer E → Answer F
answer_told tell answer = record { ending = tell answer.ending; text = answer.text; last = answer.last }

-- a machine whose endings are
abbrev pub told_as : {Z E F : Type 0} → (E → F) → Machine Z E → Machine Z F
told_as tell machine = record {
  opening = machine.opening;
  start = machine.start;
  step = λ z bytes. step_told tell (machine.step z bytes);
  endless = tell machine.endless;
}

-- a result whose ending is
abbrev pub result_told : {E F X : Type 0} → (E → F) → Result E X → Result F X
result_told tell (Ok ending) = Ok (tell ending)
result_told tell (Err halt) = Err halt
