-- The units of an input, as a relation.
use Rattle.std.specs.Prelude.{◌≡◌, ℕ, List, [], ◌∷◌, ◌++◌, length}
use Rattle.std.specs.List.{concat}
use Rattle.run_theory.specs.Walk.{Machine, Ends, Whole, Answer}

-- These units stand one after another, and then the tail. They have this text and leave this behind.
abbrev pub StandInTurn : {Z E : Type 0} → Machine Z E → Z → List (List ℕ) → List ℕ → List ℕ → Z → Type 0
StandInTurn machine z [] tail text left = (text ≡ []) × (left ≡ z)
StandInTurn {Z} machine z (unit ∷ units) tail text left = (line : List ℕ) × (more : List ℕ) × (next : Z)
    × (machine.step z (unit ++ (concat units ++ tail)) ≡ Whole (length unit) line next) × (text ≡ line ++ more)
    × StandInTurn machine next units tail more left

-- The input is units one after another, and behind them the end of the run.
pub record IsRun {Z E : Type 0} (machine : Machine Z E) (input : List ℕ) (answer : Answer E) : Type 0 where
  pub units : List (List ℕ)
  pub tail : List ℕ
  pub left : Z
  pub text : List ℕ
  pub opened : answer.text ≡ machine.opening ++ text
  pub whole : input ≡ concat units ++ tail
  pub in_turn : StandInTurn machine machine.start units tail text left
  pub ends : machine.step left tail ≡ Ends answer.ending answer.last
