-- Which fault of the operands is told, as a relation; and that their order does not matter.
use Rattle.std.specs.Prelude.{◌≡◌, ℕ, ◌+◌, List, ◌∷◌, ◌++◌, length, Ok, Err}
use Rattle.vc2_words.specs.declared.keys.Name.{Name}
use Rattle.vc2_words.specs.declared.keys.WordFault.{WordFault}
use Rattle.vc2_words.specs.Operands.{Table, nothing, operand, operands_from}
use Rattle.vc2_words.specs.Commands.{AskedCommand, asked_by}

-- The words in front are taken from word i on, and the one behind them is the first that is refused.
pub record IsFirstFault (name : Name) (i : ℕ) (given : Table) (words : List (List ℕ)) (fault : WordFault) : Type 0 where
  pub front : List (List ℕ)
  pub word : List ℕ
  pub back : List (List ℕ)
  pub words_are : words ≡ front ++ (word ∷ back)
  pub taken : Table
  pub takes : operands_from name i given front ≡ Ok taken
  pub refuses : operand name (i + length front) taken word ≡ Err fault

-- a fault of the words behind a command is told exactly where it is that of the first word that is refused
pub record FirstIsTold (name : Name) (words : List (List ℕ)) (fault : WordFault) : Type 0 where
  pub told : IsFirstFault name 1 nothing words fault → operands_from name 1 nothing words ≡ Err fault
  pub first : operands_from name 1 nothing words ≡ Err fault → IsFirstFault name 1 nothing words fault

-- of each command's words the first fault is told
abbrev pub FirstFaultIsTold : Type 0
FirstFaultIsTold = (name : Name) (words : List (List ℕ)) (fault : WordFault) → FirstIsTold name words fault

-- Operands that ask for a command ask for the same one where two neighbours are exchanged, and so in any order.
abbrev pub OrderIsFree : Type 0
OrderIsFree = (name a b : List ℕ) (front back : List (List ℕ)) (command : AskedCommand)
    → asked_by (name ∷ (front ++ (a ∷ b ∷ back))) ≡ Ok command → asked_by (name ∷ (front ++ (b ∷ a ∷ back))) ≡ Ok command
