-- A command over the units of a table: its machine, and what a turn of it is given and leaves.
use Rattle.std.specs.Prelude.{◌≡◌, ◌≤◌, ◌<◌, ◌⊎◌, ℕ, ◌+◌, List, ◌++◌, length, Option, Result, Ok, Err}
use Rattle.std.specs.Io.KnownBytes.{Appends}
use Rattle.run_theory.specs.Walk.{Machine}
use Rattle.run_theory.specs.Runs.{WritesText}
use Rattle.run_theory.specs.declared.Halt.{Halt}
use Rattle.run_theory.specs.Grammar.{Grammar, Final}
use Rattle.run_theory.specs.Fronts.{Stands, front_within, Between, Command, machine_of}
use Rattle.unit_reader.specs.Stops.{limit, past_limit}

-- the command, where it begins with this
abbrev pub command_from : {Z R U W E : Type 0} → Command Z R U W E → W → Command Z R U W E
command_from command own = record command { start = own }

-- its machine over the units of a table, of an input that counts up to the limit
abbrev pub machine_over : {Z R U W E : Type 0} → Grammar Z R U → R → Z → Command Z R U W E → Machine (Between Z W) E
machine_over g too_long first command = machine_of limit (past_limit g too_long) g first command

-- Between two tables is a unit of these bytes before the limit, and the item tells it. It is the last one, or stands in front
-- of them and of others.
pub record Passes {T Z R U I : Type 0} (g : Grammar Z R U) (too_long : R) (past_of : T → Z)
    (Tells : T → T → U → List ℕ → I → Type 0) (before behind : T) (item : I) : Type 0 where
  pub unit : U
  pub bytes : List ℕ
  pub tells : Tells before behind unit bytes item
  pub past : past_of behind ≡ g.after (past_of before) unit bytes
  pub some : 0 < length bytes
  pub fits : g.place (past_of before) + length bytes ≤ limit
  pub stands : (g.behind unit ≡ Final) ⊎ ((still : List ℕ)
      × (front_within limit (past_limit g too_long) g (past_of before) (bytes ++ still) ≡ Stands (length bytes) unit))

-- A turn wrote the unit's text, and what the unit leaves is the command's; or it halted while it wrote.
abbrev pub Turns : {Z R U W E X : Type 0} → Command Z R U W E → Z → U → List ℕ → W → W → Option (List ℕ)
    → Option (List ℕ) → Result X Halt → Type 0
Turns command z unit bytes w w' out0 out1 (Ok x) =
    Appends out0 out1 (command.text z w unit bytes) × (w' ≡ command.next z w unit bytes)
Turns {X = X} command z unit bytes w w' out0 out1 (Err halt) =
    WritesText {X = X} (command.text z w unit bytes) out0 out1 (Err halt)
