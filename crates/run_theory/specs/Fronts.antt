-- What stands in front of bytes, and the machine of a command over a stream of units.
use Rattle.std.specs.Prelude.{ℕ, ◌-◌, ◌/◌, Bool, true, false, not, ◌&&◌, List, [], ◌∷◌, length, take, nat_lt, Result, Ok, Err, if◌then◌else◌}
use Rattle.bit_codes.specs.Bits.{Cursor}
use Rattle.field_rows.specs.Rows.{Fault, is_nil}
use Rattle.run_theory.specs.Grammar.{Grammar, Behind, Inner, Final, unit_at}
use Rattle.run_theory.specs.Walk.{Step, Ends, Whole, Machine}

-- what stands in front of bytes
pub data Front (R U : Type 0) : Type 0 where
  -- a whole unit, in so many bytes
  Stands : (size : ℕ) (unit : U) → Front R U
  -- the last unit, in so many bytes, and nothing behind it
  Finishes : (size : ℕ) (unit : U) → Front R U
  -- nothing, where the input may be over
  Rests : Front R U
  -- the first fault
  Refuses : (fault : Fault R) → Front R U

-- how many of the bytes lie before a cursor
abbrev pub size_to : List ℕ → Cursor → ℕ
size_to bytes behind = length bytes - length behind.rest / 8

-- a unit of so many bytes, by what may come behind it and whether nothing does
abbrev pub front_behind : {R U : Type 0} → Behind → Bool → ℕ → U → Front R U
front_behind Inner empty size unit = Stands size unit
front_behind Final true size unit = Finishes size unit
front_behind Final false size unit = Stands size unit

-- the first bytes of an input were read, which is cut off behind them or ends there; a fault may be another one where it
-- is cut off
abbrev pub front_by : {Z R U : Type 0} → Grammar Z R U → (Fault R → Fault R) → Bool → List ℕ
    → Result (U × Cursor) (Fault R) → Front R U
front_by g past cut bytes (Ok x) = front_behind (g.behind x.0) (is_nil x.1.rest && not cut) (size_to bytes x.1) x.0
front_by g past cut bytes (Err fault) = Refuses (if cut then past fault else fault)

-- what stands in front of the bytes that are left
abbrev pub front_of : {Z R U : Type 0} → Grammar Z R U → Z → List ℕ → Front R U
front_of g z bytes = front_by g (λ fault. fault) false bytes (unit_at g z bytes)

-- the same of an input that counts up to a limit only
abbrev pub front_within : {Z R U : Type 0} → ℕ → (Fault R → Fault R) → Grammar Z R U → Z → List ℕ → Front R U
front_within limit past g z bytes =
    let room = limit - g.place z in
    front_by g past (nat_lt room (length bytes)) (take room bytes) (unit_at g z (take room bytes))

-- where the input may be over before a unit, nothing is left in front
abbrev pub front_or_rest : {R U : Type 0} → Bool → List ℕ → Front R U → Front R U
front_or_rest true [] front = Rests
front_or_rest true (byte ∷ bytes) front = front
front_or_rest false bytes front = front

-- ---- a command

-- what stands between two units of a command: what they leave to the table, and what they leave to the command
pub record Between (Z W : Type 0) : Type 0 where
  pub past : Z
  pub own : W

-- how a run is over: its ending, and its last text
pub record Close (E : Type 0) : Type 0 where
  pub ending : E
  pub last : List ℕ

-- A command over units: the text before any read; what it begins with, and what a unit of these bytes leaves to it; the
-- text of a unit; the ending of a run by how it is over, and its last text.
pub record Command (Z R U W E : Type 0) : Type 0 where
  pub opening : List ℕ
  pub start : W
  pub next : Z → W → U → List ℕ → W
  pub text : Z → W → U → List ℕ → List ℕ
  pub finished : Z → W → U → List ℕ → Close E
  pub rested : Z → W → Close E
  pub refused : Z → W → Fault R → Close E
  -- for runs that have no end, of which there are none
  pub endless : E

-- a command's step over what stands in front
abbrev pub step_by : {Z R U W E : Type 0} → Grammar Z R U → Command Z R U W E → Z → W → List ℕ → Front R U → Step (Between Z W) E
step_by g command z w bytes (Stands size unit) = Whole size (command.text z w unit (take size bytes))
    (record { past = g.after z unit (take size bytes); own = command.next z w unit (take size bytes) })
step_by g command z w bytes (Finishes size unit) = let close = command.finished z w unit (take size bytes)
    in Ends close.ending close.last
step_by g command z w bytes Rests = let close = command.rested z w in Ends close.ending close.last
step_by g command z w bytes (Refuses fault) = let close = command.refused z w fault in Ends close.ending close.last

-- a command over a table, as a machine
abbrev pub machine_of : {Z R U W E : Type 0} → ℕ → (Fault R → Fault R) → Grammar Z R U → Z → Command Z R U W E
    → Machine (Between Z W) E
machine_of limit past g first command = record {
  opening = command.opening;
  start = record { past = first; own = command.start };
  step = λ b bytes. step_by g command b.past b.own bytes
      (front_or_rest (g.rests b.past) bytes (front_within limit past g b.past bytes));
  endless = command.endless;
}
