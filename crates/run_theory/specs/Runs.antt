-- What a command's run leaves of its source and its sink, and how it writes a text.
use Rattle.std.specs.Prelude.{◌≡◌, ◌≤◌, ℕ, ◌+◌, List, Option, Result, Ok, Err}
use Rattle.std.specs.Io.KnownBytes.{Appends, IsAtEnd}
use Rattle.vc2_io.specs.declared.TheConstants.{INPUT_LIMIT}
use Rattle.vc2_io.specs.Outside.{Rose, GrewShort}
use Rattle.run_theory.specs.Walk.{Machine}
use Rattle.run_theory.specs.Ran.{Ran, TakesAtMost, HaltHasCause}
use Rattle.run_theory.specs.declared.Halt.{Halt}
use Rattle.run_theory.specs.declared.Halt.TheVariants as halts

-- an object before and after a call: what it tells of its bytes, and its count of faults
pub record Change : Type 0 where
  pub was : Option (List ℕ)
  pub is : Option (List ℕ)
  pub faults_were : ℕ
  pub faults_are : ℕ

-- an object before and after a call
abbrev pub change : {T : Type 0} → (T → Option (List ℕ)) → (T → ℕ) → T → T → Change
change told faults old new = record { was = told old; is = told new; faults_were = faults old; faults_are = faults new }

-- the count of faults stands still
abbrev pub HasNoNewFault : Change → Type 0
HasNoNewFault object = object.faults_are ≡ object.faults_were

-- the count of faults rose
abbrev pub HasFailed : Change → Type 0
HasFailed object = (object.faults_were ≤ object.faults_are) × Rose object.faults_were object.faults_are

-- nothing was read or written, and nothing failed
abbrev pub IsUntouched : Change → Type 0
IsUntouched object = (object.is ≡ object.was) × HasNoNewFault object

-- What a run leaves: it ran, took at most the limit and one byte more, each halt has its cause, and where all is done the
-- input is over.
pub record Runs {Z E : Type 0} (machine : Machine Z E) (IsDone : E → Type 0) (src out : Change)
    (result : Result E Halt) : Type 0 where
  pub ran : Ran machine src.was src.is out.was out.is result
  pub limit : TakesAtMost (INPUT_LIMIT + 1) src.was src.is
  pub cause : HaltHasCause src.faults_were src.faults_are out.faults_were out.faults_are result
  pub end : (ending : E) → result ≡ Ok ending → IsDone ending → IsAtEnd src.is

-- how a text is written
abbrev pub WritesText : {X : Type 0} → List ℕ → Option (List ℕ) → Option (List ℕ) → Result X Halt → Type 0
WritesText text out0 out1 (Ok x) = Appends out0 out1 text
WritesText text out0 out1 (Err halts.ReadFault) = ⊥
WritesText text out0 out1 (Err halts.OutFault) = GrewShort out0 out1 text
WritesText text out0 out1 (Err halts.NoMemory) = out1 ≡ out0

-- the same, and then there is an ending
abbrev pub Closes : {E : Type 0} → E → List ℕ → Option (List ℕ) → Option (List ℕ) → Result E Halt → Type 0
Closes ending last out0 out1 (Ok told) = (told ≡ ending) × Appends out0 out1 last
Closes ending last out0 out1 (Err halts.ReadFault) = ⊥
Closes ending last out0 out1 (Err halts.OutFault) = GrewShort out0 out1 last
Closes ending last out0 out1 (Err halts.NoMemory) = out1 ≡ out0
