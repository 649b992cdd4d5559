-- What a command's run over a source and a sink leaves.
use Rattle.std.specs.Prelude.{◌≡◌, ◌≤◌, ℕ, List, ◌++◌, length, take, Option, Some, Result, Ok, Err}
use Rattle.std.specs.Option.{option_map}
use Rattle.std.specs.Io.KnownBytes.{Appends, Consumes}
use Rattle.vc2_io.specs.Outside.{Rose, IsPrefix, IsProperPrefix}
use Rattle.run_theory.specs.Walk.{Machine, answer_to, out_of, due, IsPrompt}
use Rattle.run_theory.specs.declared.Halt.{Halt}
use Rattle.run_theory.specs.declared.Halt.TheVariants.{ReadFault, OutFault, NoMemory}

-- At most so many bytes were taken, where the source tells them.
abbrev pub TakesAtMost : ℕ → Option (List ℕ) → Option (List ℕ) → Type 0
TakesAtMost most rest0 rest1 = (taken : List ℕ) × (length taken ≤ most) × Consumes rest0 rest1 taken

-- so much of the bytes that are left as there is room for before the limit
abbrev pub within : ℕ → Option (List ℕ) → Option (List ℕ)
within room rest = option_map (take room) rest

-- How a run came out, once it took these bytes. The bytes that follow on them count where the source tells them.
-- An ending and all that was written are those of the answer. At a failed read all that was due was written. At another
-- halt what was written begins the answer's text, and isn't all of it where a write failed.
abbrev pub RanOver : {Z E : Type 0} → Machine Z E → Option (List ℕ) → Option (List ℕ) → Option (List ℕ) → List ℕ
    → Result E Halt → Type 0
RanOver machine rest out0 out1 taken (Ok ending) = (text : List ℕ) × Appends out0 out1 text
    × ((more : List ℕ) → rest ≡ Some more → (out_of (answer_to machine (taken ++ more)) ≡ text)
    × ((answer_to machine (taken ++ more)).ending ≡ ending))
RanOver machine rest out0 out1 taken (Err ReadFault) = Appends out0 out1 (due machine taken)
RanOver machine rest out0 out1 taken (Err OutFault) = (text : List ℕ) × Appends out0 out1 text × IsPrompt (due machine) taken text
    × ((more : List ℕ) → rest ≡ Some more → IsProperPrefix text (out_of (answer_to machine (taken ++ more))))
RanOver machine rest out0 out1 taken (Err NoMemory) = (text : List ℕ) × Appends out0 out1 text × IsPrompt (due machine) taken text
    × ((more : List ℕ) → rest ≡ Some more → IsPrefix text (out_of (answer_to machine (taken ++ more))))

-- The run took bytes from what the source had left, and wrote.
abbrev pub Ran : {Z E : Type 0} → Machine Z E → Option (List ℕ) → Option (List ℕ) → Option (List ℕ) → Option (List ℕ)
    → Result E Halt → Type 0
Ran machine rest0 rest1 out0 out1 result =
    (taken : List ℕ) × Consumes rest0 rest1 taken × RanOver machine rest1 out0 out1 taken result

-- A halt comes only where the count of its object rose, and no other count moves.
abbrev pub HaltHasCause : {X : Type 0} → ℕ → ℕ → ℕ → ℕ → Result X Halt → Type 0
HaltHasCause src0 src1 out0 out1 (Ok x) = (src1 ≡ src0) × (out1 ≡ out0)
HaltHasCause src0 src1 out0 out1 (Err ReadFault) = (src0 ≤ src1) × Rose src0 src1 × (out1 ≡ out0)
HaltHasCause src0 src1 out0 out1 (Err OutFault) = (src1 ≡ src0) × (out0 ≤ out1) × Rose out0 out1
HaltHasCause src0 src1 out0 out1 (Err NoMemory) = (src1 ≡ src0) × (out1 ≡ out0)
