-- Runs that write and end, of any command.
use Rattle.std.proofs.Common.{◌≡◌, ◌≤◌, ℕ, ◌+◌, ◌^◌, List, [], Option, Result, Ok, Err, refl, sym, subst, ◌∙◌, arith}
use Rattle.vc2_io.specs.Outside.{Rose}
use Rattle.vc2_io.proofs.Known.{Consumes-none}
use Rattle.run_theory.specs.Walk.{Machine}
use Rattle.run_theory.specs.Ran.{TakesAtMost, HaltHasCause}
use Rattle.run_theory.specs.Runs.{Runs, WritesText, Closes}
use Rattle.run_theory.specs.declared.Halt.{Halt}
use Rattle.run_theory.specs.declared.Halt.TheVariants as halts
use Rattle.run_theory.proofs.Windows.{ran_unbegun}

pub takes_none : (rest : Option (List ℕ)) → TakesAtMost (2 ^ 40 + 1) rest rest
takes_none rest = ([], omega arith, Consumes-none rest)

-- causes of a write, behind counts that stood still
pub cause_then : {X : Type 0} (src0 src1 out0 out1 out2 : ℕ) (result : Result X Halt) → src1 ≡ src0 → out1 ≡ out0 → HaltHasCause 0 0 out1 out2 result → HaltHasCause src0 src1 out0 out2 result
cause_then src0 src1 out0 out1 out2 (Ok x) s o h = (s, h.1 ∙ o)
cause_then src0 src1 out0 out1 out2 (Err halts.ReadFault) s o h = absurd (omega (arith, h.1))
cause_then src0 src1 out0 out1 out2 (Err halts.OutFault) s o h = (s, subst (λ n. n ≤ out2) o h.1, subst (λ n. Rose n out2) o h.2)
cause_then src0 src1 out0 out1 out2 (Err halts.NoMemory) s o h = (s, h.1 ∙ o)

-- an ending that is told
pub closed_is : {E : Type 0} (ending told : E) (last : List ℕ) (out0 out1 : Option (List ℕ)) (result : Result E Halt) → Closes ending last out0 out1 result → result ≡ Ok told → told ≡ ending
closed_is {E} ending told last out0 out1 result c e = (subst (Closes ending last out0 out1) e c).0

-- the same of another result
pub cause_halt : (X E : Type 0) (src0 src1 out0 out1 out2 : ℕ) (halt : Halt) → src1 ≡ src0 → out1 ≡ out0 → HaltHasCause {X = X} 0 0 out1 out2 (Err halt) → HaltHasCause {X = E} src0 src1 out0 out2 (Err halt)
cause_halt X E src0 src1 out0 out1 out2 halts.ReadFault s o h = absurd (omega (arith, h.1))
cause_halt X E src0 src1 out0 out1 out2 halts.OutFault s o h = (s, subst (λ n. n ≤ out2) o h.1, subst (λ n. Rose n out2) o h.2)
cause_halt X E src0 src1 out0 out1 out2 halts.NoMemory s o h = (s, h.1 ∙ o)

-- no memory was found before the command began
pub runs_unbegun : {Z E : Type 0} (machine : Machine Z E) (Done : E → Type 0) (rest out : Option (List ℕ)) (src_faults out_faults : ℕ) → Runs machine Done (record { was = rest; is = rest; faults_were = src_faults; faults_are = src_faults }) (record { was = out; is = out; faults_were = out_faults; faults_are = out_faults }) (Err halts.NoMemory)
runs_unbegun machine Done rest out src_faults out_faults = record {
  ran = ran_unbegun machine rest out out refl;
  limit = takes_none rest;
  cause = (refl, refl);
  end = λ ending e done. absurd cc;
}

-- what writes doesn't read
pub closes_no_read : {E : Type 0} (ending : E) (last : List ℕ) (out0 out1 : Option (List ℕ)) (result : Result E Halt) → Closes ending last out0 out1 result → result ≡ Err halts.ReadFault → ⊥
closes_no_read ending last out0 out1 result c e = subst (Closes ending last out0 out1) e c

pub writes_no_read : (X E : Type 0) (text : List ℕ) (out0 out1 : Option (List ℕ)) (halt : Halt) (result : Result E Halt) → result ≡ Err halt → WritesText {X = X} text out0 out1 (Err halt) → result ≡ Err halts.ReadFault → ⊥
writes_no_read X E text out0 out1 halt result is wrote e =
    let same : (let r : Result E Halt = Err halt in r) ≡ Err halts.ReadFault = sym is ∙ e in
    let at : halt ≡ halts.ReadFault = cc in
    subst (λ h. WritesText {X = X} text out0 out1 (Err h)) at wrote
