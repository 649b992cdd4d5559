-- Answers of a call, told apart.
use Rattle.std.proofs.Common.{◌≡◌, Bool, true, false, Result, Ok, Err}
use Rattle.run_theory.specs.declared.Halt.{Halt}
use Rattle.run_theory.specs.declared.Halt.TheVariants as halts

pub err_no_ok : {X E A : Type 0} {stop : E} {x : X} → Err stop ≡ Ok x → A
err_no_ok e = absurd cc

pub true_no_false : {E A : Type 0} {r : Result Bool E} → r ≡ Ok true → r ≡ Ok false → A
true_no_false t f = absurd cc

pub memory_no_fault : {X A : Type 0} {r : Result X Halt} → r ≡ Err halts.NoMemory → r ≡ Err halts.ReadFault → A
memory_no_fault m f = absurd cc
