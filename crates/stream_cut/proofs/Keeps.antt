-- Bytes that are kept in pieces.
use Rattle.std.proofs.Common.{◌≡◌, ℕ, ◌+◌, ◌<◌, ◌≤◌, List, [], ◌∷◌, ◌++◌, length, Option, refl, sym, ap, arith}
use Rattle.run_theory.specs.Begun.{Got}
use Rattle.unit_reader.specs.Asking.{Refilled}
use Rattle.unit_reader.proofs.Gets.{skip_step}

-- what one byte was asked for is one read
refilled : {held1 held2 : List ℕ} {rest1 rest2 : Option (List ℕ)} → held1 ≡ [] → (more : Got 1 held1 held2 rest1 rest2 []) → Refilled (record { held = held1; room = length more.read }) (record { held = held2; room = 0 }) rest1 rest2
refilled {held1} none more = record {
  read = more.read;
  took = more.took;
  parts = sym more.parts;
  few = by more.read refl;
  room = omega arith;
}
  where
    by : (read : List ℕ) → more.read ≡ read → length read ≤ 4096
    by [] e = omega arith
    by (x ∷ read) e = omega (arith, more.few (omega (arith, ap (λ (l : List ℕ). length l) e)), ap (λ (l : List ℕ). length l) e, ap (λ (l : List ℕ). length l) none)

-- all that is held is kept, and then a byte is asked for
pub keep_step : {n : ℕ} {held0 gone held2 : List ℕ} {rest0 rest1 : Option (List ℕ)} (held1 cleared : List ℕ) (rest2 : Option (List ℕ)) → Got n held0 held1 rest0 rest1 gone → cleared ≡ [] → Got 1 cleared held2 rest1 rest2 [] → length gone + length held1 < n → Got n held0 held2 rest0 rest2 (gone ++ held1)
keep_step held1 cleared rest2 got none more short = skip_step held1 rest2 got none (refilled none more) short
