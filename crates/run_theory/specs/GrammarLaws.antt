-- What is asked of a table, and of what stands in front of bytes.
use Rattle.std.specs.Prelude.{◌≡◌, ◌≤◌, ◌<◌, ℕ, true, List, ◌++◌, length}
use Rattle.bit_codes.specs.declared.CodeFault.TheVariants as codes
use Rattle.field_rows.proofs.Shorter.{BeginsWithBytes}
use Rattle.run_theory.specs.Grammar.{Grammar}
use Rattle.run_theory.specs.Fronts.{Front, Stands}

-- what is asked of a grammar: its rows begin with bytes, and a short field is told by its reason
pub record IsGrammar {Z R U : Type 0} (g : Grammar Z R U) : Type 0 where
  pub some : (z : Z) → BeginsWithBytes (g.rows z)
  pub short : g.is_short (g.reason_of codes.Short) ≡ true

-- What is asked of fronts: a unit has a byte, lies in the bytes, and is the same unit whatever follows.
pub record AreFronts {Z R U : Type 0} (front : Z → List ℕ → Front R U) : Type 0 where
  pub some : (z : Z) (bytes : List ℕ) (size : ℕ) (unit : U) → front z bytes ≡ Stands size unit → 0 < size
  pub inside : (z : Z) (bytes : List ℕ) (size : ℕ) (unit : U) → front z bytes ≡ Stands size unit → size ≤ length bytes
  pub stable : (z : Z) (bytes more : List ℕ) (size : ℕ) (unit : U) → front z bytes ≡ Stands size unit
      → front z (bytes ++ more) ≡ Stands size unit
