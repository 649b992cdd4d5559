-- How a turn of a reader comes out, of an input that counts up to a limit.
-- v are the bytes held at entry and then those that were read.
use Rattle.std.specs.Prelude.{◌≡◌, ℕ, ◌+◌, ◌≤◌, ◌<◌, List, [], ◌++◌, length, true, Option, Some}
use Rattle.std.specs.Io.KnownBytes.{Consumes}
use Rattle.field_rows.specs.Rows.{Fault}
use Rattle.run_theory.specs.Grammar.{Grammar}
use Rattle.run_theory.specs.Fronts.{Front, Stands, front_within}
use Rattle.run_theory.specs.Begun.{Prompt}
use Rattle.std.specs.Io.KnownBytes.{IsAtEnd}

-- the unit of these bytes, which stands in front of v, is taken; the others are held behind it. It stands whatever
-- follows; where bytes are held, a byte follows. It lies before the limit, and at most one byte past the limit was read.
pub record TakesUnit {Z R U : Type 0} (limit : ℕ) (past : Fault R → Fault R) (g : Grammar Z R U) (z : Z) (held : List ℕ)
    (rest0 rest1 : Option (List ℕ)) (unit : U) (bytes still : List ℕ) : Type 0 where
  pub read : List ℕ
  pub took : Consumes rest0 rest1 read
  pub parts : held ++ read ≡ bytes ++ still
  pub some : 0 < length bytes
  pub inside : g.place z + length bytes ≤ limit
  pub most : g.place z + length (held ++ read) ≤ limit + 1
  pub stands : (more : List ℕ) → (0 < length still → 0 < length more)
      → front_within limit past g z (bytes ++ more) ≡ Stands (length bytes) unit
  pub prompt : Prompt g z (held ++ read)

-- this stands in front of v and what follows it
pub record MeetsFront {Z R U : Type 0} (limit : ℕ) (past : Fault R → Fault R) (g : Grammar Z R U) (z : Z) (held : List ℕ)
    (rest0 rest1 : Option (List ℕ)) (front : Front R U) : Type 0 where
  pub read : List ℕ
  pub took : Consumes rest0 rest1 read
  pub begun : g.rests z ≡ true → 0 < length (held ++ read)
  pub most : g.place z + length (held ++ read) ≤ limit + 1
  pub ends : (more : List ℕ) → rest1 ≡ Some more → front_within limit past g z (held ++ read ++ more) ≡ front
  pub prompt : Prompt g z (held ++ read)

-- the input is over before a unit, where it may be
pub record RestsHere {Z R U : Type 0} (g : Grammar Z R U) (z : Z) (held : List ℕ) (rest0 rest1 : Option (List ℕ)) : Type 0 where
  pub may : g.rests z ≡ true
  pub none : held ≡ []
  pub took : Consumes rest0 rest1 []
  pub at_end : IsAtEnd rest1
