-- A run in between, of a command that holds bytes which it has read and not yet used.
use Rattle.std.specs.Prelude.{ℕ, List, ◌++◌, Option}
use Rattle.std.specs.Io.KnownBytes.{Appends, Consumes}
use Rattle.vc2_io.specs.Outside.{IsPrefix}
use Rattle.run_theory.specs.Walk.{Machine, SoFar, due}

-- the units so far, their text, what they left, and the bytes that are held behind them
pub record Holds {Z E : Type 0} (machine : Machine Z E) (rest0 rest1 out0 out1 : Option (List ℕ)) (held : List ℕ)
    (z : Z) : Type 0 where
  pub done : List ℕ
  pub text : List ℕ
  pub took : Consumes rest0 rest1 (done ++ held)
  pub wrote : Appends out0 out1 text
  pub behind : SoFar machine held done text z
  pub begins : IsPrefix (due machine done) text
