-- Raw text that waits before a sink takes it.
use Rattle.std.specs.Prelude.{◌≡◌, ℕ, Bool, List, ◌++◌, Option}
use Rattle.std.specs.Io.KnownBytes.{Appends}

-- What is seen of a writer: whether samples take two bytes, and the bytes that wait.
pub record RawWriterSeen : Type 0 where
  pub wide : Bool
  pub waiting : List ℕ

-- A text came behind what waited. The sink took the first of these bytes, and the others wait.
pub record PassesOn (out0 out1 : Option (List ℕ)) (waited waits text : List ℕ) : Type 0 where
  pub gone : List ℕ
  pub wrote : Appends out0 out1 gone
  pub all : waited ++ text ≡ gone ++ waits
