-- A reader in the middle of a unit: what was read of it is known by the rows that are left.
use Rattle.std.specs.Prelude.{◌≡◌, ℕ, ◌+◌, ◌-◌, ◌<◌, false, List, ◌++◌, length, take, Option, Some, Err}
use Rattle.vc2_io.specs.declared.TheConstants.{READ_SIZE}
use Rattle.std.specs.Io.KnownBytes.{Consumes}
use Rattle.field_rows.specs.Rows.{Rows, Fault, read}
use Rattle.run_theory.specs.Grammar.{Grammar, bytes_at, unit_at, is_settled_by, Waits}

-- These bytes of the unit are gone, and these rows are left, from a place on: whatever follows, reading the unit is
-- reading the rows that are left.
pub record Partway {Z R U : Type 0} (g : Grammar Z R U) (z : Z) (gone : List ℕ) (at : ℕ) (left : Rows R U) : Type 0 where
  pub at_is : at ≡ g.place z + length gone
  pub same : (more : List ℕ) → unit_at g z (gone ++ more) ≡ read g.reason_of left (bytes_at at more)

-- the unit waits for more than these bytes without their last 4096: so it neither stood nor was refused before the last read
pub record Prompt {Z R U : Type 0} (g : Grammar Z R U) (z : Z) (bytes : List ℕ) : Type 0 where
  pub prompt : READ_SIZE < length bytes → Waits g z (take (length bytes - READ_SIZE) bytes)

-- A unit was begun with these bytes held: so many were read since, some are gone, the others are held, and these rows are left.
pub record Begun {Z R U : Type 0} (g : Grammar Z R U) (z : Z) (held0 : List ℕ) (rest0 rest1 : Option (List ℕ)) (at : ℕ)
    (held1 : List ℕ) (left : Rows R U) : Type 0 where
  pub gone : List ℕ
  pub read : List ℕ
  pub took : Consumes rest0 rest1 read
  pub parts : held0 ++ read ≡ gone ++ held1
  pub partway : Partway g z gone at left
  pub prompt : Prompt g z (gone ++ held1)

-- fewer than so many bytes settle nothing by these rows
pub record Needs {Z R U : Type 0} (g : Grammar Z R U) (left : Rows R U) (n : ℕ) : Type 0 where
  pub needs : (place : ℕ) (bytes : List ℕ) → length bytes < n
      → is_settled_by g (read g.reason_of left (bytes_at place bytes)) ≡ false

-- these bytes, which begin at a place, settle nothing by these rows
pub record Lacks {Z R U : Type 0} (g : Grammar Z R U) (left : Rows R U) (at : ℕ) (bytes : List ℕ) : Type 0 where
  pub lacks : is_settled_by g (read g.reason_of left (bytes_at at bytes)) ≡ false

-- behind these bytes, which begin at a place, these rows are left
pub record Moves {Z R U : Type 0} (g : Grammar Z R U) (left : Rows R U) (at : ℕ) (piece : List ℕ)
    (others : Rows R U) : Type 0 where
  pub moves : (more : List ℕ) → read g.reason_of left (bytes_at at (piece ++ more))
      ≡ read g.reason_of others (bytes_at (at + length piece) more)

-- ---- of bytes alone

-- A call got bytes: it asked only while fewer than n were there, for at most 4096 at a time. It dropped some, and the
-- others are held.
pub record Got (n : ℕ) (held0 held1 : List ℕ) (rest0 rest1 : Option (List ℕ)) (gone : List ℕ) : Type 0 where
  pub read : List ℕ
  pub took : Consumes rest0 rest1 read
  pub parts : held0 ++ read ≡ gone ++ held1
  pub asked : 0 < length read → 0 < n
  pub few : 0 < length read → length held0 + length read < n + READ_SIZE

-- ---- how a unit comes out, by the bytes held at entry and those that were read since

-- the unit waits for more than them; they end at a place
pub record Lost {Z R U : Type 0} (g : Grammar Z R U) (z : Z) (held0 : List ℕ) (rest0 rest1 : Option (List ℕ))
    (top : ℕ) : Type 0 where
  pub read : List ℕ
  pub top_is : top ≡ g.place z + length (held0 ++ read)
  pub took : Consumes rest0 rest1 read
  pub waits : Waits g z (held0 ++ read)
  pub prompt : Prompt g z (held0 ++ read)

-- the unit waited before the last read
pub record Due {Z R U : Type 0} (g : Grammar Z R U) (z : Z) (held0 : List ℕ) (rest0 rest1 : Option (List ℕ))
    (top : ℕ) : Type 0 where
  pub read : List ℕ
  pub top_is : top ≡ g.place z + length (held0 ++ read)
  pub took : Consumes rest0 rest1 read
  pub prompt : Prompt g z (held0 ++ read)

-- the unit is refused in them: what is seen to follow them, where it is told, changes nothing
pub record Faults {Z R U : Type 0} (g : Grammar Z R U) (z : Z) (held0 : List ℕ) (rest0 rest1 seen : Option (List ℕ))
    (top : ℕ) (fault : Fault R) : Type 0 where
  pub read : List ℕ
  pub top_is : top ≡ g.place z + length (held0 ++ read)
  pub took : Consumes rest0 rest1 read
  pub here : unit_at g z (held0 ++ read) ≡ Err fault
  pub ends : (more : List ℕ) → seen ≡ Some more → unit_at g z ((held0 ++ read) ++ more) ≡ Err fault
  pub prompt : Prompt g z (held0 ++ read)
