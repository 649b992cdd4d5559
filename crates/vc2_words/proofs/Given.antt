-- What is given was read from texts.
use Rattle.std.proofs.Common.{◌≡◌, ℕ, List, Some, length}
use Rattle.vc2_words.specs.declared.keys.TheConstants.{KEY_COUNT}
use Rattle.vc2_words.specs.declared.keys.Key.{Key}
use Rattle.vc2_words.specs.Forms.{value_in}
use Rattle.vc2_words.specs.Operands.{Table, value_of}

-- these numbers are the value of a text
pub record IsValue (key : Key) (ns : List ℕ) : Type 0 where
  pub text : List ℕ
  pub reads : value_in key text ≡ Some ns

-- each key that is given has the value of some text
pub record IsTableRead (given : Table) : Type 0 where
  pub read : (key : Key) (ns : List ℕ) → value_of given key ≡ Some ns → IsValue key ns
  pub many : length given ≡ KEY_COUNT
