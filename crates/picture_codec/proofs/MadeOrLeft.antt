-- What is made where an answer is true, and left where it is false.
use Rattle.std.proofs.Common.{◌≡◌, refl, sym, subst}
use Rattle.std.specs.Prelude.{Bool, true, false}

-- it holds what both held
pub made_or_left : {X : Type 0} (P : X → Type 0) (new made old : X) (r : Bool) → (r ≡ true → new ≡ made) → (r ≡ false → new ≡ old) → P made → P old → P new
made_or_left P new made old true is stays m o = subst P (sym (is refl)) m
made_or_left P new made old false is stays m o = subst P (sym (stays refl)) o
