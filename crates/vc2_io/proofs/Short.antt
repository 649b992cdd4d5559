-- What went out of a piece that was not written whole: laws of `IsProperPrefix` and `GrewShort`.
use Rattle.std.proofs.Common.{◌≡◌, ℕ, List, ◌++◌, ◌<◌, length, Option, ap, sym, subst, ◌∙◌, arith, length-append, append_assoc}
use Rattle.std.specs.Io.KnownBytes.{Appends}
use Rattle.vc2_io.specs.Outside.{IsProperPrefix, GrewShort}
use Rattle.vc2_io.proofs.Known.{Appends-then}

-- a proper prefix, with more behind the whole
pub IsProperPrefix-more : (part whole more : List ℕ) → IsProperPrefix part whole → IsProperPrefix part (whole ++ more)
IsProperPrefix-more part whole more p =
    (p.0 ++ more, simp length-append (omega (arith, p.1)), ap (λ l. l ++ more) p.2 ∙ append_assoc part p.0 more)

-- the same, behind the same bytes
pub IsProperPrefix-behind : (first part whole : List ℕ) → IsProperPrefix part whole → IsProperPrefix (first ++ part) (first ++ whole)
IsProperPrefix-behind first part whole p = (p.0, p.1, ap (λ l. first ++ l) p.2 ∙ sym (append_assoc first part p.0))

-- a proper prefix is shorter
pub IsProperPrefix-shorter : (part whole : List ℕ) → IsProperPrefix part whole → length part < length whole
IsProperPrefix-shorter part whole p = omega (arith, p.1, ap (λ (l : List ℕ). length l) p.2, length-append part p.0)

-- the first of two pieces was not written whole
pub GrewShort-first : (a b : Option (List ℕ)) (first second : List ℕ) → GrewShort a b first → GrewShort a b (first ++ second)
GrewShort-first a b first second g = (g.0, IsProperPrefix-more g.0 first second g.1, g.2)

-- the first piece was written whole, and the second was not
pub GrewShort-second : (a b c : Option (List ℕ)) (first second : List ℕ) → Appends a b first → GrewShort b c second → GrewShort a c (first ++ second)
GrewShort-second a b c first second h g =
    (first ++ g.0, IsProperPrefix-behind first g.0 second g.1, Appends-then a b c first g.0 h g.2)

pub GrewShort-along : (a b : Option (List ℕ)) (x y : List ℕ) → x ≡ y → GrewShort a b x → GrewShort a b y
GrewShort-along a b x y e g = subst (λ z. GrewShort a b z) e g
