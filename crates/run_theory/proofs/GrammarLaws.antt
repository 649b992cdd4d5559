-- Laws of the units of a grammar.
use Rattle.std.proofs.Common.{◌≡◌, ◌≢◌, ℕ, ◌*◌, ◌<◌, Bool, true, false, not, List, [], ◌∷◌, ◌++◌, length, Result, Ok, Err, refl, sym, ap, ◌∙◌, arith}
use Rattle.bit_codes.specs.declared.CodeFault.TheVariants as codes
use Rattle.bit_codes.specs.Bits.{Cursor, bits_of}
use Rattle.bit_codes.proofs.BitLemmas.{length-bits}
use Rattle.field_rows.specs.Rows.{Fault, read, is_nil}
use Rattle.field_rows.specs.Pieces.{with_more, EndsWithAByte}
use Rattle.field_rows.proofs.Pieces.{read-more, read-more_refused}
use Rattle.field_rows.proofs.Answers.{found_fields}
use Rattle.field_rows.proofs.Shorter.{Stand-shorter}
pub use Rattle.run_theory.specs.GrammarLaws.{IsGrammar}
use Rattle.run_theory.specs.Grammar.{Grammar, Behind, Inner, Final, ends_by, bytes_at, unit_at, is_settled_by, Waits}
use Rattle.bit_codes.proofs.Numbers.{bits_of-append}

pub bytes_at-append : (place : ℕ) (a b : List ℕ) → bytes_at place (a ++ b) ≡ with_more (bytes_at place a) (bits_of b)
bytes_at-append place a b = ap (λ (t : List Bool). let c : Cursor = record { place = 8 * place; rest = t } in c) (bits_of-append a b)

bytes_at-whole : (place : ℕ) (bytes : List ℕ) → EndsWithAByte (bytes_at place bytes)
bytes_at-whole place bytes = record { whole = omega (arith, length-bits bytes) }

-- a unit is the same one whatever follows
pub unit-more : {Z R U : Type 0} (g : Grammar Z R U) → IsGrammar g → (z : Z) (bytes more : List ℕ) (unit : U) (behind : Cursor) → unit_at g z bytes ≡ Ok (unit, behind) → unit_at g z (bytes ++ more) ≡ Ok (unit, with_more behind (bits_of more))
unit-more g laws z bytes more unit behind e =
    ap (read g.reason_of (g.rows z)) (bytes_at-append (g.place z) bytes more)
    ∙ read-more g.reason_of (g.rows z) (bytes_at (g.place z) bytes) unit behind (bits_of more) (bytes_at-whole (g.place z) bytes) e

-- it takes bits
pub unit-shorter : {Z R U : Type 0} (g : Grammar Z R U) → IsGrammar g → (z : Z) (bytes : List ℕ) (unit : U) (behind : Cursor) → unit_at g z bytes ≡ Ok (unit, behind) → length behind.rest < 8 * length bytes
unit-shorter g laws z bytes unit behind e =
    let f = found_fields g.reason_of (g.rows z) (bytes_at (g.place z) bytes) unit behind e in
    omega (arith, Stand-shorter (g.rows z) f.0 (bytes_at (g.place z) bytes) unit behind (laws.some z) f.1, length-bits bytes)

-- what is refused for another reason than shortness is refused whatever follows
pub unit-refused : {Z R U : Type 0} (g : Grammar Z R U) → IsGrammar g → (z : Z) (bytes more : List ℕ) (fault : Fault R) → fault.reason ≢ g.reason_of codes.Short → unit_at g z bytes ≡ Err fault → unit_at g z (bytes ++ more) ≡ Err fault
unit-refused g laws z bytes more fault other e =
    ap (read g.reason_of (g.rows z)) (bytes_at-append (g.place z) bytes more)
    ∙ read-more_refused g.reason_of (g.rows z) (bytes_at (g.place z) bytes) fault (bits_of more) (bytes_at-whole (g.place z) bytes) other e

pub not_short : {Z R U : Type 0} (g : Grammar Z R U) → IsGrammar g → (reason : R) → g.is_short reason ≡ false → reason ≢ g.reason_of codes.Short
not_short g laws reason e same = let clash : true ≡ false = sym laws.short ∙ ap g.is_short (sym same) ∙ e in cc

refused_more : {Z R U : Type 0} (g : Grammar Z R U) → IsGrammar g → (z : Z) (bytes more : List ℕ) (fault : Fault R) (short : Bool) → g.is_short fault.reason ≡ short → unit_at g z bytes ≡ Err fault → is_settled_by g (unit_at g z (bytes ++ more)) ≡ false → not (g.is_short fault.reason) ≡ false
refused_more g laws z bytes more fault true e h k = ap not e
refused_more g laws z bytes more fault false e h k = ap (is_settled_by g) (sym (unit-refused g laws z bytes more fault (not_short g laws fault.reason e) h)) ∙ k

-- what settles the unit settles it whatever follows
settled_more : {Z R U : Type 0} (g : Grammar Z R U) → IsGrammar g → (z : Z) (bytes more : List ℕ) (r : Result (U × Cursor) (Fault R)) (whole : Bool) → unit_at g z bytes ≡ r → is_settled_by g r ≡ whole → is_settled_by g (unit_at g z (bytes ++ more)) ≡ false → is_settled_by g r ≡ false
settled_more g laws z bytes more (Err fault) whole e h k = refused_more g laws z bytes more fault (g.is_short fault.reason) refl e k
settled_more g laws z bytes more (Ok x) false e h k = h
settled_more {R = R} g laws z bytes more (Ok x) true e h k =
    let far : is_settled_by g (Ok (x.0, with_more x.1 (bits_of more))) ≡ false = ap (is_settled_by g) (sym (unit-more g laws z bytes more x.0 x.1 e)) ∙ k in
    grow (g.behind x.0) x.1.rest (bits_of more) h far
  where
    grow : (b : Behind) (rest tail : List Bool) → not (ends_by b (is_nil rest)) ≡ true → not (ends_by b (is_nil (rest ++ tail))) ≡ false → not (ends_by b (is_nil rest)) ≡ false
    grow Inner rest tail h k = k
    grow Final [] tail h k = refl
    grow Final (b ∷ rest) tail h k = k

pub waits_front : {Z R U : Type 0} (g : Grammar Z R U) → IsGrammar g → (z : Z) (bytes more : List ℕ) → Waits g z (bytes ++ more) → Waits g z bytes
waits_front g laws z bytes more f = record { waits = settled_more g laws z bytes more (unit_at g z bytes) _ refl refl f.waits }
