-- A unit that is read from an input that counts up to a limit.
use Rattle.std.proofs.Common.{◌≡◌, ℕ, zero, suc, ◌+◌, ◌-◌, ◌≤◌, ◌<◌, List, [], ◌∷◌, ◌++◌, length, take, drop, Ok, Err, Option, Some, None, Bool, true, false, not, ◌&&◌, cond, ltb, refl, sym, ap, subst, ◌∙◌, arith, append_assoc, append-nil}
use Rattle.std.proofs.lemmas.Bool.{lt-ltb, le-ltb}
use Rattle.std.proofs.lemmas.List.{take_all, take_at, length-append, length-take, nil_from_length, take-append-drop, take-append-le}
use Rattle.std.proofs.Math.Seq.{take-append-add}
use Rattle.std.specs.Io.KnownBytes.{Consumes, IsAtEnd}
use Rattle.vc2_io.proofs.Known.{Consumes-then}
use Rattle.run_theory.specs.Ran.{within}
use Rattle.bit_codes.specs.Bits.{bits_of}
use Rattle.bit_codes.proofs.BitLemmas.{length-bits}
use Rattle.field_rows.specs.Rows.{Fault, done, is_nil}
use Rattle.field_rows.proofs.Reading.{read-done}
use Rattle.run_theory.specs.Grammar.{Grammar, Behind, Inner, Final, bytes_at, unit_at, is_settled_by, Waits}
use Rattle.run_theory.specs.Fronts.{Front, Stands, Finishes, Refuses, size_to, front_behind, front_by, front_within}
use Rattle.run_theory.specs.Begun.{Partway, Prompt, Begun, Lost, Faults}
use Rattle.run_theory.specs.Turn.{TakesUnit, MeetsFront}
use Rattle.run_theory.proofs.GrammarLaws.{IsGrammar, waits_front}
use Rattle.run_theory.proofs.FrontLaws.{stands_behind, stands_by, nil_by, within_laws}
use Rattle.run_theory.proofs.Begins.{nothing_more}

-- no byte is left
abbrev pub nothing : List ℕ → Bool
nothing [] = true
nothing (byte ∷ bytes) = false

-- ---- the rows of a unit are read

empty_by : (room : ℕ) (gone more : List ℕ) → length gone ≤ room → (is_nil (bits_of (take (room - length gone) more)) && not (ltb room (length (gone ++ more)))) ≡ nothing more
empty_by room gone [] le = rw (le-ltb room (length (gone ++ [])) (omega (arith, le, length-append gone []))) (none (room - length gone))
  where
    none : (n : ℕ) → (is_nil (bits_of (take n [])) && true) ≡ true
    none zero = refl
    none (suc n) = refl
empty_by room gone (x ∷ more) le = by (room - length gone) refl
  where
    by : (n : ℕ) → room - length gone ≡ n → (is_nil (bits_of (take (room - length gone) (x ∷ more))) && not (ltb room (length (gone ++ x ∷ more)))) ≡ false
    by zero e = rw (lt-ltb room (length (gone ++ x ∷ more)) (omega (arith, e, le, length-append gone (x ∷ more)))) (second (is_nil (bits_of (take (room - length gone) (x ∷ more)))))
      where
        second : (b : Bool) → (b && false) ≡ false
        second true = refl
        second false = refl
    by (suc n) e = ap (λ b. b && not (ltb room (length (gone ++ x ∷ more)))) (nil_by (bits_of (take (room - length gone) (x ∷ more))) (omega (arith, e, length-bits (take (room - length gone) (x ∷ more)), length-take (room - length gone) (x ∷ more))))

-- what stands in front then
pub within_done : {Z R U : Type 0} (limit : ℕ) (past : Fault R → Fault R) (g : Grammar Z R U) (z : Z) (gone : List ℕ) (at : ℕ) (unit : U) → Partway g z gone at (done unit) → at ≤ limit → (more : List ℕ)
    → front_within limit past g z (gone ++ more) ≡ front_behind (g.behind unit) (nothing more) (length gone) unit
within_done limit past g z gone at unit way near more =
    let room = limit - g.place z in
    let le : length gone ≤ room = omega (arith, near, way.at_is) in
    let t = take (room - length gone) more in
    let cut : take room (gone ++ more) ≡ gone ++ t = ap (λ k. take k (gone ++ more)) (omega (arith, le)) ∙ take-append-add gone more (room - length gone) in
    let here : unit_at g z (gone ++ t) ≡ Ok (unit, bytes_at at t) = way.same t ∙ read-done g.reason_of unit (bytes_at at t) in
    let size : size_to (gone ++ t) (bytes_at at t) ≡ length gone = omega (arith, length-append gone t, length-bits t) in
    ap (λ l. front_by g past (ltb room (length (gone ++ more))) l (unit_at g z l)) cut
    ∙ ap (front_by g past (ltb room (length (gone ++ more))) (gone ++ t)) here
    ∙ ap (λ e. front_behind (g.behind unit) e (size_to (gone ++ t) (bytes_at at t)) unit) (empty_by room gone more le)
    ∙ ap (λ n. front_behind (g.behind unit) (nothing more) n unit) size

still_stands : (b : Behind) (still more : List ℕ) → (0 < length still → 0 < length more) → stands_behind b (nothing still) ≡ true → stands_behind b (nothing more) ≡ true
still_stands Inner still more f h = refl
still_stands Final [] more f h = absurd cc
still_stands Final (x ∷ still) [] f h = absurd (omega (arith, f (omega arith)))
still_stands Final (x ∷ still) (y ∷ more) f h = refl

-- the unit is taken
pub taken_within : {Z R U : Type 0} {g : Grammar Z R U} {z : Z} {held0 held1 : List ℕ} {rest0 rest1 : Option (List ℕ)} {at : ℕ} (limit : ℕ) (past : Fault R → Fault R) (laws : IsGrammar g) (unit : U) (b : Begun g z held0 rest0 rest1 at held1 (done unit)) → at ≤ limit → at + length held1 ≤ limit + 1
    → stands_behind (g.behind unit) (nothing held1) ≡ true → TakesUnit limit past g z held0 rest0 rest1 unit b.gone held1
taken_within {g = g} {z = z} {held0 = held0} {held1 = held1} {at = at} limit past laws unit b near most stands =
    let all : (more : List ℕ) → (0 < length held1 → 0 < length more) → front_within limit past g z (b.gone ++ more) ≡ Stands (length b.gone) unit
    = λ more fits. within_done limit past g z b.gone at unit b.partway near more ∙ stands_by (g.behind unit) (nothing more) (length b.gone) unit (still_stands (g.behind unit) held1 more fits stands) in
    record {
      read = b.read;
      took = b.took;
      parts = b.parts;
      some = (within_laws limit past g laws).some z (b.gone ++ held1) (length b.gone) unit (all held1 (λ h. h));
      inside = omega (arith, near, b.partway.at_is);
      most = omega (arith, most, b.partway.at_is, ap (λ (l : List ℕ). length l) b.parts, length-append b.gone held1);
      stands = all;
      prompt = subst (Prompt g z) (sym b.parts) b.prompt;
    }

-- the stream ends with it
pub finishes_within : {Z R U : Type 0} {g : Grammar Z R U} {z : Z} {held0 : List ℕ} {rest0 rest1 : Option (List ℕ)} {at : ℕ} (limit : ℕ) (past : Fault R → Fault R) (unit : U) (b : Begun g z held0 rest0 rest1 at [] (done unit)) → at ≤ limit → (g.rests z ≡ true → g.place z < at)
    → g.behind unit ≡ Final → IsAtEnd rest1 → (m : MeetsFront limit past g z held0 rest0 rest1 (Finishes (length b.gone) unit)) × ((more : List ℕ) → rest1 ≡ Some more → held0 ++ m.read ++ more ≡ b.gone)
finishes_within {g = g} {z = z} {held0 = held0} {rest1 = rest1} {at = at} limit past unit b near some may at_end =
    let total = ap (λ (l : List ℕ). length l) b.parts in
    let all : (more : List ℕ) → rest1 ≡ Some more → held0 ++ b.read ++ more ≡ b.gone ++ [] = λ more told. ap (λ l. (held0 ++ b.read) ++ l) (nothing_more rest1 more at_end told) ∙ append-nil (held0 ++ b.read) ∙ b.parts in (
      record {
        read = b.read;
        took = b.took;
        begun = λ h. omega (arith, some h, b.partway.at_is, total, length-append b.gone []);
        most = omega (arith, near, b.partway.at_is, total, length-append b.gone []);
        prompt = subst (Prompt g z) (sym b.parts) b.prompt;
        ends = λ more told.
            ap (front_within limit past g z) (all more told)
            ∙ within_done limit past g z b.gone at unit b.partway near []
            ∙ ap (λ k. front_behind k true (length b.gone) unit) may;
      },
      λ more told. all more told ∙ append-nil b.gone,
    )

-- ---- the unit is refused

refuses_by : {R U : Type 0} (past : Fault R → Fault R) (fault : Fault R) (cut : Bool) → past fault ≡ fault → (let f : Front R U = Refuses (cond cut (past fault) fault) in f) ≡ Refuses fault
refuses_by past fault true e = ap Refuses e
refuses_by past fault false e = refl

-- what a byte past the limit doesn't change
pub faults_stays : {Z R U : Type 0} {g : Grammar Z R U} {z : Z} {held0 : List ℕ} {rest0 rest1 : Option (List ℕ)} {top : ℕ} {fault : Fault R} (limit : ℕ) (past : Fault R → Fault R) (room : ℕ) → Faults g z held0 rest0 rest1 (within room rest1) top fault
    → top + room ≡ limit → (g.rests z ≡ true → g.place z < top) → past fault ≡ fault → MeetsFront limit past g z held0 rest0 rest1 (Refuses fault)
faults_stays {g = g} {z = z} {held0 = held0} {rest1 = rest1} {fault = fault} limit past room f total some same = record {
  read = f.read;
  took = f.took;
  begun = λ h. omega (arith, some h, f.top_is);
  most = omega (arith, total, f.top_is);
  prompt = f.prompt;
  ends = λ more told.
      let v = held0 ++ f.read in
      let n = limit - g.place z in
      let cut : take n (v ++ more) ≡ v ++ take room more
      = ap (λ k. take k (v ++ more)) (omega (arith, total, f.top_is)) ∙ take-append-add v more (n - length v) ∙ ap (λ k. v ++ take k more) (omega (arith, total, f.top_is)) in
      ap (λ l. front_by g past (ltb n (length (v ++ more))) l (unit_at g z l)) cut
      ∙ ap (front_by g past (ltb n (length (v ++ more))) (v ++ take room more)) (f.ends (take room more) (ap (within room) told))
      ∙ refuses_by past fault (ltb n (length (v ++ more))) same;
}

-- a short field waits
pub waits_short : {Z R U : Type 0} (g : Grammar Z R U) (z : Z) (bytes : List ℕ) (fault : Fault R) → unit_at g z bytes ≡ Err fault → g.is_short fault.reason ≡ true → Waits g z bytes
waits_short g z bytes fault e short = record { waits = ap (is_settled_by g) e ∙ ap not short }

-- a read for one byte more failed
pub faults_lost : {Z R U : Type 0} {g : Grammar Z R U} {z : Z} {held0 : List ℕ} {rest0 rest1 seen : Option (List ℕ)} {top : ℕ} {fault : Fault R} (rest2 : Option (List ℕ)) (lost : List ℕ) → Faults g z held0 rest0 rest1 seen top fault
    → g.is_short fault.reason ≡ true → Consumes rest1 rest2 lost → length lost < 1 → Lost g z held0 rest0 rest2 top
faults_lost {g = g} {z = z} {held0 = held0} {rest0 = rest0} {rest1 = rest1} {fault = fault} rest2 lost f short took few =
    let empty : f.read ++ lost ≡ f.read = ap (λ l. f.read ++ l) (nil_from_length lost (omega (arith, few))) ∙ append-nil f.read in
    record {
      read = f.read ++ lost;
      top_is = f.top_is ∙ ap (λ l. g.place z + length (held0 ++ l)) (sym empty);
      took = Consumes-then rest0 rest1 rest2 f.read lost f.took took;
      waits = subst (λ l. Waits g z (held0 ++ l)) (sym empty) (waits_short g z (held0 ++ f.read) fault f.here short);
      prompt = subst (λ l. Prompt g z (held0 ++ l)) (sym empty) f.prompt;
    }

-- a byte lies past the limit
pub faults_past : {Z R U : Type 0} {g : Grammar Z R U} {z : Z} {held0 : List ℕ} {rest0 rest1 seen : Option (List ℕ)} {top : ℕ} {fault : Fault R} (limit : ℕ) (past : Fault R → Fault R) (laws : IsGrammar g) (rest2 : Option (List ℕ)) (byte : List ℕ) → Faults g z held0 rest0 rest1 seen top fault → top ≡ limit
    → g.is_short fault.reason ≡ true → Consumes rest1 rest2 byte → length byte ≡ 1 → MeetsFront limit past g z held0 rest0 rest2 (Refuses (past fault))
faults_past {g = g} {z = z} {held0 = held0} {rest0 = rest0} {rest1 = rest1} {fault = fault} limit past laws rest2 byte f at short took one =
    let v = held0 ++ f.read in
    let none = waits_short g z v fault f.here short in
    let group : held0 ++ (f.read ++ byte) ≡ v ++ byte = sym (append_assoc held0 f.read byte) in
    record {
      read = f.read ++ byte;
      took = Consumes-then rest0 rest1 rest2 f.read byte f.took took;
      begun = λ h. omega (arith, one, ap (λ (l : List ℕ). length l) group, length-append v byte);
      most = omega (arith, f.top_is, at, one, ap (λ (l : List ℕ). length l) group, length-append v byte);
      prompt = subst (Prompt g z) (sym group) (record {
        prompt = λ long.
            let k = length (v ++ byte) - 4096 in
            let le : k ≤ length v = omega (arith, length-append v byte, one) in
            subst (Waits g z) (sym (take-append-le k v byte le)) (waits_front g laws z (take k v) (drop k v) (subst (Waits g z) (sym (take-append-drop k v)) none));
      });
      ends = λ more told.
          let all : (held0 ++ (f.read ++ byte)) ++ more ≡ v ++ (byte ++ more) = ap (λ l. l ++ more) group ∙ append_assoc v byte more in
          let n = limit - g.place z in
          let cut : take n (v ++ (byte ++ more)) ≡ v = take_at v (byte ++ more) n (omega (arith, f.top_is, at)) in
          ap (front_within limit past g z) all
          ∙ ap (λ l. front_by g past (ltb n (length (v ++ (byte ++ more)))) l (unit_at g z l)) cut
          ∙ ap (front_by g past (ltb n (length (v ++ (byte ++ more)))) v) f.here
          ∙ ap (λ b. Refuses (cond b (past fault) fault)) (lt-ltb n (length (v ++ (byte ++ more))) (omega (arith, f.top_is, at, one, length-append v (byte ++ more), length-append byte more)));
    }

-- nothing more came
pub faults_none : {Z R U : Type 0} {g : Grammar Z R U} {z : Z} {held0 : List ℕ} {rest0 rest1 seen : Option (List ℕ)} {top : ℕ} {fault : Fault R} (limit : ℕ) (past : Fault R → Fault R) (rest2 : Option (List ℕ)) (lost : List ℕ) → Faults g z held0 rest0 rest1 seen top fault
    → top ≤ limit → (g.rests z ≡ true → g.place z < top) → Consumes rest1 rest2 lost → length lost < 1 → IsAtEnd rest2 → MeetsFront limit past g z held0 rest0 rest2 (Refuses fault)
faults_none {g = g} {z = z} {held0 = held0} {rest0 = rest0} {rest1 = rest1} {fault = fault} limit past rest2 lost f near some took few at_end =
    let v = held0 ++ f.read in
    let same : held0 ++ (f.read ++ lost) ≡ v = ap (λ l. held0 ++ l) (ap (λ l. f.read ++ l) (nil_from_length lost (omega (arith, few))) ∙ append-nil f.read) in
    record {
      read = f.read ++ lost;
      took = Consumes-then rest0 rest1 rest2 f.read lost f.took took;
      begun = λ h. omega (arith, some h, f.top_is, ap (λ (l : List ℕ). length l) same);
      most = omega (arith, near, f.top_is, ap (λ (l : List ℕ). length l) same);
      prompt = subst (Prompt g z) (sym same) f.prompt;
      ends = λ more told.
          let n = limit - g.place z in
          let le : length v ≤ n = omega (arith, near, f.top_is) in
          ap (front_within limit past g z) (ap (λ l. (held0 ++ (f.read ++ lost)) ++ l) (nothing_more rest2 more at_end told) ∙ append-nil (held0 ++ (f.read ++ lost)) ∙ same)
          ∙ ap (λ l. front_by g past (ltb n (length v)) l (unit_at g z l)) (take_all n v le)
          ∙ ap (front_by g past (ltb n (length v)) v) f.here
          ∙ ap (λ b. Refuses (cond b (past fault) fault)) (le-ltb n (length v) le);
    }

-- within a room that is left nothing follows, so nothing follows
pub end_of_room : (room : ℕ) (rest : Option (List ℕ)) → 0 < room → IsAtEnd (within room rest) → IsAtEnd rest
end_of_room room None some e = tt
end_of_room room (Some xs) some e = nil_from_length xs (omega (arith, some, ap (λ (l : List ℕ). length l) e, length-take room xs))
