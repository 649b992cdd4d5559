-- A reader in the middle of a unit: how it begins, goes on and ends.
use Rattle.std.proofs.Common.{◌≡◌, ◌≢◌, ℕ, ◌+◌, ◌-◌, ◌<◌, ◌≤◌, Bool, true, false, not, List, [], ◌∷◌, ◌++◌, length, take, drop, Option, Some, None, Err, inl, inr, refl, sym, ap, subst, ◌∙◌, arith, append_assoc, append-nil}
use Rattle.std.proofs.lemmas.Bool.{cases_lt}
use Rattle.std.proofs.lemmas.List.{length-append, length-take, take-append-le, take-append-drop}
use Rattle.std.proofs.Math.Seq.{take-append-add}
use Rattle.std.specs.Io.KnownBytes.{IsAtEnd}
use Rattle.vc2_io.proofs.Known.{Consumes-then, Consumes-none}
use Rattle.bit_codes.specs.declared.CodeFault.TheVariants as codes
use Rattle.bit_codes.specs.Bits.{bits_of}
use Rattle.bit_codes.proofs.BitLemmas.{length-bits}
use Rattle.field_rows.specs.Rows.{Rows, done, Fault, read, is_nil}
use Rattle.field_rows.proofs.Reading.{read-done}
use Rattle.run_theory.specs.Grammar.{Grammar, Behind, Inner, Final, ends_by, bytes_at, unit_at, is_settled_by, Waits}
use Rattle.run_theory.specs.Begun.{Partway, Prompt, Begun, Needs, Lacks, Moves, Got, Lost, Due, Faults}
use Rattle.run_theory.proofs.GrammarLaws.{IsGrammar, unit-refused, waits_front}
use Rattle.run_theory.proofs.FrontLaws.{nil_by}

pub prompt_few : {Z R U : Type 0} (g : Grammar Z R U) (z : Z) (bytes : List ℕ) → length bytes ≤ 4096 → Prompt g z bytes
prompt_few g z bytes few = record { prompt = λ long. absurd (omega arith) }

pub begun_start : {Z R U : Type 0} (g : Grammar Z R U) (z : Z) (held : List ℕ) (rest : Option (List ℕ)) → length held ≤ 4096 → Begun g z held rest rest (g.place z) held (g.rows z)
begun_start g z held rest few = record {
  gone = [];
  read = [];
  took = Consumes-none rest;
  parts = append-nil held;
  partway = record { at_is = omega arith; same = λ more. refl };
  prompt = prompt_few g z held few;
}

-- short of what the rows need, the unit waits
pub waits_partway : {Z R U : Type 0} (g : Grammar Z R U) (z : Z) (gone : List ℕ) (at : ℕ) (left : Rows R U) (n : ℕ) (bytes : List ℕ) → Partway g z gone at left → Needs g left n → length bytes < n → Waits g z (gone ++ bytes)
waits_partway g z gone at left n bytes way needs short = record { waits = ap (is_settled_by g) (way.same bytes) ∙ needs.needs at bytes short }

prompt_more : {Z R U : Type 0} (g : Grammar Z R U) → IsGrammar g → (z : Z) (gone : List ℕ) (at : ℕ) (left : Rows R U) (n : ℕ) (held new : List ℕ) → Partway g z gone at left → Needs g left n
    → 0 < n → length held + length new < n + 4096 → Prompt g z (gone ++ (held ++ new))
prompt_more g laws z gone at left n held new way needs some few = record {
  prompt = λ long.
      let v = gone ++ (held ++ new) in
      let k = length v - 4096 in
      let total : length v ≡ length gone + (length held + length new) = omega (arith, length-append gone (held ++ new), length-append held new) in
      elim (cases_lt (length gone) k) [
        | inl lt ↦ let j = k - length gone in
            let cut : take k v ≡ gone ++ take j (held ++ new) = ap (λ n. take n v) (omega arith) ∙ take-append-add gone (held ++ new) j in
            subst (Waits g z) (sym cut) (waits_partway g z gone at left n (take j (held ++ new)) way needs (omega (arith, length-take j (held ++ new))))
        | inr le ↦ let cut : take k v ≡ take k gone = take-append-le k gone (held ++ new) le in
            let all = subst (Waits g z) (append-nil gone) (waits_partway g z gone at left n [] way needs some) in
            subst (Waits g z) (sym cut) (waits_front g laws z (take k gone) (drop k gone) (subst (Waits g z) (sym (take-append-drop k gone)) all))
      ];
}

prompt_got : {Z R U : Type 0} (g : Grammar Z R U) → IsGrammar g → (z : Z) (gone : List ℕ) (at : ℕ) (left : Rows R U) (n : ℕ) (held new : List ℕ) → Partway g z gone at left → Needs g left n
    → Prompt g z (gone ++ held) → (0 < length new → 0 < n) → (0 < length new → length held + length new < n + 4096) → Prompt g z (gone ++ (held ++ new))
prompt_got g laws z gone at left n held [] way needs prompt asked few = subst (Prompt g z) (ap (λ l. gone ++ l) (sym (append-nil held))) prompt
prompt_got g laws z gone at left n held (b ∷ new) way needs prompt asked few = prompt_more g laws z gone at left n held (b ∷ new) way needs (asked (omega arith)) (few (omega arith))

-- bytes were got for the rows that are left, and some of them were used
pub begun_more : {Z R U : Type 0} {g : Grammar Z R U} {z : Z} {held0 held1 : List ℕ} {rest0 rest1 : Option (List ℕ)} {at : ℕ} {left : Rows R U} (laws : IsGrammar g) (n : ℕ) (rest2 : Option (List ℕ)) (held2 piece : List ℕ) (others : Rows R U)
    → Begun g z held0 rest0 rest1 at held1 left → Needs g left n → Got n held1 held2 rest1 rest2 piece → Moves g left at piece others → Begun g z held0 rest0 rest2 (at + length piece) held2 others
begun_more {g = g} {z = z} {held0 = held0} {held1 = held1} {rest0 = rest0} {rest1 = rest1} {at = at} {left = left} laws n rest2 held2 piece others b needs got moves =
    let regroup : b.gone ++ (held1 ++ got.read) ≡ (b.gone ++ piece) ++ held2 = ap (λ l. b.gone ++ l) got.parts ∙ sym (append_assoc b.gone piece held2) in
    record {
      gone = b.gone ++ piece;
      read = b.read ++ got.read;
      took = Consumes-then rest0 rest1 rest2 b.read got.read b.took got.took;
      parts = sym (append_assoc held0 b.read got.read) ∙ ap (λ l. l ++ got.read) b.parts ∙ append_assoc b.gone held1 got.read ∙ regroup;
      partway = record {
        at_is = omega (arith, b.partway.at_is, length-append b.gone piece);
        same = λ more. ap (unit_at g z) (append_assoc b.gone piece more) ∙ b.partway.same (piece ++ more) ∙ moves.moves more;
      };
      prompt = subst (Prompt g z) regroup (prompt_got g laws z b.gone at left n held1 got.read b.partway needs b.prompt got.asked got.few);
    }

-- bytes were got and are held
pub begun_held : {Z R U : Type 0} {g : Grammar Z R U} {z : Z} {held0 held1 : List ℕ} {rest0 rest1 : Option (List ℕ)} {at : ℕ} {left : Rows R U} (laws : IsGrammar g) (n : ℕ) (rest2 : Option (List ℕ)) (held2 : List ℕ)
    → Begun g z held0 rest0 rest1 at held1 left → Needs g left n → Got n held1 held2 rest1 rest2 [] → Begun g z held0 rest0 rest2 at held2 left
begun_held {g = g} {z = z} {held0 = held0} {held1 = held1} {rest0 = rest0} {rest1 = rest1} {at = at} {left = left} laws n rest2 held2 b needs got = record {
  gone = b.gone;
  read = b.read ++ got.read;
  took = Consumes-then rest0 rest1 rest2 b.read got.read b.took got.took;
  parts = sym (append_assoc held0 b.read got.read) ∙ ap (λ l. l ++ got.read) b.parts ∙ append_assoc b.gone held1 got.read ∙ ap (λ l. b.gone ++ l) got.parts;
  partway = b.partway;
  prompt = subst (λ l. Prompt g z (b.gone ++ l)) got.parts (prompt_got g laws z b.gone at left n held1 got.read b.partway needs b.prompt got.asked got.few);
}

-- and what is gone then
pub begun_held-gone : {Z R U : Type 0} {g : Grammar Z R U} {z : Z} {held0 held1 : List ℕ} {rest0 rest1 : Option (List ℕ)} {at : ℕ} {left : Rows R U} (laws : IsGrammar g) (n : ℕ) (rest2 : Option (List ℕ)) (held2 : List ℕ)
    (b : Begun g z held0 rest0 rest1 at held1 left) (needs : Needs g left n) (got : Got n held1 held2 rest1 rest2 []) → (begun_held laws n rest2 held2 b needs got).gone ≡ b.gone
unfolding begun_held
begun_held-gone laws n rest2 held2 b needs got = refl

-- ---- what the caller of a reader learns; all by the bytes held at entry and those that were read

pub begun_lost : {Z R U : Type 0} {g : Grammar Z R U} {z : Z} {held0 held1 : List ℕ} {rest0 rest1 : Option (List ℕ)} {at : ℕ} {left : Rows R U} (laws : IsGrammar g) (n : ℕ) → Begun g z held0 rest0 rest1 at held1 left → Needs g left n → length held1 < n → Lost g z held0 rest0 rest1 (at + length held1)
begun_lost {g = g} {z = z} {held1 = held1} {at = at} {left = left} laws n b needs short = record {
  read = b.read;
  top_is = omega (arith, b.partway.at_is, ap (λ (l : List ℕ). length l) b.parts, length-append b.gone held1);
  took = b.took;
  waits = subst (Waits g z) (sym b.parts) (waits_partway g z b.gone at left n held1 b.partway needs short);
  prompt = subst (Prompt g z) (sym b.parts) b.prompt;
}

-- Few bytes are held where the rows of a unit are read: it would have been settled before the last read.
pub begun_few : {Z R U : Type 0} {g : Grammar Z R U} {z : Z} {held0 held1 : List ℕ} {rest0 rest1 : Option (List ℕ)} {at : ℕ} (laws : IsGrammar g) (unit : U) → Begun g z held0 rest0 rest1 at held1 (done unit) → length held1 ≤ 4096
begun_few {R = R} {g = g} {z = z} {held1 = held1} {at = at} laws unit b = elim (cases_lt 4096 (length held1)) [
  | inr le ↦ le
  | inl lt ↦ absurd (
      let v = b.gone ++ held1 in
      let k = length v - 4096 in
      let total : length v ≡ length b.gone + length held1 = length-append b.gone held1 in
      let j = k - length b.gone in
      let cut : take k v ≡ b.gone ++ take j held1 = ap (λ n. take n v) (omega arith) ∙ take-append-add b.gone held1 j in
      let none = subst (Waits g z) cut (b.prompt.prompt (omega arith)) in
      let far : is_settled_by g (unit_at g z (b.gone ++ take j held1)) ≡ true = ap (is_settled_by g) (b.partway.same (take j held1) ∙ read-done g.reason_of unit (bytes_at at (take j held1)))
      ∙ settled (g.behind unit) (bits_of (take j held1)) (omega (arith, length-bits (take j held1), length-take j held1)) in
      let clash : true ≡ false = sym far ∙ none.waits in
      cc)
]
  where
    settled : (b : Behind) (rest : List Bool) → 0 < length rest → not (ends_by b (is_nil rest)) ≡ true
    settled Inner rest some = refl
    settled Final rest some = ap not (nil_by rest some)

-- for a reason that is not shortness
pub begun_refused : {Z R U : Type 0} {g : Grammar Z R U} {z : Z} {held0 held1 : List ℕ} {rest0 rest1 : Option (List ℕ)} {at : ℕ} {left : Rows R U} (laws : IsGrammar g) (seen : Option (List ℕ)) (fault : Fault R) → Begun g z held0 rest0 rest1 at held1 left
    → read g.reason_of left (bytes_at at held1) ≡ Err fault → fault.reason ≢ g.reason_of codes.Short → Faults g z held0 rest0 rest1 seen (at + length held1) fault
begun_refused {g = g} {z = z} {held0 = held0} {held1 = held1} {at = at} laws seen fault b e other = record {
  read = b.read;
  took = b.took;
  top_is = omega (arith, b.partway.at_is, ap (λ (l : List ℕ). length l) b.parts, length-append b.gone held1);
  prompt = subst (Prompt g z) (sym b.parts) b.prompt;
  here = ap (unit_at g z) b.parts ∙ b.partway.same held1 ∙ e;
  ends = λ more told. unit-refused g laws z (held0 ++ b.read) more fault other (ap (unit_at g z) b.parts ∙ b.partway.same held1 ∙ e);
}

pub nothing_more : (rest : Option (List ℕ)) (more : List ℕ) → IsAtEnd rest → rest ≡ Some more → more ≡ []
nothing_more None more h e = absurd cc
nothing_more (Some xs) more h e = cc

-- for any reason, where nothing follows
pub begun_short : {Z R U : Type 0} {g : Grammar Z R U} {z : Z} {held0 held1 : List ℕ} {rest0 rest1 : Option (List ℕ)} {at : ℕ} {left : Rows R U} (laws : IsGrammar g) (seen : Option (List ℕ)) (fault : Fault R) → Begun g z held0 rest0 rest1 at held1 left
    → read g.reason_of left (bytes_at at held1) ≡ Err fault → IsAtEnd seen → Faults g z held0 rest0 rest1 seen (at + length held1) fault
begun_short {g = g} {z = z} {held0 = held0} {held1 = held1} {rest1 = rest1} laws seen fault b e at_end = record {
  read = b.read;
  took = b.took;
  top_is = omega (arith, b.partway.at_is, ap (λ (l : List ℕ). length l) b.parts, length-append b.gone held1);
  prompt = subst (Prompt g z) (sym b.parts) b.prompt;
  here = ap (unit_at g z) b.parts ∙ b.partway.same held1 ∙ e;
  ends = λ more told.
      let none : (held0 ++ b.read) ++ more ≡ b.gone ++ held1 = ap (λ l. (held0 ++ b.read) ++ l) (nothing_more seen more at_end told) ∙ append-nil (held0 ++ b.read) ∙ b.parts in
      ap (unit_at g z) none ∙ b.partway.same held1 ∙ e;
}

-- ---- bytes that were dropped, seen as held

pub got_back : {n : ℕ} {held0 held1 gone : List ℕ} {rest0 rest1 : Option (List ℕ)} → Got n held0 held1 rest0 rest1 gone → Got n held0 (gone ++ held1) rest0 rest1 []
got_back got = record { read = got.read; took = got.took; parts = got.parts; asked = got.asked; few = got.few }

-- bytes that are held are used
pub begun_use : {Z R U : Type 0} {g : Grammar Z R U} {z : Z} {held0 held1 : List ℕ} {rest0 rest1 : Option (List ℕ)} {at : ℕ} {left : Rows R U} (laws : IsGrammar g) (piece held2 : List ℕ) (others : Rows R U)
    → Begun g z held0 rest0 rest1 at held1 left → held1 ≡ piece ++ held2 → Moves g left at piece others → Begun g z held0 rest0 rest1 (at + length piece) held2 others
begun_use {g = g} {held1 = held1} {rest1 = rest1} {left = left} laws piece held2 others b split moves =
    begun_more laws 0 rest1 held2 piece others b (record { needs = λ place bytes short. absurd (omega arith) })
    (record { read = []; took = Consumes-none rest1; parts = append-nil held1 ∙ split; asked = λ h. absurd (omega arith); few = λ h. absurd (omega arith) }) moves

-- and what is gone then
pub begun_use-gone : {Z R U : Type 0} {g : Grammar Z R U} {z : Z} {held0 held1 : List ℕ} {rest0 rest1 : Option (List ℕ)} {at : ℕ} {left : Rows R U} (laws : IsGrammar g) (piece held2 : List ℕ) (others : Rows R U) (b : Begun g z held0 rest0 rest1 at held1 left) (split : held1 ≡ piece ++ held2) (moves : Moves g left at piece others)
    → (begun_use laws piece held2 others b split moves).gone ≡ b.gone ++ piece
unfolding begun_use begun_more
begun_use-gone laws piece held2 others b split moves = refl

-- ---- where it isn't known how many bytes the rows need: one byte more than these, which lack

pub begun_lacking : {Z R U : Type 0} {g : Grammar Z R U} {z : Z} {held0 held1 : List ℕ} {rest0 rest1 : Option (List ℕ)} {at : ℕ} {left : Rows R U} (laws : IsGrammar g) (rest2 : Option (List ℕ)) (held2 : List ℕ)
    → Begun g z held0 rest0 rest1 at held1 left → Lacks g left at held1 → Got (length held1 + 1) held1 held2 rest1 rest2 [] → Begun g z held0 rest0 rest2 at held2 left
begun_lacking {g = g} {z = z} {held0 = held0} {held1 = held1} {rest0 = rest0} {rest1 = rest1} {at = at} {left = left} laws rest2 held2 b lacks got = record {
  gone = b.gone;
  read = b.read ++ got.read;
  took = Consumes-then rest0 rest1 rest2 b.read got.read b.took got.took;
  parts = sym (append_assoc held0 b.read got.read) ∙ ap (λ l. l ++ got.read) b.parts ∙ append_assoc b.gone held1 got.read ∙ ap (λ l. b.gone ++ l) got.parts;
  partway = b.partway;
  prompt = subst (λ l. Prompt g z (b.gone ++ l)) got.parts (grown got.read got.few);
}
  where
    grown : (new : List ℕ) → (0 < length new → length held1 + length new < length held1 + 1 + 4096) → Prompt g z (b.gone ++ (held1 ++ new))
    grown [] few = subst (λ l. Prompt g z (b.gone ++ l)) (sym (append-nil held1)) b.prompt
    grown (x ∷ new) few = record {
      prompt = λ long.
          let near = few (omega arith) in
          let v = b.gone ++ held1 in
          let all : b.gone ++ (held1 ++ x ∷ new) ≡ v ++ x ∷ new = sym (append_assoc b.gone held1 (x ∷ new)) in
          let k = length (b.gone ++ (held1 ++ x ∷ new)) - 4096 in
          let le : k ≤ length v = omega (arith, ap (λ (l : List ℕ). length l) all, length-append v (x ∷ new), near) in
          let cut : take k (b.gone ++ (held1 ++ x ∷ new)) ≡ take k v = ap (take k) all ∙ take-append-le k v (x ∷ new) le in
          let none : Waits g z v = record { waits = ap (is_settled_by g) (b.partway.same held1) ∙ lacks.lacks } in
          subst (Waits g z) (sym cut) (waits_front g laws z (take k v) (drop k v) (subst (Waits g z) (sym (take-append-drop k v)) none));
    }

-- the unit waits for more than bytes that lack
pub begun_none : {Z R U : Type 0} {g : Grammar Z R U} {z : Z} {held0 held1 : List ℕ} {rest0 rest1 : Option (List ℕ)} {at : ℕ} {left : Rows R U} → Begun g z held0 rest0 rest1 at held1 left → Lacks g left at held1 → Lost g z held0 rest0 rest1 (at + length held1)
begun_none {g = g} {z = z} {held1 = held1} b lacks = record {
  read = b.read;
  top_is = omega (arith, b.partway.at_is, ap (λ (l : List ℕ). length l) b.parts, length-append b.gone held1);
  took = b.took;
  waits = subst (Waits g z) (sym b.parts) (record { waits = ap (is_settled_by g) (b.partway.same held1) ∙ lacks.lacks });
  prompt = subst (Prompt g z) (sym b.parts) b.prompt;
}

-- a stop for want of memory, wherever the unit is
pub begun_due : {Z R U : Type 0} {g : Grammar Z R U} {z : Z} {held0 held1 : List ℕ} {rest0 rest1 : Option (List ℕ)} {at : ℕ} {left : Rows R U} → Begun g z held0 rest0 rest1 at held1 left → Due g z held0 rest0 rest1 (at + length held1)
begun_due {g = g} {z = z} {held1 = held1} b = record {
  read = b.read;
  top_is = omega (arith, b.partway.at_is, ap (λ (l : List ℕ). length l) b.parts, length-append b.gone held1);
  took = b.took;
  prompt = subst (Prompt g z) (sym b.parts) b.prompt;
}

pub lost_due : {Z R U : Type 0} {g : Grammar Z R U} {z : Z} {held0 : List ℕ} {rest0 rest1 : Option (List ℕ)} {top : ℕ} → Lost g z held0 rest0 rest1 top → Due g z held0 rest0 rest1 top
lost_due f = record { read = f.read; top_is = f.top_is; took = f.took; prompt = f.prompt }

-- where the unit's last row stands and the stream is over in it, what is left is as before
pub begun_same : {Z R U : Type 0} {g : Grammar Z R U} {z : Z} {held0 held1 : List ℕ} {rest0 rest1 : Option (List ℕ)} {at : ℕ} {left : Rows R U} (others : Rows R U) → Begun g z held0 rest0 rest1 at held1 left → left ≡ others → Begun g z held0 rest0 rest1 at held1 others
begun_same {g = g} {z = z} {held0 = held0} {held1 = held1} {rest0 = rest0} {rest1 = rest1} {at = at} others b e = subst (λ r. Begun g z held0 rest0 rest1 at held1 r) e b
