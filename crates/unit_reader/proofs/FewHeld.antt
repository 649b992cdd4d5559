-- Few bytes are held behind each call of a reader, where its table says so of a unit that stops.
use Rattle.std.proofs.Common.{◌≡◌, ◌≤◌, ℕ, List, length, Bool, true, false, Option, Some, None, Result, Ok, Err, refl, sym, subst, arith}
use Rattle.std.specs.Prelude.{IfSome}
use Rattle.vc2_io.specs.declared.TheConstants.{READ_SIZE}
use Rattle.run_theory.specs.Grammar.{Grammar}
use Rattle.unit_reader.specs.declared.reader.Turn.{Turn}
use Rattle.unit_reader.specs.declared.reader.Turn.TheVariants as turns
use Rattle.unit_reader.specs.declared.stop.ReadStop.{ReadStop}
use Rattle.unit_reader.specs.Reading.{ReaderSeen, NextOver}

-- what one read brings is few
pub few_held : (held : List ℕ) → length held ≤ READ_SIZE → length held ≤ 8192
few_held held few = omega (arith, few)

-- a unit that stops leaves few bytes
abbrev pub StopsWithFew : {T R : Type 0} → (T → T → List ℕ → Option (List ℕ) → List ℕ → ReadStop R → Type 0) → Type 0
StopsWithFew {T = T} {R = R} Stopped = (before now : T) (held0 : List ℕ) (rest0 : Option (List ℕ)) (held : List ℕ) (stop : ReadStop R) → Stopped before now held0 rest0 held stop → length held ≤ 8192

few_next : {T Z R U I : Type 0} (g : Grammar Z R U) (too_long : R) (past_of : T → Z) (Tells : T → T → U → List ℕ → I → Type 0) (Stopped : T → T → List ℕ → Option (List ℕ) → List ℕ → ReadStop R → Type 0) → StopsWithFew Stopped
    → (old new : ReaderSeen T R) (rest0 rest1 : Option (List ℕ)) (result : Result (Turn I) (ReadStop R)) → NextOver g too_long past_of Tells Stopped old new rest0 rest1 result → (new.stop ≡ None → length new.held ≤ READ_SIZE) → length new.held ≤ 8192
few_next g too_long past_of Tells Stopped says old new rest0 rest1 (Ok (turns.Unit item)) n few = few_held new.held (few n.going.0)
few_next g too_long past_of Tells Stopped says old new rest0 rest1 (Ok (turns.Last item)) n few = few_held new.held (few n.over.0)
few_next g too_long past_of Tells Stopped says old new rest0 rest1 (Ok turns.Rest) n few = few_held new.held (few n.over.0)
few_next g too_long past_of Tells Stopped says old new rest0 rest1 (Err stop) n few = says old.table new.table old.held rest0 new.held stop n.2

-- behind a call, whether it reads, answers its stop again, or finds the input over
pub few_behind : {T Z R U I : Type 0} (g : Grammar Z R U) (too_long : R) (past_of : T → Z) (Tells : T → T → U → List ℕ → I → Type 0) (Stopped : T → T → List ℕ → Option (List ℕ) → List ℕ → ReadStop R → Type 0) → StopsWithFew Stopped
    → (old new : ReaderSeen T R) (rest0 rest1 : Option (List ℕ)) (before now : ℕ) (result : Result (Turn I) (ReadStop R)) → length old.held ≤ 8192
    → (old.stop ≡ None → old.ended ≡ false → NextOver g too_long past_of Tells Stopped old new rest0 rest1 result) → (new.stop ≡ None → length new.held ≤ READ_SIZE)
    → IfSome old.stop (λ stop. (result ≡ Err stop) × (new ≡ old) × (rest1 ≡ rest0) × (now ≡ before))
    → (old.stop ≡ None → old.ended ≡ true → (result ≡ Ok turns.Rest) × (new ≡ old) × (rest1 ≡ rest0) × (now ≡ before)) → length new.held ≤ 8192
few_behind {T} {Z} {R} {U} {I} g too_long past_of Tells Stopped says old new rest0 rest1 before now result held next few kept ended = by old.stop refl
  where
    still : new ≡ old → length new.held ≤ 8192
    still same = subst (λ (r : ReaderSeen T R). length r.held ≤ 8192) (sym same) held

    going : old.stop ≡ None → (over : Bool) → old.ended ≡ over → length new.held ≤ 8192
    going none true e = still (ended none e).1
    going none false e = few_next g too_long past_of Tells Stopped says old new rest0 rest1 result (next none e) few

    by : (stop : Option (ReadStop R)) → old.stop ≡ stop → length new.held ≤ 8192
    by None e = going e old.ended refl
    by (Some stop) e = still (subst (λ s. IfSome s (λ stop. (result ≡ Err stop) × (new ≡ old) × (rest1 ≡ rest0) × (now ≡ before))) e kept).1
