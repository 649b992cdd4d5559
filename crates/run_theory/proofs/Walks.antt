-- Laws of runs that go through their input unit by unit.
use Rattle.std.proofs.Common.{◌≡◌, ℕ, zero, suc, ◌-◌, ◌<◌, ◌≤◌, List, [], ◌++◌, length, take, drop, refl, sym, ap, ◌∙◌, subst, ⊎_elim, arith, append_assoc, append-nil}
use Rattle.std.proofs.lemmas.List.{drop-append-le, drop_at, drop_all, take-append-le, take-append-drop, length-append, length-drop, length-take}
use Rattle.std.proofs.lemmas.Bool.{cases_lt}
use Rattle.std.proofs.Math.Seq.{take-append-add}
use Rattle.vc2_io.specs.Outside.{IsPrefix}
use Rattle.run_theory.specs.Walk.{Machine, Step, Ends, Whole, Answer, walk, after_step, before, due, IsMachine, NoneWhole, SoFar, IsPrompt, answer_from, answer_to}

after_same : {Z E : Type 0} (s : Step Z E) (f g : ℕ → Z → Answer E) → ((size : ℕ) (text : List ℕ) (left : Z) → s ≡ Whole size text left → f size left ≡ g size left) → after_step s f ≡ after_step s g
after_same (Ends ending last) f g h = refl
after_same (Whole size text left) f g h = ap (before text) (h size text left refl)

-- more turns than bytes change nothing
enough : {Z E : Type 0} (machine : Machine Z E) → IsMachine machine → (n m : ℕ) (z : Z) (bytes : List ℕ) → length bytes ≤ n → length bytes ≤ m → walk machine n z bytes ≡ walk machine m z bytes
enough machine laws zero zero z bytes le le' = refl
enough machine laws zero (suc m) z bytes le le' = after_same (machine.step z bytes) _ _ (λ size text left e. absurd (omega (arith, laws.some z bytes size text left e, laws.inside z bytes size text left e)))
enough machine laws (suc n) zero z bytes le le' = after_same (machine.step z bytes) _ _ (λ size text left e. absurd (omega (arith, laws.some z bytes size text left e, laws.inside z bytes size text left e)))
enough machine laws (suc n) (suc m) z bytes le le' = after_same (machine.step z bytes) _ _ (λ size text left e.
    enough machine laws n m left (drop size bytes)
    (omega (arith, length-drop size bytes, laws.some z bytes size text left e))
    (omega (arith, length-drop size bytes, laws.some z bytes size text left e)))

-- the answer, by its first step
pub answer_step : {Z E : Type 0} (machine : Machine Z E) → IsMachine machine → (z : Z) (bytes : List ℕ) → answer_from machine z bytes ≡ after_step (machine.step z bytes) (λ size left. answer_from machine left (drop size bytes))
unfolding answer_from
answer_step machine laws z bytes =
    enough machine laws (length bytes) (suc (length bytes)) z bytes (omega arith) (omega arith)
    ∙ after_same (machine.step z bytes) _ _ (λ size text left e.
    enough machine laws (length bytes) (length (drop size bytes)) left (drop size bytes) (omega (arith, length-drop size bytes)) (omega arith))

-- nothing so far
pub behind_none : {Z E : Type 0} (machine : Machine Z E) → SoFar machine [] [] machine.opening machine.start
behind_none machine more fits = refl

-- one unit more
pub behind_more : {Z E : Type 0} (machine : Machine Z E) → IsMachine machine → (held still done text : List ℕ) (z : Z) (unit line : List ℕ) (left : Z) → SoFar machine held done text z → 0 < length unit
    → ((more : List ℕ) → (0 < length still → 0 < length more) → machine.step z (unit ++ more) ≡ Whole (length unit) line left) → SoFar machine still (done ++ unit) (text ++ line) left
behind_more machine laws held still done text z unit line left h some whole more fits =
    ap (answer_to machine) (append_assoc done unit more)
    ∙ h (unit ++ more) (λ _. omega (arith, some, length-append unit more))
    ∙ ap (before text) (answer_step machine laws z (unit ++ more)
    ∙ ap (λ s. after_step s (λ size left'. answer_from machine left' (drop size (unit ++ more)))) (whole more fits)
    ∙ ap (λ l. before line (answer_from machine left l)) (drop_at unit more (length unit) refl))
    ∙ ap (λ l. record { ending = (answer_from machine left more).ending; text = l; last = (answer_from machine left more).last }) (sym (append_assoc text line (answer_from machine left more).text))

none_text : {Z E : Type 0} (s : Step Z E) (f : ℕ → Z → Answer E) → NoneWhole s → (after_step s f).text ≡ []
none_text (Ends ending last) f none = refl
none_text (Whole size text left) f none = absurd none

-- what is due where no further unit stands whole
pub due_behind : {Z E : Type 0} (machine : Machine Z E) → IsMachine machine → (held done text : List ℕ) (z : Z) (part : List ℕ) → SoFar machine held done text z → (0 < length held → 0 < length part) → NoneWhole (machine.step z part) → due machine (done ++ part) ≡ text
due_behind machine laws held done text z part h fits none =
    ap (λ a. a.text) (h part fits)
    ∙ ap (λ a. text ++ a.text) (answer_step machine laws z part)
    ∙ ap (λ l. text ++ l) (none_text (machine.step z part) _ none)
    ∙ append-nil text

-- how the run ends
pub ends_behind : {Z E : Type 0} (machine : Machine Z E) → IsMachine machine → (held done text : List ℕ) (z : Z) (part last : List ℕ) (ending : E) → SoFar machine held done text z → (0 < length held → 0 < length part) → machine.step z part ≡ Ends ending last → answer_to machine (done ++ part) ≡ record { ending = ending; text = text; last = last }
ends_behind machine laws held done text z part last ending h fits ends =
    h part fits
    ∙ ap (before text) (answer_step machine laws z part ∙ ap (λ s. after_step s (λ size left. answer_from machine left (drop size part))) ends)
    ∙ ap (λ l. record { ending = ending; text = l; last = last }) (append-nil text)

grow_step : {Z E : Type 0} (s s' : Step Z E) (f g : ℕ → Z → Answer E) → ((size : ℕ) (text : List ℕ) (left : Z) → s ≡ Whole size text left → (s' ≡ Whole size text left) × IsPrefix (f size left).text (g size left).text) → IsPrefix (after_step s f).text (after_step s' g).text
grow_step (Ends ending last) s' f g h = ((after_step s' g).text, refl)
grow_step (Whole size text left) s' f g h =
    let p = h size text left refl in
    subst (λ x. IsPrefix (text ++ (f size left).text) (after_step x g).text) (sym p.0)
    (p.1.0, ap (λ l. text ++ l) p.1.1 ∙ sym (append_assoc text (f size left).text p.1.0))

-- both answers by their first steps
grows_by : {Z E : Type 0} (machine : Machine Z E) → IsMachine machine → (z : Z) (bytes more : List ℕ) → ((size : ℕ) (text : List ℕ) (left : Z) → machine.step z bytes ≡ Whole size text left → IsPrefix (answer_from machine left (drop size bytes)).text (answer_from machine left (drop size (bytes ++ more))).text) → IsPrefix (answer_from machine z bytes).text (answer_from machine z (bytes ++ more)).text
grows_by machine laws z bytes more h =
    subst (λ a. IsPrefix a.text (answer_from machine z (bytes ++ more)).text) (sym (answer_step machine laws z bytes))
    (subst (λ a. IsPrefix (after_step (machine.step z bytes) (λ size left. answer_from machine left (drop size bytes))).text a.text) (sym (answer_step machine laws z (bytes ++ more)))
    (grow_step (machine.step z bytes) (machine.step z (bytes ++ more)) _ _ (λ size text left e. (laws.stable z bytes more size text left e, h size text left e))))

grows : {Z E : Type 0} (machine : Machine Z E) → IsMachine machine → (n : ℕ) (z : Z) (bytes more : List ℕ) → length bytes ≤ n → IsPrefix (answer_from machine z bytes).text (answer_from machine z (bytes ++ more)).text
grows machine laws zero z bytes more le = grows_by machine laws z bytes more (λ size text left e. absurd (omega (arith, laws.some z bytes size text left e, laws.inside z bytes size text left e)))
grows machine laws (suc n) z bytes more le = grows_by machine laws z bytes more (λ size text left e.
    subst (λ l. IsPrefix (answer_from machine left (drop size bytes)).text (answer_from machine left l).text) (sym (drop-append-le size bytes more (laws.inside z bytes size text left e)))
    (grows machine laws n left (drop size bytes) more (omega (arith, length-drop size bytes, laws.some z bytes size text left e))))

-- what is due is never taken back
pub due_grows : {Z E : Type 0} (machine : Machine Z E) → IsMachine machine → (bytes more : List ℕ) → IsPrefix (due machine bytes) (due machine (bytes ++ more))
due_grows machine laws bytes more =
    let f = grows machine laws (length bytes) machine.start bytes more (omega arith) in
    (f.0, ap (λ l. machine.opening ++ l) f.1 ∙ sym (append_assoc machine.opening (answer_from machine machine.start bytes).text f.0))

pub none_if : {Z E : Type 0} (s : Step Z E) → ((size : ℕ) (text : List ℕ) (left : Z) → s ≡ Whole size text left → ⊥) → NoneWhole s
none_if (Ends ending last) h = tt
none_if (Whole size text left) h = h size text left refl

pub none_in_nothing : {Z E : Type 0} (machine : Machine Z E) → IsMachine machine → (z : Z) → NoneWhole (machine.step z [])
none_in_nothing machine laws z = none_if (machine.step z []) (λ size text left e. omega (arith, laws.some z [] size text left e, laws.inside z [] size text left e))

same_prefix : (a b : List ℕ) → a ≡ b → IsPrefix a b
same_prefix a b e = ([], sym e ∙ sym (append-nil a))

none_after : {Z E : Type 0} (machine : Machine Z E) → IsMachine machine → (z : Z) → (answer_from machine z []).text ≡ []
none_after machine laws z = ap (λ a. a.text) (answer_step machine laws z []) ∙ none_text (machine.step z []) _ (none_in_nothing machine laws z)

pub prefix_then : (a b c : List ℕ) → IsPrefix a b → IsPrefix b c → IsPrefix a c
prefix_then a b c f g = (f.0 ++ g.0, g.1 ∙ ap (λ l. l ++ g.0) f.1 ∙ append_assoc a f.0 g.0)

pub prefix_none : {Z E : Type 0} (machine : Machine Z E) → IsMachine machine → IsPrefix (due machine []) machine.opening
prefix_none machine laws = same_prefix _ _ (ap (λ l. machine.opening ++ l) (none_after machine laws machine.start) ∙ append-nil machine.opening)

-- the units so far and one more, where nothing follows it
pub prefix_more : {Z E : Type 0} (machine : Machine Z E) → IsMachine machine → (held still done text : List ℕ) (z : Z) (unit line : List ℕ) (left : Z) → SoFar machine held done text z → 0 < length unit → machine.step z (unit ++ still) ≡ Whole (length unit) line left
    → IsPrefix (due machine (done ++ unit)) (text ++ line)
prefix_more {Z} {E} machine laws held still done text z unit line left h some whole =
    let f = by (machine.step z unit) refl in
    subst (λ l. IsPrefix l (text ++ line)) (sym (ap (λ a. a.text) (h unit (λ _. some)) ∙ ap (λ a. text ++ a.text) (answer_step machine laws z unit)))
    (f.0, ap (λ l. text ++ l) f.1 ∙ sym (append_assoc text _ f.0))
  where
    by : (s : Step Z E) → machine.step z unit ≡ s → IsPrefix (after_step s (λ size left'. answer_from machine left' (drop size unit))).text line
    by (Ends ending last) e = (line, refl)
    by (Whole size t l) e =
        let same : (let a : Step Z E = Whole size t l in a) ≡ Whole (length unit) line left = sym (laws.stable z unit still size t l e) ∙ whole in
        let at : size ≡ length unit = cc in
        let is : t ≡ line = cc in
        let none : (answer_from machine l (drop size unit)).text ≡ [] = ap (λ n. (answer_from machine l (drop n unit)).text) at ∙ ap (λ b. (answer_from machine l b).text) (drop_all (length unit) unit (omega arith)) ∙ none_after machine laws l in
        ([], sym is ∙ sym (ap (λ b. (t ++ b) ++ []) none ∙ append-nil (t ++ []) ∙ append-nil t))

-- What is due for all but the last bytes is told.
pub prompt_behind : {Z E : Type 0} (machine : Machine Z E) → IsMachine machine → (held done text : List ℕ) (z : Z) (v : List ℕ) → SoFar machine held done text z → IsPrefix (due machine done) text → (4096 < length v → NoneWhole (machine.step z (take (length v - 4096) v))) → IsPrompt (due machine) (done ++ v) text
prompt_behind machine laws held done text z v h front none long = ⊎_elim
    (λ (lt : 4096 < length v).
    let part = take (length v - 4096) v in
    let at : take (length (done ++ v) - 4096) (done ++ v) ≡ done ++ part
    = ap (λ k. take k (done ++ v)) (omega (arith, length-append done v)) ∙ take-append-add done v (length v - 4096) in
    same_prefix _ _ (ap (due machine) at ∙ due_behind machine laws held done text z _ h (λ _. omega (arith, lt, length-take (length v - 4096) v)) (none lt)))
    (λ (le : length v ≤ 4096).
    let k = length (done ++ v) - 4096 in
    let at : take k (done ++ v) ≡ take k done = take-append-le k done v (omega (arith, length-append done v)) in
    let grown = due_grows machine laws (take k done) (drop k done) in
    subst (λ l. IsPrefix (due machine l) text) (sym at) (prefix_then _ _ _ (subst (λ l. IsPrefix (due machine (take k done)) (due machine l)) (take-append-drop k done) grown) front))
    (cases_lt 4096 (length v))
