-- A machine whose endings are told in other words runs as it did.
use Rattle.std.proofs.Common.{◌≡◌, ℕ, zero, suc, List, ◌++◌, length, drop, Option, Result, Ok, Err, refl, sym, ap, subst, ◌∙◌}
use Rattle.std.specs.Io.KnownBytes.{Appends, IsAtEnd}
use Rattle.vc2_io.specs.Outside.{IsPrefix, IsProperPrefix}
use Rattle.run_theory.specs.Walk.{Step, Ends, Whole, Answer, Machine, IsMachine, before, after_step, walk, answer_from, answer_to, out_of, due, IsPrompt, all_but}
use Rattle.run_theory.specs.Ran.{Ran, HaltHasCause}
use Rattle.run_theory.specs.Runs.{Change, Runs}
use Rattle.unit_reader.specs.Soon.{Soon}
use Rattle.run_theory.specs.declared.Halt.{Halt}
use Rattle.run_theory.specs.declared.Halt.TheVariants.{ReadFault, OutFault, NoMemory}
use Rattle.vc2_cli.specs.Mapped.{step_told, answer_told, told_as, result_told}

abbrev whole_of : {Z E : Type 0} → ℕ → List ℕ → Z → Step Z E
whole_of size text left = Whole size text left

whole_again : {Z E F : Type 0} (a b : ℕ) (t u : List ℕ) (l m : Z) → whole_of {E = F} a t l ≡ whole_of b u m → whole_of {E = E} a t l ≡ whole_of b u m
whole_again {Z = Z} {E = E} a b t u l m e =
    let size : a ≡ b = cc in
    let text : t ≡ u = cc in
    let left : l ≡ m = cc in
    ap (λ (n : ℕ). whole_of {E = E} n t l) size ∙ ap (λ (x : List ℕ). whole_of {E = E} b x l) text ∙ ap (λ (z : Z). whole_of {E = E} b u z) left

module _ {E F : Type 0} (tell : E → F) where
  causes_told : (src0 src1 to0 to1 : ℕ) (result : Result E Halt) → HaltHasCause {X = E} src0 src1 to0 to1 result → HaltHasCause {X = F} src0 src1 to0 to1 (result_told tell result)
  causes_told src0 src1 to0 to1 (Ok ending) why = why
  causes_told src0 src1 to0 to1 (Err ReadFault) why = why
  causes_told src0 src1 to0 to1 (Err OutFault) why = why
  causes_told src0 src1 to0 to1 (Err NoMemory) why = why

  abbrev ok_told : F → Result F Halt
  ok_told ending = Ok ending

  same_told : {a b : F} → ok_told a ≡ ok_told b → a ≡ b
  same_told e = cc

  ended_told : (Was : E → Type 0) (Is : F → Type 0) (AtEnd : Type 0) → ((ending : E) → Is (tell ending) → Was ending) → (result : Result E Halt) → ((ending : E) → result ≡ Ok ending → Was ending → AtEnd) → (ending : F) → result_told tell result ≡ Ok ending → Is ending → AtEnd
  ended_told Was Is AtEnd was (Ok ending) end told e done = end ending refl (was ending (subst Is (sym (same_told e)) done))
  ended_told Was Is AtEnd was (Err halt) end told e done = absurd (let h = e in cc)

  lost_told : (result : Result E Halt) → result_told tell result ≡ Err ReadFault → result ≡ Err ReadFault
  lost_told (Ok ending) e = absurd (let h = e in cc)
  lost_told (Err ReadFault) e = refl
  lost_told (Err OutFault) e = absurd (let h = e in cc)
  lost_told (Err NoMemory) e = absurd (let h = e in cc)

module _ {Z E F : Type 0} (tell : E → F) where
  step_was : (s : Step Z E) (size : ℕ) (text : List ℕ) (left : Z) → step_told tell s ≡ Whole size text left → s ≡ Whole size text left
  step_was (Ends ending last) size text left e = absurd cc
  step_was (Whole size' text' left') size text left e = whole_again {Z = Z} {E = E} {F = F} size' size text' text left' left e

  pub told_laws : (machine : Machine Z E) → IsMachine machine → IsMachine (told_as tell machine)
  told_laws machine laws = record {
    some = λ z bytes size text left e. laws.some z bytes size text left (step_was (machine.step z bytes) size text left e);
    inside = λ z bytes size text left e. laws.inside z bytes size text left (step_was (machine.step z bytes) size text left e);
    stable = λ z bytes more size text left e. ap (step_told tell) (laws.stable z bytes more size text left (step_was (machine.step z bytes) size text left e));
  }

  after_told : (s : Step Z E) (go : ℕ → Z → Answer E) (go' : ℕ → Z → Answer F) → ((size : ℕ) (left : Z) → go' size left ≡ answer_told tell (go size left)) → after_step (step_told tell s) go' ≡ answer_told tell (after_step s go)
  after_told (Ends ending last) go go' same = refl
  after_told (Whole size text left) go go' same = ap (before text) (same size left)

  walk_told : (machine : Machine Z E) (n : ℕ) (z : Z) (bytes : List ℕ) → walk (told_as tell machine) n z bytes ≡ answer_told tell (walk machine n z bytes)
  walk_told machine zero z bytes = after_told (machine.step z bytes) _ _ (λ size left. refl)
  walk_told machine (suc n) z bytes = after_told (machine.step z bytes) (λ size left. walk machine n left (drop size bytes)) (λ size left. walk (told_as tell machine) n left (drop size bytes)) (λ size left. walk_told machine n left (drop size bytes))

  pub told_answer : (machine : Machine Z E) (input : List ℕ) → answer_to (told_as tell machine) input ≡ answer_told tell (answer_to machine input)
  unfolding answer_from
  told_answer machine input = ap (before machine.opening) (walk_told machine (length input) machine.start input)

  told_due : (machine : Machine Z E) (bytes : List ℕ) → due (told_as tell machine) bytes ≡ due machine bytes
  told_due machine bytes = ap (λ (a : Answer F). a.text) (told_answer machine bytes)

  told_out : (machine : Machine Z E) (input : List ℕ) → out_of (answer_to (told_as tell machine) input) ≡ out_of (answer_to machine input)
  told_out machine input = ap out_of (told_answer machine input)

  told_prompt : (machine : Machine Z E) (taken text : List ℕ) → IsPrompt (due machine) taken text → IsPrompt (due (told_as tell machine)) taken text
  told_prompt machine taken text prompt long = subst (λ (l : List ℕ). IsPrefix l text) (sym (told_due machine _)) (prompt long)

  pub told_ran : (machine : Machine Z E) (rest0 rest1 out0 out1 : Option (List ℕ)) (result : Result E Halt) → Ran machine rest0 rest1 out0 out1 result → Ran (told_as tell machine) rest0 rest1 out0 out1 (result_told tell result)
  told_ran machine rest0 rest1 out0 out1 (Ok ending) ran = (
    ran.0,
    ran.1,
    (
      ran.2.0,
      ran.2.1,
      λ more told. (told_out machine (ran.0 ++ more) ∙ (ran.2.2 more told).0, ap (λ (a : Answer F). a.ending) (told_answer machine (ran.0 ++ more)) ∙ ap tell (ran.2.2 more told).1),
    ),
  )
  told_ran machine rest0 rest1 out0 out1 (Err ReadFault) ran = (ran.0, ran.1, subst (λ (l : List ℕ). Appends out0 out1 l) (sym (told_due machine ran.0)) ran.2)
  told_ran machine rest0 rest1 out0 out1 (Err OutFault) ran = (
    ran.0,
    ran.1,
    (
      ran.2.0,
      ran.2.1,
      told_prompt machine ran.0 ran.2.0 ran.2.2,
      λ more told. subst (λ (l : List ℕ). IsProperPrefix ran.2.0 l) (sym (told_out machine (ran.0 ++ more))) (ran.2.3 more told),
    ),
  )
  told_ran machine rest0 rest1 out0 out1 (Err NoMemory) ran = (
    ran.0,
    ran.1,
    (
      ran.2.0,
      ran.2.1,
      told_prompt machine ran.0 ran.2.0 ran.2.2,
      λ more told. subst (λ (l : List ℕ). IsPrefix ran.2.0 l) (sym (told_out machine (ran.0 ++ more))) (ran.2.3 more told),
    ),
  )

  -- ---- what a run leaves

  pub runs_told : (Was : E → Type 0) (Is : F → Type 0) (machine : Machine Z E) (src out : Change) (result : Result E Halt) → ((ending : E) → Is (tell ending) → Was ending) → Runs machine Was src out result → Runs (told_as tell machine) Is src out (result_told tell result)
  runs_told Was Is machine src out result was r = record {
    ran = told_ran machine src.was src.is out.was out.is result r.ran;
    limit = r.limit;
    cause = causes_told tell src.faults_were src.faults_are out.faults_were out.faults_are result r.cause;
    end = ended_told tell Was Is (IsAtEnd src.is) was result r.end;
  }

  pub soon_told : (Was : E → Type 0) (Is : F → Type 0) (machine : Machine Z E) (most : ℕ) (rest0 rest1 : Option (List ℕ)) (result : Result E Halt) → ((ending : E) → Was ending → Is (tell ending)) → Soon Was machine most rest0 rest1 result → Soon Is (told_as tell machine) most rest0 rest1 (result_told tell result)
  soon_told Was Is machine most rest0 rest1 result keeps s = record {
    taken = s.taken;
    took = s.took;
    goes = subst Is (sym (ap (λ (a : Answer F). a.ending) (told_answer machine (all_but most s.taken)))) (keeps _ s.goes);
    lost = λ e. subst Is (sym (ap (λ (a : Answer F). a.ending) (told_answer machine s.taken))) (keeps _ (s.lost (lost_told tell result e)));
  }
