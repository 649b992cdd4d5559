-- How a run comes out, of a command that holds bytes which it has read and not yet used.
use Rattle.std.proofs.Common.{◌≡◌, ◌<◌, ◌-◌, ℕ, List, [], ◌++◌, length, take, Option, Some, Ok, Err, refl, sym, ap, ◌∙◌, arith, append_assoc}
use Rattle.std.proofs.lemmas.List.{length-append}
use Rattle.std.specs.Io.KnownBytes.{Appends, Consumes}
use Rattle.vc2_io.specs.declared.TheConstants.{READ_SIZE}
use Rattle.vc2_io.specs.Outside.{GrewShort}
use Rattle.vc2_io.proofs.Known.{Appends-then, Consumes-then, Consumes-along, Appends-along, Appends-none, Consumes-none}
use Rattle.run_theory.specs.Walk.{Machine, Ends, Whole, answer_to, answer_from, out_of, before, IsMachine, NoneWhole}
use Rattle.run_theory.specs.Ran.{Ran}
use Rattle.run_theory.specs.Window.{Holds}
use Rattle.run_theory.specs.declared.Halt.TheVariants.{ReadFault, OutFault, NoMemory}
use Rattle.run_theory.proofs.Walks.{behind_none, prefix_none, prefix_more, behind_more, due_behind, ends_behind, prompt_behind}

-- No unit stands whole in these bytes without their last 4096, so none was due before the last read.
abbrev pub NoneDue : {Z E : Type 0} → Machine Z E → Z → List ℕ → Type 0
NoneDue machine z bytes = READ_SIZE < length bytes → NoneWhole (machine.step z (take (length bytes - READ_SIZE) bytes))

-- nothing is taken yet, and the opening was written
pub holds_opened : {Z E : Type 0} {machine : Machine Z E} (laws : IsMachine machine) (rest out0 out1 : Option (List ℕ)) → Appends out0 out1 machine.opening → Holds machine rest rest out0 out1 [] machine.start
holds_opened {machine = machine} laws rest out0 out1 wrote = record { done = []; text = machine.opening; took = Consumes-none rest; wrote = wrote; behind = behind_none machine; begins = prefix_none machine laws }

-- the opening was not written whole
pub ran_unopened : {Z E : Type 0} (machine : Machine Z E) (rest out0 out1 : Option (List ℕ)) → GrewShort out0 out1 machine.opening → Ran machine rest rest out0 out1 (Err OutFault)
ran_unopened machine rest out0 out1 short =
    let went = short.0 in (
      [],
      Consumes-none rest,
      (
        went,
        short.2,
        (λ long. absurd (omega arith)),
        λ more e.
            let tail = answer_from machine machine.start more in (
              short.1.0 ++ out_of tail,
              omega (arith, length-append short.1.0 (out_of tail), short.1.1),
              append_assoc machine.opening tail.text tail.last ∙ ap (λ l. l ++ out_of tail) short.1.2
                  ∙ append_assoc went short.1.0 (out_of tail),
            ),
      ),
    )

-- or none of it was, for want of memory
pub ran_unbegun : {Z E : Type 0} (machine : Machine Z E) (rest out0 out1 : Option (List ℕ)) → out1 ≡ out0 → Ran machine rest rest out0 out1 (Err NoMemory)
ran_unbegun machine rest out0 out1 same = (
  [],
  Consumes-none rest,
  ([], Appends-none out0 out1 (sym same), (λ long. absurd (omega arith)), λ more e. (out_of (answer_to machine more), refl)),
)

grown : (a b : List ℕ) → 0 < length a → 0 < length (a ++ b)
grown a b h = omega (arith, h, length-append a b)

grown2 : (a b c : List ℕ) → 0 < length a → 0 < length ((a ++ b) ++ c)
grown2 a b c h = grown (a ++ b) c (grown a b h)

-- what was taken in all
took_all : {Z E : Type 0} {machine : Machine Z E} {z : Z} {rest0 rest1 out0 out1 : Option (List ℕ)} {held : List ℕ} (rest2 : Option (List ℕ)) (read : List ℕ) (so_far : Holds machine rest0 rest1 out0 out1 held z) → Consumes rest1 rest2 read → Consumes rest0 rest2 (so_far.done ++ (held ++ read))
took_all {Z} {E} {machine} {z} {rest0} {rest1} {out0} {out1} {held} rest2 read so_far took =
    Consumes-along rest0 rest2 _ _ (append_assoc so_far.done held read) (Consumes-then rest0 rest1 rest2 (so_far.done ++ held) read so_far.took took)

-- one unit more, whose text was written
pub holds_more : {Z E : Type 0} {machine : Machine Z E} {z : Z} {rest0 rest1 out0 out1 : Option (List ℕ)} {held : List ℕ} (laws : IsMachine machine) (rest2 out2 : Option (List ℕ)) (read unit still line : List ℕ) (left : Z)
    → Holds machine rest0 rest1 out0 out1 held z → Consumes rest1 rest2 read → held ++ read ≡ unit ++ still → 0 < length unit → ((more : List ℕ) → (0 < length still → 0 < length more) → machine.step z (unit ++ more) ≡ Whole (length unit) line left) → Appends out1 out2 line
    → Holds machine rest0 rest2 out0 out2 still left
holds_more {Z} {E} {machine} {z} {rest0} {rest1} {out0} {out1} {held} laws rest2 out2 read unit still line left so_far took split some whole wrote = record {
  done = so_far.done ++ unit;
  text = so_far.text ++ line;
  took = Consumes-along rest0 rest2 _ _ (ap (λ l. so_far.done ++ l) split ∙ sym (append_assoc so_far.done unit still)) (took_all rest2 read so_far took);
  wrote = Appends-then out0 out1 out2 so_far.text line so_far.wrote wrote;
  behind = behind_more machine laws held still so_far.done so_far.text z unit line left so_far.behind some whole;
  begins = prefix_more machine laws held still so_far.done so_far.text z unit line left so_far.behind some (whole still (λ h. h));
}

-- A read failed before a further unit was whole.
pub holds_lost : {Z E : Type 0} {machine : Machine Z E} {z : Z} {rest0 rest1 out0 out1 : Option (List ℕ)} {held : List ℕ} (laws : IsMachine machine) (rest2 : Option (List ℕ)) (read : List ℕ)
    → Holds machine rest0 rest1 out0 out1 held z → Consumes rest1 rest2 read → NoneWhole (machine.step z (held ++ read))
    → Ran machine rest0 rest2 out0 out1 (Err ReadFault)
holds_lost {Z} {E} {machine} {z} {rest0} {rest1} {out0} {out1} {held} laws rest2 read so_far took none = (
  so_far.done ++ (held ++ read),
  took_all rest2 read so_far took,
  Appends-along out0 out1 so_far.text _ (sym (due_behind machine laws held so_far.done so_far.text z (held ++ read) so_far.behind (λ h. grown held read h) none)) so_far.wrote,
)

-- No memory was found, whatever stands in front.
pub holds_no_memory : {Z E : Type 0} {machine : Machine Z E} {z : Z} {rest0 rest1 out0 out1 : Option (List ℕ)} {held : List ℕ} (laws : IsMachine machine) (rest2 : Option (List ℕ)) (read : List ℕ)
    → Holds machine rest0 rest1 out0 out1 held z → Consumes rest1 rest2 read → NoneDue machine z (held ++ read)
    → Ran machine rest0 rest2 out0 out1 (Err NoMemory)
holds_no_memory {Z} {E} {machine} {z} {rest0} {rest1} {out0} {out1} {held} laws rest2 read so_far took none =
    let v = held ++ read in (
      so_far.done ++ v,
      took_all rest2 read so_far took,
      (
        so_far.text,
        so_far.wrote,
        prompt_behind machine laws held so_far.done so_far.text z v so_far.behind so_far.begins none,
        λ more e. (
          out_of (answer_from machine z (v ++ more)),
          ap out_of (ap (answer_to machine) (append_assoc so_far.done v more) ∙ so_far.behind (v ++ more) (λ h. grown2 held read more h))
              ∙ append_assoc so_far.text (answer_from machine z (v ++ more)).text (answer_from machine z (v ++ more)).last,
        ),
      ),
    )

regroup : (a b c d : List ℕ) → (a ++ (b ++ c)) ++ d ≡ (a ++ b) ++ (c ++ d)
regroup a b c d = simp append_assoc

-- A write of the unit's text failed.
pub holds_out_fault : {Z E : Type 0} {machine : Machine Z E} {z : Z} {rest0 rest1 out0 out1 : Option (List ℕ)} {held : List ℕ} (laws : IsMachine machine) (rest2 out2 : Option (List ℕ)) (read unit still line : List ℕ) (left : Z)
    → Holds machine rest0 rest1 out0 out1 held z → Consumes rest1 rest2 read → held ++ read ≡ unit ++ still → 0 < length unit → ((more : List ℕ) → (0 < length still → 0 < length more) → machine.step z (unit ++ more) ≡ Whole (length unit) line left) → NoneDue machine z (held ++ read) → GrewShort out1 out2 line
    → Ran machine rest0 rest2 out0 out2 (Err OutFault)
holds_out_fault {Z} {E} {machine} {z} {rest0} {rest1} {out0} {out1} {held} laws rest2 out2 read unit still line left so_far took split some whole none short =
    let v = held ++ read in
    let went = short.0 in
    let done = so_far.done in
    let text = so_far.text in
    let prompt = prompt_behind machine laws held done text z v so_far.behind so_far.begins none in (
      done ++ v,
      took_all rest2 read so_far took,
      (
        text ++ went,
        Appends-then out0 out1 out2 text went so_far.wrote short.2,
        (λ long. let f = prompt long in (f.0 ++ went, ap (λ l. l ++ went) f.1 ∙ append_assoc _ f.0 went)),
        λ more e.
            let tail = answer_from machine left (still ++ more) in
            let at : answer_to machine (done ++ v ++ more) ≡ before (text ++ line) tail
            = ap (answer_to machine) (ap (λ l. done ++ l ++ more) split ∙ ap (λ l. l ++ more) (sym (append_assoc done unit still)) ∙ append_assoc (done ++ unit) still more)
            ∙ behind_more machine laws held still done text z unit line left so_far.behind some whole (still ++ more) (grown still more) in (
              short.1.0 ++ out_of tail,
              omega (arith, length-append short.1.0 (out_of tail), short.1.1),
              ap out_of at ∙ append_assoc (text ++ line) tail.text tail.last
                  ∙ ap (λ l. text ++ l ++ out_of tail) short.1.2
                  ∙ regroup text went short.1.0 (out_of tail),
            ),
      ),
    )

-- The run ended, and its last text was written.
pub holds_ended : {Z E : Type 0} {machine : Machine Z E} {z : Z} {rest0 rest1 out0 out1 : Option (List ℕ)} {held : List ℕ} (laws : IsMachine machine) (rest2 out2 : Option (List ℕ)) (read last : List ℕ) (ending : E)
    → Holds machine rest0 rest1 out0 out1 held z → Consumes rest1 rest2 read → ((more : List ℕ) → rest2 ≡ Some more → machine.step z (held ++ read ++ more) ≡ Ends ending last) → Appends out1 out2 last
    → Ran machine rest0 rest2 out0 out2 (Ok ending)
holds_ended {Z} {E} {machine} {z} {rest0} {rest1} {out0} {out1} {held} laws rest2 out2 read last ending so_far took ends wrote =
    let v = held ++ read in (
      so_far.done ++ v,
      took_all rest2 read so_far took,
      (
        so_far.text ++ last,
        Appends-then out0 out1 out2 so_far.text last so_far.wrote wrote,
        λ more e.
            let at : answer_to machine (so_far.done ++ v ++ more) ≡ record { ending = ending; text = so_far.text; last = last }
            = ap (answer_to machine) (append_assoc so_far.done v more)
            ∙ ends_behind machine laws held so_far.done so_far.text z (v ++ more) last ending so_far.behind (λ h. grown2 held read more h) (ends more e) in
            (ap out_of at, ap (λ a. a.ending) at),
      ),
    )

-- A write of the last text failed.
pub holds_last_fault : {Z E : Type 0} {machine : Machine Z E} {z : Z} {rest0 rest1 out0 out1 : Option (List ℕ)} {held : List ℕ} (laws : IsMachine machine) (rest2 out2 : Option (List ℕ)) (read last : List ℕ) (ending : E)
    → Holds machine rest0 rest1 out0 out1 held z → Consumes rest1 rest2 read → NoneDue machine z (held ++ read) → ((more : List ℕ) → rest2 ≡ Some more → machine.step z (held ++ read ++ more) ≡ Ends ending last) → GrewShort out1 out2 last
    → Ran machine rest0 rest2 out0 out2 (Err OutFault)
holds_last_fault {Z} {E} {machine} {z} {rest0} {rest1} {out0} {out1} {held} laws rest2 out2 read last ending so_far took none ends short =
    let v = held ++ read in
    let went = short.0 in
    let text = so_far.text in
    let prompt = prompt_behind machine laws held so_far.done text z v so_far.behind so_far.begins none in (
      so_far.done ++ v,
      took_all rest2 read so_far took,
      (
        text ++ went,
        Appends-then out0 out1 out2 text went so_far.wrote short.2,
        (λ long. let f = prompt long in (f.0 ++ went, ap (λ l. l ++ went) f.1 ∙ append_assoc _ f.0 went)),
        λ more e.
            let at : answer_to machine (so_far.done ++ v ++ more) ≡ record { ending = ending; text = text; last = last }
            = ap (answer_to machine) (append_assoc so_far.done v more)
            ∙ ends_behind machine laws held so_far.done text z (v ++ more) last ending so_far.behind (λ h. grown2 held read more h) (ends more e) in (
              short.1.0,
              short.1.1,
              ap out_of at ∙ ap (λ l. text ++ l) short.1.2 ∙ sym (append_assoc text went short.1.0),
            ),
      ),
    )
