-- What stands in front, and the machine of a command.
use Rattle.std.proofs.Common.{◌≡◌, ℕ, ◌-◌, ◌*◌, ◌<◌, ◌≤◌, Bool, true, false, not, ◌&&◌, ltb, List, [], ◌∷◌, ◌++◌, length, take, drop, Result, Ok, Err, refl, sym, ap, subst, ◌∙◌, arith, inl, inr, append-nil, if◌then◌else◌}
use Rattle.std.proofs.lemmas.Bool.{cases_lt, lt-ltb, le-ltb, ltb-true}
use Rattle.std.proofs.lemmas.List.{length-append, length-take, length-drop, take-append-le, take-append-drop, take_all}
use Rattle.std.proofs.Math.Seq.{take-append-add}
use Rattle.bit_codes.specs.Bits.{Cursor, bits_of}
use Rattle.bit_codes.proofs.BitLemmas.{length-bits}
use Rattle.field_rows.specs.Rows.{Fault, is_nil}
use Rattle.field_rows.specs.Pieces.{with_more}
use Rattle.run_theory.specs.Walk.{Step, Whole, IsMachine, NoneWhole}
pub use Rattle.run_theory.specs.GrammarLaws.{AreFronts}
use Rattle.run_theory.specs.Grammar.{Grammar, Behind, Inner, Final, ends_by, unit_at, is_settled_by, Waits}
use Rattle.run_theory.specs.Fronts.{Front, Stands, Finishes, Rests, Refuses, size_to, front_behind, front_by, front_of, front_within, front_or_rest, Between, Command, step_by, machine_of}
use Rattle.run_theory.proofs.GrammarLaws.{IsGrammar, unit-more, unit-shorter, unit-refused, not_short}

size-more : (bytes more : List ℕ) (behind : Cursor) → length behind.rest < 8 * length bytes → size_to (bytes ++ more) (with_more behind (bits_of more)) ≡ size_to bytes behind
size-more bytes more behind h = omega (arith, h, length-append bytes more, length-append behind.rest (bits_of more), length-bits more)

-- ---- what may come behind a unit that stands

abbrev pub stands_behind : Behind → Bool → Bool
stands_behind Inner empty = true
stands_behind Final empty = not empty

behind_stands : {R U : Type 0} (b : Behind) (empty : Bool) (size size' : ℕ) (made unit : U) → front_behind {R = R} b empty size made ≡ Stands size' unit → (stands_behind b empty ≡ true) × (made ≡ unit) × (size ≡ size')
behind_stands Inner empty size size' made unit k = (refl, cc, cc)
behind_stands Final true size size' made unit k = absurd cc
behind_stands Final false size size' made unit k = (refl, cc, cc)

pub stands_by : {R U : Type 0} (b : Behind) (empty : Bool) (size : ℕ) (unit : U) → stands_behind b empty ≡ true → front_behind {R = R} b empty size unit ≡ Stands size unit
stands_by Inner empty size unit h = refl
stands_by Final true size unit h = absurd cc
stands_by Final false size unit h = refl

pub nil_by : (xs : List Bool) → 0 < length xs → is_nil xs ≡ false
nil_by [] h = absurd (omega arith)
nil_by (x ∷ xs) h = refl

-- what is longer, or cut off too
stands_on : (b : Behind) (rest tail : List Bool) (cut cut' : Bool) → (cut ≡ true → cut' ≡ true) → stands_behind b (is_nil rest && not cut) ≡ true → stands_behind b (is_nil (rest ++ tail) && not cut') ≡ true
stands_on Inner rest tail cut cut' f h = refl
stands_on Final [] [] true cut' f h = ap (λ c. not (true && not c)) (f refl)
stands_on Final [] (b ∷ tail) true cut' f h = refl
stands_on Final [] tail false cut' f h = absurd cc
stands_on Final (b ∷ rest) tail cut cut' f h = refl

-- and so it is settled
stands_settles : (b : Behind) (rest tail : List Bool) (cut : Bool) → (cut ≡ true → 0 < length tail) → stands_behind b (is_nil rest && not cut) ≡ true → not (ends_by b (is_nil (rest ++ tail))) ≡ true
stands_settles Inner rest tail cut f h = refl
stands_settles Final [] tail true f h = ap not (nil_by tail (f refl))
stands_settles Final [] tail false f h = absurd cc
stands_settles Final (b ∷ rest) tail cut f h = refl

-- ---- a unit that stands, by its reading

record IsUnit {Z R U : Type 0} (g : Grammar Z R U) (z : Z) (bytes : List ℕ) (cut : Bool) (size : ℕ) (unit : U) : Type 0 where
  behind : Cursor
  read : unit_at g z bytes ≡ Ok (unit, behind)
  stands : stands_behind (g.behind unit) (is_nil behind.rest && not cut) ≡ true
  is_size : size ≡ size_to bytes behind

unit_by : {Z R U : Type 0} (g : Grammar Z R U) (past : Fault R → Fault R) (z : Z) (bytes : List ℕ) (cut : Bool) (size : ℕ) (unit : U) (r : Result (U × Cursor) (Fault R)) → unit_at g z bytes ≡ r → front_by g past cut bytes r ≡ Stands size unit → IsUnit g z bytes cut size unit
unit_by g past z bytes cut size unit (Ok x) e k =
    let q = behind_stands (g.behind x.0) (is_nil x.1.rest && not cut) (size_to bytes x.1) size x.0 unit k in
    record { behind = x.1; read = e ∙ ap (λ u. Ok (u, x.1)) q.1; stands = subst (λ u. stands_behind (g.behind u) (is_nil x.1.rest && not cut) ≡ true) q.1 q.0; is_size = sym q.2 }
unit_by g past z bytes cut size unit (Err fault) e k = absurd cc

-- and the other way round
unit_front : {Z R U : Type 0} (g : Grammar Z R U) (past : Fault R → Fault R) (z : Z) (bytes : List ℕ) (cut : Bool) (size : ℕ) (unit : U) → IsUnit g z bytes cut size unit → front_by g past cut bytes (unit_at g z bytes) ≡ Stands size unit
unit_front g past z bytes cut size unit u =
    ap (front_by g past cut bytes) u.read ∙ stands_by (g.behind unit) _ (size_to bytes u.behind) unit u.stands ∙ ap (λ n. Stands n unit) (sym u.is_size)

-- it stands whatever follows
unit_grows : {Z R U : Type 0} (g : Grammar Z R U) → IsGrammar g → (z : Z) (bytes more : List ℕ) (cut cut' : Bool) (size : ℕ) (unit : U) → (cut ≡ true → cut' ≡ true) → IsUnit g z bytes cut size unit → IsUnit g z (bytes ++ more) cut' size unit
unit_grows g laws z bytes more cut cut' size unit f u = record {
  behind = with_more u.behind (bits_of more);
  read = unit-more g laws z bytes more unit u.behind u.read;
  stands = stands_on (g.behind unit) u.behind.rest (bits_of more) cut cut' f u.stands;
  is_size = u.is_size ∙ sym (size-more bytes more u.behind (unit-shorter g laws z bytes unit u.behind u.read));
}

-- where nothing is cut off
of_unit : {Z R U : Type 0} (g : Grammar Z R U) (z : Z) (bytes : List ℕ) (size : ℕ) (unit : U) → front_of g z bytes ≡ Stands size unit → IsUnit g z bytes false size unit
of_unit g z bytes size unit k = unit_by g (λ fault. fault) z bytes false size unit _ refl k

pub front_laws : {Z R U : Type 0} (g : Grammar Z R U) → IsGrammar g → AreFronts (front_of g)
front_laws g laws = record {
  some = λ z bytes size unit k.
      let u = of_unit g z bytes size unit k in
      omega (arith, u.is_size, unit-shorter g laws z bytes unit u.behind u.read);
  inside = λ z bytes size unit k.
      let u = of_unit g z bytes size unit k in
      omega (arith, u.is_size);
  stable = λ z bytes more size unit k.
      unit_front g (λ fault. fault) z (bytes ++ more) false size unit (unit_grows g laws z bytes more false false size unit (λ e. e) (of_unit g z bytes size unit k));
}

take_grows : (n : ℕ) (bytes more : List ℕ) → (t : List ℕ) × (take n (bytes ++ more) ≡ take n bytes ++ t)
take_grows n bytes more = elim (cases_lt (length bytes) n) [
  | inl lt ↦ (
    take (n - length bytes) more,
    ap (λ m. take m (bytes ++ more)) (omega arith) ∙ take-append-add bytes more (n - length bytes) ∙ ap (λ l. l ++ take (n - length bytes) more) (sym (take_all n bytes (omega arith))),
  )
  | inr le ↦ ([], take-append-le n bytes more le ∙ sym (append-nil (take n bytes)))
]

cut_grows : (n : ℕ) (bytes more : List ℕ) → ltb n (length bytes) ≡ true → ltb n (length (bytes ++ more)) ≡ true
cut_grows n bytes more e = lt-ltb n (length (bytes ++ more)) (omega (arith, ltb-true n (length bytes) e, length-append bytes more))

within_unit : {Z R U : Type 0} (limit : ℕ) (past : Fault R → Fault R) (g : Grammar Z R U) (z : Z) (bytes : List ℕ) (size : ℕ) (unit : U) → front_within limit past g z bytes ≡ Stands size unit → IsUnit g z (take (limit - g.place z) bytes) (ltb (limit - g.place z) (length bytes)) size unit
within_unit limit past g z bytes size unit k = unit_by g past z _ _ size unit _ refl k

pub within_laws : {Z R U : Type 0} (limit : ℕ) (past : Fault R → Fault R) (g : Grammar Z R U) → IsGrammar g → AreFronts (front_within limit past g)
within_laws limit past g laws = record {
  some = λ z bytes size unit k.
      let u = within_unit limit past g z bytes size unit k in
      omega (arith, u.is_size, unit-shorter g laws z _ unit u.behind u.read);
  inside = λ z bytes size unit k.
      let u = within_unit limit past g z bytes size unit k in
      omega (arith, u.is_size, length-take (limit - g.place z) bytes);
  stable = λ z bytes more size unit k.
      let n = limit - g.place z in
      let t = take_grows n bytes more in
      let u = unit_grows g laws z (take n bytes) t.0 (ltb n (length bytes)) (ltb n (length (bytes ++ more))) size unit (cut_grows n bytes more) (within_unit limit past g z bytes size unit k) in
      ap (λ l. front_by g past (ltb n (length (bytes ++ more))) l (unit_at g z l)) t.1 ∙ unit_front g past z (take n bytes ++ t.0) _ size unit u;
}

-- ---- the front within the limit, by that of the bytes before it

pub front_near : {Z R U : Type 0} (limit : ℕ) (past : Fault R → Fault R) (g : Grammar Z R U) (z : Z) (bytes : List ℕ) → length bytes ≤ limit - g.place z → front_within limit past g z bytes ≡ front_by g past false bytes (unit_at g z bytes)
front_near limit past g z bytes le =
    let n = limit - g.place z in
    ap (λ l. front_by g past (ltb n (length bytes)) l (unit_at g z l)) (take_all n bytes le)
    ∙ ap (λ cut. front_by g past cut bytes (unit_at g z bytes)) (le-ltb n (length bytes) le)

uncut : {Z R U : Type 0} (g : Grammar Z R U) (past : Fault R → Fault R) (bytes : List ℕ) (r : Result (U × Cursor) (Fault R)) → front_by g past false bytes r ≡ front_by g (λ fault. fault) false bytes r
uncut g past bytes (Ok x) = refl
uncut g past bytes (Err fault) = refl

-- all bytes lie before it
pub front_before : {Z R U : Type 0} (limit : ℕ) (past : Fault R → Fault R) (g : Grammar Z R U) (z : Z) (bytes : List ℕ) → length bytes ≤ limit - g.place z → front_within limit past g z bytes ≡ front_of g z bytes
front_before limit past g z bytes le = front_near limit past g z bytes le ∙ uncut g past bytes (unit_at g z bytes)

-- a byte lies past it
pub front_past : {Z R U : Type 0} (limit : ℕ) (past : Fault R → Fault R) (g : Grammar Z R U) (z : Z) (bytes : List ℕ) → limit - g.place z < length bytes
    → front_within limit past g z bytes ≡ front_by g past true (take (limit - g.place z) bytes) (unit_at g z (take (limit - g.place z) bytes))
front_past limit past g z bytes lt =
    let t = take (limit - g.place z) bytes in
    ap (λ cut. front_by g past cut t (unit_at g z t)) (lt-ltb (limit - g.place z) (length bytes) lt)

-- what stands in front of the bytes before it stands
pub front_stands : {Z R U : Type 0} (limit : ℕ) (past : Fault R → Fault R) (g : Grammar Z R U) → IsGrammar g → (z : Z) (bytes : List ℕ) (size : ℕ) (unit : U) → front_of g z (take (limit - g.place z) bytes) ≡ Stands size unit → front_within limit past g z bytes ≡ Stands size unit
front_stands limit past g laws z bytes size unit k =
    let n = limit - g.place z in
    let cut = ltb n (length bytes) in
    let t = take n bytes in
    let u = unit_grows g laws z t [] false cut size unit (λ e. absurd cc) (of_unit g z t size unit k) in
    unit_front g past z t cut size unit (subst (λ l. IsUnit g z l cut size unit) (append-nil t) u)

-- where the unit waits for more bytes, none stands
pub none_stands : {Z R U : Type 0} (limit : ℕ) (past : Fault R → Fault R) (g : Grammar Z R U) → IsGrammar g → (z : Z) (bytes : List ℕ) → Waits g z bytes → (size : ℕ) (unit : U) → front_within limit past g z bytes ≡ Stands size unit → ⊥
none_stands limit past g laws z bytes f size unit k =
    let n = limit - g.place z in
    let u = within_unit limit past g z bytes size unit k in
    let all : unit_at g z bytes ≡ Ok (unit, with_more u.behind (bits_of (drop n bytes))) = ap (unit_at g z) (sym (take-append-drop n bytes)) ∙ unit-more g laws z (take n bytes) (drop n bytes) unit u.behind u.read in
    let far = stands_settles (g.behind unit) u.behind.rest (bits_of (drop n bytes)) (ltb n (length bytes)) (λ e. omega (arith, ltb-true n (length bytes) e, length-bits (drop n bytes), length-drop n bytes)) u.stands in
    let clash : true ≡ false = sym (ap (is_settled_by g) all ∙ far) ∙ f.waits in
    cc

-- ---- a refusal that isn't for a short field

unit_unrefused : {R U : Type 0} (b : Behind) (empty : Bool) (size : ℕ) (unit : U) (fault : Fault R) → front_behind {R = R} b empty size unit ≡ Refuses fault → ⊥
unit_unrefused Inner empty size unit fault k = cc
unit_unrefused Final true size unit fault k = cc
unit_unrefused Final false size unit fault k = cc

refused_by : {Z R U : Type 0} (g : Grammar Z R U) (past : Fault R → Fault R) (cut : Bool) (bytes : List ℕ) (fault : Fault R) (r : Result (U × Cursor) (Fault R)) → front_by g past cut bytes r ≡ Refuses fault → (f : Fault R) × (r ≡ Err f) × ((if cut then past f else f) ≡ fault)
refused_by g past cut bytes fault (Err f) k = (f, refl, cc)
refused_by g past cut bytes fault (Ok x) k = absurd (unit_unrefused (g.behind x.0) (is_nil x.1.rest && not cut) (size_to bytes x.1) x.0 fault k)

-- it stands whatever follows
pub refusal_grows : {Z R U : Type 0} (g : Grammar Z R U) → IsGrammar g → (z : Z) (bytes more : List ℕ) (fault : Fault R) → g.is_short fault.reason ≡ false → front_of g z bytes ≡ Refuses fault → front_of g z (bytes ++ more) ≡ Refuses fault
refusal_grows {R = R} g laws z bytes more fault long k =
    let f = refused_by g (λ fault. fault) false bytes fault _ k in
    ap (front_by g (λ fault. fault) false (bytes ++ more)) (unit-refused g laws z bytes more fault (not_short g laws fault.reason long) (f.1 ∙ ap (λ (f : Fault R). Err f) f.2))

keeps_by : {R : Type 0} (past : Fault R → Fault R) (fault : Fault R) (cut : Bool) → past fault ≡ fault → (if cut then past fault else fault) ≡ fault
keeps_by past fault true e = e
keeps_by past fault false e = refl

-- and so it does up to a limit
pub refusal_grows_within : {Z R U : Type 0} (limit : ℕ) (past : Fault R → Fault R) (g : Grammar Z R U) → IsGrammar g → ((other : Fault R) → g.is_short other.reason ≡ false → past other ≡ other) → (z : Z) (bytes more : List ℕ) (fault : Fault R) → g.is_short fault.reason ≡ false → front_within limit past g z bytes ≡ Refuses fault → front_within limit past g z (bytes ++ more) ≡ Refuses fault
refusal_grows_within {R = R} limit past g laws keeps z bytes more fault long k = elim (cases_lt (limit - g.place z) (length bytes)) [
  | inl lt ↦ (
      let n = limit - g.place z in
      let t = take n bytes in
      front_past limit past g z (bytes ++ more) (omega (arith, lt, length-append bytes more))
      ∙ ap (λ l. front_by g past true l (unit_at g z l)) (take-append-le n bytes more (omega (arith, lt)))
      ∙ sym (front_past limit past g z bytes lt) ∙ k
      )
  | inr le ↦ (
      let n = limit - g.place z in
      let t = take_grows n bytes more in
      let cut = ltb n (length (bytes ++ more)) in
      let f = refused_by g past false bytes fault _ (sym (front_near limit past g z bytes le) ∙ k) in
      let there : unit_at g z (take n bytes) ≡ Err fault = ap (unit_at g z) (take_all n bytes le) ∙ f.1 ∙ ap (λ (f : Fault R). Err f) f.2 in
      ap (λ l. front_by g past cut l (unit_at g z l)) t.1
      ∙ ap (front_by g past cut (take n bytes ++ t.0)) (unit-refused g laws z (take n bytes) t.0 fault (not_short g laws fault.reason long) there)
      ∙ ap (λ (f : Fault R). Refuses f) (keeps_by past fault cut (keeps fault long))
      )
]

-- ---- where nothing is left

pub rest_none : {R U : Type 0} (may : Bool) (bytes : List ℕ) (front : Front R U) → (may ≡ true → 0 < length bytes) → front_or_rest may bytes front ≡ front
rest_none true [] front some = absurd (omega (arith, some refl))
rest_none true (byte ∷ bytes) front some = refl
rest_none false bytes front some = refl

rest_stands : {R U : Type 0} (may : Bool) (bytes : List ℕ) (front : Front R U) (size : ℕ) (unit : U) → front_or_rest may bytes front ≡ Stands size unit → front ≡ Stands size unit
rest_stands true [] front size unit k = absurd cc
rest_stands true (byte ∷ bytes) front size unit k = k
rest_stands false bytes front size unit k = k

-- ---- the machine of a command

record IsStep {Z R U W E : Type 0} (g : Grammar Z R U) (command : Command Z R U W E) (z : Z) (w : W) (bytes : List ℕ) (front : Front R U) (size : ℕ) (text : List ℕ) (left : Between Z W) : Type 0 where
  unit : U
  stands : front ≡ Stands size unit
  is_text : text ≡ command.text z w unit (take size bytes)
  is_left : left ≡ record { past = g.after z unit (take size bytes); own = command.next z w unit (take size bytes) }

step_is : {Z R U W E : Type 0} (g : Grammar Z R U) (command : Command Z R U W E) (z : Z) (w : W) (bytes : List ℕ) (size : ℕ) (text : List ℕ) (left : Between Z W) (front : Front R U) → step_by g command z w bytes front ≡ Whole size text left → IsStep g command z w bytes front size text left
step_is {Z = Z} {W = W} g command z w bytes size text left (Stands n unit) k =
    let same : n ≡ size = cc in
    let at : command.text z w unit (take n bytes) ≡ text = cc in
    let to : (let b : Between Z W = record { past = g.after z unit (take n bytes); own = command.next z w unit (take n bytes) } in b) ≡ left = cc in
    record {
      unit = unit;
      stands = ap (λ m. Stands m unit) same;
      is_text = subst (λ m. text ≡ command.text z w unit (take m bytes)) same (sym at);
      is_left = subst (λ m. left ≡ record { past = g.after z unit (take m bytes); own = command.next z w unit (take m bytes) }) same (sym to);
    }
step_is g command z w bytes size text left (Finishes n unit) k = absurd cc
step_is g command z w bytes size text left Rests k = absurd cc
step_is g command z w bytes size text left (Refuses fault) k = absurd cc

-- the step where a unit stands
pub step-stands : {Z R U W E : Type 0} (limit : ℕ) (past : Fault R → Fault R) (g : Grammar Z R U) (laws : IsGrammar g) (first : Z) (command : Command Z R U W E) (z : Z) (w : W) (bytes : List ℕ) (size : ℕ) (unit : U) → front_within limit past g z bytes ≡ Stands size unit
    → (machine_of limit past g first command).step (record { past = z; own = w }) bytes ≡ Whole size (command.text z w unit (take size bytes)) (record { past = g.after z unit (take size bytes); own = command.next z w unit (take size bytes) })
step-stands limit past g laws first command z w bytes size unit e =
    let fronts = within_laws limit past g laws in
    ap (step_by g command z w bytes) (rest_none (g.rests z) bytes (front_within limit past g z bytes) (λ _. omega (arith, fronts.some z bytes size unit e, fronts.inside z bytes size unit e)) ∙ e)

whole_same : {Z E : Type 0} (size : ℕ) (s t : List ℕ) (x y : Z) → s ≡ t → x ≡ y → (let a : Step Z E = Whole size s x in a) ≡ Whole size t y
whole_same size s t x y e h = cc

pub machine_laws : {Z R U W E : Type 0} (limit : ℕ) (past : Fault R → Fault R) (g : Grammar Z R U) (first : Z) (command : Command Z R U W E) → IsGrammar g → IsMachine (machine_of limit past g first command)
machine_laws limit past g first command laws =
    let fronts = within_laws limit past g laws in
    record {
      some = λ b bytes size text left k. let s = step_is g command b.past b.own bytes size text left _ k in fronts.some b.past bytes size s.unit (rest_stands (g.rests b.past) bytes _ size s.unit s.stands);
      inside = λ b bytes size text left k. let s = step_is g command b.past b.own bytes size text left _ k in fronts.inside b.past bytes size s.unit (rest_stands (g.rests b.past) bytes _ size s.unit s.stands);
      stable = λ b bytes more size text left k.
          let s = step_is g command b.past b.own bytes size text left _ k in
          let here = rest_stands (g.rests b.past) bytes _ size s.unit s.stands in
          let same = take-append-le size bytes more (fronts.inside b.past bytes size s.unit here) in
          step-stands limit past g laws first command b.past b.own (bytes ++ more) size s.unit (fronts.stable b.past bytes more size s.unit here)
          ∙ whole_same size _ _ _ _ (ap (command.text b.past b.own s.unit) same ∙ sym s.is_text)
          (ap (λ l. record { past = g.after b.past s.unit l; own = command.next b.past b.own s.unit l }) same ∙ sym s.is_left);
    }

-- ---- where the unit waits for more bytes

none_step : {Z R U W E : Type 0} (g : Grammar Z R U) (command : Command Z R U W E) (z : Z) (w : W) (bytes : List ℕ) (front : Front R U) → ((size : ℕ) (unit : U) → front ≡ Stands size unit → ⊥) → NoneWhole (step_by g command z w bytes front)
none_step g command z w bytes (Stands size unit) none = none size unit refl
none_step g command z w bytes (Finishes size unit) none = tt
none_step g command z w bytes Rests none = tt
none_step g command z w bytes (Refuses fault) none = tt

-- where the unit waits for more bytes, the machine finds none
pub none_whole : {Z R U W E : Type 0} (limit : ℕ) (past : Fault R → Fault R) (g : Grammar Z R U) (first : Z) (command : Command Z R U W E) → IsGrammar g → (b : Between Z W) (bytes : List ℕ) → Waits g b.past bytes → NoneWhole ((machine_of limit past g first command).step b bytes)
none_whole limit past g first command laws b bytes f =
    none_step g command b.past b.own bytes (front_or_rest (g.rests b.past) bytes (front_within limit past g b.past bytes))
    (λ size unit k. none_stands limit past g laws b.past bytes f size unit (rest_stands (g.rests b.past) bytes _ size unit k))
