-- The first fault of operands, and operands in another order.
use Rattle.std.proofs.Common.{◌≡◌, ◌≢◌, ℕ, ◌+◌, true, false, List, [], ◌∷◌, ◌++◌, Some, None, Ok, Err, length, get_or, refl, sym, ap, ◌∙◌, arith}
use Rattle.std.specs.Prelude.{Option, Bool, Result, is_some, set, if◌then◌else◌}
use Rattle.std.proofs.lemmas.Bool.{false≢true}
use Rattle.std.proofs.lemmas.List.{get_or-set_same, get_or-set_other, length-set, set_comm}
use Rattle.vc2_words.specs.declared.keys.TheConstants.{KEY_COUNT}
use Rattle.vc2_words.specs.declared.keys.Key.{Key}
use Rattle.vc2_words.specs.declared.keys.Name.{Name}
use Rattle.vc2_words.specs.declared.keys.WordFault.{WordFault}
use Rattle.vc2_words.specs.Keys.{name_of, key_of, takes, place_of}
use Rattle.vc2_words.specs.Forms.{cut_at, value_in}
use Rattle.field_rows.specs.Rows.{and_then}
use Rattle.vc2_words.specs.Operands.{Table, nothing, value_of, with_value, table_with, table_under, cut_operand, operand, operands_from, operands_of, unless, missing}
use Rattle.vc2_words.specs.Commands.{AskedCommand, asked_by, command_named, command_of}
use Rattle.vc2_words.specs.Order.{IsFirstFault, FirstIsTold}
use Rattle.vc2_words.proofs.Plainness.{in_table, nothing_read}

-- ---- the first fault

abbrev taken_as : Table → Result Table WordFault
taken_as g = Ok g

ok_err : {G : Type 0} {fault : WordFault} {a : Table} → Ok a ≡ Err fault → G
ok_err e = absurd (let h = e in cc)

ok_same : {a b : Table} → taken_as a ≡ taken_as b → a ≡ b
ok_same e = cc

err_ok : {G : Type 0} {fault : WordFault} {a : Table} → Err fault ≡ taken_as a → G
err_ok e = absurd (let h = e in cc)

pub first_of : (name : Name) (i : ℕ) (given : Table) (words : List (List ℕ)) (fault : WordFault) → operands_from name i given words ≡ Err fault → IsFirstFault name i given words fault
first_of name i given [] fault e = ok_err e
first_of name i given (word ∷ words) fault e = step (λ next. first_of name (i + 1) next words fault) (operand name i given word) refl e
  where
    step : ((next : Table) → operands_from name (i + 1) next words ≡ Err fault → IsFirstFault name (i + 1) next words fault) → (r : Result Table WordFault) → operand name i given word ≡ r
        → and_then r (λ next. operands_from name (i + 1) next words) ≡ Err fault → IsFirstFault name i given (word ∷ words) fault
    step others (Err other) is e = record {
      front = [];
      word = word;
      back = words;
      words_are = refl;
      taken = given;
      takes = refl;
      refuses = let none : i + 0 ≡ i = omega arith in ap (λ j. operand name j given word) none ∙ is ∙ e;
    }
    step others (Ok next) is e =
        let rest = others next e in
        record {
          front = word ∷ rest.front;
          word = rest.word;
          back = rest.back;
          words_are = ap (λ l. word ∷ l) rest.words_are;
          taken = rest.taken;
          takes = ap (λ r. and_then r (λ g. operands_from name (i + 1) g rest.front)) is ∙ rest.takes;
          refuses = let more : i + length (word ∷ rest.front) ≡ i + 1 + length rest.front = omega arith in ap (λ j. operand name j rest.taken rest.word) more ∙ rest.refuses;
        }

-- behind words that are taken
pub behind_taken : (name : Name) (i : ℕ) (given taken : Table) (front back : List (List ℕ)) → operands_from name i given front ≡ Ok taken
    → operands_from name i given (front ++ back) ≡ operands_from name (i + length front) taken back
behind_taken name i given taken [] back e =
    let none : i ≡ i + 0 = omega arith in
    ap (λ j. operands_from name j given back) none ∙ ap (λ g. operands_from name (i + 0) g back) (ok_same e)
behind_taken name i given taken (word ∷ front) back e = step (λ next. behind_taken name (i + 1) next taken front back) (operand name i given word) refl e
  where
    step : ((next : Table) → operands_from name (i + 1) next front ≡ Ok taken → operands_from name (i + 1) next (front ++ back) ≡ operands_from name (i + 1 + length front) taken back)
        → (r : Result Table WordFault) → operand name i given word ≡ r → and_then r (λ next. operands_from name (i + 1) next front) ≡ Ok taken
        → operands_from name i given ((word ∷ front) ++ back) ≡ operands_from name (i + length (word ∷ front)) taken back
    step others (Err fault) is e = err_ok e
    step others (Ok next) is e =
        let more : i + 1 + length front ≡ i + length (word ∷ front) = omega arith in
        ap (λ r. and_then r (λ g. operands_from name (i + 1) g (front ++ back))) is ∙ (others next e ∙ ap (λ j. operands_from name j taken back) more)

pub told_of : (name : Name) (words : List (List ℕ)) (fault : WordFault) → IsFirstFault name 1 nothing words fault → operands_from name 1 nothing words ≡ Err fault
told_of name words fault f =
    ap (operands_from name 1 nothing) f.words_are ∙ (behind_taken name 1 nothing f.taken f.front (f.word ∷ f.back) f.takes
    ∙ ap (λ r. and_then r (λ g. operands_from name (1 + length f.front + 1) g f.back)) f.refuses)

pub first_is_told : (name : Name) (words : List (List ℕ)) (fault : WordFault) → FirstIsTold name words fault
first_is_told name words fault = record { told = told_of name words fault; first = first_of name 1 nothing words fault }

-- ---- words in another order

-- what it takes for a word to be taken, and what is left
record IsTaken (name : Name) (given : Table) (word : List ℕ) (next : Table) : Type 0 where
  parts : List ℕ × List ℕ
  cut : cut_at 61 word ≡ Some parts
  key : Key
  named_key : key_of parts.0 ≡ Some key
  may : takes name key ≡ true
  free : is_some (value_of given key) ≡ false
  numbers : List ℕ
  reads : value_in key parts.1 ≡ Some numbers
  next_is : with_value given key numbers ≡ next

taken_of : (name : Name) (i : ℕ) (given : Table) (word : List ℕ) (next : Table) → operand name i given word ≡ Ok next → IsTaken name given word next
taken_of name i given word next e = by_cut (cut_at 61 word) refl e
  where
    by_value : (p : List ℕ × List ℕ) (key : Key) → cut_at 61 word ≡ Some p → key_of p.0 ≡ Some key → takes name key ≡ true → is_some (value_of given key) ≡ false → (v : Option (List ℕ)) → value_in key p.1 ≡ v → table_with i given key v ≡ Ok next → IsTaken name given word next
    by_value p key cut named_key may free None reads e = err_ok e
    by_value p key cut named_key may free (Some ns) reads e = record { parts = p; cut = cut; key = key; named_key = named_key; may = may; free = free; numbers = ns; reads = reads; next_is = ok_same e }

    by_tests : (p : List ℕ × List ℕ) (key : Key) → cut_at 61 word ≡ Some p → key_of p.0 ≡ Some key → (t s : Bool) (repeated unknown : WordFault) → takes name key ≡ t → is_some (value_of given key) ≡ s
        → (if t then (if s then Err repeated else table_with i given key (value_in key p.1)) else Err unknown) ≡ Ok next → IsTaken name given word next
    by_tests p key cut named_key false s repeated unknown may free e = err_ok e
    by_tests p key cut named_key true true repeated unknown may free e = err_ok e
    by_tests p key cut named_key true false repeated unknown may free e = by_value p key cut named_key may free (value_in key p.1) refl e

    by_key : (p : List ℕ × List ℕ) → cut_at 61 word ≡ Some p → (k : Option Key) → key_of p.0 ≡ k → table_under name i given p.1 k ≡ Ok next → IsTaken name given word next
    by_key p cut None named_key e = err_ok e
    by_key p cut (Some key) named_key e = by_tests p key cut named_key (takes name key) (is_some (value_of given key)) _ _ refl refl e

    by_cut : (c : Option (List ℕ × List ℕ)) → cut_at 61 word ≡ c → cut_operand name i given c ≡ Ok next → IsTaken name given word next
    by_cut None cut e = err_ok e
    by_cut (Some p) cut e = by_key p cut (key_of p.0) refl e

-- such a word is taken at any place and behind others, where its key is free
taken_at : (name : Name) (i : ℕ) (given : Table) (word : List ℕ) (next : Table) (t : IsTaken name given word next) (other : Table) → is_some (value_of other t.key) ≡ false → operand name i other word ≡ Ok (with_value other t.key t.numbers)
taken_at name i given word next t other free = rw (t.cut, t.named_key, t.may, free, t.reads) refl

abbrev HasPlaces : Table → Type 0
HasPlaces given = length given ≡ KEY_COUNT

-- two words that are taken, exchanged
exchanged : (name : Name) (i : ℕ) (given one two : Table) (a b : List ℕ) (back : List (List ℕ)) → HasPlaces given → operand name i given a ≡ Ok one → operand name (i + 1) one b ≡ Ok two
    → operands_from name i given (b ∷ a ∷ back) ≡ operands_from name (i + 1 + 1) two back
exchanged name i given one two a b back many first second =
    let ta = taken_of name i given a one first in
    let tb = taken_of name (i + 1) one b two second in
    let pa = place_of ta.key in
    let pb = place_of tb.key in
    let held : get_or (set given pa (Some ta.numbers)) pa None ≡ Some ta.numbers = get_or-set_same given pa (Some ta.numbers) None (omega (arith, in_table ta.key, many)) in
    let b_free : is_some (value_of (with_value given ta.key ta.numbers) tb.key) ≡ false = ap (λ g. is_some (value_of g tb.key)) ta.next_is ∙ tb.free in
    let apart : pb ≢ pa = λ same. false≢true (sym b_free ∙ (ap (λ j. is_some (get_or (set given pa (Some ta.numbers)) j None)) same ∙ ap (λ v. is_some v) held)) in
    let apart_2 : pa ≢ pb = λ same. apart (sym same) in
    let before : is_some (value_of given tb.key) ≡ false = ap (λ v. is_some v) (sym (get_or-set_other given pa pb (Some ta.numbers) None apart)) ∙ b_free in
    let behind : is_some (value_of (with_value given tb.key tb.numbers) ta.key) ≡ false = ap (λ v. is_some v) (get_or-set_other given pb pa (Some tb.numbers) None apart_2) ∙ ta.free in
    let same : set (set given pb (Some tb.numbers)) pa (Some ta.numbers) ≡ two = set_comm given pb pa (Some tb.numbers) (Some ta.numbers) apart ∙ (ap (λ g. set g pb (Some tb.numbers)) ta.next_is ∙ tb.next_is) in
    ap (λ r. and_then r (λ next. operands_from name (i + 1) next (a ∷ back))) (taken_at name i one b two tb given before)
    ∙ (ap (λ r. and_then r (λ next. operands_from name (i + 1 + 1) next back)) (taken_at name (i + 1) given a one ta (with_value given tb.key tb.numbers) behind)
    ∙ ap (λ g. operands_from name (i + 1 + 1) g back) same)

pair_exchanged : (name : Name) (i : ℕ) (given last : Table) (a b : List ℕ) (back : List (List ℕ)) → HasPlaces given → operands_from name i given (a ∷ b ∷ back) ≡ Ok last → operands_from name i given (b ∷ a ∷ back) ≡ Ok last
pair_exchanged name i given last a b back many e = one (operand name i given a) refl e
  where
    two : (g : Table) → operand name i given a ≡ Ok g → (r : Result Table WordFault) → operand name (i + 1) g b ≡ r → and_then r (λ next. operands_from name (i + 1 + 1) next back) ≡ Ok last → operands_from name i given (b ∷ a ∷ back) ≡ Ok last
    two g first (Err fault) second e = err_ok e
    two g first (Ok h) second e = exchanged name i given g h a b back many first second ∙ e

    one : (r : Result Table WordFault) → operand name i given a ≡ r → and_then r (λ next. operands_from name (i + 1) next (b ∷ back)) ≡ Ok last → operands_from name i given (b ∷ a ∷ back) ≡ Ok last
    one (Err fault) first e = err_ok e
    one (Ok g) first e = two g first (operand name (i + 1) g b) refl e

all_exchanged : (name : Name) (i : ℕ) (given last : Table) (front back : List (List ℕ)) (a b : List ℕ) → HasPlaces given → operands_from name i given (front ++ (a ∷ b ∷ back)) ≡ Ok last → operands_from name i given (front ++ (b ∷ a ∷ back)) ≡ Ok last
all_exchanged name i given last [] back a b many e = pair_exchanged name i given last a b back many e
all_exchanged name i given last (word ∷ front) back a b many e = step (λ next kept. all_exchanged name (i + 1) next last front back a b kept) (operand name i given word) refl e
  where
    step : ((next : Table) → HasPlaces next → operands_from name (i + 1) next (front ++ (a ∷ b ∷ back)) ≡ Ok last → operands_from name (i + 1) next (front ++ (b ∷ a ∷ back)) ≡ Ok last)
        → (r : Result Table WordFault) → operand name i given word ≡ r → and_then r (λ next. operands_from name (i + 1) next (front ++ (a ∷ b ∷ back))) ≡ Ok last
        → operands_from name i given ((word ∷ front) ++ (b ∷ a ∷ back)) ≡ Ok last
    step others (Err fault) is e = err_ok e
    step others (Ok next) is e =
        let t = taken_of name i given word next is in
        let kept : HasPlaces next = ap length (sym t.next_is) ∙ (length-set given (place_of t.key) (Some t.numbers) ∙ many) in
        ap (λ r. and_then r (λ g. operands_from name (i + 1) g (front ++ (b ∷ a ∷ back)))) is ∙ others next kept e

abbrev asks : AskedCommand → Result AskedCommand WordFault
asks c = Ok c

err_asks : {G : Type 0} {fault : WordFault} {c : AskedCommand} → Err fault ≡ asks c → G
err_asks e = absurd (let h = e in cc)

pub order_is_free : (word a b : List ℕ) (front back : List (List ℕ)) (command : AskedCommand) → asked_by (word ∷ (front ++ (a ∷ b ∷ back))) ≡ asks command → asked_by (word ∷ (front ++ (b ∷ a ∷ back))) ≡ asks command
order_is_free word a b front back command e = here (name_of word) e
  where
    by_table : (name : Name) (r : Result Table WordFault) → operands_from name 1 nothing (front ++ (a ∷ b ∷ back)) ≡ r
        → and_then (and_then r (λ given. unless (missing name given) given)) (λ given. command_of name given) ≡ asks command
        → and_then (operands_of name (front ++ (b ∷ a ∷ back))) (λ given. command_of name given) ≡ asks command
    by_table name (Err fault) is e = err_asks e
    by_table name (Ok g) is e =
        ap (λ r. and_then (and_then r (λ given. unless (missing name given) given)) (λ given. command_of name given)) (all_exchanged name 1 nothing g front back a b nothing_read.many is) ∙ e

    here : (n : Option Name) → command_named n (front ++ (a ∷ b ∷ back)) ≡ asks command → command_named n (front ++ (b ∷ a ∷ back)) ≡ asks command
    here None e = err_asks e
    here (Some name) e = by_table name (operands_from name 1 nothing (front ++ (a ∷ b ∷ back))) refl e
