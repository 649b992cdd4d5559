-- The line of a schedule is read as that schedule.
use Rattle.std.proofs.Common.{◌≡◌, ℕ, zero, suc, ◌+◌, ◌-◌, ◌*◌, ◌/◌, ◌%◌, ◌^◌, ◌<◌, ◌≤◌, ◌⊎◌, inl, inr, cond, eqb, Bool, true, false, List, [], ◌∷◌, ◌++◌, length, take, drop, get_or, Option, Some, None, Result, Ok, refl, sym, ap, subst, ◌∙◌, arith, append_assoc, eq-eqb, ne_eqb, eqb-true}
use Rattle.std.specs.Prelude.{◌&&◌, ◌||◌, not, codes, decimal, ◌==◌}
use Rattle.std.specs.Int.{is_in_range}
use Rattle.std.proofs.lemmas.Bool.{le-leb, cases_lt}
use Rattle.std.proofs.lemmas.List.{length-append, take_at}
use Rattle.std.proofs.Math.Nat.{pow-suc}
use Rattle.std.proofs.lemmas.List.Sums.{position_or_len_is}
use Rattle.std.proofs.Math.ListN.{get_or-append}
use Rattle.std.proofs.Math.Seq.{get_or-append_seam, drop-append-add}
use Rattle.std.specs.List.{position_or_len}
use Rattle.std.proofs.lemmas.Fmt.{decimal_step_wide, length-decimal-le_wide, decimal_digit}
use Rattle.channel_schedule.specs.declared.schedule.Schedule.{Schedule}
use Rattle.vc2_words.specs.declared.keys.Key.TheVariants as of_key
use Rattle.vc2_words.specs.declared.keys.Name.TheVariants as names
use Rattle.vc2_words.specs.declared.keys.WordFault.{WordFault}
use Rattle.vc2_words.specs.Forms.{digits_from, number_of_digits, in_range, single, cut_at, both_parts, value_in}
use Rattle.field_rows.specs.Rows.{and_then}
use Rattle.vc2_words.specs.Operands.{Table, nothing, with_value, cut_operand, operand, operands_from, missing, unless}
use Rattle.vc2_words.specs.Commands.{AskedCommand, check, command_of}
use Rattle.vc2_cli.specs.Words.{checked, words_ask}
use Rattle.vc2_cli.specs.Texts.{schedule_line}
use Rattle.vc2_cli.specs.ScheduleWords.{rate_word, delay_word, buffer_word, idle_word, idle_words, operands_of, words_of, spaced_words, HasWords, LineIsRead}

-- ---- a number's digits

in_digits : (c : ℕ) → 48 ≤ c → c ≤ 57 → is_in_range 48 57 c ≡ true
in_digits c low high = rw (le-leb 48 c low, le-leb c 57 high) refl

digits_push : (xs : List ℕ) (m v c : ℕ) → digits_from m xs ≡ Some v → 48 ≤ c → c ≤ 57 → digits_from m (xs ++ c ∷ []) ≡ Some (v * 10 + (c - 48))
digits_push [] m v c e low high =
    let same : m ≡ v = cc in
    ap (λ b. cond b (Some (m * 10 + (c - 48))) None) (in_digits c low high) ∙ ap (λ (k : ℕ). Some (k * 10 + (c - 48))) same
digits_push (x ∷ xs) m v c e low high = by (is_in_range 48 57 x) refl (λ f. digits_push xs (m * 10 + (x - 48)) v c f low high) e
  where
    by : (b : Bool) → is_in_range 48 57 x ≡ b → (digits_from (m * 10 + (x - 48)) xs ≡ Some v → digits_from (m * 10 + (x - 48)) (xs ++ c ∷ []) ≡ Some (v * 10 + (c - 48))) → cond b (digits_from (m * 10 + (x - 48)) xs) None ≡ Some v
        → cond (is_in_range 48 57 x) (digits_from (m * 10 + (x - 48)) (xs ++ c ∷ [])) None ≡ Some (v * 10 + (c - 48))
    by true t more f = ap (λ b. cond b (digits_from (m * 10 + (x - 48)) (xs ++ c ∷ [])) None) t ∙ more f
    by false t more f = absurd cc

-- what is true of the digits of a number
record Spelled (n : ℕ) (text : List ℕ) : Type 0 where
  reads : digits_from 0 text ≡ Some n
  digits : (k : ℕ) → k < length text → (48 ≤ get_or text k 0) × (get_or text k 0 ≤ 57)
  some : 1 ≤ length text
  front : (length text ≡ 1) ⊎ (49 ≤ get_or text 0 0)
  leads : 1 ≤ n → 49 ≤ get_or text 0 0

one_digit : (n : ℕ) → n < 10 → Spelled n ((48 + n) ∷ [])
one_digit n small = record {
  reads = ap (λ b. cond b (Some (0 * 10 + (48 + n - 48))) None) (in_digits (48 + n) (omega arith) (omega (arith, small))) ∙ ap (λ (k : ℕ). Some k) (omega arith);
  digits = digits_of;
  some = omega arith;
  front = inl refl;
  leads = λ some. omega (arith, some);
}
  where
    digits_of : (k : ℕ) → k < 1 → (48 ≤ get_or ((48 + n) ∷ []) k 0) × (get_or ((48 + n) ∷ []) k 0 ≤ 57)
    digits_of zero lt = (omega arith, omega (arith, small))
    digits_of (suc k) lt = absurd (omega (arith, lt))

one_more : (n : ℕ) (text : List ℕ) → 10 ≤ n → Spelled (n / 10) text → Spelled n (text ++ (48 + n % 10) ∷ [])
one_more n text big s =
    let c = 48 + n % 10 in
    let leads : 49 ≤ get_or (text ++ c ∷ []) 0 0 = subst (λ (v : ℕ). 49 ≤ v) (sym (get_or-append text (c ∷ []) 0 0 (omega (arith, s.some)))) (s.leads (omega (arith, big))) in
    record {
      reads = digits_push text 0 (n / 10) c s.reads (omega arith) (omega arith) ∙ ap (λ (k : ℕ). Some k) (omega arith);
      digits = digits_of;
      some = omega (arith, length-append text (c ∷ []));
      front = inr leads;
      leads = λ some. leads;
    }
  where
    digits_of : (k : ℕ) → k < length (text ++ (48 + n % 10) ∷ []) → (48 ≤ get_or (text ++ (48 + n % 10) ∷ []) k 0) × (get_or (text ++ (48 + n % 10) ∷ []) k 0 ≤ 57)
    digits_of k lt = elim (cases_lt k (length text)) [
      | inl inside ↦ subst (λ (v : ℕ). (48 ≤ v) × (v ≤ 57)) (sym (get_or-append text ((48 + n % 10) ∷ []) 0 k inside)) (s.digits k inside)
      | inr past ↦ (let at : k ≡ length text = omega (arith, lt, past, length-append text ((48 + n % 10) ∷ [])) in
          subst (λ (i : ℕ). (48 ≤ get_or (text ++ (48 + n % 10) ∷ []) i 0) × (get_or (text ++ (48 + n % 10) ∷ []) i 0 ≤ 57)) (sym at)
          (subst (λ (v : ℕ). (48 ≤ v) × (v ≤ 57)) (sym (get_or-append_seam text (48 + n % 10) [] 0)) (omega arith, omega arith)))
    ]

spelled : (k n : ℕ) → n < 10 ^ k → k ≤ 64 → n < 10 ^ 64 → Spelled n (decimal n)
spelled zero n small deep wide = subst (Spelled n) (sym (decimal_digit n (omega (arith, small)))) (one_digit n (omega (arith, small)))
spelled (suc k) n small deep wide = elim (cases_lt n 10) [
  | inl few ↦ subst (Spelled n) (sym (decimal_digit n few)) (one_digit n few)
  | inr big ↦ subst (Spelled n) (sym (decimal_step_wide n big wide)) (one_more n (decimal (n / 10)) big (spelled k (n / 10) (omega (arith, small, pow-suc 10 k)) (omega (arith, deep)) (omega (arith, wide))))
]

or_true : (b : Bool) → (b || true) ≡ true
or_true true = refl
or_true false = refl

-- a number of at most 22 digits is read as it is written
number_read : (n : ℕ) → n < 10 ^ 22 → number_of_digits (decimal n) ≡ Some n
number_read n small =
    let s = spelled 22 n small (omega arith) (omega (arith, small)) in
    let short = length-decimal-le_wide 22 n (omega arith) small (omega (arith, small)) in
    ap (λ b. cond b (digits_from 0 (decimal n)) None) (fine (decimal n) s.some short s.front) ∙ s.reads
  where
    fine : (text : List ℕ) → 1 ≤ length text → length text ≤ 22 → (length text ≡ 1) ⊎ (49 ≤ get_or text 0 0) → (is_in_range 1 22 (length text) && (length text == 1 || not (get_or text 0 0 == 48))) ≡ true
    fine text some short (inl one) = rw (le-leb 1 (length text) some, le-leb (length text) 22 short, eq-eqb (length text) 1 one) refl
    fine text some short (inr lead) = rw (le-leb 1 (length text) some, le-leb (length text) 22 short, ne_eqb (get_or text 0 0) 48 (λ e. omega (arith, e, lead))) (or_true (length text == 1))

ranged : (low high n : ℕ) (r : Option ℕ) → r ≡ Some n → low ≤ n → n ≤ high → in_range low high r ≡ Some n
ranged low high n r e some most = ap (in_range low high) e ∙ rw (le-leb low n some, le-leb n high most) refl

-- ---- a text in two parts

cut_there : (c : ℕ) (a b : List ℕ) → ((k : ℕ) → k < length a → eqb (get_or a k 0) c ≡ false) → cut_at c (a ++ c ∷ b) ≡ Some (a, b)
cut_there c a b none =
    let text = a ++ c ∷ b in
    let long : length text ≡ length a + suc (length b) = length-append a (c ∷ b) in
    let at : position_or_len (λ (x : ℕ). x == c) text ≡ length a =
    position_or_len_is (λ (x : ℕ). x == c) text (length a) 0 (omega (arith, long)) (λ k lt. ap (λ (v : ℕ). v == c) (get_or-append a (c ∷ b) 0 k lt) ∙ none k lt) (λ lt. ap (λ (v : ℕ). v == c) (get_or-append_seam a c b 0) ∙ eq-eqb c c refl) in
    let cut : ℕ → Option (List ℕ × List ℕ) = λ k. cond (eqb k (length text)) None (Some (take k text, drop (k + 1) text)) in
    ap cut at
    ∙ ap (λ t. cond t None (Some (take (length a) text, drop (length a + 1) text))) (ne_eqb (length a) (length text) (λ e. omega (arith, e, long)))
    ∙ ap (λ (l : List ℕ). Some (l, drop (length a + 1) text)) (take_at a (c ∷ b) (length a) refl)
    ∙ ap (λ (l : List ℕ). Some (a, l)) (drop-append-add a (c ∷ b) 1)

-- ---- the values

rate_read : (num den : ℕ) → 1 ≤ num → num < 2 ^ 32 → 1 ≤ den → den < 2 ^ 32 → value_in of_key.Rate (decimal num ++ 47 ∷ decimal den) ≡ Some (num ∷ den ∷ [])
rate_read num den a b c d =
    let s = spelled 22 num (omega (arith, b)) (omega arith) (omega (arith, b)) in
    ap (both_parts 1) (cut_there 47 (decimal num) (decimal den) (λ k lt. ne_eqb _ 47 (λ e. omega (arith, e, (s.digits k lt).0))))
    ∙ rw (ranged 1 (2 ^ 32 - 1) num (number_of_digits (decimal num)) (number_read num (omega (arith, b))) a (omega (arith, b)), ranged 1 (2 ^ 32 - 1) den (number_of_digits (decimal den)) (number_read den (omega (arith, d))) c (omega (arith, d))) refl

delay_read : (n : ℕ) → n ≤ 2 ^ 72 → value_in of_key.Delay (decimal n) ≡ Some (n ∷ [])
delay_read n most = ap single (ranged 0 (2 ^ 72) n (number_of_digits (decimal n)) (number_read n (omega (arith, most))) (omega arith) most)

buffer_read : (n : ℕ) → n ≤ 2 ^ 40 → value_in of_key.Buffer (decimal n) ≡ Some (n ∷ [])
buffer_read n most = ap single (ranged 0 (2 ^ 40) n (number_of_digits (decimal n)) (number_read n (omega (arith, most))) (omega arith) most)

idle_read : (n : ℕ) → n ≤ 2 ^ 20 → value_in of_key.Idle (decimal n) ≡ Some (n ∷ [])
idle_read n most = ap single (ranged 0 (2 ^ 20) n (number_of_digits (decimal n)) (number_read n (omega (arith, most))) (omega arith) most)

-- ---- the words

none_of_rate : (k : ℕ) → k < 4 → eqb (get_or (codes "rate") k 0) 61 ≡ false
none_of_rate zero lt = refl
none_of_rate (suc zero) lt = refl
none_of_rate (suc (suc zero)) lt = refl
none_of_rate (suc (suc (suc zero))) lt = refl
none_of_rate (suc (suc (suc (suc k)))) lt = absurd (omega (arith, lt))

none_of_delay : (k : ℕ) → k < 5 → eqb (get_or (codes "delay") k 0) 61 ≡ false
none_of_delay zero lt = refl
none_of_delay (suc zero) lt = refl
none_of_delay (suc (suc zero)) lt = refl
none_of_delay (suc (suc (suc zero))) lt = refl
none_of_delay (suc (suc (suc (suc zero)))) lt = refl
none_of_delay (suc (suc (suc (suc (suc k))))) lt = absurd (omega (arith, lt))

none_of_buffer : (k : ℕ) → k < 6 → eqb (get_or (codes "buffer") k 0) 61 ≡ false
none_of_buffer zero lt = refl
none_of_buffer (suc zero) lt = refl
none_of_buffer (suc (suc zero)) lt = refl
none_of_buffer (suc (suc (suc zero))) lt = refl
none_of_buffer (suc (suc (suc (suc zero)))) lt = refl
none_of_buffer (suc (suc (suc (suc (suc zero))))) lt = refl
none_of_buffer (suc (suc (suc (suc (suc (suc k)))))) lt = absurd (omega (arith, lt))

none_of_idle : (k : ℕ) → k < 4 → eqb (get_or (codes "idle") k 0) 61 ≡ false
none_of_idle zero lt = refl
none_of_idle (suc zero) lt = refl
none_of_idle (suc (suc zero)) lt = refl
none_of_idle (suc (suc (suc zero))) lt = refl
none_of_idle (suc (suc (suc (suc k)))) lt = absurd (omega (arith, lt))

module _ (s : Schedule) (h : HasWords s) where
  abbrev first : Table
  first = with_value nothing of_key.Rate (s.rate.num ∷ s.rate.den ∷ [])

  abbrev second : Table
  second = with_value first of_key.Delay (s.delay ∷ [])

  abbrev third : Table
  third = with_value second of_key.Buffer (s.size ∷ [])

  abbrev fourth : Table
  fourth = with_value third of_key.Idle (s.idle ∷ [])

  abbrev given : Table → Result Table WordFault
  given t = Ok t

  rate_given : operand names.Check 1 nothing (rate_word s) ≡ given first
  rate_given =
      ap (cut_operand names.Check 1 nothing) (cut_there 61 (codes "rate") (decimal s.rate.num ++ 47 ∷ decimal s.rate.den) none_of_rate)
      ∙ rw (rate_read s.rate.num s.rate.den h.lawful.rate.some_bytes h.bytes h.lawful.rate.some_slots h.slots) refl

  delay_given : operand names.Check 2 first (delay_word s) ≡ given second
  delay_given = ap (cut_operand names.Check 2 first) (cut_there 61 (codes "delay") (decimal s.delay) none_of_delay) ∙ rw (delay_read s.delay h.lawful.short) refl

  buffer_given : operand names.Check 3 second (buffer_word s) ≡ given third
  buffer_given = ap (cut_operand names.Check 3 second) (cut_there 61 (codes "buffer") (decimal s.size) none_of_buffer) ∙ rw (buffer_read s.size h.size) refl

  idle_given : operand names.Check 4 third (idle_word s) ≡ given fourth
  idle_given = ap (cut_operand names.Check 4 third) (cut_there 61 (codes "idle") (decimal s.idle) none_of_idle) ∙ rw (idle_read s.idle h.idle) refl

  three_given : (more : List (List ℕ)) → operands_from names.Check 1 nothing (rate_word s ∷ delay_word s ∷ buffer_word s ∷ more) ≡ operands_from names.Check 4 third more
  three_given more =
      ap (λ (r : Result Table WordFault). and_then r (λ next. operands_from names.Check 2 next (delay_word s ∷ buffer_word s ∷ more))) rate_given
      ∙ ap (λ (r : Result Table WordFault). and_then r (λ next. operands_from names.Check 3 next (buffer_word s ∷ more))) delay_given
      ∙ ap (λ (r : Result Table WordFault). and_then r (λ next. operands_from names.Check 4 next more)) buffer_given

  -- what operands of `check` ask for
  abbrev asked_with : Result Table WordFault → Result AskedCommand WordFault
  asked_with r = checked (and_then (and_then r (λ t. unless (missing names.Check t) t)) (λ t. command_of names.Check t))

  asked : words_ask (words_of s) ≡ Ok (check (Some s))
  asked = ap asked_with (three_given (idle_words s)) ∙ by (s.idle == 0) refl
    where
      by : (none : Bool) → (s.idle == 0) ≡ none → asked_with (operands_from names.Check 4 third (cond none [] (idle_word s ∷ []))) ≡ Ok (check (Some s))
      by true t = ap (λ (k : ℕ). let c : Result AskedCommand WordFault = Ok (check (Some (record s { idle = k }))) in c) (sym (eqb-true s.idle 0 t))
      by false t = ap (λ (r : Result Table WordFault). asked_with (and_then r (λ next. operands_from names.Check 5 next []))) idle_given

  -- the last words, and the line's end
  last_words : (none : Bool) → spaced_words (buffer_word s ∷ cond none [] (idle_word s ∷ [])) ++ 10 ∷ [] ≡ codes "buffer=" ++ (decimal s.size ++ (cond none [] (codes " " ++ idle_word s) ++ 10 ∷ []))
  last_words true = refl
  last_words false = ap (λ (l : List ℕ). codes "buffer=" ++ l) (append_assoc (decimal s.size) (codes " " ++ idle_word s) (10 ∷ []))

  line : schedule_line s ≡ spaced_words (operands_of s) ++ 10 ∷ []
  unfolding schedule_line
  line =
      let tail = spaced_words (buffer_word s ∷ idle_words s) in
      let nl : List ℕ = 10 ∷ [] in
      let rest = codes " " ++ (delay_word s ++ (codes " " ++ tail)) in
      sym (
      ap (λ (l : List ℕ). codes "rate=" ++ (l ++ nl)) (append_assoc (decimal s.rate.num) (codes "/" ++ decimal s.rate.den) rest)
      ∙ ap (λ (l : List ℕ). codes "rate=" ++ l) (append_assoc (decimal s.rate.num) (codes "/" ++ (decimal s.rate.den ++ rest)) nl)
      ∙ ap (λ (l : List ℕ). codes "rate=" ++ (decimal s.rate.num ++ (codes "/" ++ l))) (append_assoc (decimal s.rate.den) rest nl)
      ∙ ap (λ (l : List ℕ). codes "rate=" ++ (decimal s.rate.num ++ (codes "/" ++ (decimal s.rate.den ++ (codes " delay=" ++ l))))) (append_assoc (decimal s.delay) (codes " " ++ tail) nl)
      ∙ ap (λ (l : List ℕ). codes "rate=" ++ (decimal s.rate.num ++ (codes "/" ++ (decimal s.rate.den ++ (codes " delay=" ++ (decimal s.delay ++ (codes " " ++ l))))))) (last_words (s.idle == 0))
      )

pub line_is_read : (s : Schedule) → HasWords s → LineIsRead s
line_is_read s h = record { line = line s h; asked = asked s h }
