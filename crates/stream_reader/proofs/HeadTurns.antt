-- How the head of a unit comes out, in any table whose units begin with one.
use Rattle.std.proofs.Common.{◌≡◌, ℕ, ◌+◌, ◌<◌, Bool, true, false, List, [], ◌++◌, length, take, drop, min, Option, Ok, Err, refl, sym, ap, subst, ◌∙◌, arith}
use Rattle.std.proofs.lemmas.List.{length-take, length-drop, take-append-drop, take_all, nil_from_length}
use Rattle.bit_codes.specs.Bits.{bits_of}
use Rattle.bit_codes.proofs.BitLemmas.{length-bits}
use Rattle.field_rows.specs.Rows.{Rows, ◌>>=◌, Fault, read}
use Rattle.field_rows.proofs.Pieces.{read-more_refused}
use Rattle.field_rows.proofs.Reading.{then_err}
use Rattle.parse_info.specs.declared.ParseInfo.{ParseInfo}
use Rattle.run_theory.specs.Grammar.{Grammar, bytes_at}
use Rattle.run_theory.specs.Begun.{Begun}
use Rattle.run_theory.proofs.Begins.{begun_use}
use Rattle.run_theory.proofs.Fields.{moves_group}
use Rattle.run_theory.proofs.GrammarLaws.{bytes_at-append}
use Rattle.stream_rows.specs.declared.reason.Reason.{Reason}
use Rattle.stream_rows.specs.Refusals.{Refusal}
use Rattle.stream_rows.specs.Units.{reason_of, is_truncated}
use Rattle.stream_rows.specs.Streams.{refusal_of}
use Rattle.stream_reader.specs.Heads.{HeadAt}
use Rattle.stream_reader.proofs.Reasons.{IsTable, truncated, not_truncated}

-- a head that stands in the first 13 of the bytes that are held
pub head_stands : {Z U : Type 0} {place : ℕ} {g : Grammar Z Reason U} {z : Z} {held0 held1 : List ℕ} {rest0 rest1 : Option (List ℕ)} (table : IsTable g) (head : Rows Reason ParseInfo) (others : ParseInfo → Rows Reason U) (front still : List ℕ) (info : ParseInfo)
    → Begun g z held0 rest0 rest1 place held1 (head >>= others) → front ≡ take (min (length held1) 13) held1 → HeadAt head place front (Ok info) → still ≡ drop 13 held1 → Begun g z held0 rest0 rest1 (place + 13) still (others info)
head_stands {place = place} {g = g} {z = z} {held0 = held0} {held1 = held1} {rest0 = rest0} {rest1 = rest1} table head others front still info b is h left =
    let size : length front ≡ 13 = omega (arith, ap (λ (l : List ℕ). length l) is, length-take (min (length held1) 13) held1, h.0) in
    let exact : min (length held1) 13 ≡ 13 = omega (arith, ap (λ (l : List ℕ). length l) is, length-take (min (length held1) 13) held1, h.0) in
    let none : drop 13 front ≡ [] = nil_from_length (drop 13 front) (omega (arith, length-drop 13 front, size)) in
    let split : held1 ≡ front ++ still = sym (ap (λ l. l ++ still) (is ∙ ap (λ n. take n held1) exact) ∙ ap (λ l. take 13 held1 ++ l) left ∙ take-append-drop 13 held1) in
    let here : read g.reason_of head (bytes_at place front) ≡ Ok (info, bytes_at (place + length front) []) = ap (λ f. read f head (bytes_at place front)) table.names ∙ h.1 ∙ ap (λ l. Ok (info, bytes_at (place + 13) l)) none ∙ ap (λ n. Ok (info, bytes_at (place + n) [])) (sym size) in
    subst (λ p. Begun g z held0 rest0 rest1 p still (others info)) (omega (arith, size)) (begun_use table.laws front still (others info) b split (moves_group g head others place front info here))

-- the fault of a head, in all that is held
pub head_fault : {Z U : Type 0} {g : Grammar Z Reason U} (table : IsTable g) (place : ℕ) (held : List ℕ) (head : Rows Reason ParseInfo) (others : ParseInfo → Rows Reason U) (front : List ℕ) (refusal : Refusal) → front ≡ take (min (length held) 13) held → HeadAt head place front (Err refusal)
    → (fault : Fault Reason) × (refusal ≡ refusal_of fault) × (read g.reason_of (head >>= others) (bytes_at place held) ≡ Err fault)
head_fault {g = g} table place held head others front refusal is h = (h.0, h.1, then_err g.reason_of head others (bytes_at place held) h.0 (ap (λ f. read f head (bytes_at place held)) table.names ∙ by (is_truncated h.0.reason) refl))
  where
    long : length front ≡ min (length held) 13
    long = omega (arith, ap (λ (l : List ℕ). length l) is, length-take (min (length held) 13) held)

    by : (cut : Bool) → is_truncated h.0.reason ≡ cut → read reason_of head (bytes_at place held) ≡ Err h.0
    by true e =
        let few : length front < 13 = h.3 (truncated h.0.reason e) in
        let all : front ≡ held = is ∙ take_all (min (length held) 13) held (omega (arith, few, long)) in
        ap (λ l. read reason_of head (bytes_at place l)) (sym all) ∙ h.2
    by false e =
        let tail = drop (min (length held) 13) held in
        ap (λ l. read reason_of head (bytes_at place l)) (sym (ap (λ l. l ++ tail) is ∙ take-append-drop (min (length held) 13) held))
        ∙ ap (read reason_of head) (bytes_at-append place front tail)
        ∙ read-more_refused reason_of head (bytes_at place front) h.0 (bits_of tail) (record { whole = omega (arith, length-bits front) }) (not_truncated h.0.reason e) h.2

-- a head that is short is short in few bytes
pub head_few : (place : ℕ) (held : List ℕ) (head : Rows Reason ParseInfo) (front : List ℕ) (refusal : Refusal) → front ≡ take (min (length held) 13) held → HeadAt head place front (Err refusal) → is_truncated refusal.reason ≡ true → length held < 13
head_few place held head front refusal is h cut =
    let e : is_truncated h.0.reason ≡ true = ap (λ (r : Refusal). is_truncated r.reason) (sym h.1) ∙ cut in
    omega (arith, h.3 (truncated h.0.reason e), ap (λ (l : List ℕ). length l) is, length-take (min (length held) 13) held)
