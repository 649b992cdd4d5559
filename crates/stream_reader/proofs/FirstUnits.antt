-- The first unit in front of bytes, and what follows them.
use Rattle.std.proofs.Common.{false, ◌≡◌, ◌≢◌, ℕ, ◌<◌, ◌≤◌, List, [], ◌∷◌, ◌++◌, length, drop, Result, Ok, Err, sym, ap, ◌∙◌, arith, ⊎_elim}
use Rattle.std.proofs.lemmas.Bool.{cases_lt}
use Rattle.std.proofs.lemmas.List.{length-drop}
use Rattle.bit_codes.specs.Bits.{bits_of}
use Rattle.bit_codes.proofs.BitLemmas.{length-bits}
use Rattle.field_rows.specs.Rows.{Fault, read}
use Rattle.field_rows.proofs.Pieces.{read-more_refused}
use Rattle.sequence_header.specs.declared.parts.HeaderParts.{HeaderParts}
use Rattle.run_theory.specs.Grammar.{bytes_at}
use Rattle.run_theory.specs.Fronts.{Stands, Refuses, front_by, front_of}
use Rattle.run_theory.proofs.GrammarLaws.{bytes_at-append}
use Rattle.stream_rows.specs.declared.reason.Reason.{Reason}
use Rattle.stream_rows.specs.declared.reason.Reason.TheVariants as reasons
use Rattle.stream_rows.specs.Refusals.{Refusal}
use Rattle.stream_rows.specs.Streams.{refusal_of}
use Rattle.stream_rows.specs.Units.{nothing_yet, Sequence, reason_of, unit_rows, units}
use Rattle.stream_reader.specs.Heads.{IsFirstUnit}
use Rattle.stream_reader.proofs.Before.{read-before}

-- it stands in front
pub first_stands : (bytes : List ℕ) (x : HeaderParts × ℕ) → IsFirstUnit bytes (Ok x) → front_of units nothing_yet bytes ≡ Stands x.1 (Sequence x.0)
first_stands bytes x h =
    ap (front_by units (λ fault. fault) false bytes) h.1
    ∙ ap (λ n. Stands n (Sequence x.0)) (omega (arith, h.0, length-bits (drop x.1 bytes), length-drop x.1 bytes))

-- it is refused
pub first_refused : (bytes : List ℕ) (refusal : Refusal) → IsFirstUnit bytes (Err refusal) → (fault : Fault Reason) × (refusal ≡ refusal_of fault) × (front_of units nothing_yet bytes ≡ Refuses fault)
first_refused bytes refusal h = (h.0, h.1, ap (front_by units (λ fault. fault) false bytes) h.2)

-- and is refused the same whatever follows, where the bytes didn't end too soon
pub first_stays_refused : (bytes more : List ℕ) (refusal : Refusal) → refusal.reason ≢ reasons.Truncated → IsFirstUnit bytes (Err refusal) → IsFirstUnit (bytes ++ more) (Err refusal)
first_stays_refused bytes more refusal other h = (
  h.0,
  h.1,
  ap (read reason_of (unit_rows nothing_yet)) (bytes_at-append 0 bytes more)
      ∙ read-more_refused reason_of (unit_rows nothing_yet) (bytes_at 0 bytes) h.0 (bits_of more) (record { whole = omega (arith, length-bits bytes) }) (λ e. other (ap (λ r. r.reason) h.1 ∙ e)) h.2,
)

-- Where the bytes without the last are no first unit, a first unit takes them all.
pub first_takes_all : (front : List ℕ) (byte : ℕ) (refusal : Refusal) (x : HeaderParts × ℕ) → IsFirstUnit front (Err refusal) → IsFirstUnit (front ++ byte ∷ []) (Ok x) → x.1 ≡ length (front ++ byte ∷ [])
first_takes_all front byte refusal x short h = ⊎_elim
    (λ (lt : x.1 < length (front ++ byte ∷ [])).
    let bits = bits_of (byte ∷ []) in
    let behind = bytes_at x.1 (drop x.1 (front ++ byte ∷ [])) in
    let before = read-before reason_of (unit_rows nothing_yet) (bytes_at 0 front) bits (Sequence x.0) behind
    (ap (read reason_of (unit_rows nothing_yet)) (sym (bytes_at-append 0 front (byte ∷ []))) ∙ h.1)
    (omega (arith, lt, length-bits (byte ∷ []), length-bits (drop x.1 (front ++ byte ∷ [])), length-drop x.1 (front ++ byte ∷ []))) in
    absurd (clash _ (Sequence x.0, before.of) _ short.2 before.reads))
    (λ (ge : length (front ++ byte ∷ []) ≤ x.1). omega (arith, h.0, ge))
    (cases_lt x.1 (length (front ++ byte ∷ [])))
  where
    clash : {A E : Type 0} (r : Result A E) (a : A) (f : E) → r ≡ Err f → r ≡ Ok a → ⊥
    clash r a f h k = cc
