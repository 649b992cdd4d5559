-- A look at one list and a look at another make that of both, and tell how far codes reach.
use Rattle.std.proofs.Common.{◌≡◌, ◌∙◌, ap, refl, sym, ℕ, zero, suc, ◌+◌, ◌-◌, ◌*◌, ◌<◌, ◌≤◌, Bool, List, [], ◌∷◌, ◌++◌, length, map, take, drop, get_or, arith, inl, inr, ℤ, pos, negsuc}
use Rattle.std.specs.Prelude.{unsigned_abs}
use Rattle.std.proofs.lemmas.Bool.{cases_lt}
use Rattle.std.proofs.lemmas.Grind.{flat_map-append}
use Rattle.std.proofs.lemmas.List.{length-append, length-map, take_all, get_or_append_left, get_or-append_right, get_or-map}
use Rattle.bit_codes.specs.Codes.{signed_code_of}
use Rattle.bounded_blocks.specs.Writing.{codes_of}
use Rattle.bounded_blocks.proofs.Needs.{code-zero}
use Rattle.bounded_blocks.proofs.CodeLengths.{codes_of-next, length-codes_of-most}
use Rattle.slice_encoder.specs.declared.looks.Look.{Look}
use Rattle.slice_encoder.specs.Looks.{IsLook}
use Rattle.slice_encoder.specs.Gathering.{reach}
use Rattle.slice_encoder.specs.TrialLaws.{AreSmallValues}
use Rattle.slice_encoder.proofs.Reaches.{code_rises}
use Rattle.slice_encoder.proofs.LastReaches.{reach_to_last, reach_without}

-- ---- two lists

joined_bits : (vs ws : List ℤ) → length (codes_of (vs ++ ws)) ≡ length (codes_of vs) + length (codes_of ws)
joined_bits vs ws = ap (λ (t : List Bool). length t) (flat_map-append signed_code_of vs ws) ∙ length-append (codes_of vs) (codes_of ws)

module _ (l m : Look) (vs ws : List ℤ) (one : IsLook l vs) (two : IsLook m ws) where
  -- nothing that isn't 0 stands in the second
  pub joined_front : m.last ≡ 0 → IsLook (record { some = l.some + m.some; more = l.more + m.more; last = l.last }) (vs ++ ws)
  joined_front none = record {
    bits = omega (arith, joined_bits vs ws, length-append vs ws, one.bits, two.bits);
    most = omega (arith, one.most, length-append vs ws);
    zeros = λ p le lt. elim (cases_lt p (length vs)) [
      | inl here ↦ get_or_append_left vs ws (pos 0) p here ∙ one.zeros p le here
      | inr behind ↦ get_or-append_right vs ws (length vs) p (pos 0) refl behind ∙ two.zeros (p - length vs) (omega (arith, none)) (omega (arith, lt, behind, length-append vs ws))
    ];
    some = λ there is. one.some there (sym (get_or_append_left vs ws (pos 0) (l.last - 1) (omega (arith, there, one.most))) ∙ is);
  }

  pub joined : (places : ℕ) → length vs ≡ places → 0 < m.last → IsLook (record { some = l.some + m.some; more = l.more + m.more; last = places + m.last }) (vs ++ ws)
  joined places count there = record {
    bits = omega (arith, joined_bits vs ws, length-append vs ws, one.bits, two.bits);
    most = omega (arith, two.most, length-append vs ws, count);
    zeros = λ p le lt. get_or-append_right vs ws places p (pos 0) count (omega (arith, le)) ∙ two.zeros (p - places) (omega (arith, le)) (omega (arith, lt, le, there, length-append vs ws, count));
    some = λ _ is.
        let at : places + m.last - 1 - places ≡ m.last - 1 = omega (arith, there) in
        two.some there (ap (λ (k : ℕ). get_or ws k (pos 0)) (sym at) ∙ sym (get_or-append_right vs ws places (places + m.last - 1) (pos 0) count (omega (arith, there))) ∙ is);
  }

-- ---- how far codes reach

module _ (l : Look) (vs : List ℤ) (look : IsLook l vs) where
  -- zeros behind the last value that isn't one take a bit each, and no code reaches them
  tail_bits : (d : ℕ) → l.last + d ≤ length vs → length (codes_of (take (l.last + d) vs)) ≡ length (codes_of (take l.last vs)) + d
  tail_bits zero le = let same : l.last + 0 ≡ l.last = omega arith in omega (arith, ap (λ (k : ℕ). length (codes_of (take k vs))) same)
  tail_bits (suc d) le =
      let n : ℕ = l.last + d in
      let next : l.last + suc d ≡ n + 1 = omega arith in
      let none : get_or vs n (pos 0) ≡ pos 0 = look.zeros n (omega arith) (omega (arith, le)) in
      omega (
        arith,
        tail_bits d (omega (arith, le)),
        ap (λ (k : ℕ). length (codes_of (take k vs))) next,
        ap (λ (t : List Bool). length t) (codes_of-next vs n (omega (arith, le))),
        length-append (codes_of (take n vs)) (signed_code_of (get_or vs n (pos 0))),
        ap (λ (z : ℤ). length (signed_code_of z)) none,
        ap (λ (t : List Bool). length t) code-zero,
      )

  tail_reach : (d : ℕ) → l.last + d ≤ length vs → reach (take (l.last + d) vs) 0 ≡ reach (take l.last vs) 0
  tail_reach zero le = let same : l.last + 0 ≡ l.last = omega arith in ap (λ (k : ℕ). reach (take k vs) 0) same
  tail_reach (suc d) le =
      let n : ℕ = l.last + d in
      let next : l.last + suc d ≡ n + 1 = omega arith in
      ap (λ (k : ℕ). reach (take k vs) 0) next ∙ reach_without vs n (omega (arith, le)) (look.zeros n (omega arith) (omega (arith, le))) ∙ tail_reach d (omega (arith, le))

  pub reach_is : l.last + 3 * l.some + 2 * l.more ≡ reach vs 0
  reach_is =
      let d : ℕ = length vs - l.last in
      let whole : l.last + d ≡ length vs = omega (arith, look.most) in
      let all : take (l.last + d) vs ≡ vs = take_all (l.last + d) vs (omega (arith, whole)) in
      omega (
        arith,
        look.bits,
        look.most,
        tail_bits d (omega (arith, whole)),
        ap (λ (t : List ℤ). length (codes_of t)) all,
        reach_to_last vs l.last look.most look.some,
        tail_reach d (omega (arith, whole)),
        ap (λ (t : List ℤ). reach t 0) all,
      )

  -- A code has at most 74 bits.
  pub look_few : AreSmallValues vs → 3 * l.some + 2 * l.more ≤ 74 * length vs
  look_few small = omega (arith, look.bits, length-codes_of-most vs small)

-- ---- values as great

same_bits : (v w : ℤ) → unsigned_abs v ≡ unsigned_abs w → length (signed_code_of v) ≡ length (signed_code_of w)
same_bits v w e = omega (arith, code_rises v w (omega (arith, e)), code_rises w v (omega (arith, e)))

same_codes : (vs ws : List ℤ) → map unsigned_abs vs ≡ map unsigned_abs ws → length (codes_of vs) ≡ length (codes_of ws)
same_codes [] [] e = refl
same_codes [] (w ∷ ws) e = absurd (omega (arith, ap (λ (t : List ℕ). length t) e))
same_codes (v ∷ vs) [] e = absurd (omega (arith, ap (λ (t : List ℕ). length t) e))
same_codes (v ∷ vs) (w ∷ ws) e =
    omega (
      arith,
      length-append (signed_code_of v) (codes_of vs),
      length-append (signed_code_of w) (codes_of ws),
      same_bits v w (ap (λ (t : List ℕ). get_or t 0 0) e),
      same_codes vs ws (ap (λ (t : List ℕ). drop 1 t) e),
    )

no_size : (v : ℤ) → unsigned_abs v ≡ 0 → v ≡ pos 0
no_size (pos zero) e = refl
no_size (pos (suc n)) e = absurd (omega arith)
no_size (negsuc n) e = absurd (omega arith)

module _ (l : Look) (vs ws : List ℤ) (same : map unsigned_abs vs ≡ map unsigned_abs ws) where
  same_count : length vs ≡ length ws
  same_count = sym (length-map vs unsigned_abs) ∙ ap (λ (t : List ℕ). length t) same ∙ length-map ws unsigned_abs

  same_at : (p : ℕ) → p < length vs → unsigned_abs (get_or vs p (pos 0)) ≡ unsigned_abs (get_or ws p (pos 0))
  same_at p lt = sym (get_or-map unsigned_abs vs p (pos 0) 0 lt) ∙ ap (λ (t : List ℕ). get_or t p 0) same ∙ get_or-map unsigned_abs ws p (pos 0) 0 (omega (arith, lt, same_count))

  -- A look tells the same of values as great.
  pub same_look : IsLook l vs → IsLook l ws
  same_look look = record {
    bits = omega (arith, look.bits, same_codes vs ws same, same_count);
    most = omega (arith, look.most, same_count);
    zeros = λ p le lt. no_size (get_or ws p (pos 0)) (sym (same_at p (omega (arith, lt, same_count))) ∙ ap unsigned_abs (look.zeros p le (omega (arith, lt, same_count))));
    some = λ there is. look.some there (no_size (get_or vs (l.last - 1) (pos 0)) (same_at (l.last - 1) (omega (arith, there, look.most)) ∙ ap unsigned_abs is));
  }
