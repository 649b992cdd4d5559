-- How far codes reach, by the last value that isn't 0.
use Rattle.std.proofs.Common.{◌≡◌, ◌≢◌, ◌∙◌, refl, sym, ap, ℕ, zero, suc, ◌+◌, ◌-◌, ◌<◌, ◌≤◌, List, [], ◌∷◌, ◌++◌, length, take, get_or, arith, ℤ, pos, negsuc, inl, inr}
use Rattle.std.specs.Prelude.{unsigned_abs}
use Rattle.std.proofs.lemmas.Bool.{cases_eq}
use Rattle.std.proofs.lemmas.List.{take_more}
use Rattle.bounded_blocks.specs.Writing.{codes_of}
use Rattle.slice_encoder.specs.Gathering.{reach}
use Rattle.slice_encoder.proofs.ReachSums.{reach_none, reach_some}

-- a zero at the end adds nothing
pub reach_without : (vs : List ℤ) (n : ℕ) → n < length vs → get_or vs n (pos 0) ≡ pos 0 → reach (take (n + 1) vs) 0 ≡ reach (take n vs) 0
reach_without vs n lt none =
    let v = get_or vs n (pos 0) in
    ap (λ (t : List ℤ). reach t 0) (take_more vs n (pos 0) lt) ∙ reach_none (take n vs) v (ap unsigned_abs none)

not_none : (v : ℤ) → v ≢ pos 0 → 1 ≤ unsigned_abs v
not_none (pos zero) some = absurd (some refl)
not_none (pos (suc n)) some = omega arith
not_none (negsuc n) some = omega arith

-- So all codes up to the last value that isn't 0 count.
pub reach_to_last : (vs : List ℤ) (count : ℕ) → count ≤ length vs → (0 < count → get_or vs (count - 1) (pos 0) ≢ pos 0) → length (codes_of (take count vs)) ≡ reach (take count vs) 0
reach_to_last vs count le last = elim (cases_eq count 0) [
  | inl none ↦ ap (λ (k : ℕ). length (codes_of (take k vs))) none ∙ sym (ap (λ (k : ℕ). reach (take k vs) 0) none)
  | inr some ↦
      let n : ℕ = count - 1 in
      let v = get_or vs n (pos 0) in
      let up : count ≡ n + 1 = omega (arith, some) in
      let more : take count vs ≡ take n vs ++ v ∷ [] = ap (λ (k : ℕ). take k vs) up ∙ take_more vs n (pos 0) (omega (arith, le, some)) in
      ap (λ (t : List ℤ). length (codes_of t)) more ∙ reach_some (take n vs) v (not_none v (last (omega (arith, some)))) ∙ sym (ap (λ (t : List ℤ). reach t 0) more)
]
