-- How long the codes of values are, and what one value more adds.
use Rattle.std.proofs.Common.{◌≡◌, ◌∙◌, ap, ℕ, zero, suc, ◌+◌, ◌*◌, ◌^◌, ◌<◌, ◌≤◌, Bool, true, false, List, [], ◌∷◌, ◌++◌, length, take, get_or, arith, inl, inr, ℤ, pos, negsuc}
use Rattle.std.specs.List.{All}
use Rattle.std.proofs.lemmas.Bool.{cases_lt}
use Rattle.std.proofs.lemmas.List.{length-append, length-take, take_more}
use Rattle.std.proofs.lemmas.List.Elements.{All-head, All-tail, All-take}
use Rattle.std.proofs.Math.Nat.{pow-le-pow_right}
use Rattle.bit_codes.specs.Codes.{code_of, signed_code_of}
use Rattle.bit_codes.proofs.CodeOf.{code_of-is_code, length-interleaved}
use Rattle.bounded_blocks.specs.Parts.{IsSmall}
use Rattle.bounded_blocks.specs.Writing.{codes_of}
use Rattle.bounded_blocks.proofs.OneText.{binary-low}
use Rattle.bounded_blocks.proofs.Needs.{codes-more}

-- ---- how long codes are

length-code_of-most : (n : ℕ) → n ≤ 2 ^ 36 → length (code_of n) ≤ 73
length-code_of-most n le =
    let c = code_of-is_code n (omega arith) in
    let two : 0 < 2 = omega arith in
    let few : length c.0 ≤ 36 = elim (cases_lt 36 (length c.0)) as (λ _. length c.0 ≤ 36) [
      | inl lt ↦
          let up : 37 ≤ length c.0 = omega arith in
          absurd (omega (arith, binary-low c.0 1, c.1, pow-le-pow_right {n = 2} two {i = 37} {j = length c.0} up))
      | inr small ↦ small
    ] in
    omega (arith, ap (λ (t : List Bool). length t) c.2, length-interleaved c.0)

length-signed_code_of-most : (v : ℤ) → IsSmall v → length (signed_code_of v) ≤ 74
length-signed_code_of-most (pos zero) h = omega (arith, length-code_of-most 0 (omega arith))
length-signed_code_of-most (pos (suc n)) h = omega (arith, length-code_of-most (suc n) h, length-append (code_of (suc n)) (false ∷ []))
length-signed_code_of-most (negsuc n) h = omega (arith, length-code_of-most (suc n) h, length-append (code_of (suc n)) (true ∷ []))

pub length-codes_of-most : (vs : List ℤ) → All IsSmall vs → length (codes_of vs) ≤ 74 * length vs
length-codes_of-most [] h = omega arith
length-codes_of-most (v ∷ vs) h =
    omega (arith, length-append (signed_code_of v) (codes_of vs), length-signed_code_of-most v (All-head IsSmall v vs h), length-codes_of-most vs (All-tail IsSmall v vs h))

pub room_left : (vs : List ℤ) (n total : ℕ) → All IsSmall vs → n ≤ 2 ^ 32 → total ≡ length (codes_of (take n vs)) → total ≤ 75 * 2 ^ 32
room_left vs n total small le is = omega (arith, is, length-codes_of-most (take n vs) (All-take IsSmall n vs small), length-take n vs)

-- ---- one value more

pub codes_of-next : (vs : List ℤ) (n : ℕ) → n < length vs → codes_of (take (n + 1) vs) ≡ codes_of (take n vs) ++ signed_code_of (get_or vs n (pos 0))
codes_of-next vs n lt = ap codes_of (take_more vs n (pos 0) lt) ∙ codes-more (take n vs) (get_or vs n (pos 0))
