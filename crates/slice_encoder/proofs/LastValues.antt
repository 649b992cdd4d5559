-- A need by the last value that isn't 0.
use Rattle.std.proofs.Common.{◌≡◌, ◌≢◌, ◌∙◌, refl, sym, ap, ℕ, zero, suc, ◌+◌, ◌-◌, ◌<◌, List, [], ◌∷◌, ◌++◌, length, take, drop, get_or, arith, ℤ, pos}
use Rattle.std.proofs.lemmas.List.{take_more}
use Rattle.bounded_blocks.specs.Blocks.{need_of}
use Rattle.bit_codes.specs.Codes.{signed_code_of}
use Rattle.bounded_blocks.specs.Parts.{IsSmall}
use Rattle.bounded_blocks.specs.Writing.{codes_of, need, NeedSeen}
use Rattle.bounded_blocks.proofs.Needs.{need-append, need-some, codes-more, count-zero}

-- a zero at the end adds nothing
pub need_without : (vs : List ℤ) (n : ℕ) → n < length vs → get_or vs n (pos 0) ≡ pos 0 → need (take (n + 1) vs) ≡ need (take n vs)
need_without vs n lt none =
    let front = take n vs in
    ap need (take_more vs n (pos 0) lt ∙ ap (λ (v : ℤ). front ++ v ∷ []) none)
    ∙ sym (ap (λ (c : NeedSeen). c.bits) (count-zero front (length (signed_code_of (pos 0))) (omega arith)))

-- with another value all in front of its own end is needed
pub need_with : (vs : List ℤ) (n : ℕ) → n < length vs → get_or vs n (pos 0) ≢ pos 0 → IsSmall (get_or vs n (pos 0)) → need (take (n + 1) vs) ≡ length (codes_of (take n vs)) + need (get_or vs n (pos 0) ∷ [])
need_with vs n lt some small =
    let front = take n vs in
    let v = get_or vs n (pos 0) in
    let more : need (take (n + 1) vs) ≡ need_of (codes_of front ++ signed_code_of v) = ap need (take_more vs n (pos 0) lt) ∙ ap need_of (codes-more front v) in
    let one : need (v ∷ []) ≡ need_of (signed_code_of v) = ap need_of (codes-more [] v) in
    let least = need-some v some small in
    omega (arith, more, one, need-append (codes_of front) (signed_code_of v) (need_of (signed_code_of v) - 1) (omega (arith, least)), least)

-- one value of a list
first_at : (vs : List ℤ) (n : ℕ) → n < length vs → take 1 (drop n vs) ≡ get_or vs n (pos 0) ∷ []
first_at [] n lt = absurd (omega arith)
first_at (v ∷ vs) zero lt = refl
first_at (v ∷ vs) (suc n) lt = first_at vs n (omega arith)

pub one_at : (vs : List ℤ) (n k : ℕ) → n < length vs → k ≡ 1 → take k (drop n vs) ≡ get_or vs n (pos 0) ∷ []
one_at vs n k lt e = ap (λ (m : ℕ). take m (drop n vs)) e ∙ first_at vs n lt
