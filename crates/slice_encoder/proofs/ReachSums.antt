-- How far codes reach, as a sum of lengths up to the last value that isn't 0.
use Rattle.std.proofs.Common.{◌≡◌, ◌∙◌, ap, ℕ, ◌+◌, ◌≤◌, Bool, List, [], ◌∷◌, ◌++◌, length, arith, ℤ}
use Rattle.std.specs.Prelude.{unsigned_abs}
use Rattle.std.proofs.lemmas.List.{length-append}
use Rattle.bit_codes.specs.Codes.{signed_code_of}
use Rattle.bounded_blocks.specs.Writing.{codes_of}
use Rattle.bounded_blocks.proofs.Needs.{codes-more}
use Rattle.slice_encoder.specs.Gathering.{with_code, reach}
use Rattle.slice_encoder.proofs.Gathers.{reach_append}
use Rattle.slice_encoder.proofs.Reaches.{code_long, with_none, with_some}

-- in front of something all codes count
pub reach_all : (vs : List ℤ) (behind : ℕ) → 1 ≤ behind → length (codes_of vs) + behind ≡ reach vs behind
reach_all [] behind some = omega arith
reach_all (v ∷ vs) behind some =
    let later = reach_all vs behind some in
    omega (arith, later, with_some v (reach vs behind) (omega (arith, later, some)), length-append (signed_code_of v) (codes_of vs))

-- a 0 at the end adds nothing
pub reach_none : (vs : List ℤ) (v : ℤ) → unsigned_abs v ≡ 0 → reach (vs ++ v ∷ []) 0 ≡ reach vs 0
reach_none vs v none = reach_append vs (v ∷ []) 0 ∙ ap (reach vs) (with_none v 0 (omega (arith, none)))

-- with another value at the end all codes count
pub reach_some : (vs : List ℤ) (v : ℤ) → 1 ≤ unsigned_abs v → length (codes_of (vs ++ v ∷ [])) ≡ reach (vs ++ v ∷ []) 0
reach_some vs v some =
    let end : with_code v 0 ≡ length (signed_code_of v) + 0 = with_some v 0 (omega (arith, some)) in
    let all : length (codes_of vs) + with_code v 0 ≡ reach vs (with_code v 0) = reach_all vs (with_code v 0) (omega (arith, end, code_long v some)) in
    let here : reach (vs ++ v ∷ []) 0 ≡ reach vs (with_code v 0) = reach_append vs (v ∷ []) 0 in
    omega (arith, end, all, here, ap (λ (t : List Bool). length t) (codes-more vs v), length-append (codes_of vs) (signed_code_of v))
