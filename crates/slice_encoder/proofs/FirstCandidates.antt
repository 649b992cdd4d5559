-- The candidates of a slice, and what a picture that is ready gives.
use Rattle.std.proofs.Common.{◌≡◌, subst, ℕ, zero, suc, max, true, List, [], ◌∷◌, ◌++◌, replicate, get_or, arith}
use Rattle.std.specs.List.{All}
use Rattle.std.proofs.lemmas.List.{length-replicate}
use Rattle.std.proofs.lemmas.List.Elements.{All-nil, All-cons}
use Rattle.slice_geometry.specs.Slicing.{slice_number}
use Rattle.slice_encoder.specs.Trials.{CodedPicture, luma_of, c1_of, c2_of, restored_after}
use Rattle.slice_encoder.specs.TrialLaws.{IsIndex, IsSteepOk, IsPicture}
use Rattle.slice_encoder.specs.Ready.{AreGiven}
use Rattle.slice_encoder.specs.LowNeeds.{lower_of, may_fit}
use Rattle.slice_encoder.proofs.Coarsest.{coarsest, last_index}
use Rattle.slice_encoder.proofs.LowBounds.{no_greater, less_fits}

all_zero : (n : ℕ) → All IsIndex (replicate n 0)
all_zero zero = All-nil IsIndex
all_zero (suc n) = All-cons IsIndex 0 (replicate n 0) (omega arith) (all_zero n)

-- the coarsest index fits, so it may
pub last_may : (j : CodedPicture) (bytes sx sy : ℕ) → AreGiven j → IsSteepOk j.slicing.depth (max j.frame.luma_depth j.frame.colour_depth) j.matrix → may_fit bytes (lower_of j sx sy 127) ≡ true
last_may j bytes sx sy given steep =
    let n : ℕ = slice_number j.slicing sx sy in
    let indices : List ℕ = replicate n 0 in
    let next : List ℕ = indices ++ 127 ∷ [] in
    let index : ℕ = get_or next n 0 in
    let picture : IsPicture j = record { luma_bits = given.luma_bits; colour_bits = given.colour_bits; luma = given.luma.small; c1 = given.c1.small; c2 = given.c2.small } in
    let fit = coarsest j indices bytes sx sy picture steep (all_zero n) (length-replicate n 0) in
    let low = no_greater j (restored_after (luma_of j) next) (restored_after (c1_of j) next) (restored_after (c2_of j) next) index sx sy in
    subst (λ (k : ℕ). may_fit bytes (lower_of j sx sy k) ≡ true) (last_index indices n 127 (length-replicate n 0)) (less_fits bytes _ _ _ _ low.0 low.1 fit)
