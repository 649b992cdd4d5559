-- The greatest difference so far.
use Rattle.std.proofs.Common.{◌≡◌, ℕ, zero, suc, ◌+◌, ◌<◌, ◌≤◌, min, max, List, [], ◌∷◌, length, take, get_or, refl, sym, ap, ◌∙◌, arith}
use Rattle.std.specs.Int.{abs_diff}
use Rattle.trial_video.specs.Worst.{farthest}

max_later : (a b c : ℕ) → max a (max b c) ≡ max (max a b) c
max_later a b c = grind arith

-- one place more
pub farthest_more : (raw decoded : List ℕ) (k : ℕ) → k < length raw → k < length decoded
    → farthest (take (suc k) raw) (take (suc k) decoded) ≡ max (farthest (take k raw) (take k decoded)) (abs_diff (get_or raw k 0) (get_or decoded k 0))
farthest_more [] decoded k lt lt' = absurd (omega (arith, lt))
farthest_more (a ∷ raw) [] k lt lt' = absurd (omega (arith, lt'))
farthest_more (a ∷ raw) (b ∷ decoded) zero lt lt' = grind arith
farthest_more (a ∷ raw) (b ∷ decoded) (suc k) lt lt' =
    ap (max (abs_diff a b)) (farthest_more raw decoded k (omega (arith, lt)) (omega (arith, lt')))
    ∙ max_later (abs_diff a b) (farthest (take k raw) (take k decoded)) (abs_diff (get_or raw k 0) (get_or decoded k 0))

-- the same of what a turn leaves
pub farthest_next : (raw decoded : List ℕ) (k most next new : ℕ) → k < length raw → k < length decoded → most ≡ farthest (take k raw) (take k decoded) → new ≡ abs_diff (get_or raw k 0) (get_or decoded k 0) → next ≡ max most new
    → next ≡ farthest (take (k + 1) raw) (take (k + 1) decoded)
farthest_next raw decoded k most next new lt lt' so_far is greatest =
    let one : suc k ≡ k + 1 = omega arith in
    greatest ∙ ap (λ (n : ℕ). max n new) so_far ∙ ap (max (farthest (take k raw) (take k decoded))) is
    ∙ sym (farthest_more raw decoded k lt lt') ∙ ap (λ (n : ℕ). farthest (take n raw) (take n decoded)) one

-- all places that both have
pub farthest_all : (raw decoded : List ℕ) (k : ℕ) → min (length raw) (length decoded) ≤ k → farthest (take k raw) (take k decoded) ≡ farthest raw decoded
farthest_all [] decoded zero le = refl
farthest_all [] decoded (suc k) le = refl
farthest_all (a ∷ raw) [] zero le = refl
farthest_all (a ∷ raw) [] (suc k) le = refl
farthest_all (a ∷ raw) (b ∷ decoded) zero le = absurd (omega (arith, le))
farthest_all (a ∷ raw) (b ∷ decoded) (suc k) le = ap (max (abs_diff a b)) (farthest_all raw decoded k (omega (arith, le)))
