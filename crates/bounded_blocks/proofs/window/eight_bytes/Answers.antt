use Rattle.std.proofs.Common.{◌≡◌, ◌∙◌, refl, ap, ℕ, zero, suc, ◌+◌, ◌<◌, ◌≤◌, List, [], ◌∷◌, length, get_or, arith}
use Rattle.std.proofs.lemmas.List.{get_or_default}
use Rattle.bounded_blocks.proofs.window.eight_bytes.Goals as goal

first-eight : (xs : List ℕ) (i : ℕ) → i + 8 ≤ length xs → (j : ℕ) → j < 8 → get_or (get_or xs i 0 ∷ get_or xs (i + 1) 0 ∷ get_or xs (i + 2) 0 ∷ get_or xs (i + 3) 0 ∷ get_or xs (i + 4) 0 ∷ get_or xs (i + 5) 0 ∷ get_or xs (i + 6) 0 ∷ get_or xs (i + 7) 0 ∷ []) j 255 ≡ get_or xs (i + j) 255
first-eight xs i room zero lt = get_or_default xs i 0 255 (omega arith) ∙ ap (λ (n : ℕ). get_or xs n 255) (let e : i ≡ i + 0 = omega arith in e)
first-eight xs i room (suc zero) lt = get_or_default xs (i + 1) 0 255 (omega arith)
first-eight xs i room (suc (suc zero)) lt = get_or_default xs (i + 2) 0 255 (omega arith)
first-eight xs i room (suc (suc (suc zero))) lt = get_or_default xs (i + 3) 0 255 (omega arith)
first-eight xs i room (suc (suc (suc (suc zero)))) lt = get_or_default xs (i + 4) 0 255 (omega arith)
first-eight xs i room (suc (suc (suc (suc (suc zero))))) lt = get_or_default xs (i + 5) 0 255 (omega arith)
first-eight xs i room (suc (suc (suc (suc (suc (suc zero)))))) lt = get_or_default xs (i + 6) 0 255 (omega arith)
first-eight xs i room (suc (suc (suc (suc (suc (suc (suc zero))))))) lt = get_or_default xs (i + 7) 0 255 (omega arith)
first-eight xs i room (suc (suc (suc (suc (suc (suc (suc (suc j)))))))) lt = absurd (omega arith)

pub returns : goal.returns
returns c = record { count = refl; same = first-eight c.args.bytes.now c.args.index c.requires.inside }
