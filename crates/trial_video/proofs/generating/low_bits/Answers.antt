use Rattle.std.proofs.Common.{◌≡◌, ℕ, ◌-◌, ◌*◌, ◌%◌, ◌^◌, ◌≤◌, bit_and, ap, ◌∙◌, arith}
use Rattle.std.proofs.lemmas.Nat.{and_mask}
use Rattle.raw_video.proofs.Bounds.{bound_small}
use Rattle.trial_video.proofs.generating.low_bits.Goals as goal

pub returns-clause-value : goal.returns-clause-value
returns-clause-value c = ap (λ (m : ℕ). bit_and c.args.v (m - 1)) (keeps (2 ^ c.args.depth) (bound_small c.args.depth c.requires.most)) ∙ and_mask c.args.v c.args.depth
  where
    keeps : (m : ℕ) → m ≤ 65536 → 1 * m % 18446744073709551616 ≡ m
    keeps m le = omega (arith, le)
