-- A level of synthesis in place: the pairs that its rows are taken apart to.
use Rattle.std.proofs.Common.{◌≡◌, ◌≢◌, ◌∙◌, ap, ℕ, ℤ, ◌+◌, ◌-◌, ◌*◌, ◌/◌, ◌%◌, ◌<◌, ◌≤◌, arith, inl, inr, length}
use Rattle.std.proofs.lemmas.Bool.{cases_eq}
use Rattle.planes.specs.Valued.{valued}
use Rattle.lifting.specs.declared.level_up.Pair.{Pair}
use Rattle.lifting.specs.LevelPairs.{HoldsPair}
use Rattle.lifting.specs.Places.{side_place}
use Rattle.lifting.specs.Transform.{Grid}
use Rattle.lifting.proofs.TwoSides.{side_even, side_odd}

-- two rows more in the ring: they are the pair that comes, and the pair before stands beside it
module _ (w c : ℕ) (g plane r s t : Grid) (first : (x : ℕ) → x < 2 * w → s (2 * c % 4) x ≡ plane (2 * c) (side_place w x)) (others : (k x : ℕ) → k ≢ 2 * c % 4 → x < 2 * w → s k x ≡ r k x)
    (second : (x : ℕ) → x < 2 * w → t ((2 * c + 1) % 4) x ≡ plane (2 * c + 1) (side_place w x)) (others_too : (k x : ℕ) → k ≢ (2 * c + 1) % 4 → x < 2 * w → t k x ≡ s k x)
    (rows : (j x : ℕ) → 2 * c ≤ j → plane j x ≡ g j x) where
  pub own_pair : (j x : ℕ) → j / 2 ≡ c → x < 2 * w → t (j % 4) x ≡ g j (side_place w x)
  own_pair j x is lx = elim (cases_eq j (2 * c)) [
    | inl e ↦ rw e (others_too (2 * c % 4) x (omega arith) lx ∙ first x lx ∙ rows (2 * c) (side_place w x) (omega arith))
    | inr ne ↦ let odd : j ≡ 2 * c + 1 = omega arith in rw odd (second x lx ∙ rows (2 * c + 1) (side_place w x) (omega arith))
  ]

  pub pair_before : (1 ≤ c → (j x : ℕ) → j / 2 ≡ c - 1 → x < 2 * w → r (j % 4) x ≡ g j (side_place w x)) → (j x : ℕ) → j / 2 ≡ c - 1 → x < 2 * w → t (j % 4) x ≡ g j (side_place w x)
  pair_before held j x is lx = elim (cases_eq c 0) [
    | inl e ↦ own_pair j x (omega arith) lx
    | inr ne ↦ others_too (j % 4) x (omega arith) lx ∙ others (j % 4) x (omega arith) lx ∙ held (omega arith) j x is lx
  ]

-- and each is a pair of the bands
pub pair_held : {X : Type 0} (value : X → ℤ) (none : X) (w b y : ℕ) (g ring : Grid) (p : Pair X) → b ≡ y → ((j x : ℕ) → j / 2 ≡ y → x < 2 * w → ring (j % 4) x ≡ g j (side_place w x))
    → (length p.ll.now ≡ w) × (length p.hl.now ≡ w) × (length p.lh.now ≡ w) × (length p.hh.now ≡ w)
    → ((x : ℕ) → x < w → valued value none p.ll.now x ≡ ring (2 * b % 4) x) → ((x : ℕ) → x < w → valued value none p.hl.now x ≡ ring (2 * b % 4) (w + x))
    → ((x : ℕ) → x < w → valued value none p.lh.now x ≡ ring ((2 * b + 1) % 4) x) → ((x : ℕ) → x < w → valued value none p.hh.now x ≡ ring ((2 * b + 1) % 4) (w + x))
    → HoldsPair value none w y g p
pair_held value none w b y g ring p e held long ll hl lh hh =
    let whole : 2 * y ≡ 2 * y + 0 = omega arith in
    let even : (x : ℕ) → x < 2 * w → ring (2 * b % 4) x ≡ g (2 * y + 0) (side_place w x) = λ x lx. ap (λ (m : ℕ). ring (2 * m % 4) x) e ∙ held (2 * y) x (omega arith) lx ∙ ap (λ (m : ℕ). g m (side_place w x)) whole in
    let odd : (x : ℕ) → x < 2 * w → ring ((2 * b + 1) % 4) x ≡ g (2 * y + 1) (side_place w x) = λ x lx. ap (λ (m : ℕ). ring ((2 * m + 1) % 4) x) e ∙ held (2 * y + 1) x (omega arith) lx in
    record {
      ll_long = omega (arith, long);
      hl_long = omega (arith, long);
      lh_long = omega (arith, long);
      hh_long = omega (arith, long);
      ll = λ x lx. ll x lx ∙ even x (omega arith) ∙ side_even (g (2 * y + 0)) w x lx;
      hl = λ x lx. hl x lx ∙ even (w + x) (omega arith) ∙ side_odd (g (2 * y + 0)) w x lx;
      lh = λ x lx. lh x lx ∙ odd x (omega arith) ∙ side_even (g (2 * y + 1)) w x lx;
      hh = λ x lx. hh x lx ∙ odd (w + x) (omega arith) ∙ side_odd (g (2 * y + 1)) w x lx;
    }
