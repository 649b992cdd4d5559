-- The magnitudes of lists: of one, and of two in turn.
use Rattle.std.proofs.Common.{◌≡◌, ◌∙◌, ap, sym, subst, refl, ℕ, ◌+◌, ◌*◌, ◌/◌, ◌%◌, ◌<◌, ◌≤◌, min, Bool, true, false, eqb, List, length, set, get_or, arith, inl, inr, ℤ, pos}
use Rattle.std.specs.Prelude.{slice_index_or, unsigned_abs, if◌then◌else◌}
use Rattle.std.proofs.lemmas.Bool.{cases_lt, cases_eq}
use Rattle.std.proofs.lemmas.List.{length-set, get_or-set_same, get_or-set_other}
use Rattle.slice_encoder.specs.Sizes.{turn_at, shown}

pub turn_even : (first second : List ℤ) (k : ℕ) → turn_at first second (2 * k) ≡ get_or first k (pos 0)
turn_even first second k =
    let half : 2 * k / 2 ≡ k = omega arith in
    let rest : 2 * k % 2 ≡ 0 = omega arith in
    ap (λ (n : ℕ). if eqb n 0 then slice_index_or first (2 * k / 2) (pos 0) else slice_index_or second (2 * k / 2) (pos 0)) rest ∙ ap (λ (n : ℕ). slice_index_or first n (pos 0)) half

pub turn_odd : (first second : List ℤ) (k : ℕ) → turn_at first second (2 * k + 1) ≡ get_or second k (pos 0)
turn_odd first second k =
    let half : (2 * k + 1) / 2 ≡ k = omega arith in
    let rest : (2 * k + 1) % 2 ≡ 1 = omega arith in
    ap (λ (n : ℕ). if eqb n 0 then slice_index_or first ((2 * k + 1) / 2) (pos 0) else slice_index_or second ((2 * k + 1) / 2) (pos 0)) rest ∙ ap (λ (n : ℕ). slice_index_or second n (pos 0)) half

module _ (first second : List ℤ) (k : ℕ) (Is : ℕ → ℤ → Type 0) where
  -- what holds of the places so far, and of two more
  pub two_more : ((p : ℕ) → p < 2 * k → Is p (turn_at first second p)) → Is (2 * k) (get_or first k (pos 0)) → Is (2 * k + 1) (get_or second k (pos 0)) → (p : ℕ) → p < 2 * (k + 1) → Is p (turn_at first second p)
  two_more so_far one two p lt = elim (cases_lt p (2 * k)) [
    | inl here ↦ so_far p here
    | inr behind ↦ elim (cases_eq p (2 * k)) [
      | inl same ↦ subst (λ (n : ℕ). Is n (turn_at first second n)) (sym same) (subst (Is (2 * k)) (sym (turn_even first second k)) one)
      | inr other ↦
          let same : p ≡ 2 * k + 1 = omega (arith, lt, behind, other) in
          subst (λ (n : ℕ). Is n (turn_at first second n)) (sym same) (subst (Is (2 * k + 1)) (sym (turn_odd first second k)) two)
    ]
  ]

pub pairs_put : {X : Type 0} (value : X → ℤ) (none : X) (g : ℕ) (first second : List ℤ) (out : List X) (k : ℕ) (v w : X) → 2 * k + 1 < length out
    → value v ≡ pos (min (unsigned_abs (get_or first k (pos 0))) g) → value w ≡ pos (min (unsigned_abs (get_or second k (pos 0))) g)
    → ((p : ℕ) → p < 2 * k → value (get_or out p none) ≡ pos (min (unsigned_abs (turn_at first second p)) g))
    → (p : ℕ) → p < 2 * (k + 1) → value (get_or (set (set out (2 * k) v) (2 * k + 1) w) p none) ≡ pos (min (unsigned_abs (turn_at first second p)) g)
pairs_put value none g first second out k v w room v_is w_is so_far =
    let a : ℕ = 2 * k in
    let b : ℕ = 2 * k + 1 in
    let one = set out a v in
    let new = set one b w in
    two_more first second k (λ p z. value (get_or new p none) ≡ pos (min (unsigned_abs z) g))
    (λ p lt. ap value (get_or-set_other one b p w none (λ e. absurd (omega (arith, e, lt))) ∙ get_or-set_other out a p v none (λ e. absurd (omega (arith, e, lt)))) ∙ so_far p lt)
    (ap value (get_or-set_other one b a w none (λ e. absurd (omega (arith, e))) ∙ get_or-set_same out a v none (omega (arith, room))) ∙ v_is)
    (ap value (get_or-set_same one b w none (omega (arith, room, length-set out a v))) ∙ w_is)

-- and the places behind these
pub pairs_kept : {X : Type 0} (value : X → ℤ) (none : X) (out : List X) (k : ℕ) (v w : X) (p : ℕ) → 2 * (k + 1) ≤ p → value (get_or (set (set out (2 * k) v) (2 * k + 1) w) p none) ≡ value (get_or out p none)
pairs_kept value none out k v w p le =
    ap value (get_or-set_other (set out (2 * k) v) (2 * k + 1) p w none (λ e. absurd (omega (arith, e, le))) ∙ get_or-set_other out (2 * k) p v none (λ e. absurd (omega (arith, e, le))))

pub shown_count : (b : Bool) (short long : List ℤ) → length long ≡ length short → length (shown b short long) ≡ length short
shown_count true short long same = refl
shown_count false short long same = same
