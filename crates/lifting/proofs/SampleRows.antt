-- Samples, row by row.
use Rattle.std.proofs.Common.{◌≡◌, ◌∙◌, sym, ap, subst, ℕ, suc, ◌+◌, ◌-◌, ◌*◌, ◌^◌, ◌<◌, ◌≤◌, arith, inl, inr, List, ◌++◌, length, take, get_or, set, ℤ, pos}
use Rattle.std.specs.Prelude.{if◌then◌else◌, ◌==◌, neg_ℤ, ◌+ℤ◌, ◌-ℤ◌, unsigned_abs}
use Rattle.std.specs.Int.{int_min, int_max}
use Rattle.std.proofs.Math.Nat.{pow-le-pow_right, mul-le-mul_right, suc-mul}
use Rattle.std.proofs.lemmas.Bool.{cases_lt, cases_eq}
use Rattle.std.proofs.lemmas.Int.{ints}
use Rattle.std.proofs.lemmas.List.{get_or_default, get_or-set_other, get_or-set_same, length-set, get_or_append_left, get_or-append-add, length-take-le}
use borrow.Rule.Slice.PartMut.{put_mid, post_of}
use Rattle.planes.specs.Numbers.{Within}
use Rattle.planes.specs.Valued.{valued, EachValued}
use Rattle.lifting.specs.Lines.{Line}
use Rattle.lifting.specs.Places.{woven, odd_stepped}
use Rattle.lifting.specs.Clipping.{clipped_up, sample_of}
use Rattle.lifting.proofs.WovenLines.{woven_even, woven_odd, woven_by}

pub half_some : (depth : ℕ) → 1 ≤ 2 ^ (depth - 1)
half_some depth = pow-le-pow_right {n = 2} (omega arith) {i = 0} {j = depth - 1} (omega arith)

pub half_most : (depth most : ℕ) → depth ≤ most → 2 ^ (depth - 1) ≤ 2 ^ (most - 1)
half_most depth most le = pow-le-pow_right {n = 2} (omega arith) {i = depth - 1} {j = most - 1} (omega arith)

-- ---- the samples of a row

pub sample_is : (depth : ℕ) (half v : ℤ) (n : ℕ) → half ≡ pos (2 ^ (depth - 1)) → pos n ≡ clipped_up half v → n ≡ sample_of depth v
sample_is depth half v n e is =
    let some : 1 ≤ 2 ^ (depth - 1) = half_some depth in
    let less : pos (2 ^ (depth - 1)) -ℤ pos 1 ≡ pos (2 ^ (depth - 1) - 1) = omega (arith, ints, some) in
    let by : ℤ → ℤ → ℤ = λ h top. int_max (neg_ℤ h) (int_min top v) +ℤ h in
    ap unsigned_abs (is ∙ ap (λ h. by h (h -ℤ pos 1)) e ∙ ap (by (pos (2 ^ (depth - 1)))) less)

-- one more place of a row
pub put_one : {X : Type 0} (P : ℕ → X → Type 0) (d x : X) (out : List X) (k : ℕ) → k < length out → ((i : ℕ) → i < k → P i (get_or out i d)) → P k x
    → (i : ℕ) → i < k + 1 → P i (get_or (set out k x) i d)
put_one P d x out k room first last i lt = elim (cases_eq i k) [
  | inl e ↦ rw (e, get_or-set_same out k x d room) last
  | inr ne ↦ rw (get_or-set_other out k i x d ne) (first i (omega arith))
]

-- and two
pub put_two : {X : Type 0} (P : ℕ → X → Type 0) (d x y : X) (out : List X) (k : ℕ) → 2 * k + 1 < length out → ((i : ℕ) → i < 2 * k → P i (get_or out i d)) → P (2 * k) x → P (2 * k + 1) y
    → (i : ℕ) → i < 2 * (k + 1) → P i (get_or (set (set out (2 * k) x) (2 * k + 1) y) i d)
put_two P d x y out k room first even odd i lt =
    put_one P d y (set out (2 * k) x) (2 * k + 1) (rw length-set room) (put_one P d x out (2 * k) (omega arith) first even) odd i (omega arith)

-- a step on each place of a line is one on each place of its halves
pub woven_each : (f : ℤ → ℤ) (e o : Line) (i : ℕ) → woven (λ j. f (e j)) (λ j. f (o j)) i ≡ f (woven e o i)
woven_each f e o i =
    woven_by (λ j v. v ≡ f (woven e o j)) (i + 1) (λ j. f (e j)) (λ j. f (o j)) (λ j _. ap f (sym (woven_even e o j))) (λ j _. ap f (sym (woven_odd e o j))) i (omega arith)

-- a place of a part that was written
pub part_row : (a k : ℕ) (xs ys : List ℕ) (i : ℕ) → a ≤ length xs → i < length ys → get_or (put_mid a k xs ys) (a + i) 0 ≡ get_or ys i 0
part_row a k xs ys i low here =
    let front : length (take a xs) ≡ a = length-take-le a xs low in
    ap (λ (n : ℕ). get_or (put_mid a k xs ys) (n + i) 0) (sym front) ∙ get_or-append-add (take a xs) (ys ++ post_of a k xs) i 0 ∙ get_or_append_left ys (post_of a k xs) 0 i here

-- row y of h rows of w lies inside
pub row_inside : (y h w n : ℕ) → y < h → n ≡ h * w → y * w + w ≤ n
row_inside y h w n lt e = omega (arith, e, suc-mul y w, mul-le-mul_right {m = suc y} {n = h} w (omega arith))

-- a number that was read
pub read_is : {X : Type 0} (value : X → ℤ) (none : X) (xs : List X) (k : ℕ) (r : X) → k < length xs → r ≡ get_or xs k r → value r ≡ valued value none xs k
read_is value none xs k r lt is = ap value (is ∙ get_or_default xs k r none lt)

pub read_small : {X : Type 0} (value : X → ℤ) (none : X) (m : ℕ) (xs : List X) (k : ℕ) (r : X) → k < length xs → r ≡ get_or xs k r → EachValued value none m xs → Within m (value r)
read_small value none m xs k r lt is small = subst (Within m) (sym (read_is value none xs k r lt is)) (small k lt)

-- ---- an odd place between even ones

pub inner_is : (f : ℤ → ℤ → ℤ → ℤ) (n : ℕ) (e o : Line) (k : ℕ) → k + 1 < n → f (o k) (e k) (e (k + 1)) ≡ odd_stepped f n e o k
inner_is f n e o k lt =
    let next : (if k + 1 == n then k else k + 1) ≡ k + 1 = grind arith in
    ap (λ (j : ℕ). f (o k) (e k) (e j)) (sym next)

pub last_is : (f : ℤ → ℤ → ℤ → ℤ) (n : ℕ) (e o : Line) (k : ℕ) → k + 1 ≡ n → f (o k) (e k) (e k) ≡ odd_stepped f n e o k
last_is f n e o k is =
    let next : (if k + 1 == n then k else k + 1) ≡ k = grind arith in
    ap (λ (j : ℕ). f (o k) (e k) (e j)) (sym next)

-- the last number of a row by itself, behind the others
pub behind_is : {X : Type 0} (front back : List X) (d : X) → get_or (front ++ back) (length front) d ≡ get_or back 0 d
behind_is front back d = grind (arith, get_or-append-add front back 0 d)

-- a row of odd places, stepped but for the last one, and the last one between the last even place and itself
pub odd_half_made : {X : Type 0} (value : X → ℤ) (none : X) (f : ℤ → ℤ → ℤ → ℤ) (odd even front back made : List X) (r : X) → odd ≡ front ++ back → length front + 1 ≡ length odd → 1 ≤ length back → length made ≡ length front
    → ((k : ℕ) → k < length front → valued value none made k ≡ f (valued value none front k) (valued value none even k) (valued value none even (k + 1)))
    → value r ≡ f (valued value none odd (length front)) (valued value none even (length front)) (valued value none even (length front))
    → (k : ℕ) → k < length odd → valued value none (made ++ set back 0 r) k ≡ odd_stepped f (length odd) (valued value none even) (valued value none odd) k
odd_half_made value none f odd even front back made r is count some same stepped last k lt =
    let e = valued value none even in
    let o = valued value none odd in
    elim (cases_lt k (length front)) [
      | inl less ↦
          let own : valued value none front k ≡ o k = ap value (sym (ap (λ l. get_or l k none) is ∙ get_or_append_left front back none k less)) in
          ap value (get_or_append_left made (set back 0 r) none k (omega arith)) ∙ stepped k less ∙ ap (λ v. f v (e k) (e (k + 1))) own ∙ inner_is f (length odd) e o k (omega arith)
      | inr not ↦
          let at_end : k ≡ length front = omega arith in
          let here : get_or (made ++ set back 0 r) k none ≡ r = ap (λ j. get_or (made ++ set back 0 r) j none) (at_end ∙ sym same) ∙ behind_is made (set back 0 r) none ∙ get_or-set_same back 0 r none some in
          ap value here ∙ last ∙ ap (λ j. f (o j) (e j) (e j)) (sym at_end) ∙ last_is f (length odd) e o k (omega arith)
    ]
