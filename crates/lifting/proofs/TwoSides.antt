-- A row that is made in two halves, each from parts of rows.
use Rattle.std.proofs.Common.{◌≡◌, refl, sym, ap, subst, ◌∙◌, ℕ, ◌+◌, ◌-◌, ◌*◌, ◌<◌, ◌≤◌, arith, List, ◌++◌, length, take, drop, ℤ, inl, inr, Bool, true, false}
use Rattle.std.specs.Prelude.{nat_lt, if◌then◌else◌}
use Rattle.std.proofs.lemmas.Bool.{cases_lt}
use Rattle.std.proofs.lemmas.Bool.Decides.{nat_tests}
use Rattle.std.proofs.lemmas.Grind.{common_steps}
use Rattle.std.proofs.Math.ListN.{get_or-append}
use Rattle.std.proofs.lemmas.List.{get_or-append-add, get_or-take, get_or-drop}
use Rattle.planes.specs.Raster.{Raster, height, row_of, with_row}
use Rattle.planes.specs.Valued.{valued, grid_of}
use Rattle.planes.proofs.RasterLemmas.{row_of-with_row_same}
use Rattle.planes.specs.Numbers.{Within}
use Rattle.lifting.specs.Lines.{Line}
use Rattle.lifting.specs.Places.{beside, side_place}
use Rattle.lifting.specs.Ranges.{LineWithin}

-- the places of a row behind the first w
module _ {X : Type 0} (value : X → ℤ) (none : X) (w : ℕ) (xs : List X) where
  pub back_place : (n : ℕ) → w ≤ n → (i : ℕ) → i < w → valued value none (take n (drop w xs)) i ≡ valued value none xs (w + i)
  back_place n le i lt = ap value (get_or-take n (drop w xs) i none (omega arith) ∙ get_or-drop w xs i none)

  pub back_small : (m n : ℕ) → w ≤ n → LineWithin (2 * w) m (valued value none xs) → LineWithin w m (valued value none (take n (drop w xs)))
  back_small m n le small i lt = subst (Within m) (sym (back_place n le i lt)) (small (w + i) (omega arith))

pub same_step : (f : ℤ → ℤ → ℤ → ℤ) (v v' a a' b b' : ℤ) → v ≡ v' → a ≡ a' → b ≡ b' → f v a b ≡ f v' a' b'
same_step f v v' a a' b b' ev ea eb = ap (λ (z : ℤ). f z a b) ev ∙ ap (λ (z : ℤ). f v' z b) ea ∙ ap (λ (z : ℤ). f v' a' z) eb

-- what holds of each place of two lines holds of them side by side
pub beside_by : (P : ℕ → ℤ → Type 0) (w : ℕ) (a b : Line) → ((i : ℕ) → i < w → P i (a i)) → ((i : ℕ) → i < w → P (w + i) (b i)) → (x : ℕ) → x < 2 * w → P x (beside w a b x)
beside_by P w a b pa pb x lx = elim (cases_lt x w) [
  | inl early ↦ let is : nat_lt x w ≡ true = grind (arith, nat_tests) in rw is (pa x early)
  | inr late ↦
      let is : nat_lt x w ≡ false = grind (arith, nat_tests) in
      let whole : w + (x - w) ≡ x = omega arith in
      rw is (subst (λ (i : ℕ). P i (b (x - w))) whole (pb (x - w) (omega arith)))
]

pub two_sides : {X : Type 0} (value : X → ℤ) (none : X) (w : ℕ) (left right : List X) (a b : Line) → length left ≡ w
    → ((i : ℕ) → i < w → valued value none left i ≡ a i) → ((i : ℕ) → i < w → valued value none right i ≡ b i)
    → (x : ℕ) → x < 2 * w → valued value none (left ++ right) x ≡ beside w a b x
two_sides value none w left right a b el pa pb =
    beside_by (λ x v. valued value none (left ++ right) x ≡ v) w a b (λ i lt. ap value (get_or-append left right none i (omega arith)) ∙ pa i lt)
    (λ i lt. ap (λ (n : ℕ). valued value none (left ++ right) (n + i)) (sym el) ∙ ap value (get_or-append-add left right i none) ∙ pb i lt)

-- a step on two lines side by side
pub beside_three : (f : ℤ → ℤ → ℤ → ℤ) (w x : ℕ) (v v' a a' b b' : Line) → beside w (λ i. f (v i) (a i) (b i)) (λ i. f (v' i) (a' i) (b' i)) x ≡ f (beside w v v' x) (beside w a a' x) (beside w b b' x)
beside_three f w x v v' a a' b b' = go (nat_lt x w)
  where
    go : (r : Bool) → (if r then f (v x) (a x) (b x) else f (v' (x - w)) (a' (x - w)) (b' (x - w))) ≡ f (if r then v x else v' (x - w)) (if r then a x else a' (x - w)) (if r then b x else b' (x - w))
    go true = refl
    go false = refl

-- a line whose front and back lie apart
pub beside_whole : (w x : ℕ) (a b : Line) → ((i : ℕ) → i < w → b i ≡ a (w + i)) → x < 2 * w → beside w a b x ≡ a x
beside_whole w x a b eb lx = beside_by (λ i v. v ≡ a i) w a b (λ i _. refl) eb x lx

-- a row of a plane, as it is lent, and as it was written over
pub row_small : {X : Type 0} (value : X → ℤ) (none : X) (m w y : ℕ) (p : Raster X) (row : List X) → row ≡ row_of p y → LineWithin w m (grid_of value none p y) → LineWithin w m (valued value none row)
row_small value none m w y p row is small = subst (λ (r : List _). LineWithin w m (valued value none r)) (sym is) small

pub row_put : {X : Type 0} (value : X → ℤ) (none : X) (p : Raster X) (y : ℕ) (row new : List X) → y < height p → row ≡ row_of p y → length new ≡ length row
    → (x : ℕ) → grid_of value none (with_row p y new) y x ≡ valued value none new x
row_put value none p y row new lt is same x = ap (λ (r : List _). valued value none r x) (row_of-with_row_same p y new lt (same ∙ ap length is))

pub back_len : {X : Type 0} (w : ℕ) (xs : List X) → 2 * w ≤ length xs → w ≤ length (take (length xs - w) (drop w xs))
back_len w xs le = grind (arith, common_steps)

-- ---- where the places of a line lie when the even ones come first and the odd ones behind them

pub side_front : (w x : ℕ) → x < w → side_place w x ≡ 2 * x
side_front w x lt = grind (arith, nat_tests)

pub side_back : (w x : ℕ) → w ≤ x → side_place w x ≡ 2 * (x - w) + 1
side_back w x le = grind (arith, nat_tests)

pub side_inside : (w x : ℕ) → x < 2 * w → side_place w x < 2 * w
side_inside w x lt = grind (arith, nat_tests)

-- an even place of a line, and an odd one
pub side_even : (line : Line) (w x : ℕ) → x < w → line (side_place w x) ≡ line (2 * x + 0)
side_even line w x lx = let whole : 2 * x ≡ 2 * x + 0 = omega arith in ap line (side_front w x lx ∙ whole)

pub side_odd : (line : Line) (w x : ℕ) → x < w → line (side_place w (w + x)) ≡ line (2 * x + 1)
side_odd line w x lx = let whole : 2 * (w + x - w) + 1 ≡ 2 * x + 1 = omega arith in ap line (side_back w (w + x) (omega arith) ∙ whole)

-- the even places of a line beside its odd ones
pub beside_side : (line : Line) (w x : ℕ) → beside w (λ i. line (2 * i)) (λ i. line (2 * i + 1)) x ≡ line (side_place w x)
beside_side line w x = elim (cases_lt x w) [
  | inl early ↦ let is : nat_lt x w ≡ true = grind (arith, nat_tests) in rw is refl
  | inr late ↦ let is : nat_lt x w ≡ false = grind (arith, nat_tests) in rw is refl
]
