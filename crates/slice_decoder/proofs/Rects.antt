-- One more row of a rectangle.
use Rattle.std.proofs.Common.{◌≡◌, ◌≢◌, ℕ, ◌+◌, ◌-◌, ◌*◌, ◌<◌, ◌≤◌, ◌⊎◌, List, Bool, length, replicate, get_or, ℤ, pos, sym, ap, subst, ◌∙◌, inl, inr, arith}
use Rattle.std.proofs.Math.Nat.{mul-le-mul_left, mul-le-mul_right}
use Rattle.std.proofs.lemmas.Bool.{cases_lt, cases_eq}
use Rattle.planes.specs.declared.Rect.{Rect}
use Rattle.planes.specs.Raster.{Raster, height, row_of, with_row}
use Rattle.planes.specs.Valued.{valued, grid_of}
use Rattle.planes.specs.Rect.{IsInRect}
use Rattle.planes.proofs.RasterLemmas.{row_of-with_row_same, row_of-with_row_other, height-with_row}
use Rattle.slice_geometry.specs.SliceOrder.{number_in}
use Rattle.slice_decoder.specs.Dealing.{dealt, behind}
use Rattle.slice_decoder.proofs.Dealt.{grow-old, grow-new}

-- the rows above `end` hold their values
pub record RowsHoldOf {X : Type 0} (value : X → ℤ) (none : X) (each from : ℕ) (r : Rect) (end : ℕ) (values : ℕ → ℤ) (old new : Raster X) : Type 0 where
  pub same_width : new.w ≡ old.w
  pub same_height : height new ≡ height old
  pub inside : (y x : ℕ) → IsInRect r y x → y < end → grid_of value none new y x ≡ values (each * number_in r y x + from)
  pub outside : (y x : ℕ) → (IsInRect r y x → ⊥) → grid_of value none new y x ≡ grid_of value none old y x

-- the same of integers, from a list
abbrev pub RowsHold : ℕ → ℕ → Rect → ℕ → List ℤ → Raster ℤ → Raster ℤ → Type 0
RowsHold each from r end values old new = RowsHoldOf (λ v. v) (pos 0) each from r end (λ k. get_or values k (pos 0)) old new

-- what one row has after it was filled
pub record RowHolds (each from q : ℕ) (r : Rect) (block : List Bool) (old new : List ℤ) : Type 0 where
  pub same_length : length new ≡ length old
  pub inside : (x : ℕ) → r.x0 ≤ x → x < r.x1 → get_or new x (pos 0) ≡ get_or (dealt block (replicate (each * (r.x1 - r.x0)) q)) (each * (x - r.x0) + from) (pos 0)
  pub outside : (x : ℕ) → (x < r.x0) ⊎ (r.x1 ≤ x) → get_or new x (pos 0) ≡ get_or old x (pos 0)

pub rows_sum : (each y y0 w : ℕ) → y0 ≤ y → each * ((y + 1 - y0) * w) ≡ each * ((y - y0) * w) + each * w
rows_sum each y y0 w le =
    let next : y + 1 - y0 ≡ y - y0 + 1 = omega arith in
    ap (λ n. each * (n * w)) next ∙ omega arith

-- the number of a place above lies below those of a row
number_above : (each from y j x : ℕ) (r : Rect) → from < each → IsInRect r j x → j < y → each * number_in r j x + from < each * ((y - r.y0) * (r.x1 - r.x0))
number_above each from y j x r lt inside above =
    let left = inside.left in
    let right = inside.right in
    let top = inside.top in
    let w : ℕ = r.x1 - r.x0 in
    let row : (j - r.y0 + 1) * w ≤ (y - r.y0) * w = mul-le-mul_right w (omega (arith, top, above)) in
    let places : number_in r j x + 1 ≤ (y - r.y0) * w = omega (arith, row, left, right) in
    let all : each * (number_in r j x + 1) ≤ each * ((y - r.y0) * w) = mul-le-mul_left each places in
    omega (arith, all, lt)

outside_row : (r : Rect) (y x : ℕ) → r.y0 ≤ y → y < r.y1 → (IsInRect r y x → ⊥) → (x < r.x0) ⊎ (r.x1 ≤ x)
outside_row r y x top bottom out = elim (cases_lt x r.x0) [
  | inl before ↦ inl before
  | inr from ↦ elim (cases_lt x r.x1) [
    | inl within ↦ absurd (out (record { left = from; right = within; top = top; bottom = bottom }))
    | inr past ↦ inr past
  ]
]

pub at_same : {X : Type 0} (value : X → ℤ) (none : X) (p : Raster X) (y x : ℕ) (row old : List X) → y < height p → old ≡ row_of p y → length row ≡ length old → grid_of value none (with_row p y row) y x ≡ valued value none row x
at_same value none p y x row old lt is same = ap (λ r. valued value none r x) (row_of-with_row_same p y row lt (same ∙ ap length is))

pub at_other : {X : Type 0} (value : X → ℤ) (none : X) (p : Raster X) (y j x : ℕ) (row : List X) → j ≢ y → grid_of value none (with_row p y row) j x ≡ grid_of value none p j x
at_other value none p y j x row ne = ap (λ r. valued value none r x) (row_of-with_row_other p y j row ne)

-- what stands outside stays, whatever the row holds inside
pub rows-kept : {X : Type 0} (value : X → ℤ) (none : X) (r : Rect) (y : ℕ) (old plane : Raster X) (before row : List X) → r.y0 ≤ y → y < r.y1 → y < height plane → before ≡ row_of plane y → length row ≡ length before
    → ((x : ℕ) → (x < r.x0) ⊎ (r.x1 ≤ x) → valued value none row x ≡ valued value none before x)
    → ((y x : ℕ) → (IsInRect r y x → ⊥) → grid_of value none plane y x ≡ grid_of value none old y x)
    → (j x : ℕ) → (IsInRect r j x → ⊥) → grid_of value none (with_row plane y row) j x ≡ grid_of value none old j x
rows-kept value none r y old plane before row top bottom up is same beside kept j x out = elim (cases_eq j y) [
  | inl here ↦
      let P : ℕ → Type 0 = λ j. grid_of value none (with_row plane y row) j x ≡ grid_of value none plane j x in
      subst P (sym here)
      (at_same value none plane y x row before up is same ∙ beside x (outside_row r y x top bottom (let Q : ℕ → Type 0 = λ j. IsInRect r j x → ⊥ in subst Q here out)) ∙ ap (λ r. valued value none r x) is)
      ∙ kept j x out
  | inr ne ↦ at_other value none plane y j x row ne ∙ kept j x out
]

pub rows-more : (each from q y : ℕ) (r : Rect) (block block' : List Bool) (old plane : Raster ℤ) (before row : List ℤ) → from < each → r.y0 ≤ y → y < r.y1 → y < height plane → before ≡ row_of plane y
    → block' ≡ behind block (replicate (each * ((y - r.y0) * (r.x1 - r.x0))) q)
    → RowsHold each from r y (dealt block (replicate (each * ((y - r.y0) * (r.x1 - r.x0))) q)) old plane
    → RowHolds each from q r block' before row
    → RowsHold each from r (y + 1) (dealt block (replicate (each * ((y + 1 - r.y0) * (r.x1 - r.x0))) q)) old (with_row plane y row)
rows-more each from q y r block block' old plane before row lt top bottom up is left held filled =
    let w : ℕ = r.x1 - r.x0 in
    let m : ℕ = each * ((y - r.y0) * w) in
    record {
      same_width = held.same_width;
      same_height = height-with_row plane y row ∙ held.same_height;
      inside = λ j x inside below. elim (cases_lt j y) [
        | inl above ↦
            at_other (λ v. v) (pos 0) plane y j x row (omega arith)
            ∙ held.inside j x inside above
            ∙ grow-old block m (each * w) (each * ((y + 1 - r.y0) * w)) q (each * number_in r j x + from) (rows_sum each y r.y0 w top) (number_above each from y j x r lt inside above)
        | inr reached ↦
            let here : j ≡ y = omega arith in
            let P : ℕ → Type 0 = λ j. grid_of (λ v. v) (pos 0) (with_row plane y row) j x ≡ get_or (dealt block (replicate (each * ((y + 1 - r.y0) * w)) q)) (each * number_in r j x + from) (pos 0) in
            subst P (sym here)
            (at_same (λ v. v) (pos 0) plane y x row before up is filled.same_length
            ∙ filled.inside x inside.left inside.right
            ∙ grow-new block block' m (each * w) (each * ((y + 1 - r.y0) * w)) q (each * (x - r.x0) + from) (each * number_in r y x + from) (rows_sum each y r.y0 w top) (omega arith) left)
      ];
      outside = rows-kept (λ v. v) (pos 0) r y old plane before row top bottom up is filled.same_length filled.outside held.outside;
    }

-- ---- a row by parts

-- the places x0..end of a row hold their values, and all others stay
pub record CellsHold (each from x0 end : ℕ) (values old new : List ℤ) : Type 0 where
  pub inside : (x : ℕ) → x0 ≤ x → x < end → get_or new x (pos 0) ≡ get_or values (each * (x - x0) + from) (pos 0)
  pub outside : (x : ℕ) → (x < x0) ⊎ (end ≤ x) → get_or new x (pos 0) ≡ get_or old x (pos 0)

pub cells_sum : (each x0 x end : ℕ) → x0 ≤ x → x ≤ end → each * (end - x0) ≡ each * (x - x0) + each * (end - x)
cells_sum each x0 x end from to =
    let whole : end - x0 ≡ x - x0 + (end - x) = omega arith in
    ap (λ n. each * n) whole ∙ omega arith

pub cells-more : (each from q x0 x end : ℕ) (block block' : List Bool) (old row row' : List ℤ) → from < each → x0 ≤ x → x ≤ end
    → block' ≡ behind block (replicate (each * (x - x0)) q)
    → CellsHold each from x0 x (dealt block (replicate (each * (x - x0)) q)) old row
    → CellsHold each from x end (dealt block' (replicate (each * (end - x)) q)) row row'
    → CellsHold each from x0 end (dealt block (replicate (each * (end - x0)) q)) old row'
cells-more each from q x0 x end block block' old row row' lt begun order left held filled = record {
  inside = λ i at_least below. elim (cases_lt i x) [
    | inl before ↦
        let places : each * (i - x0 + 1) ≤ each * (x - x0) = mul-le-mul_left each (omega arith) in
        filled.outside i (inl before)
        ∙ held.inside i at_least before
        ∙ grow-old block (each * (x - x0)) (each * (end - x)) (each * (end - x0)) q (each * (i - x0) + from) (cells_sum each x0 x end begun order) (omega (arith, places, lt))
    | inr reached ↦
        let split : i - x0 ≡ x - x0 + (i - x) = omega arith in
        let place : each * (i - x0) + from ≡ each * (x - x0) + (each * (i - x) + from) = ap (λ n. each * n + from) split ∙ omega arith in
        filled.inside i reached below
        ∙ grow-new block block' (each * (x - x0)) (each * (end - x)) (each * (end - x0)) q (each * (i - x) + from) (each * (i - x0) + from) (cells_sum each x0 x end begun order) place left
  ];
  outside = λ i out. filled.outside i (elim out [ inl before ↦ inl (omega arith) | inr past ↦ inr past ]) ∙ held.outside i (elim out [ inl before ↦ inl before | inr past ↦ inr (omega arith) ]);
}
