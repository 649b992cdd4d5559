-- Tables, row by row.
use Rattle.std.proofs.Common.{◌≡◌, ap, subst, ◌∙◌, sym, ℕ, zero, suc, ◌+◌, ◌-◌, ◌*◌, ◌/◌, ◌%◌, ◌<◌, ◌≤◌, List, length, get_or, slice_set, arith, inl, inr}
use Rattle.std.proofs.lemmas.Nat.{mul-le, div-mul-add, mod-mul-add, div-add-mod'}
use Rattle.std.proofs.lemmas.Bool.{cases_lt}
use Rattle.std.proofs.lemmas.List.{get_or-set_same, get_or-set_other}
use Rattle.planes.specs.Subbands.{BandExists}
use Rattle.slice_geometry.specs.declared.Size.{Size}
use Rattle.slice_geometry.specs.Slicing.{Slicing}
use Rattle.slice_geometry.specs.SliceOrder.{places_before}
use Rattle.slice_store.specs.Sides.{wide, tall}
use Rattle.slice_store.specs.Cut.{IsTable, AreUnders}

pub some_columns : (x n k : ℕ) → x < n * k → 0 < k
some_columns x n zero lt = absurd (omega (arith, lt))
some_columns x n (suc k) lt = omega arith

pub column_inside : (x n k : ℕ) → x < n * k → x / k < n
column_inside x n k lt = elim (cases_lt (x / k) n) [
  | inl less ↦ less
  | inr not ↦
      let m : n * k ≤ x / k * k = mul-le n k (x / k) k not (omega arith) in
      let e : x / k * k + x % k ≡ x = div-add-mod' x k in
      absurd (omega (arith, m, e, lt))
]

-- the places of a table stand in it
pub table_inside : (rows columns row column : ℕ) → row < rows → column < columns → row * columns + column < rows * columns
table_inside rows columns row column lt short =
    let all : (row + 1) * columns ≤ rows * columns = mul-le (row + 1) columns rows columns (omega (arith, lt)) (omega arith) in
    omega (arith, all, short)

-- the first k places of a table
abbrev pub AreFilled : List ℕ → (ℕ → ℕ → ℕ) → ℕ → ℕ → Type 0
AreFilled list f columns k = (j : ℕ) → j < k → get_or list j 0 ≡ f (j / columns) (j % columns)

pub all_filled : (list : List ℕ) (f : ℕ → ℕ → ℕ) (rows columns k : ℕ) → length list ≡ rows * columns → k ≡ rows * columns → AreFilled list f columns k → IsTable list f rows columns
all_filled list f rows columns k size all filled = record {
  size = size;
  each = λ row column lt short.
      filled (row * columns + column) (omega (arith, table_inside rows columns row column lt short, all))
      ∙ ap (λ (n : ℕ). f n ((row * columns + column) % columns)) (div-mul-add row columns column short)
      ∙ ap (λ (n : ℕ). f row n) (mod-mul-add row columns column short);
}

-- only what stands in the table counts
pub same_table : (list : List ℕ) (f g : ℕ → ℕ → ℕ) (rows columns : ℕ) → ((row column : ℕ) → row < rows → f row column ≡ g row column) → IsTable list f rows columns → IsTable list g rows columns
same_table list f g rows columns same have = record {
  size = have.size;
  each = λ row column lt short. have.each row column lt short ∙ same row column lt;
}

-- one place more
pub put_next : (P : ℕ → ℕ → Type 0) (xs : List ℕ) (k v : ℕ) → k < length xs → P k v → ((j : ℕ) → j < k → P j (get_or xs j 0)) → (j : ℕ) → j < k + 1 → P j (get_or (slice_set xs k v) j 0)
put_next P xs k v inside here before j lt = elim (cases_lt j k) [
  | inl less ↦ subst (λ (n : ℕ). P j n) (sym (get_or-set_other xs k j v 0 (λ e. omega (arith, less, e)))) (before j less)
  | inr not ↦
      let same : k ≡ j = omega (arith, lt, not) in
      subst (λ (m : ℕ). P m (get_or (slice_set xs k v) m 0)) same (subst (λ (n : ℕ). P k n) (sym (get_or-set_same xs k v 0 inside)) here)
]

-- ---- what stands in a slice before the bands of a level

pub under_at : (list : List ℕ) (s : Slicing) (size : Size) → AreUnders list s size → (level sx sy : ℕ) → level ≤ s.depth → sx < s.slices_x → sy < s.slices_y
    → get_or list ((sy * (s.depth + 1) + level) * s.slices_x + sx) 0 ≡ places_before s size sx sy level 1
under_at list s size table level sx sy le across down =
    let short : level < s.depth + 1 = omega (arith, le) in
    let row : ℕ = sy * (s.depth + 1) + level in
    table.each row sx (table_inside s.slices_y (s.depth + 1) sy level down short) across
    ∙ ap (λ (n : ℕ). places_before s size sx n (row % (s.depth + 1)) 1) (div-mul-add sy (s.depth + 1) level short)
    ∙ ap (λ (n : ℕ). places_before s size sx sy n 1) (mod-mul-add sy (s.depth + 1) level short)

pub under_inside : (s : Slicing) (level sx sy : ℕ) → level ≤ s.depth → sx < s.slices_x → sy < s.slices_y
    → (sy * (s.depth + 1) + level) * s.slices_x + sx < s.slices_y * (s.depth + 1) * s.slices_x
under_inside s level sx sy le across down =
    let short : level < s.depth + 1 = omega (arith, le) in
    table_inside (s.slices_y * (s.depth + 1)) s.slices_x (sy * (s.depth + 1) + level) sx (table_inside s.slices_y (s.depth + 1) sy level down short) across

-- and before one of them
pub before_band : (s : Slicing) (size : Size) (sx sy level orient : ℕ) → BandExists s.depth level orient
    → places_before s size sx sy level 1 + (orient - 1) * (wide s size level sx * tall s size level sy) ≡ places_before s size sx sy level orient
before_band s size sx sy zero orient (inl e) =
    let none : orient - 1 ≡ 0 = omega (arith, e.1) in
    ap (λ (n : ℕ). 0 + n * (wide s size 0 sx * tall s size 0 sy)) none ∙ omega arith
before_band s size sx sy zero orient (inr e) = absurd (omega (arith, e.0))
before_band s size sx sy (suc level) orient e = omega arith
