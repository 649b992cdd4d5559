-- Tables of the rectangles of slices, and where bands end by them.
use Rattle.std.proofs.Common.{◌≡◌, ◌∙◌, refl, sym, ap, ℕ, ◌+◌, ◌-◌, ◌*◌, ◌/◌, ◌<◌, ◌≤◌, List, [], ◌∷◌, ◌++◌, length, get_or, set, arith, inl, inr}
use Rattle.std.specs.Prelude.{slice_index}
use Rattle.std.proofs.Math.Nat.{div-lt_iff_lt-mul}
use Rattle.std.proofs.lemmas.Nat.{div-mul-add, mod-mul-add}
use Rattle.std.proofs.lemmas.Bool.{cases_eq}
use Rattle.std.proofs.lemmas.List.{get_or_append_left, get_or-append_right, get_or-set_same, get_or-set_other}
use Rattle.planes.specs.declared.Rect.{Rect}
use Rattle.slice_geometry.specs.declared.Size.{Size}
use Rattle.slice_geometry.specs.Slicing.{Slicing}
use Rattle.slice_geometry.specs.Geometry.{band_size}
use Rattle.slice_geometry.specs.SliceOrder.{level_rect, area, place_count, level_of}
use Rattle.slice_geometry.proofs.RectsInBands.{start_before_end}
use Rattle.planes.specs.Subbands.{BandStack}
use Rattle.slice_encoder.specs.Gathering.{raw_before}
use Rattle.slice_encoder.specs.SliceRects.{no_rect, AreTop, AreLeft}
use Rattle.slice_encoder.proofs.Gathers.{more_length, raw_within, raw_count}

-- ---- one rectangle more

pub one_more : (f : ℕ → Rect) (n : ℕ) (old new : List Rect) (r : Rect) → length old ≡ n → new ≡ old ++ r ∷ [] → r ≡ f n → ((k : ℕ) → k < n → get_or old k no_rect ≡ f k) → (k : ℕ) → k < n + 1 → get_or new k no_rect ≡ f k
one_more f n old new r count is here so_far k lt = elim (cases_eq k n) as (λ _. get_or new k no_rect ≡ f k) [
  | inl e ↦
      let none : k - n ≡ 0 = omega (arith, e) in
      ap (λ (t : List Rect). get_or t k no_rect) is ∙ get_or-append_right old (r ∷ []) n k no_rect count (omega (arith, e)) ∙ ap (λ (m : ℕ). get_or (r ∷ []) m no_rect) none ∙ here ∙ ap f (sym e)
  | inr ne ↦ ap (λ (t : List Rect). get_or t k no_rect) is ∙ get_or_append_left old (r ∷ []) no_rect k (omega (arith, lt, ne, count)) ∙ so_far k (omega (arith, lt, ne))
]

-- a level's part of a table
pub level_inside : (level count i depth : ℕ) → level ≤ depth → i < count → level * count + i < (depth + 1) * count
level_inside level count i depth le lt = grind (arith, le, lt, rows level depth count le)
  where
    rows : (a b n : ℕ) → a ≤ b → a * n + n ≤ (b + 1) * n
    rows a b n le = grind (arith, le)

pub level_below : (n count depth : ℕ) → 1 ≤ count → n < (depth + 1) * count → n / count ≤ depth
level_below n count depth some lt = omega (arith, (div-lt_iff_lt-mul {k = count} {x = n} {y = depth + 1} (omega (arith, some))).1 lt)

-- ---- a rectangle put together

pub top_at : (s : Slicing) (size : Size) (rects : List Rect) (level sx : ℕ) → AreTop s size rects → level ≤ s.depth → sx < s.slices_x → get_or rects (level * s.slices_x + sx) no_rect ≡ level_rect s size sx 0 level
top_at s size rects level sx are le lt =
    are.each (level * s.slices_x + sx) (level_inside level s.slices_x sx s.depth le lt)
    ∙ ap (λ (x : ℕ). level_rect s size x 0 ((level * s.slices_x + sx) / s.slices_x)) (mod-mul-add level s.slices_x sx lt)
    ∙ ap (λ (l : ℕ). level_rect s size sx 0 l) (div-mul-add level s.slices_x sx lt)

pub left_at : (s : Slicing) (size : Size) (rects : List Rect) (level sy : ℕ) → AreLeft s size rects → level ≤ s.depth → sy < s.slices_y → get_or rects (level * s.slices_y + sy) no_rect ≡ level_rect s size 0 sy level
left_at s size rects level sy are le lt =
    are.each (level * s.slices_y + sy) (level_inside level s.slices_y sy s.depth le lt)
    ∙ ap (λ (y : ℕ). level_rect s size 0 y ((level * s.slices_y + sy) / s.slices_y)) (mod-mul-add level s.slices_y sy lt)
    ∙ ap (λ (l : ℕ). level_rect s size 0 sy l) (div-mul-add level s.slices_y sy lt)

pub put_together : (s : Slicing) (size : Size) (level sx sy : ℕ) (column row : Rect) → column ≡ level_rect s size sx 0 level → row ≡ level_rect s size 0 sy level
    → record { x0 = column.x0; x1 = column.x1; y0 = row.y0; y1 = row.y1 } ≡ level_rect s size sx sy level
put_together s size level sx sy column row column_is row_is =
    ap (λ (r : Rect). record { x0 = r.x0; x1 = r.x1; y0 = row.y0; y1 = row.y1 }) column_is
    ∙ ap (λ (r : Rect). record { x0 = (level_rect s size sx 0 level).x0; x1 = (level_rect s size sx 0 level).x1; y0 = r.y0; y1 = r.y1 }) row_is

-- ---- where bands end

module _ (s : Slicing) (size : Size) (sx sy k level : ℕ) (rect : Rect) (level_is : level ≡ level_of k) (rect_is : rect ≡ level_rect s size sx sy level) where
  pub across_rises : sx < s.slices_x → rect.x0 ≤ rect.x1
  across_rises lt = omega (arith, start_before_end (band_size s.depth level size).w s.slices_x sx lt, ap (λ (r : Rect). r.x0) rect_is, ap (λ (r : Rect). r.x1) rect_is)

  pub down_rises : sy < s.slices_y → rect.y0 ≤ rect.y1
  down_rises lt = omega (arith, start_before_end (band_size s.depth level size).h s.slices_y sy lt, ap (λ (r : Rect). r.y0) rect_is, ap (λ (r : Rect). r.y1) rect_is)

  pub next_end : (bands : BandStack) → length (raw_before s size bands sx sy (k + 1)) ≡ length (raw_before s size bands sx sy k) + area rect
  next_end bands = more_length s size bands sx sy k (level_of k) refl ∙ ap (λ (r : Rect). length (raw_before s size bands sx sy k) + area r) (sym (rect_is ∙ ap (λ (l : ℕ). level_rect s size sx sy l) level_is))

  pub end_within : (bands : BandStack) → k < 3 * s.depth + 1 → length (raw_before s size bands sx sy k) + area rect ≤ place_count s size sx sy
  end_within bands lt = omega (arith, next_end bands, raw_within s size bands sx sy (k + 1) (3 * s.depth + 1) (omega (arith, lt)), raw_count s size bands sx sy s.depth)

  -- one end more
  pub ends_more : (ends : List ℕ) (v : ℕ) (bands : BandStack) → length ends ≡ 13 → k < 13 → v ≡ length (raw_before s size bands sx sy (k + 1))
      → ((i : ℕ) → i < k → slice_index ends i ≡ length (raw_before s size bands sx sy (i + 1))) → (i : ℕ) → i < k + 1 → slice_index (set ends k v) i ≡ length (raw_before s size bands sx sy (i + 1))
  ends_more ends v bands count few is so_far i lt = elim (cases_eq i k) as (λ _. slice_index (set ends k v) i ≡ length (raw_before s size bands sx sy (i + 1))) [
    | inl e ↦
        ap (λ (j : ℕ). slice_index (set ends k v) j) e
        ∙ get_or-set_same ends k v 0 (omega (arith, count, few))
        ∙ is
        ∙ ap (λ (j : ℕ). length (raw_before s size bands sx sy (j + 1))) (sym e)
    | inr ne ↦ get_or-set_other ends k i v 0 ne ∙ so_far i (omega (arith, lt, ne))
  ]
