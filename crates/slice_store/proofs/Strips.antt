-- Bands of rows that take the numbers of slices, one row of slices after another.
use Rattle.std.proofs.Common.{◌≡◌, ◌≢◌, ◌∙◌, refl, sym, ap, subst, ℕ, zero, suc, ◌+◌, ◌*◌, ◌^◌, ◌<◌, ◌≤◌, List, ℤ, pos, length, get_or, set, arith, inl, inr}
use Rattle.std.proofs.lemmas.Bool.{cases_eq}
use Rattle.std.proofs.lemmas.Bool.Decides.{nat_tests}
use Rattle.std.proofs.lemmas.List.{get_or-set_same, get_or-set_other}
use Rattle.planes.specs.Bounded.{IsWithin, AreBandsWithin}
use Rattle.planes.specs.Raster.{Raster, height, row_of, at, with_row}
use Rattle.planes.specs.Subbands.{BandsOf, BandStack, BandExists, band_index, band_of, with_band, no_band, AgreeInSizes}
use Rattle.planes.specs.Valued.{valued, grid_of}
use Rattle.planes.proofs.RasterLemmas.{height-with_row, row_of-with_row_same, row_of-with_row_other}
use Rattle.slice_geometry.specs.SliceOrder.{level_of, orient_of}
use Rattle.slice_store.specs.Store.{Store}
use Rattle.slice_store.specs.Places.{band, IsCut}
use Rattle.slice_store.specs.Sides.{top}
use Rattle.slice_store.specs.ShortBands.{shorts_of}
use Rattle.slice_store.specs.Gathered.{ShowTheSame, HaveRows, HaveStrips}
use Rattle.slice_store.proofs.Sizes.{all_top}
use Rattle.slice_store.proofs.Stacked.{index_inside, level_is, width_shown, height_shown}
use Rattle.slice_store.proofs.Past.{same_here, whole_rows}

-- ---- one more row

pub rows_more : {X : Type 0} (value : X → ℤ) (none : X) (p : Raster ℤ) (q : Raster X) (y : ℕ) (row : List X) → HaveRows value none p q y → y < height q → length row ≡ q.w → length (row_of q y) ≡ q.w
    → ((x : ℕ) → x < q.w → valued value none row x ≡ at p y x) → ((x : ℕ) → x < q.w → IsWithin (pos (2 ^ 18)) (valued value none row x))
    → HaveRows value none p (with_row q y row) (y + 1)
rows_more {X} value none p q y row have lt long was same within =
    let here : row_of (with_row q y row) y ≡ row = row_of-with_row_same q y row lt (long ∙ sym was) in
    let other : (j : ℕ) → j ≢ y → row_of (with_row q y row) j ≡ row_of q j = λ j ne. row_of-with_row_other q y j row ne in
    record {
      same_width = have.same_width;
      same_height = height-with_row q y row ∙ have.same_height;
      long = λ j before. elim (cases_eq j y) [
        | inl e ↦ ap (λ (i : ℕ). length (row_of (with_row q y row) i)) e ∙ ap length here ∙ long
        | inr ne ↦ ap length (other j ne) ∙ have.long j (omega (arith, before, ne))
      ];
      same = λ j x before lx. elim (cases_eq j y) [
        | inl e ↦
            let P : ℕ → Type 0 = λ i. grid_of value none (with_row q y row) i x ≡ at p i x in
            subst P (sym e) (ap (λ (r : List X). valued value none r x) here ∙ same x lx)
        | inr ne ↦ ap (λ (r : List X). valued value none r x) (other j ne) ∙ have.same j x (omega (arith, before, ne)) lx
      ];
      within = λ j x before lx. elim (cases_eq j y) as (λ _. IsWithin (pos (2 ^ 18)) (grid_of value none (with_row q y row) j x)) [
        | inl e ↦
            let P : ℕ → Type 0 = λ i. IsWithin (pos (2 ^ 18)) (grid_of value none (with_row q y row) i x) in
            subst P (sym e) (subst (λ (r : List X). IsWithin (pos (2 ^ 18)) (valued value none r x)) (sym here) (within x lx))
        | inr ne ↦ subst (λ (r : List X). IsWithin (pos (2 ^ 18)) (valued value none r x)) (sym (other j ne)) (have.within j x (omega (arith, before, ne)) lx)
      ];
    }

-- none at first
pub no_rows_yet : {X : Type 0} (value : X → ℤ) (none : X) (p : Raster ℤ) (q : Raster X) (n : ℕ) → n ≡ 0 → p.w ≡ q.w → height p ≡ height q → HaveRows value none p q n
no_rows_yet value none p q n first width tall = record {
  same_width = sym width;
  same_height = sym tall;
  long = λ y lt. absurd (omega (arith, lt, first));
  same = λ y x lt lx. absurd (omega (arith, lt, first));
  within = λ y x lt lx. absurd (omega (arith, lt, first));
}

pub no_strips_yet : (s : Store ℤ) (b : BandStack) → AgreeInSizes (shorts_of s) b → HaveStrips (λ z. z) (pos 0) s b 0
no_strips_yet s b sizes level orient e =
    no_rows_yet (λ z. z) (pos 0) (band_of (shorts_of s) level orient) (band_of b level orient) _ (omega arith) (sizes.widths level orient e) (sizes.heights level orient e)

-- ---- one more band

module _ {X : Type 0} (value : X → ℤ) (none : X) (s : Store ℤ) (n : ℕ) (b : BandsOf X) (level orient k : ℕ) (p : Raster X) (is : band_index level orient ≡ k) (there : k < length b.bands) where
  pub done_more : ((j : ℕ) → j < k → HaveRows value none (get_or (shorts_of s).bands j no_band) (get_or b.bands j no_band) (top s.slicing s.size (level_of j) n))
      → HaveRows value none (get_or (shorts_of s).bands k no_band) p (top s.slicing s.size (level_of k) n)
      → (j : ℕ) → j < k + 1 → HaveRows value none (get_or (shorts_of s).bands j no_band) (get_or (with_band b level orient p).bands j no_band) (top s.slicing s.size (level_of j) n)
  done_more done here j lt = elim (cases_eq j k) [
    | inl same ↦
        let P : ℕ → Type 0 = λ j. HaveRows value none (get_or (shorts_of s).bands j no_band) (get_or (with_band b level orient p).bands j no_band) (top s.slicing s.size (level_of j) n) in
        subst P (sym same)
        (subst (λ (q : Raster X). HaveRows value none (get_or (shorts_of s).bands k no_band) q (top s.slicing s.size (level_of k) n)) (sym (ap (λ i. get_or (set b.bands i p) k no_band) is ∙ get_or-set_same b.bands k p no_band there)) here)
    | inr ne ↦
        subst (λ (q : Raster X). HaveRows value none (get_or (shorts_of s).bands j no_band) q (top s.slicing s.size (level_of j) n)) (sym (ap (λ i. get_or (set b.bands i p) j no_band) is ∙ get_or-set_other b.bands k j p no_band ne)) (done j (omega (arith, lt, ne)))
  ]

  pub rest_more : (c : BandsOf X) → ((j : ℕ) → k ≤ j → get_or b.bands j no_band ≡ get_or c.bands j no_band)
      → (j : ℕ) → k + 1 ≤ j → get_or (with_band b level orient p).bands j no_band ≡ get_or c.bands j no_band
  rest_more c rest j le =
      let ne : j ≢ k = omega (arith, le) in
      ap (λ i. get_or (set b.bands i p) j no_band) is ∙ get_or-set_other b.bands k j p no_band ne ∙ rest j (omega (arith, le))

-- all bands, by their places
pub all_strips : {X : Type 0} (value : X → ℤ) (none : X) (s : Store ℤ) (b : BandsOf X) (n : ℕ) → ((j : ℕ) → j < 3 * s.slicing.depth + 1 → HaveRows value none (get_or (shorts_of s).bands j no_band) (get_or b.bands j no_band) (top s.slicing s.size (level_of j) n)) → HaveStrips value none s b n
all_strips value none s b n each level orient e =
    let P : ℕ → Type 0 = λ l. HaveRows value none (band_of (shorts_of s) level orient) (band_of b level orient) (top s.slicing s.size l n) in
    subst P (level_is s.slicing.depth level orient e) (each (band_index level orient) (index_inside s.slicing.depth level orient e))

-- ---- all strips

module _ (s : Store ℤ) (cut : IsCut s.slicing s.size) (b : BandStack) (depth : b.depth ≡ s.slicing.depth) (strips : HaveStrips (λ z. z) (pos 0) s b s.slicing.slices_y) where
  tall : (level orient : ℕ) → BandExists s.slicing.depth level orient → top s.slicing s.size level s.slicing.slices_y ≡ height (band_of b level orient)
  tall level orient e =
      all_top s.slicing s.size cut level ∙ sym (height_shown (λ z. z) (pos 0) s level orient e) ∙ sym (strips level orient e).same_height

  pub all_same : ShowTheSame (shorts_of s) b
  all_same = record {
    same_depth = depth;
    widths = λ level orient e. (strips level orient e).same_width;
    heights = λ level orient e. (strips level orient e).same_height;
    places = λ level orient y x e.
        same_here (band_of b level orient) (band_of (shorts_of s) level orient)
        (λ y lt. (strips level orient e).long y (omega (arith, lt, tall level orient e)))
        (whole_rows (λ z. z) (pos 0) s level orient e) (strips level orient e).same_width (strips level orient e).same_height
        y x (λ ly lx. (strips level orient e).same y x (omega (arith, ly, tall level orient e)) lx);
  }

  pub all_within : AreBandsWithin (pos (2 ^ 18)) b
  all_within level orient e y x ly lx =
      let there : BandExists s.slicing.depth level orient = subst (λ (d : ℕ). BandExists d level orient) depth e in
      (strips level orient there).within y x (omega (arith, ly, tall level orient there)) lx

-- ---- bands by their places

index_above : (k : ℕ) → 1 ≤ k → band_index (level_of k) (orient_of k) ≡ k
index_above k one = grind (arith, nat_tests)

index_at : (k : ℕ) → band_index (level_of k) (orient_of k) ≡ k
index_at zero = refl
index_at (suc k) = index_above (suc k) (omega arith)

exists_above : (depth k : ℕ) → 1 ≤ k → k < 3 * depth + 1 → BandExists depth (level_of k) (orient_of k)
exists_above depth k one lt =
    let low : 1 ≤ orient_of k = grind (arith, nat_tests) in
    let high : orient_of k ≤ 3 = grind (arith, nat_tests) in
    inr (omega arith, omega arith, low, high)

exists_at : (depth k : ℕ) → k < 3 * depth + 1 → BandExists depth (level_of k) (orient_of k)
exists_at depth zero lt = inl (refl, refl)
exists_at depth (suc k) lt = exists_above depth (suc k) (omega arith) lt

-- ---- the band that is written

module _ {X : Type 0} (value : X → ℤ) (none : X) (s : Store ℤ) (old b : BandsOf X) (n level orient k : ℕ) (p : Raster X) (level_is : level ≡ level_of k) (orient_is : orient ≡ orient_of k) (lt : k < 3 * s.slicing.depth + 1)
    (strips : HaveStrips value none s old n) (rest : get_or b.bands k no_band ≡ get_or old.bands k no_band) (is : p ≡ band_of b level orient) where
  pub exists_here : BandExists s.slicing.depth level orient
  exists_here = rw (level_is, orient_is) (exists_at s.slicing.depth k lt)

  pub index_here : band_index level orient ≡ k
  index_here = rw (level_is, orient_is) (index_at k)

  pub rows_here : HaveRows value none (band_of (shorts_of s) level orient) p (top s.slicing s.size level n)
  rows_here =
      let was : p ≡ band_of old level orient = is ∙ ap (λ i. get_or b.bands i no_band) index_here ∙ rest ∙ sym (ap (λ i. get_or old.bands i no_band) index_here) in
      subst (λ (q : Raster X). HaveRows value none (band_of (shorts_of s) level orient) q (top s.slicing s.size level n)) (sym was) (strips level orient exists_here)

  pub width_here : p.w ≡ (band s level).w
  width_here = rows_here.same_width ∙ width_shown (λ z. z) (pos 0) s level orient exists_here

  pub one_here : (q : Raster X) (m : ℕ) → HaveRows value none (band_of (shorts_of s) level orient) q (top s.slicing s.size level m) → HaveRows value none (get_or (shorts_of s).bands k no_band) q (top s.slicing s.size (level_of k) m)
  one_here q m have =
      let P : ℕ → Type 0 = λ i. HaveRows value none (get_or (shorts_of s).bands i no_band) q (top s.slicing s.size level m) in
      subst (λ (l : ℕ). HaveRows value none (get_or (shorts_of s).bands k no_band) q (top s.slicing s.size l m)) level_is (subst P index_here have)
