-- The bands that a store shows, place by place.
use Rattle.std.proofs.Common.{◌≡◌, ◌≢◌, ◌⊎◌, refl, ap, sym, subst, ◌∙◌, ℕ, zero, suc, ◌+◌, ◌-◌, ◌*◌, ◌%◌, ◌<◌, ◌≤◌, arith, inl, inr, List, [], length, map, get_or, ℤ, pos}
use Rattle.std.specs.List.{range_with_len}
use Rattle.std.proofs.Math.Nat.{mod-eq_of_lt}
use Rattle.std.proofs.lemmas.Bool.Decides.{nat_tests}
use Rattle.planes.specs.Raster.{Raster, height, row_of, at}
use Rattle.planes.specs.Subbands.{BandExists, band_index, band_of, no_band, HaveSizes, AgreeInSizes}
use Rattle.slice_geometry.specs.Geometry.{padded_length}
use Rattle.slice_geometry.specs.SliceOrder.{level_of, orient_of, place_count}
use Rattle.slice_geometry.proofs.Places.{alone, holding_below}
use Rattle.slice_store.specs.Store.{Store}
use Rattle.slice_store.specs.Places.{band, row_with, number_at, IsPlace, IsStoreSound, AreTogether}
use Rattle.slice_store.specs.Writing.{with_numbers, OthersStay, ShowsRun}
use Rattle.slice_store.specs.Stack.{tabulated, band_at, stack_of, HoldsSlice, IsBandRowPut}
use Rattle.slice_store.proofs.Sizes.{start_most}

-- ---- what is tabulated

pub get_or-counted : {Y : Type 0} (f : ℕ → Y) (a n i : ℕ) (d : Y) → i < n → get_or (map f (range_with_len a n)) i d ≡ f (a + i)
get_or-counted f a zero i d lt = absurd (omega arith)
get_or-counted f a (suc n) zero d lt = ap f (omega arith)
get_or-counted f a (suc n) (suc i) d lt =
    let e : a + 1 + i ≡ a + suc i = omega arith in
    get_or-counted f (a + 1) n i d (omega arith) ∙ ap f e

pub length-counted : {Y : Type 0} (f : ℕ → Y) (a n : ℕ) → length (map f (range_with_len a n)) ≡ n
length-counted f a zero = refl
length-counted f a (suc n) = ap suc (length-counted f (a + 1) n)

pub at-tabulated : (w h : ℕ) (f : ℕ → ℕ → ℤ) (y x : ℕ) → y < h → x < w → at (tabulated w h f) y x ≡ f y x
at-tabulated w h f y x ly lx =
    ap (λ row. get_or row x (pos 0)) (get_or-counted (λ y. map (λ x. f y x) (range_with_len 0 w)) 0 h y [] ly)
    ∙ get_or-counted (λ x. f (0 + y) x) 0 w x (pos 0) lx
    ∙ ap (λ (n : ℕ). f n (0 + x)) (let e : 0 + y ≡ y = omega arith in e)
    ∙ ap (λ (n : ℕ). f y n) (let e : 0 + x ≡ x = omega arith in e)

-- ---- which band

pub level_is : (depth level orient : ℕ) → BandExists depth level orient → level_of (band_index level orient) ≡ level
level_is depth level orient (inl e) = rw e.0 refl
level_is depth level orient (inr e) =
    let k : band_index level orient ≡ 3 * level + orient - 3 = grind (arith, nat_tests) in
    rw k (omega (arith, e))

orient_is : (depth level orient : ℕ) → BandExists depth level orient → orient_of (band_index level orient) ≡ orient
orient_is depth level orient (inl e) = rw e.0 (sym e.1)
orient_is depth level orient (inr e) =
    let k : band_index level orient ≡ 3 * level + orient - 3 = grind (arith, nat_tests) in
    let l : level_of (3 * level + orient - 3) ≡ level = omega (arith, e) in
    rw k (grind (arith, nat_tests))

pub index_inside : (depth level orient : ℕ) → BandExists depth level orient → band_index level orient < 3 * depth + 1
index_inside depth level orient (inl e) = rw e.0 (omega arith)
index_inside depth level orient (inr e) =
    let k : band_index level orient ≡ 3 * level + orient - 3 = grind (arith, nat_tests) in
    rw k (omega (arith, e))

module _ {X : Type 0} (value : X → ℤ) (none : X) (s : Store X) where
  pub band_shown : (level orient : ℕ) → BandExists s.slicing.depth level orient → band_of (stack_of value none s) level orient ≡ band_at value none s level orient
  band_shown level orient exists =
      let k : ℕ = band_index level orient in
      let e : 0 + k ≡ k = omega arith in
      get_or-counted (λ k. band_at value none s (level_of k) (orient_of k)) 0 (3 * s.slicing.depth + 1) k no_band (index_inside s.slicing.depth level orient exists)
      ∙ ap (λ (n : ℕ). band_at value none s (level_of n) (orient_of n)) e
      ∙ ap (λ (n : ℕ). band_at value none s n (orient_of k)) (level_is s.slicing.depth level orient exists)
      ∙ ap (λ (n : ℕ). band_at value none s level n) (orient_is s.slicing.depth level orient exists)

  pub width_shown : (level orient : ℕ) → BandExists s.slicing.depth level orient → (band_of (stack_of value none s) level orient).w ≡ (band s level).w
  width_shown level orient exists = ap (λ (p : Raster ℤ). p.w) (band_shown level orient exists)

  pub height_shown : (level orient : ℕ) → BandExists s.slicing.depth level orient → height (band_of (stack_of value none s) level orient) ≡ (band s level).h
  height_shown level orient exists =
      ap (λ (p : Raster ℤ). height p) (band_shown level orient exists)
      ∙ length-counted (λ y. map (λ x. number_at value none s level orient y x) (range_with_len 0 (band s level).w)) 0 (band s level).h

  pub row_shown : (level orient y : ℕ) → BandExists s.slicing.depth level orient → y < (band s level).h → length (row_of (band_of (stack_of value none s) level orient) y) ≡ (band s level).w
  row_shown level orient y exists below =
      ap (λ (p : Raster ℤ). length (row_of p y)) (band_shown level orient exists)
      ∙ ap length (get_or-counted (λ y. map (λ x. number_at value none s level orient y x) (range_with_len 0 (band s level).w)) 0 (band s level).h y [] below)
      ∙ length-counted (λ x. number_at value none s level orient (0 + y) x) 0 (band s level).w

  pub sizes_shown : HaveSizes (stack_of value none s) (padded_length s.slicing.depth s.size.w) (padded_length s.slicing.depth s.size.h)
  sizes_shown = record { widths = width_shown; heights = height_shown }

  pub place_shown : (level orient y x : ℕ) → IsPlace s level orient y x → at (band_of (stack_of value none s) level orient) y x ≡ number_at value none s level orient y x
  place_shown level orient y x place =
      ap (λ (p : Raster ℤ). at p y x) (band_shown level orient place.exists)
      ∙ at-tabulated (band s level).w (band s level).h (number_at value none s level orient) y x place.row place.column

  -- a slice's rectangle lies in the band, and its places are of no other slice
  pub run_holds : IsStoreSound s → (sx sy : ℕ) (run : List X) → sx < s.slicing.slices_x → sy < s.slicing.slices_y → length run ≡ place_count s.slicing s.size sx sy
      → ShowsRun value none s sx sy (λ k. get_or run k none) → HoldsSlice value none s.slicing s.size (stack_of value none s) sx sy run
  run_holds sound sx sy run across down count shown = record {
    count = count;
    each = λ level orient y x exists inside.
        let right = start_most (band s level).w s.slicing.slices_x (sx + 1) sound.cut.slices.some_across (omega (arith, across)) in
        let bottom = start_most (band s level).h s.slicing.slices_y (sy + 1) sound.cut.slices.some_down (omega (arith, down)) in
        let place : IsPlace s level orient y x = record { exists = exists; row = omega (arith, inside.bottom, bottom); column = omega (arith, inside.right, right) } in
        let only = alone s.slicing (band s level) y x sx sy sound.cut.slices inside in
        sym (shown level orient y x place (sym only.0) (sym only.1)) ∙ sym (place_shown level orient y x place);
  }

-- Where there is room for all rows of slices, all of them are beside each other.
pub together : (n t u down : ℕ) → down ≤ n → t < down → u < down → t % n ≡ u % n → t ≡ u
together n t u down room lt lu e = sym (mod-eq_of_lt (omega (arith, lt, room))) ∙ e ∙ mod-eq_of_lt (omega (arith, lu, room))

apart : (l o j level orient y : ℕ) → (l ≢ level) ⊎ (o ≢ orient) ⊎ (j ≢ y) → l ≡ level → o ≡ orient → j ≡ y → ⊥
apart l o j level orient y (inl other) a b c = other a
apart l o j level orient y (inr (inl other)) a b c = other b
apart l o j level orient y (inr (inr other)) a b c = other c

module _ {X : Type 0} (value : X → ℤ) (none : X) (s : Store X) (numbers : List X) where
  pub agree : AgreeInSizes (stack_of value none s) (stack_of value none (with_numbers s numbers))
  agree = record {
    same_depth = refl;
    widths = λ level orient exists. width_shown value none s level orient exists ∙ sym (width_shown value none (with_numbers s numbers) level orient exists);
    heights = λ level orient exists. height_shown value none s level orient exists ∙ sym (height_shown value none (with_numbers s numbers) level orient exists);
  }

  row_put_here : (level orient y : ℕ) (row : ℕ → ℤ) → IsStoreSound s → BandExists s.slicing.depth level orient → y < (band s level).h → s.slicing.slices_y ≤ s.strips
      → ((x : ℕ) → x < (band s level).w → number_at value none (with_numbers s numbers) level orient y x ≡ row x) → OthersStay value none s (with_numbers s numbers) level orient y
      → IsBandRowPut level orient y row (stack_of value none s) (stack_of value none (with_numbers s numbers))
  row_put_here level orient y row sound exists below room put stay = record {
    sizes = agree;
    here = λ x lt.
        let column : x < (band s level).w = omega (arith, lt, width_shown value none s level orient exists) in
        place_shown value none (with_numbers s numbers) level orient y x (record { exists = exists; row = below; column = column }) ∙ put x column;
    others = λ l o j x is lj lx other.
        let down : j < (band s l).h = omega (arith, lj, height_shown value none s l o is) in
        let column : x < (band s l).w = omega (arith, lx, width_shown value none s l o is) in
        let place : IsPlace s l o j x = record { exists = is; row = down; column = column } in
        let some = sound.cut.slices.some_down in
        let beside : AreTogether s (row_with s l j) (row_with s level y) = together s.strips (row_with s l j) (row_with s level y) s.slicing.slices_y room
        (holding_below (band s l).h s.slicing.slices_y j some down) (holding_below (band s level).h s.slicing.slices_y y some below) in
        place_shown value none (with_numbers s numbers) l o j x (record { exists = is; row = down; column = column })
        ∙ stay l o j x place beside (apart l o j level orient y other)
        ∙ sym (place_shown value none s l o j x place);
  }

-- a row that is put, as the bands show it
pub row_put : {X : Type 0} (value : X → ℤ) (none : X) (s t : Store X) → t ≡ with_numbers s t.numbers → (level orient y : ℕ) (row : ℕ → ℤ) → IsStoreSound s → BandExists s.slicing.depth level orient
    → y < (band s level).h → s.slicing.slices_y ≤ s.strips
    → ((x : ℕ) → x < (band s level).w → number_at value none t level orient y x ≡ row x) → OthersStay value none s t level orient y
    → IsBandRowPut level orient y row (stack_of value none s) (stack_of value none t)
row_put {X} value none s t same level orient y row sound exists below room put stay =
    let P : Store X → Type 0 = λ u. ((x : ℕ) → x < (band s level).w → number_at value none u level orient y x ≡ row x) → OthersStay value none s u level orient y
    → IsBandRowPut level orient y row (stack_of value none s) (stack_of value none u) in
    subst P (sym same) (λ put stay. row_put_here value none s t.numbers level orient y row sound exists below room put stay) put stay
