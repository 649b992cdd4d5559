-- A store of zeros shows zero bands.
use Rattle.std.specs.List.{range_with_len}
use Rattle.std.proofs.Common.{◌≡◌, ◌∙◌, refl, sym, ap, subst, map, ℕ, zero, suc, ◌+◌, ◌<◌, List, ℤ, pos, get_or, replicate}
use Rattle.std.proofs.lemmas.List.{ext_get_or, get_or-replicate, length-replicate}
use Rattle.planes.specs.Raster.{zeros}
use Rattle.planes.specs.Subbands.{AreZeroBands}
use Rattle.slice_geometry.specs.Geometry.{padded_length}
use Rattle.slice_store.specs.Store.{Store}
use Rattle.slice_store.specs.Places.{band, place_of, number_at}
use Rattle.slice_store.specs.Stack.{tabulated, stack_of}
use Rattle.slice_store.proofs.Stacked.{get_or-counted, length-counted, band_shown}

counted_same : {Y : Type 0} (f : ℕ → Y) (c : Y) (a n : ℕ) → ((i : ℕ) → i < n → f (a + i) ≡ c) → map f (range_with_len a n) ≡ replicate n c
counted_same f c a n each =
    ext_get_or c (map f (range_with_len a n)) (replicate n c) (length-counted f a n ∙ sym (length-replicate n c))
    (λ i lt. let short : i < n = subst (λ (m : ℕ). i < m) (length-counted f a n) lt in get_or-counted f a n i c short ∙ each i short ∙ sym (get_or-replicate n i c c short))

all_none : {X : Type 0} (none : X) (c i : ℕ) → get_or (replicate c none) i none ≡ none
all_none none zero i = refl
all_none none (suc c) zero = refl
all_none none (suc c) (suc i) = all_none none c i

zero_table : (w h : ℕ) (f : ℕ → ℕ → ℤ) → ((y x : ℕ) → f y x ≡ pos 0) → tabulated w h f ≡ zeros w h
zero_table w h f each =
    ap (λ rows. record { w = w; rows = rows })
    (counted_same (λ y. map (λ x. f y x) (range_with_len 0 w)) (replicate w (pos 0)) 0 h (λ y ly. counted_same (λ x. f (0 + y) x) (pos 0) 0 w (λ x lx. each (0 + y) (0 + x))))

pub zero_bands : {X : Type 0} (value : X → ℤ) (none : X) (s : Store X) (c : ℕ) → value none ≡ pos 0 → s.numbers ≡ replicate c none
    → AreZeroBands (stack_of value none s) s.slicing.depth (padded_length s.slicing.depth s.size.w) (padded_length s.slicing.depth s.size.h)
zero_bands {X} value none s c zero_value same = record {
  same_depth = refl;
  each = λ level orient exists.
      band_shown value none s level orient exists
      ∙ zero_table (band s level).w (band s level).h (number_at value none s level orient)
      (λ y x. ap (λ (xs : List X). value (get_or xs (place_of s level orient y x) none)) same ∙ ap value (all_none none c (place_of s level orient y x)) ∙ zero_value);
}
