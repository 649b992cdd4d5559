-- The lowest band beside slices that show the others.
use Rattle.std.proofs.Common.{◌≡◌, ◌≢◌, ◌∙◌, sym, ap, subst, ℕ, ◌+◌, ◌-◌, ◌*◌, ◌<◌, ◌≤◌, zero, suc, map, length, arith, refl, inl, inr}
use Rattle.std.specs.List.{range_with_len}
use Rattle.std.proofs.lemmas.Bool.Decides.{nat_tests}
use Rattle.std.proofs.lemmas.List.{get_or-set_same, get_or-set_other, length-set}
use Rattle.planes.specs.Subbands.{BandExists, band_index, band_of, no_band}
use Rattle.slice_store.specs.declared.short_bands.ShortBands.{ShortBands}
use Rattle.slice_store.specs.ShortBands.{shorts_of, short_stack}

length_counted : {Y : Type 0} (f : ℕ → Y) (a n : ℕ) → length (map f (range_with_len a n)) ≡ n
length_counted f a zero = refl
length_counted f a (suc n) = ap suc (length_counted f (a + 1) n)

shorts_count : (b : ShortBands) → length (shorts_of b.slices).bands ≡ 3 * b.slices.slicing.depth + 1
shorts_count b = length_counted _ 0 (3 * b.slices.slicing.depth + 1)

pub stack_count : (b : ShortBands) → length (short_stack b).bands ≡ 3 * b.slices.slicing.depth + 1
stack_count b = length-set (shorts_of b.slices).bands 0 b.lowest ∙ shorts_count b

pub short_lowest : (b : ShortBands) → band_of (short_stack b) 0 0 ≡ b.lowest
short_lowest b = get_or-set_same (shorts_of b.slices).bands 0 b.lowest no_band (omega (arith, shorts_count b))

index_some : (level orient : ℕ) → 1 ≤ level → 1 ≤ orient → band_index level orient ≢ 0
index_some level orient one some = let k : band_index level orient ≡ 3 * level + orient - 3 = grind (arith, nat_tests) in rw k (omega arith)

pub short_upper : (b : ShortBands) (level orient : ℕ) → 1 ≤ level → 1 ≤ orient → band_of (short_stack b) level orient ≡ band_of (shorts_of b.slices) level orient
short_upper b level orient one some = get_or-set_other (shorts_of b.slices).bands 0 (band_index level orient) b.lowest no_band (index_some level orient one some)

-- what holds of the lowest band, and of all others, holds of each
pub each_band : (depth : ℕ) (P : ℕ → ℕ → Type 0) → P 0 0 → ((level orient : ℕ) → BandExists depth level orient → 1 ≤ level → 1 ≤ orient → P level orient) → (level orient : ℕ) → BandExists depth level orient → P level orient
each_band depth P lowest upper level orient (inl e) = subst (λ (l : ℕ). P l orient) (sym e.0) (subst (λ (o : ℕ). P 0 o) (sym e.1) lowest)
each_band depth P lowest upper level orient (inr e) = upper level orient (inr e) e.0 e.2

pub index_inside : (depth level orient : ℕ) → BandExists depth level orient → band_index level orient < 3 * depth + 1
index_inside depth level orient (inl e) = rw e.0 (omega arith)
index_inside depth level orient (inr e) =
    let k : band_index level orient ≡ 3 * level + orient - 3 = grind (arith, nat_tests) in
    rw k (omega (arith, e))
