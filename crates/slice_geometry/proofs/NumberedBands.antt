-- The bands by their numbers.
use Rattle.std.proofs.Common.{◌≡◌, ◌≢◌, ℕ, zero, suc, ◌+◌, ◌*◌, ◌<◌, ◌≤◌, length, get_or, set, ℤ, refl, ap, ◌∙◌, inl, inr, arith}
use Rattle.std.proofs.lemmas.Bool.Decides.{nat_tests}
use Rattle.std.proofs.lemmas.List.{get_or-set_same, get_or-set_other}
use Rattle.planes.specs.Raster.{Raster}
use Rattle.planes.specs.Subbands.{BandStack, BandExists, band_index, band_of, with_band, no_band}
use Rattle.slice_geometry.specs.SliceOrder.{level_of, orient_of, numbered}

index_above : (k : ℕ) → 1 ≤ k → band_index (level_of k) (orient_of k) ≡ k
index_above k one = grind (arith, nat_tests)

pub index-numbered : (k : ℕ) → band_index (level_of k) (orient_of k) ≡ k
index-numbered zero = refl
index-numbered (suc k) = index_above (suc k) (omega arith)

exists_above : (depth k : ℕ) → 1 ≤ k → k < 3 * depth + 1 → BandExists depth (level_of k) (orient_of k)
exists_above depth k one lt =
    let low : 1 ≤ orient_of k = grind (arith, nat_tests) in
    let high : orient_of k ≤ 3 = grind (arith, nat_tests) in
    inr (omega arith, omega arith, low, high)

pub band-exists : (depth k : ℕ) → k < 3 * depth + 1 → BandExists depth (level_of k) (orient_of k)
band-exists depth zero lt = inl (refl, refl)
band-exists depth (suc k) lt = exists_above depth (suc k) (omega arith) lt

-- ---- a stack with another band

pub numbered-same : (b : BandStack) (level orient k : ℕ) (p : Raster ℤ) → band_index level orient ≡ k → k < length b.bands → numbered (with_band b level orient p) k ≡ p
numbered-same b level orient k p is lt =
    ap (λ j. get_or (set b.bands j p) k no_band) is ∙ get_or-set_same b.bands k p no_band lt

pub numbered-other : (b : BandStack) (level orient k j : ℕ) (p : Raster ℤ) → band_index level orient ≡ k → j ≢ k → numbered (with_band b level orient p) j ≡ numbered b j
numbered-other b level orient k j p is ne =
    ap (λ i. get_or (set b.bands i p) j no_band) is ∙ get_or-set_other b.bands k j p no_band ne

-- ---- a band that is found by its level and orientation

pub number_here : (k level number : ℕ) → level ≡ level_of k → number ≡ orient_of k → band_index level number ≡ k
number_here k level number level_is number_is = ap (λ l. band_index l number) level_is ∙ ap (band_index (level_of k)) number_is ∙ index-numbered k

pub before_here : (b : BandStack) (k level number : ℕ) (before : Raster ℤ) → band_index level number ≡ k → before ≡ band_of b level number → before ≡ numbered b k
before_here b k level number before number_is is = is ∙ ap (λ j. get_or b.bands j no_band) number_is
