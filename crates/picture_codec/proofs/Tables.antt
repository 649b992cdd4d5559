-- Samples that are known place by place.
use Rattle.std.proofs.Common.{◌≡◌, ℕ, zero, suc, ◌+◌, ◌*◌, ◌/◌, ◌%◌, ◌^◌, ◌<◌, List, length, map, replicate, get_or, refl, sym, ap, subst, ◌∙◌, arith}
use Rattle.std.proofs.Math.Nat.{div-lt_iff_lt-mul, pow-le-pow_right}
use Rattle.std.specs.List.{range_with_len}
use Rattle.std.proofs.lemmas.List.FromFn.{length-map-range_with_len, get_or-map-range_with_len}
use Rattle.std.proofs.lemmas.Grind.{same_number_lists}
use Rattle.slice_geometry.specs.declared.Size.{Size}
use Rattle.picture_codec.specs.Samples.{SamplesSeen, sample_at, samples_by, blank, AreSamples}

pub row_below : (k w h : ℕ) → k < h * w → k / w < h
row_below k zero h lt = absurd (grind arith)
row_below k (suc w) h lt = (div-lt_iff_lt-mul {k = suc w} {x = k} {y = h} (omega arith)).1 lt

pub column_below : (k w h : ℕ) → k < h * w → k % w < w
column_below k zero h lt = absurd (grind arith)
column_below k (suc w) h lt = omega arith

pub place_again : (k w h : ℕ) → k < h * w → k / w * w + k % w ≡ k
place_again k zero h lt = absurd (grind arith)
place_again k (suc w) h lt = grind arith

pub tabulated_is : (s : SamplesSeen) (g : ℕ → ℕ → ℕ) → length s.cells ≡ s.h * s.w → ((y x : ℕ) → y < s.h → x < s.w → sample_at s y x ≡ g y x)
    → s ≡ samples_by (record { w = s.w; h = s.h }) g
tabulated_is s g count each =
    let f : ℕ → ℕ = λ k. g (k / s.w) (k % s.w) in
    let size : Size = record { w = s.w; h = s.h } in
    let same : s.cells ≡ map f (range_with_len 0 (s.h * s.w)) = same_number_lists s.cells (map f (range_with_len 0 (s.h * s.w))) (count ∙ sym (length-map-range_with_len f 0 (s.h * s.w)))
    (λ k lt. let inside : k < s.h * s.w = omega (arith, lt, count) in
    ap (λ i. get_or s.cells i 0) (sym (place_again k s.w s.h inside)) ∙ each (k / s.w) (k % s.w) (row_below k s.w s.h inside) (column_below k s.w s.h inside) ∙ sym (get_or-map-range_with_len f 0 (s.h * s.w) k k 0 (omega (arith, lt, count)) (omega arith))) in
    ap (λ cells. record s { cells = cells }) same

-- samples that agree place by place
pub tabulated_same : (size : Size) (f g : ℕ → ℕ → ℕ) → ((y x : ℕ) → y < size.h → x < size.w → f y x ≡ g y x) → samples_by size f ≡ samples_by size g
tabulated_same size f g each =
    let first : ℕ → ℕ = λ k. f (k / size.w) (k % size.w) in
    let second : ℕ → ℕ = λ k. g (k / size.w) (k % size.w) in
    let n = size.h * size.w in
    let count : length (map first (range_with_len 0 n)) ≡ n = length-map-range_with_len first 0 n in
    let same : map first (range_with_len 0 n) ≡ map second (range_with_len 0 n) = same_number_lists (map first (range_with_len 0 n)) (map second (range_with_len 0 n)) (count ∙ sym (length-map-range_with_len second 0 n))
    (λ k lt. let inside : k < size.h * size.w = omega (arith, lt, count) in
    get_or-map-range_with_len first 0 n k k 0 inside (omega arith) ∙ each (k / size.w) (k % size.w) (row_below k size.w size.h inside) (column_below k size.w size.h inside) ∙ sym (get_or-map-range_with_len second 0 n k k 0 inside (omega arith))) in
    let with_cells : List ℕ → SamplesSeen = λ cells. record { w = size.w; h = size.h; cells = cells } in
    ap with_cells same

zeros : ℕ → List ℕ
zeros n = replicate n 0

get_or-zeros : (n k : ℕ) → get_or (zeros n) k 0 ≡ 0
unfolding zeros
get_or-zeros zero k = refl
get_or-zeros (suc n) zero = refl
get_or-zeros (suc n) (suc k) = get_or-zeros n k

pub positive : (depth : ℕ) → 0 < 2 ^ depth
positive depth = pow-le-pow_right {n = 2} (omega arith) {i = 0} {j = depth} (omega arith)

pub blank_fits : (size : Size) (depth : ℕ) → AreSamples size depth (blank size)
unfolding zeros
blank_fits size depth = record { width = refl; height = refl; small = λ k. subst (λ v. v < 2 ^ depth) (sym (get_or-zeros (size.h * size.w) k)) (positive depth) }
