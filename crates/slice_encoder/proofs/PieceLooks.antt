-- A list of magnitudes looked at piece by piece, and band by band.
use Rattle.std.proofs.Common.{◌≡◌, ◌∙◌, ap, sym, ℕ, zero, suc, ◌+◌, ◌-◌, ◌*◌, ◌<◌, ◌≤◌, min, List, [], ◌++◌, length, map, take, drop, get_or, append-nil, arith, inl, inr, ℤ, pos}
use Rattle.std.specs.List.{take-map}
use Rattle.std.proofs.lemmas.Bool.{cases_lt}
use Rattle.std.proofs.Math.Seq.{take-add}
use Rattle.std.proofs.lemmas.List.{take_all, take-take, drop-take, drop-map, map-append, length-map, length-take, length-drop, get_or-map, get_or-take, get_or-drop}
use Rattle.quant_factors.specs.Factors.{forward_of}
use Rattle.slice_encoder.specs.Gathering.{quantised}
use Rattle.std.specs.Prelude.{slice_index}
use Rattle.std.specs.List.{flat_map, range_with_len}
use Rattle.std.proofs.lemmas.List.{length-append}
use Rattle.slice_encoder.specs.declared.limits.RowKey.{RowKey}
use Rattle.slice_encoder.specs.Sizes.{SizesSeen, quantised_sizes}
use Rattle.slice_encoder.specs.Limits.{AreSizesTo, IsCut, places_in, quantiser_in, key_piece, key_values}
use Rattle.slice_encoder.proofs.Cuts.{rises, cut_rises}
use Rattle.slice_encoder.proofs.Gathers.{length_quantised}
use Rattle.slice_encoder.proofs.Listed.{flat_more}
use Rattle.slice_encoder.proofs.Reaches.{flat_same}

-- the values of the one band of a key
pub one_piece : (index m : ℕ) (zs : List ℤ) → length zs ≡ m → quantised (index - 0) (take (m - 0) (drop 0 zs)) ++ [] ≡ quantised index zs
one_piece index m zs count =
    let same : index - 0 ≡ index = omega arith in
    let all : take (m - 0) (drop 0 zs) ≡ zs = take_all (m - 0) zs (omega (arith, count)) in
    append-nil (quantised (index - 0) (take (m - 0) (drop 0 zs))) ∙ ap (λ (q : ℕ). quantised q (take (m - 0) (drop 0 zs))) same ∙ ap (quantised index) all

-- one piece more
pub pieces_more : {X : Type 0} (value : X → ℤ) (index from m to : ℕ) (xs : List X) → from ≤ length xs → m ≡ min (from + (to - from)) (length xs) - from → from ≤ to
    → quantised index (take from (map value xs)) ++ quantised index (map value (take m (drop from xs))) ≡ quantised index (take to (map value xs))
pieces_more value index from m to xs inside m_is le =
    let zs = map value xs in
    let part : map value (take m (drop from xs)) ≡ take m (drop from zs) = sym (take-map value m (drop from xs)) ∙ ap (take m) (sym (drop-map value from xs)) in
    let grown : take from zs ++ map value (take m (drop from xs)) ≡ take (from + m) zs = ap (λ (t : List ℤ). take from zs ++ t) part ∙ sym (take-add from m zs) in
    let all : take (from + m) zs ≡ take to zs = elim (cases_lt to (length xs)) [
      | inl less ↦ (let same : from + m ≡ to = omega (arith, less, m_is, le) in ap (λ (n : ℕ). take n zs) same)
      | inr past ↦ take_all (from + m) zs (omega (arith, past, m_is, inside, length-map xs value)) ∙ sym (take_all to zs (omega (arith, past, length-map xs value)))
    ] in
    sym (map-append (λ v. forward_of v index) (take from zs) (map value (take m (drop from xs)))) ∙ ap (quantised index) (grown ∙ all)

-- ---- how great they are

pub lower_sizes : (top g : ℕ) (zs : List ℤ) → top ≤ g → AreSizesTo top zs → AreSizesTo g zs
lower_sizes top g zs le small p lt = let size = small p lt in (size.0, size.1, omega (arith, size.2, le))

pub part_sizes : {X : Type 0} (value : X → ℤ) (none : X) (top a m : ℕ) (xs : List X) → AreSizesTo top (map value xs) → AreSizesTo top (map value (take m (drop a xs)))
part_sizes value none top a m xs small p lt =
    let part = take m (drop a xs) in
    let inside : p < length part = omega (arith, lt, length-map part value) in
    let whole : a + p < length xs = omega (arith, inside, length-take m (drop a xs), length-drop a xs) in
    let less : p < m = omega (arith, inside, length-take m (drop a xs)) in
    let size = small (a + p) (omega (arith, whole, length-map xs value)) in
    (size.0, get_or-map value part p none (pos 0) inside ∙ ap value (get_or-take m (drop a xs) p none less ∙ get_or-drop a xs p none) ∙ sym (get_or-map value xs (a + p) none (pos 0) whole) ∙ size.1, size.2)

pub front_sizes : (top n : ℕ) (zs : List ℤ) → AreSizesTo top zs → AreSizesTo top (take n zs)
front_sizes top n zs small p lt =
    let size = small p (omega (arith, lt, length-take n zs)) in
    (size.0, get_or-take n zs p (pos 0) (omega (arith, lt, length-take n zs)) ∙ size.1, size.2)

-- ---- band by band

pub front_of : {X : Type 0} (value : X → ℤ) (none : X) (top n m end : ℕ) (xs : List X) (zs : List ℤ) → map value xs ≡ zs → n ≤ end → AreSizesTo top (take end zs) → AreSizesTo top (take n (map value (take m xs)))
front_of value none top n m end xs zs is le small p lt =
    let part = take m xs in
    let here : p < n = omega (arith, lt, length-take n (map value part)) in
    let inside : p < length part = omega (arith, lt, length-take n (map value part), length-map part value) in
    let whole : p < length xs = omega (arith, inside, length-take m xs) in
    let less : p < m = omega (arith, inside, length-take m xs) in
    let size = small p (omega (arith, here, le, whole, length-take end zs, ap (λ (t : List ℤ). length t) is, length-map xs value)) in
    (size.0, get_or-take n (map value part) p (pos 0) here ∙ get_or-map value part p none (pos 0) inside ∙ ap value (get_or-take m xs p none less) ∙ sym (get_or-map value xs p none (pos 0) whole) ∙ ap (λ (t : List ℤ). get_or t p (pos 0)) is ∙ sym (get_or-take end zs p (pos 0) (omega (arith, here, le))) ∙ size.1, size.2)

pub band_of : {X : Type 0} (value : X → ℤ) (none : X) (top a n end : ℕ) (xs : List X) (zs : List ℤ) → map value xs ≡ zs → a + n ≤ end → AreSizesTo top (take end zs) → AreSizesTo top (map value (take n (drop a xs)))
band_of value none top a n end xs zs is le small p lt =
    let part = take n (drop a xs) in
    let inside : p < length part = omega (arith, lt, length-map part value) in
    let whole : a + p < length xs = omega (arith, inside, length-take n (drop a xs), length-drop a xs) in
    let less : p < n = omega (arith, inside, length-take n (drop a xs)) in
    let size = small (a + p) (omega (arith, less, le, whole, length-take end zs, ap (λ (t : List ℤ). length t) is, length-map xs value)) in
    (size.0, get_or-map value part p none (pos 0) inside ∙ ap value (get_or-take n (drop a xs) p none less ∙ get_or-drop a xs p none) ∙ sym (get_or-map value xs (a + p) none (pos 0) whole) ∙ ap (λ (t : List ℤ). get_or t (a + p) (pos 0)) is ∙ sym (get_or-take end zs (a + p) (pos 0) (omega (arith, less, le))) ∙ size.1, size.2)

-- a part of a front
pub part_of_front : (a n m : ℕ) (zs : List ℤ) → a + n ≤ m → take n (drop a (take m zs)) ≡ take n (drop a zs)
part_of_front a n m zs le =
    let whole : a + (m - a) ≡ m = omega (arith, le) in
    ap (λ (k : ℕ). take n (drop a (take k zs))) (sym whole) ∙ ap (take n) (drop-take a (m - a) zs) ∙ take-take n (m - a) (drop a zs) (omega (arith, le))

-- ---- bands of a key and of a list

module _ (key : RowKey) (s : SizesSeen) (index m : ℕ) (cut : IsCut key) (entries : key.entries ≡ s.entries) (ends : (k : ℕ) → k ≤ key.front → slice_index key.ends k ≡ slice_index s.ends k) (room : places_in key ≤ m) where
  same_piece : (k : ℕ) → 1 ≤ k → k < 1 + key.front → key_piece key index (take m s.values) k ≡ quantised_sizes s index k
  same_piece k one lt =
      let a : ℕ = slice_index key.ends (k - 1) in
      let n : ℕ = slice_index key.ends k - a in
      let from = ends (k - 1) (omega (arith, lt)) in
      let to = ends k (omega (arith, lt)) in
      let n_is : n ≡ slice_index s.ends k - slice_index s.ends (k - 1) = omega (arith, from, to) in
      ap (quantised (quantiser_in key index k)) (part_of_front a n m s.values (omega (arith, room, cut.rise k one (omega (arith, lt)), cut_rises key cut k key.front (omega (arith, lt)) (omega arith))))
      ∙ ap (λ (t : List ℕ). quantised (index - slice_index t k) (take n (drop a s.values))) entries
      ∙ ap (λ (j : ℕ). quantised (index - slice_index s.entries k) (take j (drop a s.values))) n_is
      ∙ ap (λ (j : ℕ). quantised (index - slice_index s.entries k) (take (slice_index s.ends k - slice_index s.ends (k - 1)) (drop j s.values))) from

  pub same_front : key_values key index (take m s.values) ≡ flat_map (quantised_sizes s index) (range_with_len 1 key.front)
  same_front = flat_same (key_piece key index (take m s.values)) (quantised_sizes s index) 1 key.front same_piece

-- how many values stand in the first so many bands
module _ (s : SizesSeen) (index : ℕ) (start : slice_index s.ends 0 ≡ 0) (rise : (k : ℕ) → 1 ≤ k → k ≤ 3 * s.depth → slice_index s.ends (k - 1) ≤ slice_index s.ends k) (inside : slice_index s.ends (3 * s.depth) ≤ length s.values) where
  pub size_count : (k : ℕ) → 1 ≤ k → k ≤ 3 * s.depth → length (quantised_sizes s index k) ≡ slice_index s.ends k - slice_index s.ends (k - 1)
  size_count k one le =
      let a : ℕ = slice_index s.ends (k - 1) in
      let n : ℕ = slice_index s.ends k - a in
      omega (
        arith,
        inside,
        rises s.ends (3 * s.depth) k (3 * s.depth) rise le (omega arith),
        length_quantised (index - slice_index s.entries k) (take n (drop a s.values)),
        length-take n (drop a s.values),
        length-drop a s.values,
      )

  pub bands_count : (n : ℕ) → n ≤ 3 * s.depth → length (flat_map (quantised_sizes s index) (range_with_len 1 n)) ≡ slice_index s.ends n
  bands_count zero le = sym start
  bands_count (suc n) le =
      let next : suc n ≡ n + 1 = omega arith in
      let before : n + 1 - 1 ≡ n = omega arith in
      omega (
        arith,
        ap (λ (k : ℕ). length (flat_map (quantised_sizes s index) (range_with_len 1 k))) next,
        ap (λ (t : List ℤ). length t) (flat_more (quantised_sizes s index) 1 n (n + 1) (omega arith)),
        length-append (flat_map (quantised_sizes s index) (range_with_len 1 n)) (quantised_sizes s index (n + 1)),
        bands_count n (omega (arith, le)),
        size_count (n + 1) (omega arith) (omega (arith, le)),
        ap (λ (k : ℕ). slice_index s.ends k) before,
        ap (λ (k : ℕ). slice_index s.ends k) next,
        rise (n + 1) (omega arith) (omega (arith, le)),
      )
