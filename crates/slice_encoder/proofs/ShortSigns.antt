-- Quantised magnitudes with the signs of their coefficients are the values of a slice.
use Rattle.std.proofs.Common.{◌≡◌, ◌∙◌, sym, ap, subst, ℕ, zero, suc, ◌+◌, ◌-◌, ◌*◌, ◌/◌, ◌<◌, ◌≤◌, List, ◌++◌, length, map, take, drop, set, get_or, arith, inl, inr, ℤ, pos}
use Rattle.std.specs.Prelude.{slice_index, unsigned_abs}
use Rattle.std.specs.List.{flat_map, range_with_len}
use Rattle.std.proofs.lemmas.Bool.{cases_lt}
use Rattle.std.proofs.lemmas.List.{ext_get_or, length-set, length-append, length-map, length-take, length-drop, take-append-le, take-map, get_or-map, get_or-take, get_or-drop, get_or-set_same, get_or-set_other, get_or_append_left, get_or-append_right}
use Rattle.quant_factors.specs.Factors.{factor_of, signed, forward_of}
use Rattle.slice_encoder.specs.CodeTables.{place_of, places_of_values}
use Rattle.quant_factors.specs.Weights.{Weights, band_quantiser}
use Rattle.slice_geometry.specs.SliceOrder.{level_of, orient_of}
use Rattle.slice_encoder.specs.Gathering.{GatheredSeen, IsGatheredSound, piece_of, quantised, quantised_piece, quantised_pair, in_turn, outside_of, gathered_values, gathered_pairs}
use Rattle.slice_encoder.specs.Sizes.{SizesSeen, quantised_sizes, size_values, turn_at}
use Rattle.quant_factors.proofs.QuantLemmas.{abs-forward}
use Rattle.slice_encoder.proofs.Gathers.{length_quantised}
use Rattle.slice_encoder.proofs.Listed.{flat_more}
use Rattle.slice_encoder.proofs.TakenSizes.{turn_quantised, turn_length, part_in_turn, piece_place, piece_length, ends_least}
use Rattle.slice_encoder.proofs.PieceLooks.{size_count}
use Rattle.slice_encoder.proofs.SizeLists.{two_more}

-- two values more of components in turn
pub signs_put : (first second : List ℤ) (sizes : List ℕ) (out : List ℤ) (k : ℕ) (v w : ℤ) → 2 * k + 1 < length out
    → v ≡ signed (get_or first k (pos 0)) (slice_index sizes (2 * k)) → w ≡ signed (get_or second k (pos 0)) (slice_index sizes (2 * k + 1))
    → ((p : ℕ) → p < 2 * k → get_or out p (pos 0) ≡ signed (turn_at first second p) (slice_index sizes p))
    → (p : ℕ) → p < 2 * (k + 1) → get_or (set (set out (2 * k) v) (2 * k + 1) w) p (pos 0) ≡ signed (turn_at first second p) (slice_index sizes p)
signs_put first second sizes out k v w room v_is w_is so_far =
    let a : ℕ = 2 * k in
    let b : ℕ = 2 * k + 1 in
    let one = set out a v in
    let new = set one b w in
    two_more first second k (λ p z. get_or new p (pos 0) ≡ signed z (slice_index sizes p))
    (λ p lt. get_or-set_other one b p w (pos 0) (λ e. absurd (omega (arith, e, lt))) ∙ get_or-set_other out a p v (pos 0) (λ e. absurd (omega (arith, e, lt))) ∙ so_far p lt)
    (get_or-set_other one b a w (pos 0) (λ e. absurd (omega (arith, e))) ∙ get_or-set_same out a v (pos 0) (omega (arith, room)) ∙ v_is)
    (get_or-set_same one b w (pos 0) (omega (arith, room, length-set out a v)) ∙ w_is)

-- the front of lists of which these are places
pub front_places : (n m : ℕ) (out : List ℤ) (places : List ℕ) (rest : List ℤ) (others : List ℕ) → n ≤ m → length out ≡ m → length places ≡ m → places ≡ places_of_values out
    → take n (places ++ others) ≡ places_of_values (take n (out ++ rest))
front_places n m out places rest others le count count_places is =
    take-append-le n places others (omega (arith, le, count_places)) ∙ ap (take n) is ∙ take-map place_of n out ∙ sym (ap places_of_values (take-append-le n out rest (omega (arith, le, count))))

-- ---- values band by band

module _ (f : ℕ → List ℤ) (ends : ℕ → ℕ) (Is : ℕ → ℤ → Type 0) (start : ends 0 ≡ 0) where
  flat_length : (n : ℕ) → ((k : ℕ) → 1 ≤ k → k ≤ n → ends (k - 1) + length (f k) ≡ ends k) → length (flat_map f (range_with_len 1 n)) ≡ ends n
  flat_length zero lies = sym start
  flat_length (suc n) lies =
      let next : suc n ≡ n + 1 = omega arith in
      let before : n + 1 - 1 ≡ n = omega arith in
      omega (
        arith,
        ap (λ (k : ℕ). length (flat_map f (range_with_len 1 k))) next,
        ap (λ (t : List ℤ). length t) (flat_more f 1 n (n + 1) (omega arith)),
        length-append (flat_map f (range_with_len 1 n)) (f (n + 1)),
        flat_length n (λ k one le. lies k one (omega (arith, le))),
        lies (n + 1) (omega arith) (omega arith),
        ap ends before,
        ap ends next,
      )

  -- what holds of the places of each band holds of those of all
  pub flat_places : (n : ℕ) → ((k : ℕ) → 1 ≤ k → k ≤ n → ends (k - 1) + length (f k) ≡ ends k) → ((k i : ℕ) → 1 ≤ k → k ≤ n → i < length (f k) → Is (ends (k - 1) + i) (get_or (f k) i (pos 0)))
      → (p : ℕ) → p < ends n → Is p (get_or (flat_map f (range_with_len 1 n)) p (pos 0))
  flat_places zero lies each p lt = absurd (omega (arith, lt, start))
  flat_places (suc n) lies each p lt =
      let next : suc n ≡ n + 1 = omega arith in
      let before : n + 1 - 1 ≡ n = omega arith in
      let front = flat_map f (range_with_len 1 n) in
      let lies_front : (k : ℕ) → 1 ≤ k → k ≤ n → ends (k - 1) + length (f k) ≡ ends k = λ k one le. lies k one (omega (arith, le)) in
      let count : length front ≡ ends n = flat_length n lies_front in
      let grown : flat_map f (range_with_len 1 (suc n)) ≡ front ++ f (n + 1) = ap (λ (k : ℕ). flat_map f (range_with_len 1 k)) next ∙ flat_more f 1 n (n + 1) (omega arith) in
      let at : get_or (flat_map f (range_with_len 1 (suc n))) p (pos 0) ≡ get_or (front ++ f (n + 1)) p (pos 0) = ap (λ (t : List ℤ). get_or t p (pos 0)) grown in
      elim (cases_lt p (ends n)) [
        | inl here ↦
            subst (Is p) (sym (at ∙ get_or_append_left front (f (n + 1)) (pos 0) p (omega (arith, here, count))))
            (flat_places n lies_front (λ k i one le. each k i one (omega (arith, le))) p here)
        | inr behind ↦
            let i : ℕ = p - ends n in
            let inside : i < length (f (n + 1)) = omega (arith, lt, behind, lies (n + 1) (omega arith) (omega arith), ap ends before, ap ends next) in
            let there : ends (n + 1 - 1) + i ≡ p = omega (arith, behind, ap ends before) in
            subst (Is p) (sym (at ∙ get_or-append_right front (f (n + 1)) (ends n) p (pos 0) count behind))
            (subst (λ (j : ℕ). Is j (get_or (f (n + 1)) i (pos 0))) there (each (n + 1) i (omega arith) (omega arith) inside))
      ]

-- ---- the magnitudes of a list

module _ (s : SizesSeen) (index : ℕ) (start : slice_index s.ends 0 ≡ 0) (rise : (k : ℕ) → 1 ≤ k → k ≤ 3 * s.depth → slice_index s.ends (k - 1) ≤ slice_index s.ends k) (inside : slice_index s.ends (3 * s.depth) ≤ length s.values) where
  band_lies : (k : ℕ) → 1 ≤ k → k ≤ 3 * s.depth → slice_index s.ends (k - 1) + length (quantised_sizes s index k) ≡ slice_index s.ends k
  band_lies k one le = omega (arith, size_count s index start rise inside k one le, rise k one le)

  -- Quantised place by place they are those of the list quantised band by band.
  pub sizes_row : (out : List ℕ) (count : ℕ)
      → ((k p : ℕ) → 1 ≤ k → k ≤ 3 * s.depth → slice_index s.ends (k - 1) ≤ p → p < slice_index s.ends k → p < count → slice_index out p ≡ 4 * unsigned_abs (get_or s.values p (pos 0)) / factor_of (index - slice_index s.entries k))
      → count ≤ slice_index s.ends (3 * s.depth) → (p : ℕ) → p < count → slice_index out p ≡ unsigned_abs (get_or (size_values s index) p (pos 0))
  sizes_row out count each most p lt =
      flat_places (quantised_sizes s index) (λ k. slice_index s.ends k) (λ j z. j < count → slice_index out j ≡ unsigned_abs z) start (3 * s.depth) band_lies
      (λ k i one le inner before.
      let a : ℕ = slice_index s.ends (k - 1) in
      let n : ℕ = slice_index s.ends k - a in
      let q : ℕ = index - slice_index s.entries k in
      let here : i < n = omega (arith, inner, band_lies k one le) in
      let long : i < length (take n (drop a s.values)) = omega (arith, inner, length-map (take n (drop a s.values)) (λ v. forward_of v q)) in
      let at : get_or (quantised_sizes s index k) i (pos 0) ≡ forward_of (get_or s.values (a + i) (pos 0)) q =
      get_or-map (λ v. forward_of v q) (take n (drop a s.values)) i (pos 0) (pos 0) long ∙ ap (λ (z : ℤ). forward_of z q) (get_or-take n (drop a s.values) i (pos 0) here ∙ get_or-drop a s.values i (pos 0)) in
      each k (a + i) one le (omega arith) (omega (arith, here)) before ∙ sym (ap unsigned_abs at ∙ abs-forward (get_or s.values (a + i) (pos 0)) q))
      p (omega (arith, lt, most)) lt

-- ---- the signs of coefficients

signed_same : (v : ℤ) (q : ℕ) → signed v (unsigned_abs (forward_of v q)) ≡ forward_of v q
unfolding forward_of
signed_same v q = ap (signed v) (abs-forward v q)

-- a quantised coefficient has its sign
quantised_signed : (c : ℤ) (q i : ℕ) (vs : List ℤ) → i < length vs → c ≡ get_or vs i (pos 0) → signed c (unsigned_abs (get_or (quantised q vs) i (pos 0))) ≡ get_or (quantised q vs) i (pos 0)
quantised_signed c q i vs lt is =
    let v : ℤ = get_or vs i (pos 0) in
    let at : get_or (quantised q vs) i (pos 0) ≡ forward_of v q = get_or-map (λ v. forward_of v q) vs i (pos 0) (pos 0) lt in
    ap (λ (z : ℤ). signed z (unsigned_abs (get_or (quantised q vs) i (pos 0)))) is ∙ ap (λ (z : ℤ). signed v (unsigned_abs z)) at ∙ signed_same v q ∙ sym at

outside_count : (g : GatheredSeen) → IsGatheredSound g → length (outside_of g) ≡ slice_index g.ends (3 * g.depth) - slice_index g.ends 0
outside_count g sound =
    let b : ℕ = slice_index g.ends 0 in
    omega (arith, sound.inside (3 * g.depth) (omega arith), length-take (slice_index g.ends (3 * g.depth) - b) (drop b g.values), length-drop b g.values)

module _ (g : GatheredSeen) (matrix : Weights) (index : ℕ) (sound : IsGatheredSound g) where
  abbrev quantiser : ℕ → ℕ
  quantiser k = band_quantiser matrix index (level_of k) (orient_of k)

  abbrev ends : ℕ → ℕ
  ends k = slice_index g.ends k - slice_index g.ends 0

  count : (k : ℕ) → k ≤ 3 * g.depth → length (quantised_piece g matrix index k) ≡ slice_index g.ends k - slice_index g.ends (k - 1)
  count k le = length_quantised (quantiser k) (piece_of g k) ∙ piece_length g k (sound.inside k le)

  lies : (k : ℕ) → 1 ≤ k → k ≤ 3 * g.depth → ends (k - 1) + length (quantised_piece g matrix index k) ≡ ends k
  lies k one le = omega (arith, count k le, sound.rise k one le, ends_least g sound (k - 1) (omega (arith, le)))

  all : length (gathered_values g matrix index) ≡ ends (3 * g.depth)
  all = flat_length (quantised_piece g matrix index) ends (λ j z. z ≡ z) (omega arith) (3 * g.depth) lies

  pub one_count : length (gathered_values g matrix index) ≡ length (outside_of g)
  one_count = all ∙ sym (outside_count g sound)

  pub one_room : length (gathered_values g matrix index) ≤ slice_index g.ends (3 * g.depth)
  one_room = omega (arith, all)

  pub one_signed : (p : ℕ) → p < length (gathered_values g matrix index) → signed (get_or (outside_of g) p (pos 0)) (unsigned_abs (get_or (gathered_values g matrix index) p (pos 0))) ≡ get_or (gathered_values g matrix index) p (pos 0)
  one_signed p lt =
      flat_places (quantised_piece g matrix index) ends (λ j z. signed (get_or (outside_of g) j (pos 0)) (unsigned_abs z) ≡ z) (omega arith) (3 * g.depth) lies
      (λ k i one le inner.
      quantised_signed (get_or (outside_of g) (ends (k - 1) + i) (pos 0)) (quantiser k) i (piece_of g k) (omega (arith, inner, length_quantised (quantiser k) (piece_of g k)))
      (piece_place g k one (ends_least g sound (k - 1) (omega (arith, le))) (sound.rise k one le) (sound.whole k le) i (omega (arith, inner, count k le))))
      p (omega (arith, lt, all))

module _ (g h : GatheredSeen) (matrix : Weights) (index : ℕ) (sound : IsGatheredSound g) (other : IsGatheredSound h) (depths : h.depth ≡ g.depth) (alike : (k : ℕ) → k ≤ 3 * g.depth → slice_index h.ends k ≡ slice_index g.ends k) where
  abbrev pair_quantiser : ℕ → ℕ
  pair_quantiser k = band_quantiser matrix index (level_of k) (orient_of k)

  abbrev pair_ends : ℕ → ℕ
  pair_ends k = 2 * (slice_index g.ends k - slice_index g.ends 0)

  turned : (k : ℕ) → quantised (pair_quantiser k) (in_turn (piece_of g k) (piece_of h k)) ≡ quantised_pair g h matrix index k
  turned k = turn_quantised (pair_quantiser k) (piece_of g k) (piece_of h k)

  first : (k : ℕ) → k ≤ 3 * g.depth → length (piece_of g k) ≡ slice_index g.ends k - slice_index g.ends (k - 1)
  first k le = piece_length g k (sound.inside k le)

  same : (k : ℕ) → k ≤ 3 * g.depth → length (piece_of h k) ≡ length (piece_of g k)
  same k le = omega (arith, first k le, piece_length h k (other.inside k (omega (arith, le, depths))), alike k le, alike (k - 1) (omega (arith, le)))

  turns : (k : ℕ) → k ≤ 3 * g.depth → length (in_turn (piece_of g k) (piece_of h k)) ≡ 2 * (slice_index g.ends k - slice_index g.ends (k - 1))
  turns k le = turn_length (piece_of g k) (piece_of h k) (same k le) ∙ ap (λ (n : ℕ). 2 * n) (first k le)

  pair_count : (k : ℕ) → k ≤ 3 * g.depth → length (quantised_pair g h matrix index k) ≡ 2 * (slice_index g.ends k - slice_index g.ends (k - 1))
  pair_count k le = sym (ap (λ (t : List ℤ). length t) (turned k)) ∙ length_quantised (pair_quantiser k) (in_turn (piece_of g k) (piece_of h k)) ∙ turns k le

  pair_lies : (k : ℕ) → 1 ≤ k → k ≤ 3 * g.depth → pair_ends (k - 1) + length (quantised_pair g h matrix index k) ≡ pair_ends k
  pair_lies k one le = omega (arith, pair_count k le, sound.rise k one le, ends_least g sound (k - 1) (omega (arith, le)))

  pair_all : length (gathered_pairs g h matrix index) ≡ pair_ends (3 * g.depth)
  pair_all = flat_length (quantised_pair g h matrix index) pair_ends (λ j z. z ≡ z) (omega arith) (3 * g.depth) pair_lies

  last : slice_index h.ends (3 * h.depth) ≡ slice_index g.ends (3 * g.depth)
  last = ap (λ (d : ℕ). slice_index h.ends (3 * d)) depths ∙ alike (3 * g.depth) (omega arith)

  pub two_count : length (gathered_pairs g h matrix index) ≡ 2 * length (outside_of g)
  two_count = pair_all ∙ sym (ap (λ (n : ℕ). 2 * n) (outside_count g sound))

  pub two_room : 2 * length (outside_of g) ≤ 2 * slice_index g.ends (3 * g.depth)
  two_room = omega (arith, outside_count g sound)

  pub same_outside : length (outside_of h) ≡ length (outside_of g)
  same_outside = omega (arith, outside_count g sound, outside_count h other, last, alike 0 (omega arith))

  -- the coefficient at a place of a band
  turn_place : (k i : ℕ) → 1 ≤ k → k ≤ 3 * g.depth → i < length (quantised_pair g h matrix index k) → turn_at (outside_of g) (outside_of h) (pair_ends (k - 1) + i) ≡ get_or (in_turn (piece_of g k) (piece_of h k)) i (pos 0)
  turn_place k i one le inner =
      let low = ends_least g sound (k - 1) (omega (arith, le)) in
      let order = sound.rise k one le in
      let before = alike (k - 1) (omega (arith, le)) in
      let here = alike k le in
      let start = alike 0 (omega arith) in
      part_in_turn (outside_of g) (outside_of h) (piece_of g k) (piece_of h k) (slice_index g.ends (k - 1) - slice_index g.ends 0) (same k le)
      (λ j lj. piece_place g k one low order (sound.whole k le) j (omega (arith, lj, first k le)))
      (λ j lj. ap (λ (n : ℕ). get_or (outside_of h) (n + j) (pos 0)) (omega (arith, before, start))
      ∙ piece_place h k one (omega (arith, low, before, start)) (omega (arith, order, before, here)) (omega (arith, sound.whole k le, here, last)) j (omega (arith, lj, first k le, before, here)))
      i (omega (arith, inner, pair_count k le, first k le))

  pub two_signed : (p : ℕ) → p < length (gathered_pairs g h matrix index)
      → signed (turn_at (outside_of g) (outside_of h) p) (unsigned_abs (get_or (gathered_pairs g h matrix index) p (pos 0))) ≡ get_or (gathered_pairs g h matrix index) p (pos 0)
  two_signed p lt =
      flat_places (quantised_pair g h matrix index) pair_ends (λ j z. signed (turn_at (outside_of g) (outside_of h) j) (unsigned_abs z) ≡ z) (omega arith) (3 * g.depth) pair_lies
      (λ k i one le inner.
      let c : ℤ = turn_at (outside_of g) (outside_of h) (pair_ends (k - 1) + i) in
      subst (λ (t : List ℤ). signed c (unsigned_abs (get_or t i (pos 0))) ≡ get_or t i (pos 0)) (turned k)
      (quantised_signed c (pair_quantiser k) i (in_turn (piece_of g k) (piece_of h k)) (omega (arith, inner, pair_count k le, turns k le)) (turn_place k i one le inner)))
      p (omega (arith, lt, pair_all))

-- as many magnitudes as values
pub as_many_sizes : (seen all : List ℤ) → map unsigned_abs seen ≡ map unsigned_abs all → length seen ≡ length all
as_many_sizes seen all same = sym (length-map seen unsigned_abs) ∙ ap (λ (t : List ℕ). length t) same ∙ length-map all unsigned_abs

-- So magnitudes with these signs are the values.
pub signs_listed : (coefficient : ℕ → ℤ) (all seen out : List ℤ) (sizes : List ℕ) (count : ℕ) → map unsigned_abs seen ≡ map unsigned_abs all → count ≤ length all → count ≤ length out
    → ((p : ℕ) → p < length all → signed (coefficient p) (unsigned_abs (get_or all p (pos 0))) ≡ get_or all p (pos 0))
    → ((p : ℕ) → p < count → slice_index sizes p ≡ unsigned_abs (get_or seen p (pos 0)))
    → ((p : ℕ) → p < count → get_or out p (pos 0) ≡ signed (coefficient p) (slice_index sizes p)) → take count out ≡ take count all
signs_listed coefficient all seen out sizes count same few room is sizes_are out_is =
    let as_many = as_many_sizes seen all same in
    ext_get_or (pos 0) (take count out) (take count all) (omega (arith, few, room, length-take count out, length-take count all)) (λ p lt.
    let here : p < count = omega (arith, lt, length-take count out) in
    let size : slice_index sizes p ≡ unsigned_abs (get_or all p (pos 0)) = sizes_are p here ∙ sym (get_or-map unsigned_abs seen p (pos 0) 0 (omega (arith, here, few, as_many))) ∙ ap (λ (t : List ℕ). get_or t p 0) same ∙ get_or-map unsigned_abs all p (pos 0) 0 (omega (arith, here, few)) in
    get_or-take count out p (pos 0) here ∙ out_is p here ∙ ap (signed (coefficient p)) size ∙ is p (omega (arith, here, few)) ∙ sym (get_or-take count all p (pos 0) here))
