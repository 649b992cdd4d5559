-- What a row of limits tells of the values of its bands.
use Rattle.std.proofs.Common.{◌≡◌, ◌∙◌, ap, sym, subst, ℕ, zero, suc, ◌+◌, ◌-◌, ◌*◌, ◌/◌, ◌^◌, ◌<◌, ◌≤◌, List, ◌++◌, length, take, drop, get_or, arith, inl, inr, ℤ, pos}
use Rattle.std.specs.Prelude.{slice_index, int_lt}
use Rattle.std.specs.List.{flat_map, range_with_len}
use Rattle.std.proofs.Math.Nat.{div-mul-le_self}
use Rattle.std.proofs.lemmas.Nat.{le-div}
use Rattle.std.proofs.lemmas.Bool.{cases_lt, le-ltb}
use Rattle.std.proofs.lemmas.List.{length-append, length-map, length-take, length-drop, get_or-map, get_or-take, get_or-drop, get_or_append_left, get_or-append_right}
use Rattle.quant_factors.specs.Factors.{factor_of, forward_of}
use Rattle.quant_factors.proofs.QuantLemmas.{coarser, abs-forward}
use Rattle.quant_factors.proofs.Tables.{factor_least}
use Rattle.slice_encoder.specs.declared.limits.RowKey.{RowKey}
use Rattle.slice_encoder.specs.declared.looks.Look.{Look}
use Rattle.planes.specs.Valued.{valued}
use Rattle.slice_encoder.specs.Limits.{limits_in, padded_count, places_in, quantiser_in, key_piece, key_values, AreSizesTo, IsCut, IsFinest, IsLimitPart}
use Rattle.slice_encoder.specs.Looks.{above, last_above, Counts, IsLook}
use Rattle.slice_encoder.proofs.Listed.{flat_more}
use Rattle.slice_encoder.proofs.Cuts.{cut_rises}
use Rattle.slice_encoder.proofs.Passing.{IsToldBy, told}
use Rattle.slice_encoder.proofs.PlaceLooks.{look_is, same_above, same_last}

-- A coarser quantiser leaves no more, nor does it of a lesser magnitude.
left_most : (m top q finest : ℕ) → m ≤ top → finest ≤ q → q ≤ 127 → 4 * m / factor_of q ≤ 4 * top / factor_of finest
left_most m top q finest le fine few =
    let f : ℕ = factor_of finest in
    omega (
      arith,
      coarser (pos m) finest q fine few,
      abs-forward (pos m) q,
      abs-forward (pos m) finest,
      le-div (4 * m / f) (4 * top) f (omega (arith, factor_least finest (omega (arith, fine, few)))) (omega (arith, le, div-mul-le_self (4 * m) f)),
    )

module _ (key : RowKey) (index asked g top finest : ℕ) (limits : ℕ → ℕ → ℤ) (sizes : ℕ → ℤ) (zs : List ℤ) (cut : IsCut key) (few : index ≤ 127) (some : 1 ≤ asked) (most : asked ≤ 64)
    (parts : (k : ℕ) → k < asked → IsLimitPart (limits k) g key index k) (top_le : top ≤ g) (fine : IsFinest key index finest) (high : 4 * top / factor_of finest + 1 < 2 * 2 ^ asked)
    (room : places_in key ≤ length zs) (seen : (p : ℕ) → p < length zs → sizes p ≡ get_or zs p (pos 0)) (small : AreSizesTo top (take (places_in key) zs)) where
  end : ℕ → ℕ
  end n = slice_index key.ends n

  -- a place of a band
  told_place : (b p : ℕ) → 1 ≤ b → b ≤ key.front → slice_index key.ends (b - 1) ≤ p → p < slice_index key.ends b → (v : ℤ) → v ≡ forward_of (get_or zs p (pos 0)) (quantiser_in key index b) → IsToldBy (λ k. limits k p) (sizes p) asked v
  told_place b p one le low less v v_is =
      let q : ℕ = quantiser_in key index b in
      let inside : p < places_in key = omega (arith, less, cut_rises key cut b key.front le (omega arith)) in
      let size = small p (omega (arith, inside, room, length-take (places_in key) zs)) in
      let m : ℕ = size.0 in
      let at : get_or zs p (pos 0) ≡ pos m = sym (get_or-take (places_in key) zs p (pos 0) inside) ∙ size.1 in
      let is : sizes p ≡ pos m = seen p (omega (arith, inside, room)) ∙ at in
      told (λ k. limits k p) (sizes p) asked q g m (λ k lt. (parts k lt).bands b p one le low less) is (omega (arith, size.2, top_le)) (omega (arith, factor_least q (omega (arith, few))))
      v (v_is ∙ ap (λ (z : ℤ). forward_of z q) at) some most (omega (arith, high, left_most m top q finest size.2 (fine b one le) (omega (arith, few))))

  -- a band's values
  piece_count : (b : ℕ) → 1 ≤ b → b ≤ key.front → length (key_piece key index zs b) ≡ slice_index key.ends b - slice_index key.ends (b - 1)
  piece_count b one le =
      let from : ℕ = slice_index key.ends (b - 1) in
      let n : ℕ = slice_index key.ends b - from in
      omega (
        arith,
        room,
        cut_rises key cut b key.front le (omega arith),
        length-map (take n (drop from zs)) (λ v. forward_of v (quantiser_in key index b)),
        length-take n (drop from zs),
        length-drop from zs,
      )

  piece_at : (b p : ℕ) → 1 ≤ b → b ≤ key.front → slice_index key.ends (b - 1) ≤ p → p < slice_index key.ends b
      → get_or (key_piece key index zs b) (p - slice_index key.ends (b - 1)) (pos 0) ≡ forward_of (get_or zs p (pos 0)) (quantiser_in key index b)
  piece_at b p one le low less =
      let from : ℕ = slice_index key.ends (b - 1) in
      let n : ℕ = slice_index key.ends b - from in
      let q : ℕ = quantiser_in key index b in
      let j : ℕ = p - from in
      let back : from + j ≡ p = omega (arith, low) in
      let long : j < length (take n (drop from zs)) = omega (arith, low, less, room, cut_rises key cut b key.front le (omega arith), length-take n (drop from zs), length-drop from zs) in
      get_or-map (λ v. forward_of v q) (take n (drop from zs)) j (pos 0) (pos 0) long
      ∙ ap (λ (z : ℤ). forward_of z q) (get_or-take n (drop from zs) j (pos 0) (omega (arith, low, less)) ∙ get_or-drop from zs j (pos 0) ∙ ap (λ (i : ℕ). get_or zs i (pos 0)) back)

  -- the values of the first so many bands
  abbrev values : ℕ → List ℤ
  values n = flat_map (key_piece key index zs) (range_with_len 1 n)

  values_more : (n : ℕ) → values (n + 1) ≡ values n ++ key_piece key index zs (n + 1)
  values_more n = flat_more (key_piece key index zs) 1 n (n + 1) (omega arith)

  count_to : (n : ℕ) → n ≤ key.front → length (values n) ≡ slice_index key.ends n
  count_to zero le = sym cut.start
  count_to (suc n) le =
      let next : suc n ≡ n + 1 = omega arith in
      let before : n + 1 - 1 ≡ n = omega arith in
      omega (
        arith,
        ap (λ (k : ℕ). length (values k)) next,
        ap (λ (t : List ℤ). length t) (values_more n),
        length-append (values n) (key_piece key index zs (n + 1)),
        count_to n (omega (arith, le)),
        piece_count (n + 1) (omega arith) (omega (arith, le)),
        ap (λ (k : ℕ). slice_index key.ends k) before,
        ap (λ (k : ℕ). slice_index key.ends k) next,
        cut_rises key cut n (n + 1) (omega arith) (omega (arith, le)),
      )

  told_to : (n : ℕ) → n ≤ key.front → (p : ℕ) → p < slice_index key.ends n → IsToldBy (λ k. limits k p) (sizes p) asked (get_or (values n) p (pos 0))
  told_to zero le p lt = absurd (omega (arith, lt, cut.start))
  told_to (suc n) le p lt =
      let next : suc n ≡ n + 1 = omega arith in
      let before : n + 1 - 1 ≡ n = omega arith in
      let grown : values (suc n) ≡ values n ++ key_piece key index zs (n + 1) = ap values next ∙ values_more n in
      let at : get_or (values (suc n)) p (pos 0) ≡ get_or (values n ++ key_piece key index zs (n + 1)) p (pos 0) = ap (λ (t : List ℤ). get_or t p (pos 0)) grown in
      let less : p < slice_index key.ends (n + 1) = omega (arith, lt, ap (λ (k : ℕ). slice_index key.ends k) next) in
      let start : slice_index key.ends (n + 1 - 1) ≡ slice_index key.ends n = ap (λ (k : ℕ). slice_index key.ends k) before in
      elim (cases_lt p (slice_index key.ends n)) [
        | inl here ↦
            subst (λ (z : ℤ). IsToldBy (λ k. limits k p) (sizes p) asked z) (sym (at ∙ get_or_append_left (values n) (key_piece key index zs (n + 1)) (pos 0) p (omega (arith, here, count_to n (omega (arith, le))))))
            (told_to n (omega (arith, le)) p here)
        | inr behind ↦
            told_place (n + 1) p (omega arith) (omega (arith, le)) (omega (arith, behind, start)) less (get_or (values (suc n)) p (pos 0))
            (at ∙ get_or-append_right (values n) (key_piece key index zs (n + 1)) (slice_index key.ends n) p (pos 0) (count_to n (omega (arith, le))) behind
            ∙ ap (λ (k : ℕ). get_or (key_piece key index zs (n + 1)) (p - k) (pos 0)) (sym start)
            ∙ piece_at (n + 1) p (omega arith) (omega (arith, le)) (omega (arith, behind, start)) less)
      ]

  pub row_count : length (key_values key index zs) ≡ places_in key
  row_count = count_to key.front (omega arith)

  -- So a look by a row tells of the values of all its bands.
  pub row_look : (l : Look) → length zs ≤ padded_count (places_in key) → AreSizesTo g zs → Counts l limits sizes (length zs) asked → IsLook l (key_values key index zs)
  row_look l within all counts =
      let d : ℕ = length zs - places_in key in
      let whole : length zs ≡ places_in key + d = omega (arith, room) in
      look_is l limits sizes asked (places_in key) d (key_values key index zs) some row_count (told_to key.front (omega arith))
      (λ k p lt low less.
      let size = all p (omega (arith, less, whole)) in
      ap (λ (z : ℤ). int_lt z (sizes p)) ((parts k lt).rest p low (omega (arith, less, whole, within)))
      ∙ ap (λ (z : ℤ). int_lt (pos g) z) (seen p (omega (arith, less, whole)) ∙ size.1)
      ∙ le-ltb g size.0 size.2)
      (subst (λ (n : ℕ). Counts l limits sizes n asked) whole counts)

-- ---- a row's part of one limit

module _ {X : Type 0} (value : X → ℤ) (none : X) (limits : List X) (room n : ℕ) (sizes : ℕ → ℤ) where
  part_at : (j a k p : ℕ) → a ≡ j * room → p < k → valued value none (take k (drop a limits)) p ≡ limits_in value none limits room j p
  part_at j a k p is lt = ap value (get_or-take k (drop a limits) p none lt ∙ get_or-drop a limits p none) ∙ ap (λ (i : ℕ). value (get_or limits (i + p) none)) is

  front_at : (p : ℕ) → p < n → valued value none (take n limits) p ≡ limits_in value none limits room 0 p
  front_at p lt = let same : p ≡ 0 * room + p = omega arith in ap value (get_or-take n limits p none lt) ∙ ap (λ (i : ℕ). value (get_or limits i none)) same

  pub part_above : (j a k : ℕ) → a ≡ j * room → n ≤ k → above (valued value none (take k (drop a limits))) sizes n ≡ above (limits_in value none limits room j) sizes n
  part_above j a k is le = same_above (valued value none (take k (drop a limits))) (limits_in value none limits room j) sizes n (λ p lt. part_at j a k p is (omega (arith, lt, le)))

  pub front_above : above (valued value none (take n limits)) sizes n ≡ above (limits_in value none limits room 0) sizes n
  front_above = same_above (valued value none (take n limits)) (limits_in value none limits room 0) sizes n front_at

  pub front_last : last_above (valued value none (take n limits)) sizes n ≡ last_above (limits_in value none limits room 0) sizes n
  front_last = same_last (valued value none (take n limits)) (limits_in value none limits room 0) sizes n front_at
