-- The samples of a block, lane by lane, at any width.
use Rattle.std.proofs.Common.{◌≡◌, refl, sym, ap, subst, ◌∙◌, ℕ, zero, suc, ◌+◌, ◌-◌, ◌*◌, ◌%◌, ◌^◌, ◌<◌, ◌≤◌, List, length, map, replicate, arith, Bool, true, false, cond, T, ℤ, pos, negsuc, neg_ℤ, ◌++◌, [], ◌∷◌, ◌/◌, inl, inr, ◌+ℤ◌, ◌-ℤ◌, ◌≤ℤ◌}
use Rattle.std.proofs.lemmas.Int.{ints, clamps, to_z-of_z, wrapping_add_is, int_wrap_fits}
use Rattle.std.proofs.lemmas.List.{get_or-map, length-map, get_or_append_left, get_or-append-add}
use Rattle.std.proofs.lemmas.Bool.{cases_lt, cases_eq}
use Rattle.std.specs.Prelude.{◌==◌, if◌then◌else◌}
use Rattle.std.proofs.lemmas.Simd.{tops_compared, length-sel_l, get_or-sel_l, length-zip2, get_or-zip2, get_or-replicate, length-replicate, Each1-from_get_or, length-put_chunk, get_or-put_chunk_at, get_or-put_chunk_below}
use Rattle.std.specs.Int.{int_min, int_max}
use lib.Lanes.{zip2, sel_l, top, Each1, put_chunk}
use lib.ListN.{get_or}
use lib.Signed.{lt_z, non_neg, yes_non_neg, pos-nat_abs}
use lib.IntN.{nat_abs}
use mir.Syntax.{Width, w16}
use mir.Val.{to_z, of_z, SFits, Fits, bits, hbits}
use Rattle.planes.specs.Numbers.{Within}
use Rattle.lifting.specs.Places.{place, woven}
use Rattle.lifting.specs.Lines.{Line}
use Rattle.lifting.specs.Lanes.{AreLanes}
use Rattle.lifting.specs.Clipping.{clipped_up}
use Rattle.lifting.proofs.Lanes.{plus}
use Rattle.lifting.proofs.WovenLines.{at_even, at_odd}

module _ (w : Width) where
  abbrev pub less : ℕ → ℕ → Bool
  less x y = lt_z (to_z w x) (to_z w y)

  -- the lanes of one block where those of xs are less than those of ys, and else those of another
  abbrev pub chosen : List ℕ → List ℕ → List ℕ → List ℕ → List ℕ
  chosen xs ys a b = sel_l (map (top (hbits w)) (zip2 (λ x y. cond (less x y) (2 ^ bits w - 1) 0) xs ys)) a b

  chosen_count : (xs ys a b : List ℕ) → length xs ≡ 8 → length ys ≡ 8 → length a ≡ 8 → length b ≡ 8 → length (chosen xs ys a b) ≡ 8
  chosen_count xs ys a b lx ly la lb =
      ap (λ (ms : List Bool). length (sel_l ms a b)) (tops_compared w less xs ys)
      ∙ length-sel_l (zip2 less xs ys) a b (length-zip2 less xs ys (lx ∙ sym ly) ∙ lx ∙ sym la) (length-zip2 less xs ys (lx ∙ sym ly) ∙ lx ∙ sym lb)
      ∙ length-zip2 less xs ys (lx ∙ sym ly) ∙ lx

  chosen_at : (xs ys a b : List ℕ) → length xs ≡ 8 → length ys ≡ 8 → length a ≡ 8 → length b ≡ 8 → (i : ℕ) → i < 8
      → get_or (chosen xs ys a b) i 0 ≡ cond (less (get_or xs i 0) (get_or ys i 0)) (get_or a i 0) (get_or b i 0)
  chosen_at xs ys a b lx ly la lb i lt =
      ap (λ (ms : List Bool). get_or (sel_l ms a b) i 0) (tops_compared w less xs ys)
      ∙ get_or-sel_l (zip2 less xs ys) a b i 0 (omega (arith, lt, length-zip2 less xs ys (lx ∙ sym ly), lx)) (omega (arith, lt, la)) (omega (arith, lt, lb))
      ∙ ap (λ (t : Bool). cond t (get_or a i 0) (get_or b i 0)) (get_or-zip2 less xs ys i 0 0 false (omega (arith, lt, lx)) (omega (arith, lt, ly)))

  -- clipped between two numbers, and offset by a third
  abbrev pub clipped : List ℕ → ℕ → ℕ → ℕ → List ℕ
  clipped v low high half =
      let least = chosen v (replicate 8 high) v (replicate 8 high) in
      zip2 (plus w) (chosen least (replicate 8 low) (replicate 8 low) least) (replicate 8 half)

  abbrev pub lesser : ℕ → ℕ → ℕ
  lesser x y = cond (less x y) x y

  abbrev pub greater : ℕ → ℕ → ℕ
  greater x y = cond (less x y) y x

  pub clipped_count : (v : List ℕ) (low high half : ℕ) → length v ≡ 8 → length (clipped v low high half) ≡ 8
  clipped_count v low high half lv =
      let l8 : (x : ℕ) → length (replicate 8 x) ≡ 8 = λ x. length-replicate 8 x in
      let least = chosen v (replicate 8 high) v (replicate 8 high) in
      let count = chosen_count v (replicate 8 high) v (replicate 8 high) lv (l8 high) lv (l8 high) in
      let most = chosen_count least (replicate 8 low) (replicate 8 low) least count (l8 low) (l8 low) count in
      length-zip2 (plus w) (chosen least (replicate 8 low) (replicate 8 low) least) (replicate 8 half) (most ∙ sym (l8 half)) ∙ most

  pub clipped_at : (v : List ℕ) (low high half : ℕ) → length v ≡ 8 → (i : ℕ) → i < 8 → get_or (clipped v low high half) i 0 ≡ plus w (greater (lesser (get_or v i 0) high) low) half
  clipped_at v low high half lv i lt =
      let l8 : (x : ℕ) → length (replicate 8 x) ≡ 8 = λ x. length-replicate 8 x in
      let g8 : (x : ℕ) → get_or (replicate 8 x) i 0 ≡ x = λ x. get_or-replicate 8 i x 0 lt in
      let least : List ℕ = chosen v (replicate 8 high) v (replicate 8 high) in
      let count = chosen_count v (replicate 8 high) v (replicate 8 high) lv (l8 high) lv (l8 high) in
      let first : get_or least i 0 ≡ lesser (get_or v i 0) high = chosen_at v (replicate 8 high) v (replicate 8 high) lv (l8 high) lv (l8 high) i lt ∙ ap (λ (x : ℕ). lesser (get_or v i 0) x) (g8 high) in
      let most : List ℕ = chosen least (replicate 8 low) (replicate 8 low) least in
      let second : get_or most i 0 ≡ greater (lesser (get_or v i 0) high) low =
      chosen_at least (replicate 8 low) (replicate 8 low) least count (l8 low) (l8 low) count i lt
      ∙ ap (λ (x : ℕ). greater (get_or least i 0) x) (g8 low) ∙ ap (λ (x : ℕ). greater x low) first in
      get_or-zip2 (plus w) most (replicate 8 half) i 0 0 0 (omega (arith, lt, chosen_count least (replicate 8 low) (replicate 8 low) least count (l8 low) (l8 low) count)) (omega (arith, lt, l8 half))
      ∙ ap (λ (x : ℕ). plus w x (get_or (replicate 8 half) i 0)) second ∙ ap (λ (x : ℕ). plus w (greater (lesser (get_or v i 0) high) low) x) (g8 half)

  -- of numbers that fit
  lesser_is : (x y : ℤ) → SFits w x → SFits w y → lesser (of_z w x) (of_z w y) ≡ of_z w (int_min y x)
  lesser_is x y fx fy = by (lt_z x y) (ap (λ (z : ℤ). lt_z z (to_z w (of_z w y))) (to_z-of_z w x fx) ∙ ap (lt_z x) (to_z-of_z w y fy))
    where
      by : (t : Bool) → less (of_z w x) (of_z w y) ≡ t → lesser (of_z w x) (of_z w y) ≡ of_z w (cond t x y)
      by true e = rw e refl
      by false e = rw e refl

  greater_is : (x y : ℤ) → SFits w x → SFits w y → greater (of_z w x) (of_z w y) ≡ of_z w (int_max y x)
  greater_is x y fx fy = by (lt_z x y) (ap (λ (z : ℤ). lt_z z (to_z w (of_z w y))) (to_z-of_z w x fx) ∙ ap (lt_z x) (to_z-of_z w y fy))
    where
      by : (t : Bool) → less (of_z w x) (of_z w y) ≡ t → greater (of_z w x) (of_z w y) ≡ of_z w (cond t y x)
      by true e = rw e refl
      by false e = rw e refl

clip_low : (b z : ℤ) → pos 1 ≤ℤ b → neg_ℤ b ≤ℤ int_max (neg_ℤ b) (int_min (b -ℤ pos 1) z)
clip_low b z some = omega (arith, ints, clamps)

clip_high : (b z : ℤ) → pos 1 ≤ℤ b → int_max (neg_ℤ b) (int_min (b -ℤ pos 1) z) ≤ℤ (b -ℤ pos 1)
clip_high b z some = omega (arith, ints, clamps)

pub up_low : (b z : ℤ) → pos 1 ≤ℤ b → pos 0 ≤ℤ clipped_up b z
up_low b z some = let low = clip_low b z some in omega (arith, ints)

pub up_high : (b z : ℤ) → pos 1 ≤ℤ b → clipped_up b z ≤ℤ ((b +ℤ b) -ℤ pos 1)
up_high b z some = let high = clip_high b z some in omega (arith, ints)

between_fits : (w : Width) (z : ℤ) (n : ℕ) → n < 2 ^ hbits w → neg_ℤ (pos n) ≤ℤ z → z ≤ℤ pos n → SFits w z
between_fits w (pos a) n lt low high = record { sfits = omega (arith, ints) }
between_fits w (negsuc a) n lt low high = record { sfits = omega (arith, ints) }

-- one lane
module _ (w : Width) (n : ℕ) (room : n + n ≤ 2 ^ hbits w) (b : ℤ) (some : pos 1 ≤ℤ b) (most : b ≤ℤ pos n) (z : ℤ) (fz : SFits w z) where
  many : 1 ≤ n
  many = omega (arith, ints)

  fb : SFits w b
  fb = between_fits w b n (omega (arith, many)) (omega (arith, ints)) most

  fh : SFits w (b -ℤ pos 1)
  fh = between_fits w (b -ℤ pos 1) n (omega (arith, many)) (omega (arith, ints)) (omega (arith, ints))

  fl : SFits w (neg_ℤ b)
  fl = between_fits w (neg_ℤ b) n (omega (arith, many)) (omega (arith, ints)) (omega (arith, ints))

  fm : SFits w (int_min (b -ℤ pos 1) z)
  fm = by (lt_z z (b -ℤ pos 1))
    where
      by : (t : Bool) → SFits w (cond t z (b -ℤ pos 1))
      by true = fz
      by false = fh

  fc : SFits w (int_max (neg_ℤ b) (int_min (b -ℤ pos 1) z))
  fc = by (lt_z (int_min (b -ℤ pos 1) z) (neg_ℤ b))
    where
      by : (t : Bool) → SFits w (cond t (neg_ℤ b) (int_min (b -ℤ pos 1) z))
      by true = fl
      by false = fm

  fu : SFits w (clipped_up b z)
  fu = let low = up_low b z some in let high = up_high b z some in up_fits (clipped_up b z) low (omega (arith, ints))
    where
      up_fits : (s : ℤ) → pos 0 ≤ℤ s → s ≤ℤ pos (n + n - 1) → SFits w s
      up_fits (pos a) low high = record { sfits = omega (arith, ints, many) }
      up_fits (negsuc a) low high = absurd (omega (arith, ints))

  pub lane_is : to_z w (plus w (greater w (lesser w (of_z w z) (of_z w (to_z w (of_z w b) -ℤ pos 1))) (of_z w (pos 0 -ℤ to_z w (of_z w b)))) (of_z w b)) ≡ clipped_up b z
  lane_is =
      let back : to_z w (of_z w b) ≡ b = to_z-of_z w b fb in
      let minus : pos 0 -ℤ b ≡ neg_ℤ b = omega (arith, ints) in
      let high : of_z w (to_z w (of_z w b) -ℤ pos 1) ≡ of_z w (b -ℤ pos 1) = ap (λ (x : ℤ). of_z w (x -ℤ pos 1)) back in
      let low : of_z w (pos 0 -ℤ to_z w (of_z w b)) ≡ of_z w (neg_ℤ b) = ap (λ (x : ℤ). of_z w (pos 0 -ℤ x)) back ∙ ap (of_z w) minus in
      ap (λ (h : ℕ). to_z w (plus w (greater w (lesser w (of_z w z) h) (of_z w (pos 0 -ℤ to_z w (of_z w b)))) (of_z w b))) high
      ∙ ap (λ (l : ℕ). to_z w (plus w (greater w (lesser w (of_z w z) (of_z w (b -ℤ pos 1))) l) (of_z w b))) low
      ∙ ap (λ (x : ℕ). to_z w (plus w (greater w x (of_z w (neg_ℤ b))) (of_z w b))) (lesser_is w z (b -ℤ pos 1) fz fh)
      ∙ ap (λ (x : ℕ). to_z w (plus w x (of_z w b))) (greater_is w (int_min (b -ℤ pos 1) z) (neg_ℤ b) fm fl)
      ∙ wrapping_add_is w (int_max (neg_ℤ b) (int_min (b -ℤ pos 1) z)) b fc fb
      ∙ int_wrap_fits w (clipped_up b z) fu

cast_fits : (n : ℕ) → n + n ≤ 2 ^ 16 → 1 ≤ n → (s : ℤ) → pos 0 ≤ℤ s → s ≤ℤ pos (n + n - 1) → T (non_neg s) × Fits w16 (nat_abs s)
cast_fits n le some (pos a) low high = (tt, record { fits = omega (arith, ints) })
cast_fits n le some (negsuc a) low high = absurd (omega (arith, ints))

-- all lanes
module _ (w : Width) (n reach : ℕ) (room : n + n ≤ 2 ^ hbits w) (short : n + n ≤ 2 ^ 16) (inside : reach < 2 ^ hbits w) (b : ℤ) (some : pos 1 ≤ℤ b) (most : b ≤ℤ pos n) (v : List ℤ) (small : AreLanes reach v) where
  abbrev pub offset_bits : List ℕ
  offset_bits = clipped w (map (of_z w) v) (of_z w (pos 0 -ℤ to_z w (of_z w b))) (of_z w (to_z w (of_z w b) -ℤ pos 1)) (of_z w b)

  bits_count : length (map (of_z w) v) ≡ 8
  bits_count = length-map v (of_z w) ∙ small.count

  offset_count : length offset_bits ≡ 8
  offset_count = clipped_count w (map (of_z w) v) (of_z w (pos 0 -ℤ to_z w (of_z w b))) (of_z w (to_z w (of_z w b) -ℤ pos 1)) (of_z w b) bits_count

  lane : (i : ℕ) → i < 8 → to_z w (get_or offset_bits i 0) ≡ clipped_up b (place v i)
  lane i lt =
      let high : ℕ = of_z w (to_z w (of_z w b) -ℤ pos 1) in
      let low : ℕ = of_z w (pos 0 -ℤ to_z w (of_z w b)) in
      let s : Within reach (place v i) = small.each i lt in
      ap (to_z w) (clipped_at w (map (of_z w) v) low high (of_z w b) bits_count i lt)
      ∙ ap (λ (x : ℕ). to_z w (plus w (greater w (lesser w x high) low) (of_z w b))) (get_or-map (of_z w) v i (pos 0) 0 (omega (arith, lt, small.count)))
      ∙ lane_is w n room b some most (place v i) (between_fits w (place v i) reach inside s.low s.high)

  pub offset_casts : Each1 (λ (a : ℕ). T (non_neg (to_z w a)) × Fits w16 (nat_abs (to_z w a))) offset_bits
  offset_casts =
      Each1-from_get_or (λ (a : ℕ). T (non_neg (to_z w a)) × Fits w16 (nat_abs (to_z w a))) offset_bits 0
      (λ i lt. (let l8 : i < 8 = omega (arith, lt, offset_count) in
      let low = up_low b (place v i) some in
      let high = up_high b (place v i) some in
      subst (λ (s : ℤ). T (non_neg s) × Fits w16 (nat_abs s)) (sym (lane i l8)) (cast_fits n short (omega (arith, ints)) (clipped_up b (place v i)) low (omega (arith, ints)))))

  pub offset_each : (i : ℕ) → i < 8 → pos (get_or (map (λ (a : ℕ). nat_abs (to_z w a)) offset_bits) i 0) ≡ clipped_up b (place v i)
  offset_each i lt =
      ap pos (get_or-map (λ (a : ℕ). nat_abs (to_z w a)) offset_bits i 0 0 (omega (arith, lt, offset_count)))
      ∙ ap (λ (s : ℤ). pos (nat_abs s)) (lane i lt)
      ∙ pos-nat_abs (clipped_up b (place v i)) (yes_non_neg (up_low b (place v i) some))

-- two blocks woven into a row
module _ (even odd dst : List ℕ) (at : ℕ) (le : length even ≡ 8) (lo : length odd ≡ 8) (room : at + 16 ≤ length dst) where
  abbrev pub g : ℕ → ℕ
  g k = get_or (even ++ odd) k 0

  abbrev pub front : List ℕ
  front = g 0 ∷ g 8 ∷ g 1 ∷ g 9 ∷ g 2 ∷ g 10 ∷ g 3 ∷ g 11 ∷ []

  abbrev pub back : List ℕ
  back = g 4 ∷ g 12 ∷ g 5 ∷ g 13 ∷ g 6 ∷ g 14 ∷ g 7 ∷ g 15 ∷ []

  e : (k : ℕ) → k < 8 → g k ≡ get_or even k 0
  e k lt = get_or_append_left even odd 0 k (omega (arith, lt, le))

  o : (k : ℕ) → g (8 + k) ≡ get_or odd k 0
  o k = ap (λ (n : ℕ). g (n + k)) (sym le) ∙ get_or-append-add even odd k 0

  pairs : (i : ℕ) → i < 16 → get_or (front ++ back) i 0 ≡ (if i % 2 == 0 then get_or even (i / 2) 0 else get_or odd (i / 2) 0)
  pairs zero lt = e 0 (omega arith)
  pairs (suc zero) lt = o 0
  pairs (suc (suc zero)) lt = e 1 (omega arith)
  pairs (suc (suc (suc zero))) lt = o 1
  pairs (suc (suc (suc (suc zero)))) lt = e 2 (omega arith)
  pairs (suc (suc (suc (suc (suc zero))))) lt = o 2
  pairs (suc (suc (suc (suc (suc (suc zero)))))) lt = e 3 (omega arith)
  pairs (suc (suc (suc (suc (suc (suc (suc zero))))))) lt = o 3
  pairs (suc (suc (suc (suc (suc (suc (suc (suc zero)))))))) lt = e 4 (omega arith)
  pairs (suc (suc (suc (suc (suc (suc (suc (suc (suc zero))))))))) lt = o 4
  pairs (suc (suc (suc (suc (suc (suc (suc (suc (suc (suc zero)))))))))) lt = e 5 (omega arith)
  pairs (suc (suc (suc (suc (suc (suc (suc (suc (suc (suc (suc zero))))))))))) lt = o 5
  pairs (suc (suc (suc (suc (suc (suc (suc (suc (suc (suc (suc (suc zero)))))))))))) lt = e 6 (omega arith)
  pairs (suc (suc (suc (suc (suc (suc (suc (suc (suc (suc (suc (suc (suc zero))))))))))))) lt = o 6
  pairs (suc (suc (suc (suc (suc (suc (suc (suc (suc (suc (suc (suc (suc (suc zero)))))))))))))) lt = e 7 (omega arith)
  pairs (suc (suc (suc (suc (suc (suc (suc (suc (suc (suc (suc (suc (suc (suc (suc zero))))))))))))))) lt = o 7
  pairs (suc (suc (suc (suc (suc (suc (suc (suc (suc (suc (suc (suc (suc (suc (suc (suc i)))))))))))))))) lt = absurd (omega arith)

  pub woven_put : (i : ℕ) → i < 16 → get_or (put_chunk (at + 8) (put_chunk at dst front) back) (at + i) 0 ≡ (if i % 2 == 0 then get_or even (i / 2) 0 else get_or odd (i / 2) 0)
  woven_put i lt = elim (cases_lt i 8) [
    | inl early ↦
        get_or-put_chunk_below (at + 8) (put_chunk at dst front) back (at + i) 0 (omega arith)
        ∙ get_or-put_chunk_at at dst front i 0 early (omega arith) ∙ sym (get_or_append_left front back 0 i early) ∙ pairs i lt
    | inr late ↦
        (let whole : at + i ≡ at + 8 + (i - 8) = omega arith in
        let whole8 : 8 + (i - 8) ≡ i = omega arith in
        ap (λ (j : ℕ). get_or (put_chunk (at + 8) (put_chunk at dst front) back) j 0) whole
        ∙ get_or-put_chunk_at (at + 8) (put_chunk at dst front) back (i - 8) 0 (omega arith) (omega (arith, length-put_chunk at dst front))
        ∙ sym (get_or-append-add front back (i - 8) 0) ∙ ap (λ (j : ℕ). get_or (front ++ back) j 0) whole8 ∙ pairs i lt)
  ]

  pub below_put : (j : ℕ) → j < at → get_or (put_chunk (at + 8) (put_chunk at dst front) back) j 0 ≡ get_or dst j 0
  below_put j lt = get_or-put_chunk_below (at + 8) (put_chunk at dst front) back j 0 (omega arith) ∙ get_or-put_chunk_below at dst front j 0 lt

-- what is made of two blocks, as places of a line
pub woven_block : (up : ℤ → ℤ) (at : ℕ) (even odd : List ℕ) (e o : Line) → ((j : ℕ) → j < 8 → pos (get_or even j 0) ≡ up (e (at + j))) → ((j : ℕ) → j < 8 → pos (get_or odd j 0) ≡ up (o (at + j)))
    → (i : ℕ) → i < 16 → pos (if i % 2 == 0 then get_or even (i / 2) 0 else get_or odd (i / 2) 0) ≡ up (woven e o (2 * at + i))
woven_block up at even odd e o pe po i lt = elim (cases_eq (i % 2) 0) [
  | inl h ↦ (let half : (2 * at + i) / 2 ≡ at + i / 2 = omega arith in rw h (pe (i / 2) (omega arith) ∙ ap up (sym (at_even e o (2 * at + i) (omega arith) ∙ ap e half))))
  | inr ne ↦ (let half : (2 * at + i) / 2 ≡ at + i / 2 = omega arith in let h : i % 2 ≡ 1 = omega arith in rw h (po (i / 2) (omega arith) ∙ ap up (sym (at_odd e o (2 * at + i) (omega arith) ∙ ap o half))))
]

-- what is so of the places before two blocks, and of theirs, is so of both
pub next_pairs : (at : ℕ) (P : ℕ → Type 0) → ((j : ℕ) → j < 2 * at → P j) → ((i : ℕ) → i < 16 → P (2 * at + i)) → (j : ℕ) → j < 2 * (at + 8) → P j
next_pairs at P before here j lt = elim (cases_lt j (2 * at)) [ inl below ↦ before j below | inr le ↦ (let e : 2 * at + (j - 2 * at) ≡ j = omega arith in subst P e (here (j - 2 * at) (omega arith))) ]
