-- What operators on a block compute at each lane, at any width.
use Rattle.std.proofs.Common.{◌≡◌, refl, sym, ap, subst, ◌∙◌, ℕ, ◌+◌, ◌-◌, ◌%◌, ◌^◌, ◌<◌, ◌≤◌, List, length, map, replicate, arith, ℤ, pos, negsuc, neg_ℤ, ◌+ℤ◌, ◌-ℤ◌, ◌≤ℤ◌, inl, inr}
use Rattle.std.proofs.lemmas.Int.{ints, to_z-of_z, wrapping_add_is, wrapping_sub_is, int_wrap_fits}
use Rattle.std.proofs.lemmas.Bool.{cases_lt}
use Rattle.std.proofs.lemmas.List.{get_or-map, length-map}
use Rattle.std.proofs.lemmas.Simd.{length-chunk, get_or-chunk, get_or-put_chunk_at, get_or-put_chunk_above, length-zip2, get_or-zip2, get_or-replicate, length-replicate}
use Rattle.std.specs.Simd.Lanes.{chunk, put_chunk, zip2}
use Rattle.std.specs.Int.{int_shr}
use lib.ListN.{get_or}
use mir.Syntax.{Width, w16, w32, w64}
use mir.Val.{to_z, of_z, SFits, bits, hbits}
use Rattle.planes.specs.Numbers.{Within}
use Rattle.lifting.specs.Places.{place}
use Rattle.lifting.specs.Lanes.{AreLanes}

-- a width has room for sums of two numbers of at most m, and 2 more
pub record Room (w : Width) (m : ℕ) : Type 0 where
  pub some : 1 ≤ m
  pub sums : m + m + 2 < 2 ^ hbits w
  pub whole : 0 < 2 ^ bits w

pub room_short : Room w16 (2 ^ 14 - 2)
room_short = record { some = omega arith; sums = omega arith; whole = omega arith }

pub room_narrow : Room w32 (2 ^ 29)
room_narrow = record { some = omega arith; sums = omega arith; whole = omega arith }

pub room_wide : Room w64 (2 ^ 61)
room_wide = record { some = omega arith; sums = omega arith; whole = omega arith }

-- the operators on the bits of a lane
abbrev pub plus : Width → ℕ → ℕ → ℕ
plus w a b = (a + b) % 2 ^ bits w

abbrev pub minus : Width → ℕ → ℕ → ℕ
minus w a b = (a + (2 ^ bits w - b)) % 2 ^ bits w

abbrev pub shifted : Width → ℕ → ℕ → ℕ
shifted w a k = of_z w (int_shr (to_z w a) k)

-- ---- one number

fits : (w : Width) (m : ℕ) → Room w m → (z : ℤ) → Within (m + m + 2) z → SFits w z
fits w m room (pos a) s = record { sfits = omega (arith, ints, room.sums) }
fits w m room (negsuc a) s = record { sfits = omega (arith, ints, room.sums) }

pub wider : (m n : ℕ) (z : ℤ) → m ≤ n → Within m z → Within n z
wider m n z le s = record { low = omega (arith, ints); high = omega (arith, ints) }

pub sum_small : (m : ℕ) (a b : ℤ) → Within m a → Within m b → Within (m + m) (a +ℤ b)
sum_small m a b pa pb = record { low = omega (arith, ints); high = omega (arith, ints) }

pub difference_small : (m : ℕ) (a b : ℤ) → Within m a → Within m b → Within (m + m) (a -ℤ b)
difference_small m a b pa pb = record { low = omega (arith, ints); high = omega (arith, ints) }

onto_small : (m k : ℕ) (z : ℤ) → k ≤ 2 → Within (m + m) z → Within (m + m + 2) (z +ℤ pos k)
onto_small m k z le s = record { low = omega (arith, ints); high = omega (arith, ints) }

pub half_small : (m : ℕ) → 1 ≤ m → (z : ℤ) → Within (m + m) z → Within m (int_shr (z +ℤ pos 1) 1)
half_small m some z s = near m (z +ℤ pos 1) some (omega (arith, ints)) (omega (arith, ints))
  where
    near : (m : ℕ) (z : ℤ) → 1 ≤ m → neg_ℤ (pos (m + m)) ≤ℤ z → z ≤ℤ pos (m + m + 1) → Within m (int_shr z 1)
    near m (pos a) some low high = record { low = omega (arith, ints); high = omega (arith, ints) }
    near m (negsuc a) some low high = record { low = omega (arith, ints); high = omega (arith, ints) }

pub quarter_small : (m : ℕ) → 1 ≤ m → (z : ℤ) → Within (m + m) z → Within m (int_shr (z +ℤ pos 2) 2)
quarter_small m some z s = near m (z +ℤ pos 2) some (omega (arith, ints)) (omega (arith, ints))
  where
    near : (m : ℕ) (z : ℤ) → 1 ≤ m → neg_ℤ (pos (m + m)) ≤ℤ z → z ≤ℤ pos (m + m + 2) → Within m (int_shr z 2)
    near m (pos a) some low high = record { low = omega (arith, ints); high = omega (arith, ints) }
    near m (negsuc a) some low high = record { low = omega (arith, ints); high = omega (arith, ints) }

-- ---- each lane

module _ (w : Width) where
  abbrev pub again : List ℤ → List ℤ
  again xs = map (to_z w) (map (of_z w) xs)

  abbrev pub zipped : (ℕ → ℕ → ℕ) → List ℤ → List ℤ → List ℤ
  zipped op a b = map (to_z w) (zip2 op (map (of_z w) a) (map (of_z w) b))

  abbrev pub rounded : ℕ → List ℤ → List ℤ
  rounded k v = map (to_z w) (zip2 (shifted w) (zip2 (plus w) (map (of_z w) v) (replicate 8 k)) (replicate 8 k))

  zipped_count : (op : ℕ → ℕ → ℕ) (a b : List ℤ) → length a ≡ 8 → length b ≡ 8 → length (zipped op a b) ≡ 8
  zipped_count op a b al bl =
      length-map (zip2 op (map (of_z w) a) (map (of_z w) b)) (to_z w)
      ∙ length-zip2 op (map (of_z w) a) (map (of_z w) b) (length-map a (of_z w) ∙ al ∙ sym bl ∙ sym (length-map b (of_z w)))
      ∙ length-map a (of_z w) ∙ al

  bits_at : (xs : List ℤ) (i : ℕ) → i < length xs → get_or (map (of_z w) xs) i 0 ≡ of_z w (place xs i)
  bits_at xs i lt = get_or-map (of_z w) xs i (pos 0) 0 lt

  zipped_at : (op : ℕ → ℕ → ℕ) (a b : List ℤ) → length a ≡ 8 → length b ≡ 8 → (i : ℕ) → i < 8 → place (zipped op a b) i ≡ to_z w (op (of_z w (place a i)) (of_z w (place b i)))
  zipped_at op a b al bl i lt =
      let xs = map (of_z w) a in
      let ys = map (of_z w) b in
      get_or-map (to_z w) (zip2 op xs ys) i 0 (pos 0) (omega (arith, lt, zipped_count op a b al bl, length-map (zip2 op xs ys) (to_z w)))
      ∙ ap (to_z w) (get_or-zip2 op xs ys i 0 0 0 (omega (arith, lt, length-map a (of_z w), al)) (omega (arith, lt, length-map b (of_z w), bl)))
      ∙ ap (λ (x : ℕ). to_z w (op x (get_or ys i 0))) (bits_at a i (omega (arith, lt, al)))
      ∙ ap (λ (x : ℕ). to_z w (op (of_z w (place a i)) x)) (bits_at b i (omega (arith, lt, bl)))

  rounded_inner : (k : ℕ) (v : List ℤ) → length v ≡ 8 → length (zip2 (plus w) (map (of_z w) v) (replicate 8 k)) ≡ 8
  rounded_inner k v vl =
      length-zip2 (plus w) (map (of_z w) v) (replicate 8 k) (length-map v (of_z w) ∙ vl ∙ sym (length-replicate 8 k))
      ∙ length-map v (of_z w) ∙ vl

  rounded_outer : (k : ℕ) (v : List ℤ) → length v ≡ 8 → length (zip2 (shifted w) (zip2 (plus w) (map (of_z w) v) (replicate 8 k)) (replicate 8 k)) ≡ 8
  rounded_outer k v vl =
      length-zip2 (shifted w) (zip2 (plus w) (map (of_z w) v) (replicate 8 k)) (replicate 8 k) (rounded_inner k v vl ∙ sym (length-replicate 8 k))
      ∙ rounded_inner k v vl

  rounded_at : (k : ℕ) (v : List ℤ) → length v ≡ 8 → (i : ℕ) → i < 8 → place (rounded k v) i ≡ to_z w (shifted w (plus w (of_z w (place v i)) k) k)
  rounded_at k v vl i lt =
      let vs = map (of_z w) v in
      let ks : List ℕ = replicate 8 k in
      let inner = zip2 (plus w) vs ks in
      get_or-map (to_z w) (zip2 (shifted w) inner ks) i 0 (pos 0) (omega (arith, lt, rounded_outer k v vl))
      ∙ ap (to_z w) (get_or-zip2 (shifted w) inner ks i 0 0 0 (omega (arith, lt, rounded_inner k v vl)) (omega (arith, lt, length-replicate 8 k)))
      ∙ ap (λ (x : ℕ). to_z w (shifted w (get_or inner i 0) x)) (get_or-replicate 8 i k 0 lt)
      ∙ ap (λ (x : ℕ). to_z w (shifted w x k)) (get_or-zip2 (plus w) vs ks i 0 0 0 (omega (arith, lt, length-map v (of_z w), vl)) (omega (arith, lt, length-replicate 8 k)))
      ∙ ap (λ (x : ℕ). to_z w (shifted w (plus w (get_or vs i 0) x) k)) (get_or-replicate 8 i k 0 lt)
      ∙ ap (λ (x : ℕ). to_z w (shifted w (plus w x k) k)) (bits_at v i (omega (arith, lt, vl)))

module _ (w : Width) (m : ℕ) (room : Room w m) where
  again_at : (xs : List ℤ) (i : ℕ) → i < length xs → Within (m + m) (place xs i) → place (again w xs) i ≡ place xs i
  again_at xs i lt s =
      get_or-map (to_z w) (map (of_z w) xs) i 0 (pos 0) (omega (arith, lt, length-map xs (of_z w)))
      ∙ ap (to_z w) (bits_at w xs i lt)
      ∙ to_z-of_z w (place xs i) (fits w m room (place xs i) (wider (m + m) (m + m + 2) (place xs i) (omega arith) s))

  -- loaded
  pub loaded_each : (at : ℕ) (row : List ℤ) → at + 8 ≤ length row → ((i : ℕ) → i < 8 → Within (m + m) (place row (at + i))) → (i : ℕ) → i < 8 → place (again w (chunk at 8 row)) i ≡ place row (at + i)
  loaded_each at row inside small i lt =
      let here : place (chunk at 8 row) i ≡ place row (at + i) = get_or-chunk at 8 row i (pos 0) lt in
      again_at (chunk at 8 row) i (omega (arith, lt, length-chunk at 8 row inside)) (subst (Within (m + m)) (sym here) (small i lt)) ∙ here

  pub loaded_small : (at : ℕ) (row : List ℤ) → at + 8 ≤ length row → ((i : ℕ) → i < 8 → Within (m + m) (place row (at + i))) → AreLanes (m + m) (again w (chunk at 8 row))
  loaded_small at row inside small = record {
    count = length-map (map (of_z w) (chunk at 8 row)) (to_z w) ∙ length-map (chunk at 8 row) (of_z w) ∙ length-chunk at 8 row inside;
    each = λ i lt. subst (Within (m + m)) (sym (loaded_each at row inside small i lt)) (small i lt);
  }

  -- stored
  again_count : (block : List ℤ) → AreLanes (m + m) block → length (again w block) ≡ 8
  again_count block small = length-map (map (of_z w) block) (to_z w) ∙ length-map block (of_z w) ∙ small.count

  pub stored_each : (at : ℕ) (row block : List ℤ) → at + 8 ≤ length row → AreLanes (m + m) block → (i : ℕ) → i < 8 → place (put_chunk at row (again w block)) (at + i) ≡ place block i
  stored_each at row block inside small i lt =
      get_or-put_chunk_at at row (again w block) i (pos 0) (omega (arith, lt, again_count block small)) (omega (arith, inside, again_count block small))
      ∙ again_at block i (omega (arith, lt, small.count)) (small.each i lt)

  pub stored_above : (at : ℕ) (row block : List ℤ) → AreLanes (m + m) block → (j : ℕ) → at + 8 ≤ j → place (put_chunk at row (again w block)) j ≡ place row j
  stored_above at row block small j le = get_or-put_chunk_above at row (again w block) j (pos 0) (omega (arith, le, again_count block small))

  -- added
  pub sum_each : (a b : List ℤ) → AreLanes m a → AreLanes m b → (i : ℕ) → i < 8 → place (zipped w (plus w) a b) i ≡ place a i +ℤ place b i
  sum_each a b pa pb i lt =
      let x = place a i in
      let y = place b i in
      let px : Within m x = pa.each i lt in
      let py : Within m y = pb.each i lt in
      zipped_at w (plus w) a b pa.count pb.count i lt
      ∙ wrapping_add_is w x y (fits w m room x (wider m (m + m + 2) x (omega arith) px)) (fits w m room y (wider m (m + m + 2) y (omega arith) py))
      ∙ int_wrap_fits w (x +ℤ y) (fits w m room (x +ℤ y) (wider (m + m) (m + m + 2) (x +ℤ y) (omega arith) (sum_small m x y px py)))

  pub sum_lanes : (a b : List ℤ) → AreLanes m a → AreLanes m b → AreLanes (m + m) (zipped w (plus w) a b)
  sum_lanes a b pa pb = record {
    count = zipped_count w (plus w) a b pa.count pb.count;
    each = λ i lt. subst (Within (m + m)) (sym (sum_each a b pa pb i lt)) (sum_small m (place a i) (place b i) (pa.each i lt) (pb.each i lt));
  }

  -- subtracted
  pub difference_each : (a b : List ℤ) → AreLanes m a → AreLanes m b → (i : ℕ) → i < 8 → place (zipped w (minus w) a b) i ≡ place a i -ℤ place b i
  difference_each a b pa pb i lt =
      let x = place a i in
      let y = place b i in
      let px : Within m x = pa.each i lt in
      let py : Within m y = pb.each i lt in
      zipped_at w (minus w) a b pa.count pb.count i lt
      ∙ wrapping_sub_is w x y (fits w m room x (wider m (m + m + 2) x (omega arith) px)) (fits w m room y (wider m (m + m + 2) y (omega arith) py))
      ∙ int_wrap_fits w (x -ℤ y) (fits w m room (x -ℤ y) (wider (m + m) (m + m + 2) (x -ℤ y) (omega arith) (difference_small m x y px py)))

  pub difference_lanes : (a b : List ℤ) → AreLanes m a → AreLanes m b → AreLanes (m + m) (zipped w (minus w) a b)
  difference_lanes a b pa pb = record {
    count = zipped_count w (minus w) a b pa.count pb.count;
    each = λ i lt. subst (Within (m + m)) (sym (difference_each a b pa pb i lt)) (difference_small m (place a i) (place b i) (pa.each i lt) (pb.each i lt));
  }

  -- rounded: k is 1 or 2
  rounded_is : (k : ℕ) → k ≤ 2 → of_z w (pos k) ≡ k → (v : List ℤ) → AreLanes (m + m) v → (i : ℕ) → i < 8 → Within m (int_shr (place v i +ℤ pos k) k) → place (rounded w k v) i ≡ int_shr (place v i +ℤ pos k) k
  rounded_is k le same v pv i lt r =
      let x = place v i in
      let px : Within (m + m + 2) x = wider (m + m) (m + m + 2) x (omega arith) (pv.each i lt) in
      let pk : Within (m + m + 2) (pos k) = record { low = omega (arith, ints); high = omega (arith, ints) } in
      let sum : to_z w (plus w (of_z w x) k) ≡ x +ℤ pos k =
      ap (λ (b : ℕ). to_z w (plus w (of_z w x) b)) (sym same)
      ∙ wrapping_add_is w x (pos k) (fits w m room x px) (fits w m room (pos k) pk)
      ∙ int_wrap_fits w (x +ℤ pos k) (fits w m room (x +ℤ pos k) (onto_small m k x le (pv.each i lt))) in
      rounded_at w k v pv.count i lt
      ∙ ap (λ (z : ℤ). to_z w (of_z w (int_shr z k))) sum
      ∙ to_z-of_z w (int_shr (x +ℤ pos k) k) (fits w m room (int_shr (x +ℤ pos k) k) (wider m (m + m + 2) (int_shr (x +ℤ pos k) k) (omega arith) r))

  rounded_count : (k : ℕ) (v : List ℤ) → length v ≡ 8 → length (rounded w k v) ≡ 8
  rounded_count k v vl = length-map (zip2 (shifted w) (zip2 (plus w) (map (of_z w) v) (replicate 8 k)) (replicate 8 k)) (to_z w) ∙ rounded_outer w k v vl

  pub half_each : (v : List ℤ) → AreLanes (m + m) v → (i : ℕ) → i < 8 → place (rounded w 1 v) i ≡ int_shr (place v i +ℤ pos 1) 1
  half_each v pv i lt = rounded_is 1 (omega arith) refl v pv i lt (half_small m room.some (place v i) (pv.each i lt))

  pub half_lanes : (v : List ℤ) → AreLanes (m + m) v → AreLanes m (rounded w 1 v)
  half_lanes v pv = record {
    count = rounded_count 1 v pv.count;
    each = λ i lt. subst (Within m) (sym (half_each v pv i lt)) (half_small m room.some (place v i) (pv.each i lt));
  }

  pub quarter_each : (v : List ℤ) → AreLanes (m + m) v → (i : ℕ) → i < 8 → place (rounded w 2 v) i ≡ int_shr (place v i +ℤ pos 2) 2
  quarter_each v pv i lt = rounded_is 2 (omega arith) refl v pv i lt (quarter_small m room.some (place v i) (pv.each i lt))

  pub quarter_lanes : (v : List ℤ) → AreLanes (m + m) v → AreLanes m (rounded w 2 v)
  quarter_lanes v pv = record {
    count = rounded_count 2 v pv.count;
    each = λ i lt. subst (Within m) (sym (quarter_each v pv i lt)) (quarter_small m room.some (place v i) (pv.each i lt));
  }

-- a block of numbers within m
pub are_lanes : (m : ℕ) (f : ℕ → ℤ) (xs : List ℤ) → length xs ≡ 8 → ((i : ℕ) → i < 8 → place xs i ≡ f i) → ((i : ℕ) → i < 8 → Within m (f i)) → AreLanes m xs
are_lanes m f xs count is small = record { count = count; each = λ i lt. subst (Within m) (sym (is i lt)) (small i lt) }

pub twice_within : (m : ℕ) (z : ℤ) → Within m z → Within (m + m) z
twice_within m z s = wider m (m + m) z (omega arith) s

-- what is so of the places before a block, and of those of the block, is so of both
pub next_block : (at : ℕ) (P : ℕ → Type 0) → ((j : ℕ) → j < at → P j) → ((i : ℕ) → i < 8 → P (at + i)) → (j : ℕ) → j < at + 8 → P j
next_block at P before here j lt = elim (cases_lt j at) [ inl below ↦ before j below | inr le ↦ (let e : at + (j - at) ≡ j = omega arith in subst P e (here (j - at) (omega arith))) ]
