-- At the coarsest index nothing is left of any value.
use Rattle.std.proofs.Common.{◌≡◌, ◌∙◌, sym, ap, subst, refl, ℕ, zero, suc, ◌+◌, ◌-◌, ◌*◌, ◌/◌, ◌%◌, ◌^◌, ◌<◌, ◌≤◌, max, Bool, true, false, List, [], ◌∷◌, ◌++◌, length, get_or, cond, pow-suc, arith, inl, inr, ℤ, pos, negsuc, eqb}
use Rattle.std.specs.Prelude.{unsigned_abs, nat_le, ◌&&◌}
use Rattle.std.specs.List.{All, flat_map, range_with_len}
use Rattle.std.proofs.lemmas.Bool.{le-leb}
use Rattle.std.proofs.lemmas.List.{get_or-append_right}
use Rattle.std.proofs.lemmas.List.Elements.{All-nil, All-cons, All-head, All-tail, All-append, All-map, All-push, All-weaker}
use Rattle.std.proofs.Math.Nat.{pow-le-pow_right}
use Rattle.planes.specs.declared.Rect.{Rect}
use Rattle.planes.specs.Subbands.{BandExists}
use Rattle.bit_codes.specs.Codes.{signed_code_of}
use Rattle.bounded_blocks.specs.Blocks.{AreOnes}
use Rattle.bounded_blocks.specs.Writing.{codes_of, need}
use Rattle.bounded_blocks.proofs.Needs.{code-zero, need-ones}
use Rattle.quant_factors.specs.Factors.{factor_of, signed, forward_of}
use Rattle.quant_factors.proofs.QuantLemmas.{coarser}
use Rattle.slice_geometry.specs.declared.Size.{Size}
use Rattle.slice_geometry.specs.Slicing.{Slicing, slice_number, length_bits}
use Rattle.quant_factors.specs.Weights.{band_quantiser}
use Rattle.slice_geometry.specs.SliceOrder.{level_rect}
use Rattle.slice_encoder.specs.Order.{Place, row_places, rect_places, places_of}
use Rattle.slice_encoder.specs.Trials.{CodedComponent, restored_after, value_of, luma_list, colour_list, luma_of, c1_of, c2_of}
use Rattle.slice_encoder.specs.TrialLaws.{IsIndex, IsSteepOk, most_coefficient, AreCoefficients, CoarsestFits}
use Rattle.slice_encoder.proofs.Near.{within_abs, stays_near}
use Rattle.slice_encoder.proofs.SliceBits.{two_least}

-- ---- a number that a quantiser makes 0

signed-none : (z : ℤ) (n : ℕ) → n ≡ 0 → signed z n ≡ pos 0
signed-none (pos k) n e = ap (λ (m : ℕ). pos m) e
signed-none (negsuc k) zero e = refl
signed-none (negsuc k) (suc n) e = absurd (omega arith)

pub factor-fourth : (k : ℕ) → factor_of (4 * k) ≡ 4 * 2 ^ k
unfolding factor_of
factor-fourth k =
    let part : 4 * k % 4 ≡ 0 = omega arith in
    let whole : 4 * k / 4 ≡ k = omega arith in
    rw (part, whole) refl

quotient-none : (n f : ℕ) → n < f → n / f ≡ 0
quotient-none n f lt = grind arith

none_left : (r : ℤ) (k : ℕ) → unsigned_abs r < 2 ^ k → forward_of r (4 * k) ≡ pos 0
unfolding forward_of
none_left r k lt = signed-none r (4 * unsigned_abs r / factor_of (4 * k)) (quotient-none (4 * unsigned_abs r) (factor_of (4 * k)) (omega (arith, factor-fourth k)))

zero_from_abs : (z : ℤ) → unsigned_abs z ≡ 0 → z ≡ pos 0
zero_from_abs (pos n) e = ap (λ (m : ℕ). pos m) e
zero_from_abs (negsuc n) e = absurd (omega arith)

coarse : (r : ℤ) (k q : ℕ) → unsigned_abs r < 2 ^ k → 4 * k ≤ q → q ≤ 127 → forward_of r q ≡ pos 0
coarse r k q lt from most = zero_from_abs (forward_of r q) (omega (arith, coarser r (4 * k) q from most, ap unsigned_abs (none_left r k lt)))

-- ---- every place of a slice

pub all_all : {X : Type 0} (P : X → Type 0) → ((x : X) → P x) → (xs : List X) → All P xs
all_all P h [] = All-nil P
all_all P h (x ∷ xs) = All-cons P x xs (h x) (all_all P h xs)

pub all_joined : {X Y : Type 0} (P : Y → Type 0) (f : X → List Y) → (xs : List X) → All (λ x. All P (f x)) xs → All P (flat_map f xs)
all_joined P f [] h = All-nil P
all_joined P f (x ∷ xs) h = All-append P (f x) (flat_map f xs) (All-head (λ x. All P (f x)) x xs h) (all_joined P f xs (All-tail (λ x. All P (f x)) x xs h))

pub all_rect : (P : Place → Type 0) (level orient : ℕ) (r : Rect) → ((y x : ℕ) → P (record { level = level; orient = orient; y = y; x = x })) → All P (rect_places level orient r)
all_rect P level orient r h =
    all_joined P (row_places level orient r) (range_with_len r.y0 (r.y1 - r.y0))
    (all_all (λ y. All P (row_places level orient r y))
    (λ y. All-map P (λ x. record { level = level; orient = orient; y = y; x = x }) (range_with_len r.x0 (r.x1 - r.x0)) (all_all (λ x. P (record { level = level; orient = orient; y = y; x = x })) (h y) (range_with_len r.x0 (r.x1 - r.x0))))
    (range_with_len r.y0 (r.y1 - r.y0)))

abbrev InBand : ℕ → Place → Type 0
InBand depth p = BandExists depth p.level p.orient

pub places_exist : (s : Slicing) (size : Size) (sx sy depth level : ℕ) → level ≤ depth → All (InBand depth) (places_of s size sx sy level)
places_exist s size sx sy depth zero le = all_rect (InBand depth) 0 0 (level_rect s size sx sy 0) (λ y x. inl (refl, refl))
places_exist s size sx sy depth (suc level) le =
    let r = level_rect s size sx sy (suc level) in
    let band = λ (orient : ℕ) (low : 1 ≤ orient) (high : orient ≤ 3). all_rect (InBand depth) (suc level) orient r (λ y x. inr (omega arith, le, low, high)) in
    All-append (InBand depth) (places_of s size sx sy level) (rect_places (suc level) 1 r ++ (rect_places (suc level) 2 r ++ rect_places (suc level) 3 r))
    (places_exist s size sx sy depth level (omega arith))
    (All-append (InBand depth) (rect_places (suc level) 1 r) (rect_places (suc level) 2 r ++ rect_places (suc level) 3 r) (band 1 (omega arith) (omega arith))
    (All-append (InBand depth) (rect_places (suc level) 2 r) (rect_places (suc level) 3 r) (band 2 (omega arith) (omega arith)) (band 3 (omega arith) (omega arith))))

-- ---- zeros need nothing

codes_of-zeros : (vs : List ℤ) → All (λ v. v ≡ pos 0) vs → AreOnes (codes_of vs)
codes_of-zeros [] h = tt
codes_of-zeros (v ∷ vs) h =
    let first : signed_code_of v ≡ true ∷ [] = ap signed_code_of (All-head (λ v. v ≡ pos 0) v vs h) ∙ code-zero in
    subst (λ (t : List Bool). AreOnes (t ++ codes_of vs)) (sym first) (refl, codes_of-zeros vs (All-tail (λ v. v ≡ pos 0) v vs h))

pub need-zeros : (vs : List ℤ) → All (λ v. v ≡ pos 0) vs → need vs ≡ 0
need-zeros vs h = need-ones (codes_of vs) (codes_of-zeros vs h)

-- ---- a picture at the coarsest index

eightfold : (e k : ℕ) → k ≡ suc (suc (suc e)) → 4 * 2 ^ e + 2 < 2 ^ k
eightfold e k is = rw is (omega (arith, two_least e, pow-suc 2 e, pow-suc 2 (suc e), pow-suc 2 (suc (suc e))))

either : (b : Bool) (x y v : ℤ) → x ≡ v → y ≡ v → cond b x y ≡ v
either true x y v h k = h
either false x y v h k = k

-- a component whose coefficients have so many bits
module _ (c : CodedComponent) (d dmost : ℕ) (some : 1 ≤ d) (le : d ≤ dmost) (small : AreCoefficients d c) (steep : IsSteepOk c.slicing.depth dmost c.matrix) (indices : List ℕ) (all : All IsIndex indices) where
  m : ℕ
  m = most_coefficient c.slicing.depth d

  bound : 4 * most_coefficient c.slicing.depth d + 2 < 2 ^ (dmost + 2 + 3 * c.slicing.depth)
  bound =
      let own = eightfold (d - 1 + 3 * c.slicing.depth) (d + 2 + 3 * c.slicing.depth) (omega arith) in
      let two : 0 < 2 = omega arith in
      omega (arith, own, pow-le-pow_right {n = 2} two {i = d + 2 + 3 * c.slicing.depth} {j = dmost + 2 + 3 * c.slicing.depth} (omega arith))

  pub gone : (r : ℤ) (level orient : ℕ) → BandExists c.slicing.depth level orient → unsigned_abs r ≤ 4 * most_coefficient c.slicing.depth d + 2 → forward_of r (band_quantiser c.matrix 127 level orient) ≡ pos 0
  gone r level orient exists h =
      let entry = steep level orient exists in
      coarse r (dmost + 2 + 3 * c.slicing.depth) (band_quantiser c.matrix 127 level orient) (omega (arith, h, bound)) (omega (arith, entry)) (omega arith)

  pub value_gone : (p : Place) → BandExists c.slicing.depth p.level p.orient → value_of c (restored_after c indices) 127 p ≡ pos 0
  value_gone p exists =
      let near = (stays_near c (most_coefficient c.slicing.depth d) indices all (λ y x. small 0 0 y x (inl (refl, refl))) p.y p.x).1 in
      either (eqb p.level 0) _ _ (pos 0)
      (gone _ p.level p.orient exists (within_abs _ _ near))
      (gone _ p.level p.orient exists (omega (arith, within_abs _ _ (small p.level p.orient p.y p.x exists))))

luma_gone : (c : CodedComponent) (indices : List ℕ) (sx sy : ℕ) → ((p : Place) → BandExists c.slicing.depth p.level p.orient → value_of c (restored_after c indices) 127 p ≡ pos 0) → need (luma_list c (restored_after c indices) 127 sx sy) ≡ 0
luma_gone c indices sx sy h =
    let places = places_of c.slicing c.size sx sy c.slicing.depth in
    need-zeros (luma_list c (restored_after c indices) 127 sx sy)
    (All-map (λ v. v ≡ pos 0) (value_of c (restored_after c indices) 127) places
    (All-weaker (InBand c.slicing.depth) (λ p. value_of c (restored_after c indices) 127 p ≡ pos 0) h places (places_exist c.slicing c.size sx sy c.slicing.depth c.slicing.depth (omega arith))))

pub two_zeros : (a b : ℤ) → a ≡ pos 0 → b ≡ pos 0 → All (λ v. v ≡ pos 0) (a ∷ b ∷ [])
two_zeros a b ha hb = All-cons (λ v. v ≡ pos 0) a (b ∷ []) ha (All-cons (λ v. v ≡ pos 0) b [] hb (All-nil (λ v. v ≡ pos 0)))

colour_gone : (c1 c2 : CodedComponent) (indices : List ℕ) (sx sy : ℕ) → ((p : Place) → BandExists c1.slicing.depth p.level p.orient → value_of c1 (restored_after c1 indices) 127 p ≡ pos 0) → ((p : Place) → BandExists c1.slicing.depth p.level p.orient → value_of c2 (restored_after c2 indices) 127 p ≡ pos 0)
    → need (colour_list c1 c2 (restored_after c1 indices) (restored_after c2 indices) 127 sx sy) ≡ 0
colour_gone c1 c2 indices sx sy h1 h2 =
    let places = places_of c1.slicing c1.size sx sy c1.slicing.depth in
    let pair : Place → List ℤ = λ p. value_of c1 (restored_after c1 indices) 127 p ∷ value_of c2 (restored_after c2 indices) 127 p ∷ [] in
    need-zeros (colour_list c1 c2 (restored_after c1 indices) (restored_after c2 indices) 127 sx sy)
    (all_joined (λ v. v ≡ pos 0) pair places
    (All-weaker (InBand c1.slicing.depth) (λ p. All (λ v. v ≡ pos 0) (pair p)) (λ p e. two_zeros _ _ (h1 p e) (h2 p e)) places (places_exist c1.slicing c1.size sx sy c1.slicing.depth c1.slicing.depth (omega arith))))

pub last_index : (indices : List ℕ) (n i : ℕ) → length indices ≡ n → get_or (indices ++ i ∷ []) n 0 ≡ i
last_index indices n i e =
    let here : n - n ≡ 0 = omega arith in
    get_or-append_right indices (i ∷ []) n n 0 e (omega arith) ∙ ap (λ (k : ℕ). get_or (i ∷ []) k 0) here

pub needs_none : (bytes a b : ℕ) → a ≡ 0 → b ≡ 0 → (nat_le a (2 ^ length_bits bytes - 1) && nat_le (a + b) (8 * bytes - 7 - length_bits bytes)) ≡ true
needs_none bytes a b ea eb =
    let none : a + b ≡ 0 = omega arith in
    rw (none, ea, le-leb 0 (2 ^ length_bits bytes - 1) (omega arith), le-leb 0 (8 * bytes - 7 - length_bits bytes) (omega arith)) refl

pub coarsest : CoarsestFits
coarsest j indices bytes sx sy picture steep all count =
    let next = indices ++ 127 ∷ [] in
    let all' : All IsIndex next = All-push IsIndex indices 127 all (omega arith) in
    let most = max j.frame.luma_depth j.frame.colour_depth in
    let luma = value_gone (luma_of j) j.frame.luma_depth most picture.luma_bits.some (omega arith) picture.luma steep next all' in
    let c1 = value_gone (c1_of j) j.frame.colour_depth most picture.colour_bits.some (omega arith) picture.c1 steep next all' in
    let c2 = value_gone (c2_of j) j.frame.colour_depth most picture.colour_bits.some (omega arith) picture.c2 steep next all' in
    rw (last_index indices (slice_number j.slicing sx sy) 127 count)
    (needs_none bytes _ _ (luma_gone (luma_of j) next sx sy luma) (colour_gone (c1_of j) (c2_of j) next sx sy c1 c2))
