-- Coefficients that were gathered, and what is made of them place by place.
use Rattle.std.proofs.Common.{◌≡◌, ◌∙◌, refl, sym, ap, subst, ℕ, zero, suc, ◌+◌, ◌-◌, ◌*◌, ◌^◌, ◌<◌, ◌≤◌, List, [], ◌∷◌, ◌++◌, length, take, drop, set, get_or, append_assoc, append-nil, arith, ℤ}
use Rattle.std.specs.Prelude.{unsigned_abs, slice_index}
use Rattle.std.specs.List.{All, flat_map, range_with_len}
use Rattle.std.proofs.Math.Seq.{take-append_seam, drop-append_seam}
use Rattle.std.proofs.lemmas.List.{take_more, take_more_set, take-append-le, length-append, length-set, map-append, drop-take}
use Rattle.planes.specs.Numbers.{Within}
use Rattle.quant_factors.specs.Factors.{forward_of}
use Rattle.slice_geometry.specs.declared.Size.{Size}
use Rattle.slice_geometry.specs.Slicing.{Slicing}
use Rattle.slice_geometry.specs.SliceOrder.{level_rect, area, places_to, level_of, numbered}
use Rattle.planes.specs.Subbands.{BandStack}
use Rattle.planes.specs.Raster.{Raster, at}
use Rattle.planes.specs.declared.Rect.{Rect}
use Rattle.planes.proofs.Floors.{wider}
use Rattle.slice_geometry.specs.SliceOrder.{orient_of}
use Rattle.slice_geometry.proofs.NumberedBands.{index-numbered, band-exists}
use Rattle.slice_geometry.proofs.RectsInBands.{FitsIn, fits}
use Rattle.slice_encoder.specs.Trials.{CodedComponent}
use Rattle.slice_encoder.specs.TrialLaws.{most_coefficient}
use Rattle.slice_encoder.specs.Ready.{IsGiven}
use Rattle.slice_encoder.specs.Listing.{rect_values}
use Rattle.slice_encoder.specs.Gathering.{raw_part, raw_before, quantised, in_turn, with_code, reach, CanGather, CanGatherAll, GatheredSeen, IsGatheredSound, AreGathered}
use Rattle.slice_encoder.proofs.Tried.{coefficient_most}
use Rattle.slice_encoder.proofs.Near.{within_abs}
use Rattle.slice_encoder.proofs.PlaceByPlace.{forward_small}
use Rattle.slice_encoder.proofs.Listed.{flat_more}
use Rattle.slice_encoder.proofs.BandParts.{length_rect}

-- ---- values in turn

pub turn_append : (vs ws xs ys : List ℤ) → length vs ≡ length ws → in_turn (vs ++ xs) (ws ++ ys) ≡ in_turn vs ws ++ in_turn xs ys
turn_append [] [] xs ys e = refl
turn_append [] (w ∷ ws) xs ys e = absurd (omega (arith, e))
turn_append (v ∷ vs) [] xs ys e = absurd (omega (arith, e))
turn_append (v ∷ vs) (w ∷ ws) xs ys e = ap (λ (t : List ℤ). v ∷ w ∷ t) (turn_append vs ws xs ys (omega (arith, e)))

pub quantised_more : (q : ℕ) (vs : List ℤ) (p : ℕ) (d : ℤ) → p < length vs → quantised q (take (p + 1) vs) ≡ quantised q (take p vs) ++ forward_of (get_or vs p d) q ∷ []
quantised_more q vs p d lt = ap (quantised q) (take_more vs p d lt) ∙ map-append (λ v. forward_of v q) (take p vs) (get_or vs p d ∷ [])

pub length_quantised : (q : ℕ) (vs : List ℤ) → length (quantised q vs) ≡ length vs
length_quantised q [] = refl
length_quantised q (v ∷ vs) = omega (arith, length_quantised q vs)

-- two values more
pub pair_more : (out vs ws : List ℤ) (q p : ℕ) (v w d : ℤ) → 2 * p + 1 < length out → p < length vs → length ws ≡ length vs → v ≡ forward_of (get_or vs p d) q → w ≡ forward_of (get_or ws p d) q
    → take (2 * p) out ≡ in_turn (quantised q (take p vs)) (quantised q (take p ws))
    → take (2 * (p + 1)) (set (set out (2 * p) v) (2 * p + 1) w) ≡ in_turn (quantised q (take (p + 1) vs)) (quantised q (take (p + 1) ws))
pair_more out vs ws q p v w d room lt same v_is w_is so_far =
    let two : 2 * (p + 1) ≡ 2 * p + 1 + 1 = omega arith in
    let lv : length (take p vs) ≡ length (take p ws) = same_take vs ws p (sym same) in
    let lengths : length (quantised q (take p vs)) ≡ length (quantised q (take p ws)) = length_quantised q (take p vs) ∙ lv ∙ sym (length_quantised q (take p ws)) in
    ap (λ (n : ℕ). take n (set (set out (2 * p) v) (2 * p + 1) w)) two
    ∙ take_more_set (set out (2 * p) v) (2 * p + 1) w (omega (arith, room, length-set out (2 * p) v))
    ∙ ap (λ (t : List ℤ). t ++ w ∷ []) (take_more_set out (2 * p) v (omega (arith, room)))
    ∙ append_assoc (take (2 * p) out) (v ∷ []) (w ∷ [])
    ∙ ap (λ (t : List ℤ). t ++ (v ∷ w ∷ [])) so_far
    ∙ ap (λ (x : ℤ). in_turn (quantised q (take p vs)) (quantised q (take p ws)) ++ (x ∷ w ∷ [])) v_is
    ∙ ap (λ (x : ℤ). in_turn (quantised q (take p vs)) (quantised q (take p ws)) ++ (forward_of (get_or vs p d) q ∷ x ∷ [])) w_is
    ∙ sym (turn_append (quantised q (take p vs)) (quantised q (take p ws)) (forward_of (get_or vs p d) q ∷ []) (forward_of (get_or ws p d) q ∷ []) lengths)
    ∙ sym (ap (λ (t : List ℤ). in_turn t (quantised q (take p ws) ++ forward_of (get_or ws p d) q ∷ [])) (quantised_more q vs p d lt))
    ∙ sym (ap (λ (t : List ℤ). in_turn (quantised q (take (p + 1) vs)) t) (quantised_more q ws p d (omega (arith, lt, same))))
  where
    same_take : (xs ys : List ℤ) (n : ℕ) → length xs ≡ length ys → length (take n xs) ≡ length (take n ys)
    same_take [] [] n e = refl
    same_take [] (y ∷ ys) n e = absurd (omega (arith, e))
    same_take (x ∷ xs) [] n e = absurd (omega (arith, e))
    same_take (x ∷ xs) (y ∷ ys) zero e = refl
    same_take (x ∷ xs) (y ∷ ys) (suc n) e = omega (arith, same_take xs ys n (omega (arith, e)))

-- ---- from the last value to the first

pub value_small : (v : ℤ) (q : ℕ) → q ≤ 127 → Within (2 ^ 27) v → unsigned_abs (forward_of v q) ≤ 2 ^ 36
value_small v q le near = omega (arith, forward_small v q le, within_abs (2 ^ 27) v near)

pub reach_append : (vs ws : List ℤ) (behind : ℕ) → reach (vs ++ ws) behind ≡ reach vs (reach ws behind)
reach_append [] ws behind = refl
reach_append (v ∷ vs) ws behind = ap (with_code v) (reach_append vs ws behind)

-- ---- one band after another

module _ (s : Slicing) (size : Size) (bands : BandStack) (sx sy : ℕ) where
  pub raw_more : (k : ℕ) → raw_before s size bands sx sy (k + 1) ≡ raw_before s size bands sx sy k ++ raw_part s size bands sx sy k
  raw_more k = flat_more (raw_part s size bands sx sy) 0 k k (omega arith)

  pub raw_grow : (n m : ℕ) → length (raw_before s size bands sx sy n) ≤ length (raw_before s size bands sx sy (n + m))
  raw_grow n zero = let same : n + 0 ≡ n = omega arith in omega (arith, ap (λ (k : ℕ). length (raw_before s size bands sx sy k)) same)
  raw_grow n (suc m) =
      let next : n + suc m ≡ n + m + 1 = omega arith in
      omega (
        arith,
        raw_grow n m,
        ap (λ (k : ℕ). length (raw_before s size bands sx sy k)) next,
        ap (λ (t : List ℤ). length t) (raw_more (n + m)),
        length-append (raw_before s size bands sx sy (n + m)) (raw_part s size bands sx sy (n + m)),
      )

  pub raw_within : (k n : ℕ) → k ≤ n → length (raw_before s size bands sx sy k) ≤ length (raw_before s size bands sx sy n)
  raw_within k n le =
      let whole : k + (n - k) ≡ n = omega arith in
      omega (arith, raw_grow k (n - k), ap (λ (j : ℕ). length (raw_before s size bands sx sy j)) whole)

  pub raw_here : (k : ℕ) (rect : Rect) (band : Raster ℤ) → rect ≡ level_rect s size sx sy (level_of k) → band ≡ numbered bands k → rect_values (at band) rect ≡ raw_part s size bands sx sy k
  raw_here k rect band rect_is band_is = ap (λ (r : Rect). rect_values (at band) r) rect_is ∙ ap (λ (b : Raster ℤ). rect_values (at b) (level_rect s size sx sy (level_of k))) band_is

  part_length : (k level : ℕ) → level_of k ≡ level → length (raw_part s size bands sx sy k) ≡ area (level_rect s size sx sy level)
  part_length k level e = length_rect (at (numbered bands k)) (level_rect s size sx sy (level_of k)) ∙ ap (λ (l : ℕ). area (level_rect s size sx sy l)) e

  pub more_length : (k level : ℕ) → level_of k ≡ level → length (raw_before s size bands sx sy (k + 1)) ≡ length (raw_before s size bands sx sy k) + area (level_rect s size sx sy level)
  more_length k level e = ap (λ (t : List ℤ). length t) (raw_more k) ∙ length-append (raw_before s size bands sx sy k) (raw_part s size bands sx sy k) ∙ ap (λ (n : ℕ). length (raw_before s size bands sx sy k) + n) (part_length k level e)

  pub first_count : length (raw_before s size bands sx sy 1) ≡ area (level_rect s size sx sy 0)
  first_count =
      let one : 1 ≡ 0 + 1 = omega arith in
      omega (arith, ap (λ (n : ℕ). length (raw_before s size bands sx sy n)) one, more_length 0 0 refl)

  pub raw_count : (level : ℕ) → length (raw_before s size bands sx sy (3 * level + 1)) ≡ places_to s size sx sy level
  raw_count zero =
      let one : 3 * 0 + 1 ≡ 0 + 1 = omega arith in
      omega (arith, ap (λ (n : ℕ). length (raw_before s size bands sx sy n)) one, more_length 0 0 refl)
  raw_count (suc level) =
      let n1 : 3 * suc level + 1 ≡ 3 * level + 1 + 1 + 1 + 1 = omega arith in
      omega (
        arith,
        raw_count level,
        ap (λ (n : ℕ). length (raw_before s size bands sx sy n)) n1,
        more_length (3 * level + 1) (suc level) (omega arith),
        more_length (3 * level + 1 + 1) (suc level) (omega arith),
        more_length (3 * level + 1 + 1 + 1) (suc level) (omega arith),
      )

  -- those before a band stand in front of all that come later
  pub raw_front : (k m : ℕ) → take (length (raw_before s size bands sx sy k)) (raw_before s size bands sx sy (k + m)) ≡ raw_before s size bands sx sy k
  raw_front k zero =
      let same : k + 0 ≡ k = omega arith in
      ap (λ (n : ℕ). take (length (raw_before s size bands sx sy k)) (raw_before s size bands sx sy n)) same
      ∙ ap (take (length (raw_before s size bands sx sy k))) (sym (append-nil (raw_before s size bands sx sy k)))
      ∙ take-append_seam (raw_before s size bands sx sy k) []
  raw_front k (suc m) =
      let next : k + suc m ≡ k + m + 1 = omega arith in
      ap (λ (n : ℕ). take (length (raw_before s size bands sx sy k)) (raw_before s size bands sx sy n)) next
      ∙ ap (take (length (raw_before s size bands sx sy k))) (raw_more (k + m))
      ∙ take-append-le (length (raw_before s size bands sx sy k)) (raw_before s size bands sx sy (k + m)) (raw_part s size bands sx sy (k + m)) (raw_grow k m)
      ∙ raw_front k m

  -- the values of a band in a buffer whose front holds all
  pub piece_is : (k n : ℕ) (values : List ℤ) → k < n → length (raw_before s size bands sx sy n) ≤ length values → take (length (raw_before s size bands sx sy n)) values ≡ raw_before s size bands sx sy n
      → take (length (raw_before s size bands sx sy (k + 1)) - length (raw_before s size bands sx sy k)) (drop (length (raw_before s size bands sx sy k)) values) ≡ raw_part s size bands sx sy k
  piece_is k n values lt room all =
      let R = raw_before s size bands sx sy in
      let from = length (R k) in
      let to = length (R (k + 1)) in
      let step : from + (to - from) ≡ to = omega (arith, raw_grow k 1) in
      let rest : k + 1 + (n - (k + 1)) ≡ n = omega arith in
      let short : take to values ≡ take to (take (length (R n)) values) = take_less values to (length (R n)) (raw_within (k + 1) n (omega arith)) in
      let front : take to values ≡ R (k + 1) = short ∙ ap (take to) all ∙ ap (λ (j : ℕ). take to (R j)) (sym rest) ∙ raw_front (k + 1) (n - (k + 1)) in
      sym (drop-take from (to - from) values)
      ∙ ap (λ (j : ℕ). drop from (take j values)) step
      ∙ ap (drop from) front
      ∙ ap (drop from) (raw_more k)
      ∙ drop-append_seam (R k) (raw_part s size bands sx sy k)
    where
      take_less : (xs : List ℤ) (a b : ℕ) → a ≤ b → take a xs ≡ take a (take b xs)
      take_less xs zero b le = refl
      take_less [] (suc a) zero le = absurd (omega arith)
      take_less [] (suc a) (suc b) le = refl
      take_less (x ∷ xs) (suc a) zero le = absurd (omega arith)
      take_less (x ∷ xs) (suc a) (suc b) le = ap (λ (t : List ℤ). x ∷ t) (take_less xs a b (omega arith))

-- each band can be gathered
pub can_gather : (s : Slicing) (size : Size) (bands : BandStack) (sx sy k : ℕ) (rect : Rect) (band : Raster ℤ) → rect ≡ level_rect s size sx sy (level_of k) → band ≡ numbered bands k → k < 3 * s.depth + 1 → sx < s.slices_x → sy < s.slices_y
    → CanGatherAll s size bands → CanGather rect band
can_gather s size bands sx sy k rect band rect_is band_is lt across down can =
    let inside : FitsIn rect band = fits s size sx sy k rect bands band rect_is band_is lt can.depth across down can.sizes in
    record {
      across = inside.across;
      down = inside.down;
      x_inside = inside.x_inside;
      y_inside = inside.y_inside;
      small = λ y x. subst (λ (p : Raster ℤ). Within (2 ^ 27) (at p y x)) (sym band_is) (can.small k y x lt);
    }

pub given_gathers : (c : CodedComponent) (d : ℕ) → c.slicing.depth ≤ 4 → d ≤ 16 → IsGiven c d → CanGatherAll c.slicing c.size c.bands
given_gathers c d shallow few given = record {
  depth = given.depth;
  sizes = given.sizes;
  small = λ k y x lt.
      subst (λ (j : ℕ). Within (2 ^ 27) (at (numbered c.bands j) y x)) (index-numbered k)
      (wider (most_coefficient c.slicing.depth d) (2 ^ 27) _ (coefficient_most c.slicing.depth d shallow few) (given.small (level_of k) (orient_of k) y x (band-exists c.slicing.depth k lt)));
}

-- ---- a buffer that was filled

module _ (s : Slicing) (size : Size) (bands : BandStack) (sx sy : ℕ) (g : GatheredSeen) (depth_is : g.depth ≡ s.depth) (ends_are : (k : ℕ) → k < 3 * s.depth + 1 → slice_index g.ends k ≡ length (raw_before s size bands sx sy (k + 1)))
    (room : length (raw_before s size bands sx sy (3 * s.depth + 1)) ≤ length g.values) where
  end_before : (k : ℕ) → 1 ≤ k → k ≤ 3 * s.depth → slice_index g.ends (k - 1) ≡ length (raw_before s size bands sx sy k)
  end_before k some le =
      let here : k - 1 + 1 ≡ k = omega arith in
      ends_are (k - 1) (omega arith) ∙ ap (λ (n : ℕ). length (raw_before s size bands sx sy n)) here

  pub filled_sound : s.depth ≤ 4 → All (Within (2 ^ 27)) g.values → length g.values ≤ 2 ^ 31 → IsGatheredSound g
  filled_sound shallow small few = record {
    shallow = omega (arith, depth_is, shallow);
    rise = λ k some le. omega (arith, end_before k some (omega (arith, depth_is, le)), ends_are k (omega (arith, depth_is, le)), raw_within s size bands sx sy k (k + 1) (omega arith));
    whole = λ k le.
        let last : 3 * g.depth ≡ 3 * s.depth = omega (arith, depth_is) in
        omega (
          arith,
          ends_are k (omega (arith, depth_is, le)),
          ends_are (3 * s.depth) (omega arith),
          ap (λ (n : ℕ). slice_index g.ends n) last,
          raw_within s size bands sx sy (k + 1) (3 * s.depth + 1) (omega (arith, depth_is, le)),
        );
    inside = λ k le. omega (arith, ends_are k (omega (arith, depth_is, le)), room, raw_within s size bands sx sy (k + 1) (3 * s.depth + 1) (omega (arith, depth_is, le)));
    small = small;
    few = few;
  }

  pub filled_gathers : take (length (raw_before s size bands sx sy (3 * s.depth + 1))) g.values ≡ raw_before s size bands sx sy (3 * s.depth + 1) → AreGathered s size bands sx sy g
  filled_gathers all = record {
    depth = depth_is;
    ends = ends_are;
    lowest =
        let R = raw_before s size bands sx sy in
        let none : length (R (0 + 1)) - length (R 0) ≡ length (R (0 + 1)) = omega arith in
        ap (λ (n : ℕ). take n g.values) (ends_are 0 (omega arith) ∙ sym none) ∙ piece_is s size bands sx sy 0 (3 * s.depth + 1) g.values (omega arith) room all;
    pieces = λ k some lt.
        ap (λ (n : ℕ). take (n - slice_index g.ends (k - 1)) (drop (slice_index g.ends (k - 1)) g.values)) (ends_are k lt)
        ∙ ap (λ (n : ℕ). take (length (raw_before s size bands sx sy (k + 1)) - n) (drop n g.values)) (end_before k some (omega arith))
        ∙ piece_is s size bands sx sy k (3 * s.depth + 1) g.values lt room all;
  }

-- a vector's items that were written over
pub written_over : {X : Type 0} (n : ℕ) (xs ys : List X) → n ≡ length xs → take n (xs ++ ys) ≡ xs
written_over n xs ys e = ap (λ (k : ℕ). take k (xs ++ ys)) e ∙ take-append_seam xs ys

-- ---- one band of values after another

module _ (p : ℕ → List ℤ) where
  -- from the first to the last
  pub band_listed : (k : ℕ) (front : List ℤ) (all more new : List ℤ) → 1 ≤ k → all ≡ front ++ flat_map p (range_with_len 1 (k - 1)) → new ≡ p k → more ≡ all ++ new → more ≡ front ++ flat_map p (range_with_len 1 (k + 1 - 1))
  band_listed k front all more new some so_far new_is is =
      let one : k + 1 - 1 ≡ k - 1 + 1 = omega arith in
      is
      ∙ ap (λ (t : List ℤ). t ++ new) so_far
      ∙ append_assoc front (flat_map p (range_with_len 1 (k - 1))) new
      ∙ ap (λ (t : List ℤ). front ++ (flat_map p (range_with_len 1 (k - 1)) ++ t)) new_is
      ∙ sym (ap (λ (n : ℕ). front ++ flat_map p (range_with_len 1 n)) one ∙ ap (λ (t : List ℤ). front ++ t) (flat_more p 1 (k - 1) k (omega arith)))
