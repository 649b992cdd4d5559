-- Slices that were written pass a reader's rules: no dequantised value is too large.
use Rattle.std.proofs.Common.{◌≡◌, ◌∙◌, sym, ap, refl, ℕ, zero, suc, ◌+◌, ◌*◌, ◌^◌, ◌<◌, ◌≤◌, Bool, true, false, List, [], ◌∷◌, ◌++◌, length, map, replicate, cond, eqb, arith, inl, ℤ, ◌-ℤ◌}
use Rattle.std.specs.Prelude.{unsigned_abs, ◌&&◌}
use Rattle.std.specs.List.{All, flat_map}
use Rattle.std.proofs.lemmas.Bool.{le-leb}
use Rattle.std.proofs.lemmas.List.{map-append}
use Rattle.std.proofs.lemmas.List.Elements.{All-head, All-tail, All-weaker}
use Rattle.std.proofs.lemmas.Grind.{flat_map-append}
use Rattle.planes.specs.declared.Rect.{Rect}
use Rattle.planes.specs.Subbands.{BandExists}
use Rattle.dc_prediction.specs.Prediction.{prediction}
use Rattle.quant_factors.specs.Factors.{inverse_of, forward_of}
use Rattle.quant_factors.specs.Weights.{Weights, band_quantiser}
use Rattle.slice_geometry.specs.declared.Size.{Size}
use Rattle.slice_geometry.specs.Slicing.{Slicing, IsAllowed}
use Rattle.slice_geometry.specs.SliceOrder.{level_rect, area}
use Rattle.slice_decoder.specs.Slice.{Slice, slice_at, quantisers, dequantised, are_small, is_small}
use Rattle.slice_encoder.specs.Order.{Place, rect_places, places_of}
use Rattle.slice_encoder.specs.Trials as trials
use Rattle.slice_encoder.specs.Trials.{CodedComponent, CodedPicture, luma_of, c1_of, c2_of, restored_after, value_of}
use Rattle.slice_encoder.specs.TrialLaws.{IsIndex, AreCoefficients, most_coefficient}
use Rattle.slice_encoder.specs.Ready.{AreGiven}
use Rattle.slice_encoder.proofs.Near.{stays_near, within_abs, inverse_small}
use Rattle.slice_encoder.proofs.Coarsest.{all_rect, places_exist}
use Rattle.slice_encoder.proofs.Tried.{coefficient_most}
use Rattle.slice_encoder.proofs.WholeTrial.{length_rect_places}
use Rattle.picture_codec.specs.Written.{AreWritten}
use Rattle.picture_codec.proofs.WrittenPictures as pictures

-- ---- each value beside its quantiser

IsSmallAt : (Place → ℤ) → (Place → ℕ) → Place → Type 0
IsSmallAt f q p = unsigned_abs (inverse_of (f p) (q p)) ≤ 2 ^ 36

once : (f : Place → ℤ) (q : Place → ℕ) (places : List Place) → All (IsSmallAt f q) places → are_small (dequantised (map f places) (map q places)) ≡ true
unfolding IsSmallAt
once f q [] h = refl
once f q (p ∷ places) h =
    rw (le-leb (unsigned_abs (inverse_of (f p) (q p))) (2 ^ 36) (All-head (IsSmallAt f q) p places h)) (once f q places (All-tail (IsSmallAt f q) p places h))

twice : (f g : Place → ℤ) (q : Place → ℕ) (places : List Place) → All (IsSmallAt f q) places → All (IsSmallAt g q) places
    → are_small (dequantised (flat_map (λ p. f p ∷ g p ∷ []) places) (flat_map (λ p. q p ∷ q p ∷ []) places)) ≡ true
unfolding IsSmallAt
twice f g q [] h k = refl
twice f g q (p ∷ places) h k =
    rw (le-leb (unsigned_abs (inverse_of (f p) (q p))) (2 ^ 36) (All-head (IsSmallAt f q) p places h), le-leb (unsigned_abs (inverse_of (g p) (q p))) (2 ^ 36) (All-head (IsSmallAt g q) p places k))
    (twice f g q places (All-tail (IsSmallAt f q) p places h) (All-tail (IsSmallAt g q) p places k))

-- ---- the quantisers, place by place

same_once : (q : Place → ℕ) (k : ℕ) (places : List Place) → All (λ p. q p ≡ k) places → map q places ≡ replicate (length places) k
same_once q k [] h = refl
same_once q k (p ∷ places) h =
    let Same : Place → Type 0 = λ p. q p ≡ k in
    ap (λ (n : ℕ). n ∷ map q places) (All-head Same p places h) ∙ ap (λ l. k ∷ l) (same_once q k places (All-tail Same p places h))

same_twice : (q : Place → ℕ) (k : ℕ) (places : List Place) → All (λ p. q p ≡ k) places → flat_map (λ p. q p ∷ q p ∷ []) places ≡ replicate (2 * length places) k
same_twice q k [] h = refl
same_twice q k (p ∷ places) h =
    let Same : Place → Type 0 = λ p. q p ≡ k in
    let two : suc (suc (2 * length places)) ≡ 2 * suc (length places) = omega arith in
    ap (λ (n : ℕ). n ∷ n ∷ flat_map (λ p. q p ∷ q p ∷ []) places) (All-head Same p places h) ∙ ap (λ l. k ∷ k ∷ l) (same_twice q k places (All-tail Same p places h)) ∙ ap (λ n. replicate n k) two

module _ (matrix : Weights) (index : ℕ) where
  abbrev quantiser : Place → ℕ
  quantiser p = band_quantiser matrix index p.level p.orient

  abbrev both : Place → List ℕ
  both p = band_quantiser matrix index p.level p.orient ∷ band_quantiser matrix index p.level p.orient ∷ []

  rect_once : (level orient : ℕ) (r : Rect) → map quantiser (rect_places level orient r) ≡ replicate (1 * area r) (band_quantiser matrix index level orient)
  rect_once level orient r =
      let k = band_quantiser matrix index level orient in
      let one : area r ≡ 1 * area r = omega arith in
      same_once quantiser k (rect_places level orient r) (all_rect (λ p. quantiser p ≡ k) level orient r (λ y x. refl)) ∙ ap (λ n. replicate n k) (length_rect_places level orient r ∙ one)

  rect_twice : (level orient : ℕ) (r : Rect) → flat_map both (rect_places level orient r) ≡ replicate (2 * area r) (band_quantiser matrix index level orient)
  rect_twice level orient r =
      let k = band_quantiser matrix index level orient in
      same_twice quantiser k (rect_places level orient r) (all_rect (λ p. quantiser p ≡ k) level orient r (λ y x. refl)) ∙ ap (λ n. replicate (2 * n) k) (length_rect_places level orient r)

  four : (a b c d a' b' c' d' : List ℕ) → a ≡ a' → b ≡ b' → c ≡ c' → d ≡ d' → a ++ (b ++ (c ++ d)) ≡ a' ++ (b' ++ (c' ++ d'))
  four a b c d a' b' c' d' e f g h = rw (e, f, g, h) refl

  all_once : (s : Slicing) (size : Size) (sx sy level : ℕ) → map quantiser (places_of s size sx sy level) ≡ quantisers 1 s size sx sy matrix index level
  all_once s size sx sy zero = rect_once 0 0 (level_rect s size sx sy 0)
  all_once s size sx sy (suc level) =
      let r = level_rect s size sx sy (suc level) in
      let before = places_of s size sx sy level in
      let one = rect_places (suc level) 1 r in
      let two = rect_places (suc level) 2 r in
      let three = rect_places (suc level) 3 r in
      map-append quantiser before (one ++ (two ++ three)) ∙ ap (λ l. map quantiser before ++ l) (map-append quantiser one (two ++ three) ∙ ap (λ l. map quantiser one ++ l) (map-append quantiser two three))
      ∙ four _ _ _ _ _ _ _ _ (all_once s size sx sy level) (rect_once (suc level) 1 r) (rect_once (suc level) 2 r) (rect_once (suc level) 3 r)

  all_twice : (s : Slicing) (size : Size) (sx sy level : ℕ) → flat_map both (places_of s size sx sy level) ≡ quantisers 2 s size sx sy matrix index level
  all_twice s size sx sy zero = rect_twice 0 0 (level_rect s size sx sy 0)
  all_twice s size sx sy (suc level) =
      let r = level_rect s size sx sy (suc level) in
      let before = places_of s size sx sy level in
      let one = rect_places (suc level) 1 r in
      let two = rect_places (suc level) 2 r in
      let three = rect_places (suc level) 3 r in
      flat_map-append both before (one ++ (two ++ three)) ∙ ap (λ l. flat_map both before ++ l) (flat_map-append both one (two ++ three) ∙ ap (λ l. flat_map both one ++ l) (flat_map-append both two three))
      ∙ four _ _ _ _ _ _ _ _ (all_twice s size sx sy level) (rect_twice (suc level) 1 r) (rect_twice (suc level) 2 r) (rect_twice (suc level) 3 r)

-- ---- no dequantised value is too large

chosen : (P : ℤ → Type 0) (b : Bool) (x y : ℤ) → P x → P y → P (cond b x y)
chosen P true x y h k = h
chosen P false x y h k = k

module _ (c : CodedComponent) (d : ℕ) (indices : List ℕ) (index : ℕ) (le : index ≤ 127) (all : All IsIndex indices) (shallow : c.slicing.depth ≤ 4) (few : d ≤ 16) (small : AreCoefficients d c) where
  at_place : (p : Place) → BandExists c.slicing.depth p.level p.orient → IsSmallAt (value_of c (restored_after c indices) index) (quantiser c.matrix index) p
  unfolding IsSmallAt
  at_place p exists =
      let q : ℕ = band_quantiser c.matrix index p.level p.orient in
      let m : ℕ = most_coefficient c.slicing.depth d in
      let most = coefficient_most c.slicing.depth d shallow few in
      let k = trials.coefficient c 0 0 p.y p.x in
      let r : ℤ = k -ℤ prediction (restored_after c indices) p.y p.x in
      let near = (stays_near c m indices all (λ y x. small 0 0 y x (inl (refl, refl))) p.y p.x).1 in
      let own = trials.coefficient c p.level p.orient p.y p.x in
      chosen (λ v. unsigned_abs (inverse_of v q) ≤ 2 ^ 36) (eqb p.level 0) (forward_of r q) (forward_of own q)
      (omega (arith, inverse_small r (4 * m + 2) q (omega (arith, le)) (within_abs (4 * m + 2) r near), most))
      (omega (arith, inverse_small own m q (omega (arith, le)) (within_abs m own (small p.level p.orient p.y p.x exists)), most))

  all_at : (sx sy : ℕ) → All (IsSmallAt (value_of c (restored_after c indices) index) (quantiser c.matrix index)) (places_of c.slicing c.size sx sy c.slicing.depth)
  all_at sx sy =
      All-weaker (λ p. BandExists c.slicing.depth p.level p.orient) (IsSmallAt (value_of c (restored_after c indices) index) (quantiser c.matrix index)) at_place
      (places_of c.slicing c.size sx sy c.slicing.depth) (places_exist c.slicing c.size sx sy c.slicing.depth c.slicing.depth (omega arith))

-- ---- a slice of a picture

module _ (j : CodedPicture) (indices : List ℕ) (slices : List (List ℕ)) (allowed : IsAllowed j.slicing) (given : AreGiven j) (all : All IsIndex indices) (written : AreWritten j indices slices) (sx sy : ℕ) (across : sx < j.slicing.slices_x) (down : sy < j.slicing.slices_y) where
  abbrev bytes : List ℕ
  bytes = pictures.bytes j indices slices allowed given all written sx sy across down

  abbrev index : ℕ
  index = pictures.index j indices slices allowed given all written sx sy across down

  abbrev front : List ℕ
  front = pictures.front j indices slices allowed given all written sx sy across down

  abbrev slice : Slice
  slice = slice_at j.slicing j.frame.luma j.frame.colour sx sy bytes

  pub not_too_long : slice.too_long ≡ false
  not_too_long = ap (λ (s : Slice). s.too_long) (pictures.slice_is j indices slices allowed given all written sx sy across down)

  pub is_small_there : is_small j.slicing j.frame.luma j.frame.colour sx sy j.matrix slice ≡ true
  is_small_there =
      let most = pictures.most j indices slices allowed given all written sx sy across down in
      let front_all = pictures.front_all j indices slices allowed given all written sx sy across down in
      let luma = value_of (luma_of j) (restored_after (luma_of j) front) index in
      let c1 = value_of (c1_of j) (restored_after (c1_of j) front) index in
      let c2 = value_of (c2_of j) (restored_after (c2_of j) front) index in
      let places = places_of j.slicing j.frame.luma sx sy j.slicing.depth in
      let colour_places = places_of j.slicing j.frame.colour sx sy j.slicing.depth in
      let luma_fits : are_small (dequantised (map luma places) (quantisers 1 j.slicing j.frame.luma sx sy j.matrix index j.slicing.depth)) ≡ true =
      ap (λ l. are_small (dequantised (map luma places) l)) (sym (all_once j.matrix index j.slicing j.frame.luma sx sy j.slicing.depth))
      ∙ once luma (quantiser j.matrix index) places (all_at (luma_of j) j.frame.luma_depth front index most front_all allowed.depth given.luma_bits.most given.luma.small sx sy) in
      let colour_fits : are_small (dequantised (flat_map (λ p. c1 p ∷ c2 p ∷ []) colour_places) (quantisers 2 j.slicing j.frame.colour sx sy j.matrix index j.slicing.depth)) ≡ true =
      ap (λ l. are_small (dequantised (flat_map (λ p. c1 p ∷ c2 p ∷ []) colour_places) l)) (sym (all_twice j.matrix index j.slicing j.frame.colour sx sy j.slicing.depth))
      ∙ twice c1 c2 (quantiser j.matrix index) colour_places
      (all_at (c1_of j) j.frame.colour_depth front index most front_all allowed.depth given.colour_bits.most given.c1.small sx sy)
      (all_at (c2_of j) j.frame.colour_depth front index most front_all allowed.depth given.colour_bits.most given.c2.small sx sy) in
      ap (λ (s : Slice). is_small j.slicing j.frame.luma j.frame.colour sx sy j.matrix s) (pictures.slice_is j indices slices allowed given all written sx sy across down)
      ∙ ap (λ (b : Bool). b && are_small (dequantised (flat_map (λ p. c1 p ∷ c2 p ∷ []) colour_places) (quantisers 2 j.slicing j.frame.colour sx sy j.matrix index j.slicing.depth))) luma_fits ∙ colour_fits
