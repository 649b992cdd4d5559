-- A trial after other trials of the same slice.
use Rattle.std.proofs.Common.{◌≡◌, ◌∙◌, sym, ap, subst, refl, ℕ, zero, suc, ◌+◌, ◌-◌, ◌*◌, ◌<◌, ◌≤◌, max, Bool, true, false, cond, eqb, List, [], ◌∷◌, arith, inl, inr, ℤ, pos}
use Rattle.std.specs.List.{All}
use Rattle.std.proofs.lemmas.List.Elements.{All-nil, All-cons, All-head, All-tail, All-map, All-weaker}
use Rattle.std.proofs.Math.Path.{fun_ext}
use Rattle.std.proofs.Math.Dec.{T, eqb→eq}
use Rattle.planes.specs.Numbers.{Within}
use Rattle.planes.specs.declared.Rect.{Rect}
use Rattle.planes.specs.declared.ThreePlanes.{ThreePlanes}
use Rattle.planes.specs.Raster.{Grid, Raster, at}
use Rattle.planes.specs.Rect.{IsInRect}
use Rattle.planes.specs.Subbands.{BandExists}
use Rattle.dc_prediction.specs.Prediction.{prediction, AllLookedAt}
use Rattle.dc_prediction.proofs.Rectangles.{in_rect_or_not}
use Rattle.quant_factors.specs.Weights.{band_quantiser}
use Rattle.slice_geometry.specs.Shape.{IsDepth}
use Rattle.slice_geometry.specs.SliceOrder.{level_rect}
use Rattle.slice_encoder.specs.Loop.{restored_value, made}
use Rattle.slice_encoder.specs.Trials.{CodedComponent, coefficient, CodedPicture, luma_of, c1_of, c2_of, lists, value_of}
use Rattle.slice_encoder.specs.Tries.{in_rect, tried, IsTried, AreTried, tried_lists}
use Rattle.slice_encoder.specs.Order.{Place, places_of}
use Rattle.slice_encoder.specs.Choice.{fits}
use Rattle.slice_encoder.specs.TrialLaws.{most_coefficient, IsIndex, IsSteepOk}
use Rattle.slice_encoder.specs.Ready.{IsReadyToWrite, AreReadyToWrite}
use Rattle.slice_encoder.proofs.Others.{KeepsOthers, AllKeepOthers}
use Rattle.slice_encoder.proofs.Near.{restored_value-within, within_abs, difference_within}
use Rattle.slice_encoder.proofs.Coarsest.{gone, needs_none, need-zeros, two_zeros, all_joined, places_exist}
use Rattle.slice_encoder.proofs.Continues.{in_rect-yes, tried-inside, tried-outside, lowest_inside}
use Rattle.slice_encoder.proofs.PlaceByPlace.{prediction_looked}

rule_same : (c : CodedComponent) (sx sy index : ℕ) (g h : Grid) → ((y x : ℕ) → (IsInRect (level_rect c.slicing c.size sx sy 0) y x → ⊥) → g y x ≡ h y x) → (y x : ℕ) (p : ℤ)
    → cond (in_rect (level_rect c.slicing c.size sx sy 0) y x) (restored_value (coefficient c 0 0 y x) (band_quantiser c.matrix index 0 0) p) (g y x)
    ≡ cond (in_rect (level_rect c.slicing c.size sx sy 0) y x) (restored_value (coefficient c 0 0 y x) (band_quantiser c.matrix index 0 0) p) (h y x)
rule_same c sx sy index g h same y x p =
    let r = level_rect c.slicing c.size sx sy 0 in
    let n = restored_value (coefficient c 0 0 y x) (band_quantiser c.matrix index 0 0) p in
    elim (in_rect_or_not r y x) as (λ _. cond (in_rect r y x) n (g y x) ≡ cond (in_rect r y x) n (h y x)) [
      | inl here ↦ ap (λ b. cond b n (g y x)) (in_rect-yes r y x here) ∙ sym (ap (λ b. cond b n (h y x)) (in_rect-yes r y x here))
      | inr not ↦ ap (λ v. cond (in_rect r y x) n v) (same y x not)
    ]

-- what is tried doesn't look at what stood in the slice's places
pub tried_again : (c : CodedComponent) (sx sy index : ℕ) (g h : Grid) → ((y x : ℕ) → (IsInRect (level_rect c.slicing c.size sx sy 0) y x → ⊥) → g y x ≡ h y x) → tried c sx sy index g ≡ tried c sx sy index h
unfolding tried
tried_again c sx sy index g h same =
    ap made (fun_ext (λ y. fun_ext (λ x. fun_ext (λ p. rule_same c sx sy index g h same y x p))))

pub is_tried_again : (c : CodedComponent) (sx sy index : ℕ) (old mid new : Raster ℤ) → KeepsOthers c sx sy old mid → IsTried c sx sy index mid new → IsTried c sx sy index old new
is_tried_again c sx sy index old mid new keeps t = record {
  same_width = t.same_width ∙ keeps.same_width;
  same_height = t.same_height ∙ keeps.same_height;
  places = λ y x. t.places y x ∙ ap (λ g. g y x) (tried_again c sx sy index (at mid) (at old) keeps.places);
}

pub tried_keeps : (c : CodedComponent) (sx sy index : ℕ) (old new : Raster ℤ) → IsTried c sx sy index old new → KeepsOthers c sx sy old new
tried_keeps c sx sy index old new t = record {
  same_width = t.same_width;
  same_height = t.same_height;
  places = λ y x not. t.places y x ∙ tried-outside c sx sy index (at old) y x not;
}

pub all_tried_again : (j : CodedPicture) (sx sy index : ℕ) (old mid new : ThreePlanes) → AllKeepOthers j sx sy old mid → AreTried j sx sy index mid new → AreTried j sx sy index old new
all_tried_again j sx sy index old mid new k t = record {
  luma = is_tried_again (luma_of j) sx sy index old.luma mid.luma new.luma k.luma t.luma;
  c1 = is_tried_again (c1_of j) sx sy index old.c1 mid.c1 new.c1 k.c1 t.c1;
  c2 = is_tried_again (c2_of j) sx sy index old.c2 mid.c2 new.c2 k.c2 t.c2;
}

pub all_tried_keep : (j : CodedPicture) (sx sy index : ℕ) (old new : ThreePlanes) → AreTried j sx sy index old new → AllKeepOthers j sx sy old new
all_tried_keep j sx sy index old new t = record {
  luma = tried_keeps (luma_of j) sx sy index old.luma new.luma t.luma;
  c1 = tried_keeps (c1_of j) sx sy index old.c1 new.c1 t.c1;
  c2 = tried_keeps (c2_of j) sx sy index old.c2 new.c2 t.c2;
}

pub all_keep_nothing : (j : CodedPicture) (sx sy : ℕ) (p : ThreePlanes) → AllKeepOthers j sx sy p p
all_keep_nothing j sx sy p = record {
  luma = record { same_width = refl; same_height = refl; places = λ y x _. refl };
  c1 = record { same_width = refl; same_height = refl; places = λ y x _. refl };
  c2 = record { same_width = refl; same_height = refl; places = λ y x _. refl };
}

pub lists_again : (j : CodedPicture) (sx sy index : ℕ) (old mid : ThreePlanes) → AllKeepOthers j sx sy old mid → tried_lists j mid sx sy index ≡ tried_lists j old sx sy index
lists_again j sx sy index old mid k =
    let luma = tried_again (luma_of j) sx sy index (at mid.luma) (at old.luma) k.luma.places in
    let c1 = tried_again (c1_of j) sx sy index (at mid.c1) (at old.c1) k.c1.places in
    let c2 = tried_again (c2_of j) sx sy index (at mid.c2) (at old.c2) k.c2.places in
    ap (λ g. lists j g (tried (c1_of j) sx sy index (at mid.c1)) (tried (c2_of j) sx sy index (at mid.c2)) index sx sy) luma
    ∙ ap (λ g. lists j (tried (luma_of j) sx sy index (at old.luma)) g (tried (c2_of j) sx sy index (at mid.c2)) index sx sy) c1
    ∙ ap (λ g. lists j (tried (luma_of j) sx sy index (at old.luma)) (tried (c1_of j) sx sy index (at old.c1)) g index sx sy) c2

-- ---- how large the tried values are

module _ (c : CodedComponent) (d sx sy index : ℕ) (kept : Raster ℤ) (le : index ≤ 127) (ready : IsReadyToWrite c d sx sy kept) where
  abbrev m : ℕ
  m = most_coefficient c.slicing.depth d

  abbrev rect : Rect
  rect = level_rect c.slicing c.size sx sy 0

  abbrev Small : ℕ → ℕ → Type 0
  Small y x = Within (3 * most_coefficient c.slicing.depth d + 2) (tried c sx sy index (at kept) y x)

  pub looked : (y x : ℕ) → IsInRect rect y x → ((k i : ℕ) → k + i < y + x → IsInRect rect k i → Small k i) → AllLookedAt Small y x
  looked y x here before =
      let all = ready.outside y x here in
      let one = λ (k i : ℕ) (lt : k + i < y + x) (out : (IsInRect rect k i → ⊥) → Within (3 * most_coefficient c.slicing.depth d + 2) (at kept k i)). elim (in_rect_or_not rect k i) as (λ _. Small k i) [
        | inl inside ↦ before k i lt inside
        | inr not ↦ subst (λ v. Within (3 * most_coefficient c.slicing.depth d + 2) v) (sym (tried-outside c sx sy index (at kept) k i not)) (out not)
      ] in
      record {
        left = λ some. one y (x - 1) (omega arith) (all.left some);
        above = λ some. one (y - 1) x (omega arith) (all.above some);
        corner = λ some more. one (y - 1) (x - 1) (omega arith) (all.corner some more);
      }

  pub small_so_far : (n y x : ℕ) → y + x < n → IsInRect rect y x → Small y x
  small_so_far zero y x lt here = absurd (omega arith)
  small_so_far (suc n) y x lt here =
      let around = looked y x here (λ k i less inside. small_so_far n k i (omega arith) inside) in
      let p = prediction_looked (3 * most_coefficient c.slicing.depth d + 2) (tried c sx sy index (at kept)) y x around in
      subst (λ v. Within (3 * most_coefficient c.slicing.depth d + 2) v) (sym (tried-inside c sx sy index (at kept) y x here))
      (restored_value-within (most_coefficient c.slicing.depth d) (coefficient c 0 0 y x) (prediction (tried c sx sy index (at kept)) y x) (band_quantiser c.matrix index 0 0) (omega (arith, le)) (ready.small 0 0 y x (inl (refl, refl))) p)

  pub predicted_small : (y x : ℕ) → IsInRect rect y x → Within (3 * most_coefficient c.slicing.depth d + 2) (prediction (tried c sx sy index (at kept)) y x)
  predicted_small y x here =
      prediction_looked (3 * most_coefficient c.slicing.depth d + 2) (tried c sx sy index (at kept)) y x
      (looked y x here (λ k i less inside. small_so_far (y + x) k i (omega arith) inside))

-- ---- at the coarsest index

choose : (b : Bool) (x y v : ℤ) → (b ≡ true → x ≡ v) → (b ≡ false → y ≡ v) → cond b x y ≡ v
choose true x y v h k = h refl
choose false x y v h k = k refl

pub all_both : {X : Type 0} (P Q : X → Type 0) → (xs : List X) → All P xs → All Q xs → All (λ x. P x × Q x) xs
all_both P Q [] p q = All-nil (λ x. P x × Q x)
all_both P Q (x ∷ xs) p q = All-cons (λ x. P x × Q x) x xs (All-head P x xs p, All-head Q x xs q) (all_both P Q xs (All-tail P x xs p) (All-tail Q x xs q))

module _ (c : CodedComponent) (d dmost sx sy : ℕ) (kept : Raster ℤ) (some : 1 ≤ d) (le : d ≤ dmost) (steep : IsSteepOk c.slicing.depth dmost c.matrix) (ready : IsReadyToWrite c d sx sy kept) where
  abbrev grid : Grid
  grid = tried c sx sy 127 (at kept)

  gone_here : (p : Place) → BandExists c.slicing.depth p.level p.orient → (p.level ≡ 0 → IsInRect (level_rect c.slicing c.size sx sy 0) p.y p.x) → value_of c (tried c sx sy 127 (at kept)) 127 p ≡ pos 0
  gone_here p exists inside =
      let own = gone c d dmost some le ready.small steep [] (All-nil IsIndex) in
      choose (eqb p.level 0) _ _ (pos 0)
      (λ e.
      let small = predicted_small c d sx sy 127 kept (omega arith) ready p.y p.x (inside (eqb→eq p.level 0 (subst T (sym e) tt))) in
      let near_small = ready.small 0 0 p.y p.x (inl (refl, refl)) in
      own _ p.level p.orient exists (within_abs _ _ (difference_within (most_coefficient c.slicing.depth d) _ _ near_small small)))
      (λ e. own _ p.level p.orient exists (omega (arith, within_abs _ _ (ready.small p.level p.orient p.y p.x exists))))

  pub all_gone : All (λ p. value_of c (tried c sx sy 127 (at kept)) 127 p ≡ pos 0) (places_of c.slicing c.size sx sy c.slicing.depth)
  all_gone =
      let In = λ (p : Place). BandExists c.slicing.depth p.level p.orient in
      let Low = λ (p : Place). p.level ≡ 0 → IsInRect (level_rect c.slicing c.size sx sy 0) p.y p.x in
      let places = places_of c.slicing c.size sx sy c.slicing.depth in
      All-weaker (λ p. In p × Low p) (λ p. value_of c (tried c sx sy 127 (at kept)) 127 p ≡ pos 0) (λ p h. gone_here p h.0 h.1) places
      (all_both In Low places (places_exist c.slicing c.size sx sy c.slicing.depth c.slicing.depth (omega arith)) (lowest_inside c.slicing c.size sx sy c.slicing.depth))

pub coarsest_tried : (j : CodedPicture) (bytes sx sy : ℕ) (kept : ThreePlanes) → IsDepth j.frame.luma_depth → IsDepth j.frame.colour_depth → AreReadyToWrite j sx sy kept → IsSteepOk j.slicing.depth (max j.frame.luma_depth j.frame.colour_depth) j.matrix → fits bytes (tried_lists j kept sx sy 127) ≡ true
coarsest_tried j bytes sx sy kept luma_bits colour_bits ready steep =
    let most = max j.frame.luma_depth j.frame.colour_depth in
    let luma = all_gone (luma_of j) j.frame.luma_depth most sx sy kept.luma luma_bits.some (omega arith) steep ready.luma in
    let c1 = all_gone (c1_of j) j.frame.colour_depth most sx sy kept.c1 colour_bits.some (omega arith) steep ready.c1 in
    let c2 = all_gone (c2_of j) j.frame.colour_depth most sx sy kept.c2 colour_bits.some (omega arith) steep ready.c2 in
    let places = places_of j.slicing j.frame.colour sx sy j.slicing.depth in
    let v1 : Place → ℤ = value_of (c1_of j) (tried (c1_of j) sx sy 127 (at kept.c1)) 127 in
    let v2 : Place → ℤ = value_of (c2_of j) (tried (c2_of j) sx sy 127 (at kept.c2)) 127 in
    let pair : Place → List ℤ = λ p. v1 p ∷ v2 p ∷ [] in
    needs_none bytes _ _
    (need-zeros _ (All-map (λ v. v ≡ pos 0) (value_of (luma_of j) (tried (luma_of j) sx sy 127 (at kept.luma)) 127) (places_of j.slicing j.frame.luma sx sy j.slicing.depth) luma))
    (need-zeros _ (all_joined (λ v. v ≡ pos 0) pair places
    (All-weaker (λ p. (v1 p ≡ pos 0) × (v2 p ≡ pos 0)) (λ p. All (λ v. v ≡ pos 0) (pair p)) (λ p h. two_zeros _ _ h.0 h.1) places
    (all_both (λ p. v1 p ≡ pos 0) (λ p. v2 p ≡ pos 0) places c1 c2))))
