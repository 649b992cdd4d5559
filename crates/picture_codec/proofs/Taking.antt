-- One slice more.
use Rattle.std.proofs.Common.{◌≡◌, ℕ, zero, suc, ◌+◌, ◌-◌, ◌*◌, ◌<◌, ◌≤◌, List, [], ◌∷◌, ◌++◌, length, get_or, inl, inr, refl, sym, ap, subst, ◌∙◌, arith}
use Rattle.std.specs.Prelude.{◌+ℤ◌}
use Rattle.std.proofs.lemmas.Bool.{cases_lt}
use Rattle.std.proofs.lemmas.List.{length-append}
use Rattle.planes.specs.Raster.{at}
use Rattle.planes.specs.Rect.{IsInRect}
use Rattle.planes.specs.Subbands.{BandStack, BandExists, band_of}
use Rattle.slice_geometry.specs.declared.Size.{Size}
use Rattle.slice_geometry.specs.declared.Component.{Component}
use Rattle.slice_geometry.specs.Slicing.{Slicing, AreSlicesAllowed, slice_number}
use Rattle.slice_geometry.specs.Geometry.{band_size, holding}
use Rattle.slice_geometry.proofs.Places.{held, alone, holding_below}
use Rattle.slice_geometry.proofs.Quotients.{div-rises}
use Rattle.slice_geometry.specs.SliceOrder.{level_rect}
use Rattle.dc_prediction.specs.Prediction.{prediction, restored}
use Rattle.dc_prediction.proofs.Bands.{is_restored, restored_same}
use Rattle.dc_prediction.proofs.PredictionLemmas.{prediction_same}
use Rattle.transform_params.specs.Params.{Params}
use Rattle.slice_geometry.specs.Frames.{Frame}
use Rattle.picture_codec.specs.Pictures.{size_of, slice_value, coefficient}
use Rattle.picture_codec.specs.Taking.{holder, Took, TakesSlice}

-- ---- lists of slices

index-front : (slices : List (List ℕ)) (bytes : List ℕ) (n : ℕ) → n < length slices → get_or (slices ++ bytes ∷ []) n [] ≡ get_or slices n []
index-front [] bytes n lt = absurd (omega arith)
index-front (s ∷ slices) bytes zero lt = refl
index-front (s ∷ slices) bytes (suc n) lt = index-front slices bytes n (omega arith)

index-last : (slices : List (List ℕ)) (bytes : List ℕ) (n : ℕ) → n ≡ length slices → get_or (slices ++ bytes ∷ []) n [] ≡ bytes
index-last [] bytes zero e = refl
index-last [] bytes (suc n) e = absurd (omega arith)
index-last (s ∷ slices) bytes zero e = absurd (omega arith)
index-last (s ∷ slices) bytes (suc n) e = index-last slices bytes n (omega arith)

-- ---- the numbers of slices

pub times-le : (a b k : ℕ) → a ≤ b → a * k ≤ b * k
times-le a b k le = grind arith

pub times-suc : (a k : ℕ) → (a + 1) * k ≡ a * k + k
times-suc a k = grind arith

-- a slice further up and left comes no later
pub holder-rises : (s : Slicing) (band : Size) (j i y x : ℕ) → 1 ≤ band.w → 1 ≤ band.h → j ≤ y → i ≤ x → holder s band j i ≤ holder s band y x
holder-rises s band j i y x some_w some_h down across =
    let a : holding s.slices_x band.w i ≤ holding s.slices_x band.w x = div-rises ((i + 1) * s.slices_x - 1) ((x + 1) * s.slices_x - 1) band.w some_w (omega (arith, times-le (i + 1) (x + 1) s.slices_x (omega arith))) in
    let b : holding s.slices_y band.h j ≤ holding s.slices_y band.h y = div-rises ((j + 1) * s.slices_y - 1) ((y + 1) * s.slices_y - 1) band.h some_h (omega (arith, times-le (j + 1) (y + 1) s.slices_y (omega arith))) in
    omega (arith, times-le (holding s.slices_y band.h j) (holding s.slices_y band.h y) s.slices_x b)

-- two slices of one number are one slice
same-slice : (k a b c d : ℕ) → b < k → d < k → a * k + b ≡ c * k + d → (a ≡ c) × (b ≡ d)
same-slice k a b c d bk dk e = elim (cases_lt a c) [
  | inl lt ↦ absurd (omega (arith, times-le (a + 1) c k (omega arith), times-suc a k))
  | inr le ↦ elim (cases_lt c a) [
    | inl gt ↦ absurd (omega (arith, times-le (c + 1) a k (omega arith), times-suc c k))
    | inr ge ↦ let same : a ≡ c = omega arith in (same, omega (arith, ap (λ n. n * k) same))
  ]
]

-- the slice of a number that holds a place
pub held-by : (s : Slicing) (band : Size) (y x sx sy : ℕ) → AreSlicesAllowed s → x < band.w → y < band.h → sx < s.slices_x → slice_number s sx sy ≡ holder s band y x → (sx ≡ holding s.slices_x band.w x) × (sy ≡ holding s.slices_y band.h y)
held-by s band y x sx sy allowed x_in y_in across e =
    let both = same-slice s.slices_x sy sx (holding s.slices_y band.h y) (holding s.slices_x band.w x) across (holding_below band.w s.slices_x x allowed.some_across x_in) e in
    (both.1, both.0)

-- ---- the coefficients

abbrev band : Frame → Params → Component → ℕ → Size
band f p c level = band_size p.slicing.depth level (size_of f c)

coefficient-front : (f : Frame) (p : Params) (slices : List (List ℕ)) (bytes : List ℕ) (c : Component) (level orient y x : ℕ) → holder p.slicing (band f p c level) y x < length slices
    → coefficient f p (slices ++ bytes ∷ []) c level orient y x ≡ coefficient f p slices c level orient y x
unfolding coefficient
coefficient-front f p slices bytes c level orient y x lt =
    let sx = holding p.slicing.slices_x (band f p c level).w x in
    let sy = holding p.slicing.slices_y (band f p c level).h y in
    ap (λ b. slice_value f p c sx sy b level orient y x) (index-front slices bytes (slice_number p.slicing sx sy) lt)

coefficient-last : (f : Frame) (p : Params) (slices : List (List ℕ)) (bytes : List ℕ) (c : Component) (level orient y x sx sy : ℕ) → sx ≡ holding p.slicing.slices_x (band f p c level).w x → sy ≡ holding p.slicing.slices_y (band f p c level).h y → slice_number p.slicing sx sy ≡ length slices
    → coefficient f p (slices ++ bytes ∷ []) c level orient y x ≡ slice_value f p c sx sy bytes level orient y x
unfolding coefficient
coefficient-last f p slices bytes c level orient y x sx sy at_x at_y n =
    let hx = holding p.slicing.slices_x (band f p c level).w x in
    let hy = holding p.slicing.slices_y (band f p c level).h y in
    let there : slice_number p.slicing hx hy ≡ length slices = ap (λ a. slice_number p.slicing a hy) (sym at_x) ∙ ap (λ b. slice_number p.slicing sx b) (sym at_y) ∙ n in
    ap (λ b. slice_value f p c hx hy b level orient y x) (index-last slices bytes (slice_number p.slicing hx hy) there)
    ∙ ap (λ a. slice_value f p c a hy bytes level orient y x) (sym at_x) ∙ ap (λ b. slice_value f p c sx b bytes level orient y x) (sym at_y)

-- ---- one slice more

record Step (f : Frame) (p : Params) (slices : List (List ℕ)) (bytes : List ℕ) (c : Component) (sx sy : ℕ) (old new : BandStack) : Type 0 where
  allowed : AreSlicesAllowed p.slicing
  took : Took f p slices c old
  takes : TakesSlice f p c sx sy bytes old new
  across : sx < p.slicing.slices_x
  number : slice_number p.slicing sx sy ≡ length slices

upper-more : (f : Frame) (p : Params) (slices : List (List ℕ)) (bytes : List ℕ) (c : Component) (sx sy : ℕ) (old new : BandStack) → Step f p slices bytes c sx sy old new → (level orient y x : ℕ) → BandExists p.slicing.depth level orient → 1 ≤ level → y < (band f p c level).h → x < (band f p c level).w
    → holder p.slicing (band f p c level) y x < length slices + 1 → at (band_of new level orient) y x ≡ coefficient f p (slices ++ bytes ∷ []) c level orient y x
upper-more f p slices bytes c sx sy old new g level orient y x is some y_in x_in lt = elim (cases_lt (holder p.slicing (band f p c level) y x) (length slices)) [
  | inl before ↦
      g.takes.upper_stays level orient y x is some (λ inside. let one = alone p.slicing (band f p c level) y x sx sy g.allowed inside in
      absurd (omega (arith, before, g.number, ap (λ a. slice_number p.slicing a sy) one.0, ap (λ b. slice_number p.slicing (holding p.slicing.slices_x (band f p c level).w x) b) one.1)))
      ∙ g.took.upper level orient y x is some y_in x_in before ∙ sym (coefficient-front f p slices bytes c level orient y x before)
  | inr here ↦
      let one = held-by p.slicing (band f p c level) y x sx sy g.allowed x_in y_in g.across (omega (arith, g.number)) in
      let inside = held p.slicing (band f p c level) y x g.allowed x_in y_in in
      g.takes.upper level orient y x is some (subst (λ a. IsInRect (level_rect p.slicing (size_of f c) a sy level) y x) (sym one.0) (subst (λ b. IsInRect (level_rect p.slicing (size_of f c) (holding p.slicing.slices_x (band f p c level).w x) b level) y x) (sym one.1) inside.inside))
      ∙ sym (coefficient-last f p slices bytes c level orient y x sx sy one.0 one.1 g.number)
]

lowest-more : (f : Frame) (p : Params) (slices : List (List ℕ)) (bytes : List ℕ) (c : Component) (sx sy : ℕ) (old new : BandStack) → Step f p slices bytes c sx sy old new → (m y x : ℕ) → y + x < m → y < (band f p c 0).h → x < (band f p c 0).w
    → holder p.slicing (band f p c 0) y x < length slices + 1 → at (band_of new 0 0) y x ≡ restored (coefficient f p (slices ++ bytes ∷ []) c 0 0) y x
lowest-more f p slices bytes c sx sy old new g zero y x small y_in x_in lt = absurd (omega arith)
lowest-more f p slices bytes c sx sy old new g (suc m) y x small y_in x_in lt =
    let s = p.slicing in
    let b = band f p c 0 in
    let before = coefficient f p slices c 0 0 in
    let now = coefficient f p (slices ++ bytes ∷ []) c 0 0 in
    let rises : (j i : ℕ) → j ≤ y → i ≤ x → holder s b j i ≤ holder s b y x = λ j i down across. holder-rises s b j i y x (omega arith) (omega arith) down across in
    let earlier : (j i : ℕ) → j ≤ y → i ≤ x → j + i < y + x → at (band_of new 0 0) j i ≡ restored now j i
    = λ j i down across less. lowest-more f p slices bytes c sx sy old new g m j i (omega arith) (omega arith) (omega arith) (omega (arith, rises j i down across)) in
    elim (cases_lt (holder s b y x) (length slices)) [
      | inl first ↦
          g.takes.lowest_stays y x (λ inside. let one = alone s b y x sx sy g.allowed inside in
          absurd (omega (arith, first, g.number, ap (λ a. slice_number s a sy) one.0, ap (λ k. slice_number s (holding s.slices_x b.w x) k) one.1)))
          ∙ g.took.lowest y x y_in x_in first
          ∙ restored_same before now y x (λ j i down across. sym (coefficient-front f p slices bytes c 0 0 j i (omega (arith, rises j i down across))))
      | inr here ↦
          let one = held-by s b y x sx sy g.allowed x_in y_in g.across (omega (arith, g.number)) in
          let inside = held s b y x g.allowed x_in y_in in
          let in_rect = subst (λ a. IsInRect (level_rect s (size_of f c) a sy 0) y x) (sym one.0) (subst (λ k. IsInRect (level_rect s (size_of f c) (holding s.slices_x b.w x) k 0) y x) (sym one.1) inside.inside) in
          let predicted = prediction_same (at (band_of new 0 0)) (restored now) y x (record {
            left = λ some. earlier y (x - 1) (omega arith) (omega arith) (omega arith);
            above = λ some. earlier (y - 1) x (omega arith) (omega arith) (omega arith);
            corner = λ some_y some_x. earlier (y - 1) (x - 1) (omega arith) (omega arith) (omega arith);
          }) in
          g.takes.lowest y x in_rect
          ∙ ap (λ v. v +ℤ prediction (at (band_of new 0 0)) y x) (sym (coefficient-last f p slices bytes c 0 0 y x sx sy one.0 one.1 g.number))
          ∙ ap (λ v. now y x +ℤ v) predicted ∙ sym (is_restored now y x)
    ]

-- the slices so far, and this one
pub took_more : (f : Frame) (p : Params) (slices : List (List ℕ)) (bytes : List ℕ) (c : Component) (sx sy : ℕ) (old new : BandStack) → AreSlicesAllowed p.slicing → sx < p.slicing.slices_x → slice_number p.slicing sx sy ≡ length slices → Took f p slices c old → TakesSlice f p c sx sy bytes old new
    → Took f p (slices ++ bytes ∷ []) c new
took_more f p slices bytes c sx sy old new allowed across number took takes =
    let g : Step f p slices bytes c sx sy old new = record { allowed = allowed; took = took; takes = takes; across = across; number = number } in
    let one : length (slices ++ bytes ∷ []) ≡ length slices + 1 = length-append slices (bytes ∷ []) in
    record {
      lowest = λ y x y_in x_in lt. lowest-more f p slices bytes c sx sy old new g (y + x + 1) y x (omega arith) y_in x_in (omega (arith, one));
      upper = λ level orient y x is some y_in x_in lt. upper-more f p slices bytes c sx sy old new g level orient y x is some y_in x_in (omega (arith, one));
    }

-- no slice yet
pub took_none : (f : Frame) (p : Params) (c : Component) (b : BandStack) → Took f p [] c b
took_none f p c b = record { lowest = λ y x y_in x_in lt. absurd (omega arith); upper = λ level orient y x is some y_in x_in lt. absurd (omega arith) }
