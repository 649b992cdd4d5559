-- Restored values at the places of a slice.
use Rattle.std.proofs.Common.{◌≡◌, ℕ, ◌+◌, ◌*◌, ◌<◌, ◌≤◌, ◌⊎◌, Bool, List, length, drop, get_or, ℤ, pos, refl, sym, ap, subst, ◌∙◌, inl, inr, arith}
use Rattle.std.proofs.lemmas.Bool.{cases_lt, cases_eq}
use Rattle.std.proofs.lemmas.List.{get_or-drop}
use Rattle.planes.specs.declared.Rect.{Rect}
use Rattle.planes.specs.Raster.{Raster, height, row_of, with_row}
use Rattle.planes.specs.Valued.{valued, grid_of}
use Rattle.planes.specs.Subbands.{BandStack, band_index, with_band}
use Rattle.planes.proofs.RasterLemmas.{height-with_row}
use Rattle.slice_geometry.specs.declared.Size.{Size}
use Rattle.slice_geometry.specs.Slicing.{Slicing}
use Rattle.slice_geometry.specs.SliceOrder.{level_rect, area, number_in, level_of, numbered}
use Rattle.slice_geometry.proofs.NumberedBands.{numbered-same, numbered-other}
use Rattle.slice_decoder.specs.Dealing.{dealt, HoldsRect, KeepsOutside}
use Rattle.slice_decoder.specs.Components.{Part, rect_of, quantisers_before, BandsHold, BandsKeep}
use Rattle.slice_decoder.specs.Levels.{places_in, BandsTake}
use Rattle.slice_decoder.proofs.Rects.{RowsHoldOf, at_same, at_other, rows-kept}
use Rattle.slice_decoder.proofs.Whole.{number_below, in_all}
use Rattle.slice_decoder.proofs.LevelLemmas.{length-places, in_total}

-- what one row has after values were put there
pub record RowTakesOf {X : Type 0} (value : X → ℤ) (none : X) (each from y : ℕ) (r : Rect) (values : ℕ → ℤ) (old new : List X) : Type 0 where
  pub same_length : length new ≡ length old
  pub inside : (x : ℕ) → r.x0 ≤ x → x < r.x1 → valued value none new x ≡ values (each * number_in r y x + from)
  pub outside : (x : ℕ) → (x < r.x0) ⊎ (r.x1 ≤ x) → valued value none new x ≡ valued value none old x

-- the same of integers, from a list
abbrev pub RowTakes : ℕ → ℕ → ℕ → Rect → List ℤ → List ℤ → List ℤ → Type 0
RowTakes each from y r values old new = RowTakesOf (λ v. v) (pos 0) each from y r (λ k. get_or values k (pos 0)) old new

pub rows-take : {X : Type 0} (value : X → ℤ) (none : X) (each from y : ℕ) (r : Rect) (values : ℕ → ℤ) (old plane : Raster X) (before row : List X) → r.y0 ≤ y → y < r.y1 → y < height plane → before ≡ row_of plane y
    → RowsHoldOf value none each from r y values old plane
    → RowTakesOf value none each from y r values before row
    → RowsHoldOf value none each from r (y + 1) values old (with_row plane y row)
rows-take value none each from y r values old plane before row top bottom up is held filled = record {
  same_width = held.same_width;
  same_height = height-with_row plane y row ∙ held.same_height;
  inside = λ j x inside below. elim (cases_lt j y) [
    | inl above ↦ at_other value none plane y j x row (omega arith) ∙ held.inside j x inside above
    | inr reached ↦
        let here : j ≡ y = omega arith in
        let P : ℕ → Type 0 = λ j. grid_of value none (with_row plane y row) j x ≡ values (each * number_in r j x + from) in
        subst P (sym here) (at_same value none plane y x row before up is filled.same_length ∙ filled.inside x inside.left inside.right)
  ];
  outside = rows-kept value none r y old plane before row top bottom up is filled.same_length filled.outside held.outside;
}

-- ---- bands

pub bands-take : (each from : ℕ) (s : Slicing) (size : Size) (sx sy k : ℕ) (values : List ℤ) (old b : BandStack) (before after : Raster ℤ) (level orient start : ℕ) (rect : Rect)
    → band_index level orient ≡ k → k < length b.bands → before ≡ numbered b k → numbered b k ≡ numbered old k → rect ≡ level_rect s size sx sy (level_of k) → start ≡ each * places_in s size sx sy k
    → BandsTake each from s size sx sy k values old b
    → HoldsRect each from rect (drop start values) before after
    → BandsTake each from s size sx sy (k + 1) values old (with_band b level orient after)
bands-take each from s size sx sy k values old b before after level orient start rect is lt before_is untouched rect_is start_is held here = record {
  same_depth = held.same_depth;
  bands = λ j below. elim (cases_eq j k) [
    | inl same ↦
        let Q : Rect → ℕ → Raster ℤ → Raster ℤ → Type 0 = λ r i q n. HoldsRect each from r (drop i values) q n in
        let P : ℕ → Type 0 = λ j. Q (level_rect s size sx sy (level_of j)) (each * places_in s size sx sy j) (numbered old j) (numbered (with_band b level orient after) j) in
        let r : Rect = level_rect s size sx sy (level_of k) in
        let i : ℕ = each * places_in s size sx sy k in
        let one : Q r start before after = subst (λ r. Q r start before after) rect_is here in
        let two : Q r i before after = subst (λ i. Q r i before after) start_is one in
        let three : Q r i (numbered old k) after = subst (λ q. Q r i q after) (before_is ∙ untouched) two in
        subst P (sym same) (subst (λ n. Q r i (numbered old k) n) (sym (numbered-same b level orient k after is lt)) three)
    | inr ne ↦
        let R : Raster ℤ → Type 0 = λ n. HoldsRect each from (level_rect s size sx sy (level_of j)) (drop (each * places_in s size sx sy j) values) (numbered old j) n in
        subst R (sym (numbered-other b level orient k j after is ne)) (held.bands j (omega arith))
  ];
}

-- where the values are what the block deals, the bands hold them
pub takes-hold : (each from : ℕ) (p : Part) (total : ℕ) (block : List Bool) (values : List ℤ) (old new : BandStack) → from < each
    → ((j : ℕ) → j < length (quantisers_before each p total) → get_or values j (pos 0) ≡ get_or (dealt block (quantisers_before each p total)) j (pos 0))
    → BandsTake each from p.slicing p.size p.sx p.sy total values old new → BandsHold each from p total block old new
takes-hold each from p total block values old new lt same takes = record {
  same_depth = takes.same_depth;
  bands = λ k below.
      let here = takes.bands k below in
      let start : ℕ = each * places_in p.slicing p.size p.sx p.sy k in
      record {
        same_width = here.same_width;
        same_height = here.same_height;
        inside = λ y x inside.
            let number : ℕ = each * number_in (rect_of p k) y x + from in
            let few : number < each * area (rect_of p k) = number_below each from y x (rect_of p k) lt inside in
            let place : start + number ≡ length (quantisers_before each p k) + number = omega (arith, length-places each p k) in
            here.inside y x inside
            ∙ get_or-drop start values number (pos 0)
            ∙ ap (λ n. get_or values n (pos 0)) place
            ∙ same (length (quantisers_before each p k) + number) (in_total each p k total number below few)
            ∙ sym (in_all each p k total number block below few);
        outside = here.outside;
      };
}

-- and all other places stay
pub takes-keep : (each from : ℕ) (p : Part) (total : ℕ) (values : List ℤ) (old new : BandStack) → BandsTake each from p.slicing p.size p.sx p.sy total values old new
    → ((k : ℕ) → total ≤ k → numbered new k ≡ numbered old k) → BandsKeep p old new
takes-keep each from p total values old new takes rest = record {
  same_depth = takes.same_depth;
  bands = λ k. elim (cases_lt k total) [
    | inl inside ↦
        let here = takes.bands k inside in
        record { same_width = here.same_width; same_height = here.same_height; outside = here.outside }
    | inr past ↦
        let P : Raster ℤ → Type 0 = λ n. KeepsOutside (rect_of p k) (numbered old k) n in
        subst P (sym (rest k past)) (record { same_width = refl; same_height = refl; outside = λ y x out. refl })
  ];
}
