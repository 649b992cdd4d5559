use Rattle.std.proofs.Common.{◌≡◌, ℕ, ◌+◌, ◌-◌, ◌≤◌, min, get_or, set, refl, sym, ap, subst, ◌∙◌, inl, inr, arith}
use Rattle.std.proofs.lemmas.Bool.{cases_eq}
use Rattle.std.proofs.lemmas.List.{get_or-set_same, get_or-set_other, get_or-replicate, length-set}
use Rattle.planes.specs.declared.Rect.{Rect}
use Rattle.slice_geometry.specs.declared.Size.{Size}
use Rattle.slice_geometry.specs.Slicing.{Slicing}
use Rattle.slice_geometry.specs.SliceOrder.{level_rect}
use Rattle.slice_decoder.specs.Levels.{IsLowRect, no_rect}
use Rattle.slice_decoder.proofs.LevelLemmas.{rect_low}
use Rattle.slice_decoder.proofs.LevelHalves.{halve, rect_halves, rect_lowest}
use Rattle.slice_decoder.proofs.levels.level_rects.Goals as goal

pub loop-k-init : goal.loop-k-init
loop-k-init c =
    let s = c.args.layout.now in
    let shallow : c.depth-depth.result ≤ 4 = omega (arith, c.depth-depth.ensures.value, c.depth-depth.ensures.allowed.depth) in
    record {
      count = refl;
      same = λ j low high.
          let last : c.depth-depth.result ≡ j = omega (arith, low, high) in
          get_or-replicate 5 j c.band_rect-rects.result no_rect (omega (arith, shallow, high)) ∙ c.band_rect-rects.ensures
          ∙ ap (λ (n : ℕ). level_rect s c.args.size c.args.place.sx c.args.place.sy n) last;
    }

pub loop-k-preserved : goal.loop-k-preserved
loop-k-preserved c =
    let l = c.loop-k in
    let s = c.args.layout.now in
    let size = c.args.size in
    let sx = c.args.place.sx in
    let sy = c.args.place.sy in
    let depth = c.depth-depth.result in
    let level : ℕ = depth - l.k in
    let few : depth ≤ 4 = omega (arith, c.depth-depth.ensures.value, c.depth-depth.ensures.allowed.depth) in
    let next : get_or l.rects (level + 1) no_rect ≡ level_rect s size sx sy (level + 1) =
    l.invariant.same (level + 1) (omega (arith, c.loop-k-test.true)) (omega (arith, c.loop-k.auto.k, c.loop-k-test.true)) in
    let here : c.halved.result ≡ level_rect s size sx sy level =
    c.halved.ensures ∙ ap halve next ∙ sym (rect_halves s size sx sy level (omega (arith, c.loop-k-test.true))
    (omega (arith, c.loop-k.auto.k, c.loop-k-test.true, c.depth-depth.ensures.value))) in
    record {
      count = length-set l.rects level c.halved.result ∙ l.invariant.count;
      same = λ j low high. elim (cases_eq j level) [
        | inl at ↦
            let P : ℕ → Type 0 = λ i. get_or (set l.rects level c.halved.result) i no_rect ≡ level_rect s size sx sy i in
            subst P (sym at) (get_or-set_same l.rects level c.halved.result no_rect (omega (arith, few, l.invariant.count)) ∙ here)
        | inr ne ↦ get_or-set_other l.rects level j c.halved.result no_rect ne ∙ l.invariant.same j (omega (arith, low, ne)) high
      ];
    }

-- the rectangle of level 1, or of level 0 where there is no other
lowest : (s : Slicing) (size : Size) (sx sy depth n : ℕ) → depth ≡ s.depth → n ≡ min depth 1 → level_rect s size sx sy n ≡ level_rect s size sx sy 0
lowest s size sx sy depth n is n_is = elim (cases_eq depth 0) [
  | inl none ↦ ap (λ (k : ℕ). level_rect s size sx sy k) (let e : n ≡ 0 = omega (arith, n_is, none) in e)
  | inr some ↦ ap (λ (k : ℕ). level_rect s size sx sy k) (let e : n ≡ 1 = omega (arith, n_is, some) in e) ∙ rect_lowest s size sx sy (omega (arith, is, some))
]

pub returns : goal.returns
returns c =
    let l = c.loop-k in
    let s = c.args.layout.now in
    let size = c.args.size in
    let sx = c.args.place.sx in
    let sy = c.args.place.sy in
    let depth = c.depth-depth.result in
    let shallow = c.depth-depth.ensures.allowed.depth in
    let n : ℕ = c.min.result in
    let first : get_or l.rects n no_rect ≡ level_rect s size sx sy n =
    l.invariant.same n (omega (arith, c.min.ensures, c.loop-k.auto.k, c.loop-k-test.false)) (omega (arith, c.min.ensures)) in
    let all : (level : ℕ) → level ≤ s.depth → get_or (set l.rects 0 (get_or l.rects n no_rect)) level no_rect ≡ level_rect s size sx sy level =
    λ level le. elim (cases_eq level 0) [
      | inl at ↦
          let P : ℕ → Type 0 = λ i. get_or (set l.rects 0 (get_or l.rects n no_rect)) i no_rect ≡ level_rect s size sx sy i in
          subst P (sym at) (get_or-set_same l.rects 0 (get_or l.rects n no_rect) no_rect (omega (arith, l.invariant.count)) ∙ first
          ∙ lowest s size sx sy depth n c.depth-depth.ensures.value c.min.ensures)
      | inr ne ↦
          get_or-set_other l.rects 0 level (get_or l.rects n no_rect) no_rect ne
          ∙ l.invariant.same level (omega (arith, ne, le, c.loop-k.auto.k, c.loop-k-test.false, c.depth-depth.ensures.value))
          (omega (arith, le, c.depth-depth.ensures.value))
    ] in
    let P : Rect → Type 0 = λ r. IsLowRect r in
    record {
      shallow = shallow;
      same = all;
      all_low = λ level le. subst P (sym (all level le)) (rect_low s size sx sy level shallow c.requires.size c.requires.across c.requires.down);
    }
