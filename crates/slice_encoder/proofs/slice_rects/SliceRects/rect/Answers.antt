use Rattle.std.proofs.Common.{◌≡◌, ◌∙◌, ℕ, ◌+◌, ◌*◌, ◌<◌, ◌≤◌, length, get_or, sym, ap, subst, arith}
use Rattle.std.proofs.lemmas.List.{get_or_default}
use Rattle.slice_geometry.specs.Slicing.{Slicing}
use Rattle.slice_geometry.specs.SliceOrder.{level_rect}
use Rattle.slice_encoder.specs.SliceRects.{SliceRectsSeen, no_rect}
use Rattle.slice_encoder.proofs.SliceTables.{level_inside, top_at, left_at, put_together}
use Rattle.slice_encoder.proofs.slice_rects.SliceRects.rect.Goals as goal

pub returns : goal.returns
returns c =
    let a = c.args in
    let e = c.self.inside in
    let s : Slicing = e.layout in
    let low : a.level ≤ s.depth = omega (arith, c.requires.level, ap (λ (v : SliceRectsSeen). v.slicing.depth) c.self.view_is) in
    let across : a.sx < s.slices_x = omega (arith, c.requires.across, ap (λ (v : SliceRectsSeen). v.slicing.slices_x) c.self.view_is) in
    let down : a.sy < s.slices_y = omega (arith, c.requires.down, ap (λ (v : SliceRectsSeen). v.slicing.slices_y) c.self.view_is) in
    let top_inside : a.level * s.slices_x + a.sx < length e.top.items = omega (arith, level_inside a.level s.slices_x a.sx s.depth low across, c.self.invariant.0.count) in
    let left_inside : a.level * s.slices_y + a.sy < length e.left.items = omega (arith, level_inside a.level s.slices_y a.sy s.depth low down, c.self.invariant.1.count) in
    let column : c.index-column.result.now ≡ level_rect s e.size a.sx 0 a.level =
    c.index-column.ensures
    ∙ get_or_default e.top.items (a.level * c.slices_x.result + a.sx) _ no_rect (subst (λ (w : ℕ). a.level * w + a.sx < length e.top.items) (sym c.slices_x.ensures.value) top_inside)
    ∙ ap (λ (w : ℕ). get_or e.top.items (a.level * w + a.sx) no_rect) c.slices_x.ensures.value
    ∙ top_at s e.size e.top.items a.level a.sx c.self.invariant.0 low across
    in
    let row : c.index-row.result.now ≡ level_rect s e.size 0 a.sy a.level =
    c.index-row.ensures
    ∙ get_or_default e.left.items (a.level * c.slices_y.result + a.sy) _ no_rect (subst (λ (w : ℕ). a.level * w + a.sy < length e.left.items) (sym c.slices_y.ensures.value) left_inside)
    ∙ ap (λ (w : ℕ). get_or e.left.items (a.level * w + a.sy) no_rect) c.slices_y.ensures.value
    ∙ left_at s e.size e.left.items a.level a.sy c.self.invariant.1 low down
    in
    subst (λ (v : SliceRectsSeen). record { x0 = c.index-column.result.now.x0; x1 = c.index-column.result.now.x1; y0 = c.index-row.result.now.y0; y1 = c.index-row.result.now.y1 } ≡ level_rect v.slicing v.size a.sx a.sy a.level) c.self.view_is
    (put_together s e.size a.level a.sx a.sy c.index-column.result.now c.index-row.result.now column row)
