use Rattle.std.proofs.Common.{◌≡◌, ◌≤◌, ◌<◌, ◌∙◌, ℕ, ◌+◌, pos, length, sym, ap, arith, subst}
use Rattle.planes.specs.Raster.{height}
use Rattle.planes.specs.Subbands.{band_of}
use Rattle.slice_store.specs.Places.{band, IsPlace}
use Rattle.slice_store.specs.Sides.{top}
use Rattle.slice_store.specs.ShortBands.{shorts_of}
use Rattle.slice_store.specs.Gathered.{HaveRows}
use Rattle.slice_store.proofs.Sizes.{start_most, rows_rise}
use Rattle.slice_store.proofs.Stacked.{width_shown, height_shown}
use Rattle.slice_store.proofs.Strips.{rows_more}
use Rattle.slice_store.proofs.gathered.SliceStore+i16.gather_rows.Goals as goal

pub copy_row-requires-clause-inside : goal.copy_row-requires-clause-inside
copy_row-requires-clause-inside g c =
    let s = c.args.self.now in
    let cut = c.shows.ensures.sound.cut in
    let most : top s.slicing s.size c.args.level (c.args.sy + 1) ≤ (band s c.args.level).h = start_most (band s c.args.level).h s.slicing.slices_y (c.args.sy + 1) cut.slices.some_down (omega (arith, c.requires.strip)) in
    omega (arith, c.loop-y-test.true, c.loop-y.auto.y-end, c.top-y-end.ensures, most)

pub row_mut-requires : goal.row_mut-requires
row_mut-requires g c =
    let s = c.args.self.now in
    let cut = c.shows.ensures.sound.cut in
    let most : top s.slicing s.size c.args.level (c.args.sy + 1) ≤ (band s c.args.level).h = start_most (band s c.args.level).h s.slicing.slices_y (c.args.sy + 1) cut.slices.some_down (omega (arith, c.requires.strip)) in
    let tall : height c.loop-y.plane ≡ (band s c.args.level).h = c.loop-y.invariant.same_height ∙ height_shown (λ z. z) (pos 0) s c.args.level c.args.orient c.requires.exists in
    omega (arith, c.loop-y-test.true, c.loop-y.auto.y-end, c.top-y-end.ensures, most, tall)

pub loop-y-preserved : goal.loop-y-preserved
loop-y-preserved g c =
    let s = c.args.self.now in
    let q = c.loop-y.plane in
    let cut = c.shows.ensures.sound.cut in
    let most : top s.slicing s.size c.args.level (c.args.sy + 1) ≤ (band s c.args.level).h = start_most (band s c.args.level).h s.slicing.slices_y (c.args.sy + 1) cut.slices.some_down (omega (arith, c.requires.strip)) in
    let below : c.loop-y.y < (band s c.args.level).h = omega (arith, c.loop-y-test.true, c.loop-y.auto.y-end, c.top-y-end.ensures, most) in
    let tall : height q ≡ (band s c.args.level).h = c.loop-y.invariant.same_height ∙ height_shown (λ z. z) (pos 0) s c.args.level c.args.orient c.requires.exists in
    let wide : q.w ≡ (band s c.args.level).w = c.loop-y.invariant.same_width ∙ width_shown (λ z. z) (pos 0) s c.args.level c.args.orient c.requires.exists in
    rows_more g.T.Number.value g.T.Number.none (band_of (shorts_of s) c.args.level c.args.orient) q c.loop-y.y c.take_row.new.to c.loop-y.invariant (omega (arith, below, tall))
    (c.take_row.auto.to ∙ c.row_mut.ensures.len) (sym (ap length c.row_mut.ensures.value) ∙ c.row_mut.ensures.len)
    (λ x lx.
    let column : x < (band s c.args.level).w = omega (arith, lx, wide) in
    let place : IsPlace s c.args.level c.args.orient c.loop-y.y x = record { exists = c.requires.exists; row = below; column = column } in
    c.take_row.ensures.value x (omega (arith, lx, c.row_mut.ensures.len)) ∙ c.copy_row.ensures x column ∙ sym (c.shows.ensures.places c.args.level c.args.orient c.loop-y.y x place))
    (λ x lx. c.take_row.ensures.within x (omega (arith, lx, c.row_mut.ensures.len)))

pub returns : goal.returns
returns g c =
    let s = c.args.self.now in
    let rise : top s.slicing s.size c.args.level c.args.sy ≤ top s.slicing s.size c.args.level (c.args.sy + 1) = rows_rise s.slicing s.size c.shows.ensures.sound.cut c.args.level c.args.sy in
    let e : c.loop-y.y ≡ top s.slicing s.size c.args.level (c.args.sy + 1) = omega (arith, c.loop-y-test.false, c.loop-y.auto.y-end, c.loop-y.auto.y, c.top-y.ensures, c.top-y-end.ensures, rise) in
    subst (λ (n : ℕ). HaveRows g.T.Number.value g.T.Number.none (band_of (shorts_of s) c.args.level c.args.orient) c.loop-y.plane n) e c.loop-y.invariant
