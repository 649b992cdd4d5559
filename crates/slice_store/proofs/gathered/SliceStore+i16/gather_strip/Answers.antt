use Rattle.std.proofs.Common.{◌≡◌, ◌<◌, ◌≤◌, ◌∙◌, ℕ, ◌+◌, ◌*◌, length, ap, sym, subst, arith}
use Rattle.std.proofs.lemmas.List.{length-take-le}
use Rattle.slice_geometry.specs.Geometry.{padded_length}
use Rattle.slice_store.specs.Places.{band}
use Rattle.slice_store.specs.Sides.{left}
use Rattle.slice_store.proofs.Sizes.{part_most, all_left}
use Rattle.slice_store.proofs.Strips.{index_here, rows_here, width_here, one_here, done_more, rest_more, all_strips}
use Rattle.slice_store.proofs.gathered.SliceStore+i16.gather_strip.Goals as goal

pub overflow_mul-k-end : goal.overflow_mul-k-end
overflow_mul-k-end g c = omega (arith, c.depth.ensures, c.numbers.ensures.sound.cut.depth)

pub overflow_add-k-end : goal.overflow_add-k-end
overflow_add-k-end g c = omega (arith, c.depth.ensures, c.numbers.ensures.sound.cut.depth)

pub band_numbered-level-requires : goal.band_numbered-level-requires
band_numbered-level-requires g c = omega (arith, c.loop-k-test.true, c.loop-k.auto.k-end, c.depth.ensures, c.numbers.ensures.sound.cut.depth)

pub slice_bounds-gather_rows-end : goal.slice_bounds-gather_rows-end
slice_bounds-gather_rows-end g c =
    let s = c.args.self.now in
    let level = c.band_numbered-level.result.0 in
    let wide : c.left-w.result ≡ (band s level).w = c.left-w.ensures ∙ ap (λ (n : ℕ). left s.slicing s.size level n) c.across.ensures ∙ all_left s.slicing s.size c.numbers.ensures.sound.cut level in
    let most : (band s level).w ≤ padded_length s.slicing.depth s.size.w = part_most s.slicing.depth level (padded_length s.slicing.depth s.size.w) in
    omega (arith, wide, most, c.requires.room, c.loop-k.auto.row)

pub slice_bounds-gather_rows-end-in-loop-k : goal.slice_bounds-gather_rows-end-in-loop-k
slice_bounds-gather_rows-end-in-loop-k g c =
    let s = c.args.self.now in
    let level = c.band_numbered-level.result.0 in
    let wide : c.left-w.result ≡ (band s level).w = c.left-w.ensures ∙ ap (λ (n : ℕ). left s.slicing s.size level n) c.across.ensures ∙ all_left s.slicing s.size c.numbers.ensures.sound.cut level in
    let most : (band s level).w ≤ padded_length s.slicing.depth s.size.w = part_most s.slicing.depth level (padded_length s.slicing.depth s.size.w) in
    sym (length-take-le c.left-w.result c.loop-k.row (omega (arith, wide, most, c.requires.room, c.loop-k.auto.row)))

pub gather_rows-requires-clause-before : goal.gather_rows-requires-clause-before
gather_rows-requires-clause-before g c =
    let s = c.args.self.now in
    let k : ℕ = c.loop-k.k in
    let lt : k < 3 * s.slicing.depth + 1 = omega (arith, c.loop-k-test.true, c.loop-k.auto.k-end, c.depth.ensures) in
    let at = c.band_numbered-level in
    rows_here g.T.Number.value g.T.Number.none s c.args.bands.now c.loop-k.bands c.args.sy at.result.0 at.result.1 k c.band_mut.result.now at.ensures.level at.ensures.orient lt
    c.requires.before (c.loop-k.invariant.rest k (omega arith)) c.band_mut.ensures.value

pub gather_rows-requires-clause-room : goal.gather_rows-requires-clause-room
gather_rows-requires-clause-room g c =
    let s = c.args.self.now in
    let k : ℕ = c.loop-k.k in
    let lt : k < 3 * s.slicing.depth + 1 = omega (arith, c.loop-k-test.true, c.loop-k.auto.k-end, c.depth.ensures) in
    let at = c.band_numbered-level in
    let wide : c.left-w.result ≡ (band s at.result.0).w = c.left-w.ensures ∙ ap (λ (n : ℕ). left s.slicing s.size at.result.0 n) c.across.ensures ∙ all_left s.slicing s.size c.numbers.ensures.sound.cut at.result.0 in
    let there = width_here g.T.Number.value g.T.Number.none s c.args.bands.now c.loop-k.bands c.args.sy at.result.0 at.result.1 k c.band_mut.result.now at.ensures.level at.ensures.orient lt
    c.requires.before (c.loop-k.invariant.rest k (omega arith)) c.band_mut.ensures.value in
    sym (slice_bounds-gather_rows-end-in-loop-k g c) ∙ wide ∙ sym there

pub loop-k-preserved : goal.loop-k-preserved
loop-k-preserved g c =
    let s = c.args.self.now in
    let k : ℕ = c.loop-k.k in
    let b = c.loop-k.bands in
    let sy : ℕ = c.args.sy in
    let at = c.band_numbered-level in
    let level = at.result.0 in
    let orient = at.result.1 in
    let p = c.gather_rows.new.plane in
    let lt : k < 3 * s.slicing.depth + 1 = omega (arith, c.loop-k-test.true, c.loop-k.auto.k-end, c.depth.ensures) in
    let index = index_here g.T.Number.value g.T.Number.none s c.args.bands.now b sy level orient k c.band_mut.result.now at.ensures.level at.ensures.orient lt
    c.requires.before (c.loop-k.invariant.rest k (omega arith)) c.band_mut.ensures.value in
    let there : k < length b.bands = subst (λ (i : ℕ). i < length b.bands) index c.band_mut.ensures.there in
    record {
      depth = c.loop-k.invariant.depth;
      done = done_more g.T.Number.value g.T.Number.none s (sy + 1) b level orient k p index there c.loop-k.invariant.done
          (one_here g.T.Number.value g.T.Number.none s c.args.bands.now b sy level orient k c.band_mut.result.now at.ensures.level at.ensures.orient lt
          c.requires.before (c.loop-k.invariant.rest k (omega arith)) c.band_mut.ensures.value p (sy + 1) c.gather_rows.ensures);
      rest = rest_more g.T.Number.value g.T.Number.none s (sy + 1) b level orient k p index there c.args.bands.now c.loop-k.invariant.rest;
    }

pub returns-clause-strips : goal.returns-clause-strips
returns-clause-strips g c =
    let s = c.args.self.now in
    all_strips g.T.Number.value g.T.Number.none s c.loop-k.bands (c.args.sy + 1)
    (λ j lt. c.loop-k.invariant.done j (omega (arith, lt, c.loop-k-test.false, c.loop-k.auto.k-end, c.depth.ensures)))
