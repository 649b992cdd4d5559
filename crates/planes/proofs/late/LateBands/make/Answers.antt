use Rattle.std.proofs.Common.{◌≡◌, ◌∙◌, ap, length, get_or, ℕ, ◌<◌, below_more, arith}
use Rattle.std.proofs.Math.ListN.{set}
use Rattle.std.proofs.lemmas.List.{get_or_default, get_or-set_same, get_or-set_other, length-set}
use Rattle.std.proofs.lemmas.Grind.{common_steps}
use Rattle.planes.specs.Raster.{height}
use Rattle.planes.specs.Subbands.{BandsOf, no_band}
use Rattle.planes.specs.contracts.band_set.Bands as made
use Rattle.planes.proofs.BandLemmas.{same_stack, no_rows}
use Rattle.planes.proofs.late.LateBands.make.Goals as goal

pub make-requires : goal.make-requires
make-requires g c =
    let k : ℕ = c.loop-k.k in
    let late_count = ap (λ (b : BandsOf g.row.T.Denot). length b.bands) c.self.view_is in
    let late_depth = ap (λ (b : BandsOf g.row.T.Denot). b.depth) c.self.view_is in
    let count = ap (λ (b : BandsOf g.row.T.Denot). length b.bands) c.bands.view_is in
    let depth = ap (λ (b : BandsOf g.row.T.Denot). b.depth) c.bands.view_is in
    let inside : k < length c.loop-k.bands-inside.planes.items = omega (arith, c.loop-k-test.true, c.loop-k.auto.k-end, c.len-k-end.ensures, c.loop-k.invariant.count, count, late_count, c.bands.invariant.0, c.self.invariant.0, c.requires.same_depth, depth, late_depth) in
    let here : c.index_mut-in-loop-k.result.now ≡ get_or c.args.bands.now.bands k no_band =
    c.index_mut-in-loop-k.ensures.value ∙ get_or_default c.loop-k.bands-inside.planes.items k c.index_mut-in-loop-k.result.now no_band inside ∙ c.loop-k.invariant.rest k (omega arith) in
    ap height here ∙ no_rows g.T.Number.none c.args.bands.now c.args.self.now.depth c.requires (omega (arith, count, c.bands.invariant.0, depth)) k (omega (arith, inside, c.loop-k.invariant.count))

pub returns-clause-made : goal.returns-clause-made
returns-clause-made g c =
    let l = c.loop-k in
    let late_count = ap (λ (b : BandsOf g.row.T.Denot). length b.bands) c.self.view_is in
    let late_depth = ap (λ (b : BandsOf g.row.T.Denot). b.depth) c.self.view_is in
    let count = ap (λ (b : BandsOf g.row.T.Denot). length b.bands) c.bands.view_is in
    let depth = ap (λ (b : BandsOf g.row.T.Denot). b.depth) c.bands.view_is in
    let same_count : length l.bands-inside.planes.items ≡ length c.args.self.now.bands =
    omega (arith, l.invariant.count, late_count, count, c.bands.invariant.0, c.self.invariant.0, c.requires.same_depth, depth, late_depth) in
    same_stack (made.the_view g.row.T l.bands-inside) c.args.self.now (l.invariant.depth ∙ c.requires.same_depth) same_count
    (λ k lt. l.invariant.done k (omega (arith, lt, same_count, late_count, c.loop-k-test.false, l.auto.k-end, c.len-k-end.ensures)))

pub loop-k-init : goal.loop-k-init
loop-k-init c = grind (arith, common_steps)

pub invariant_of-self : goal.invariant_of-self
invariant_of-self c = grind (arith, common_steps)

pub invariant_of-bands : goal.invariant_of-bands
invariant_of-bands c = grind (arith, common_steps)

pub returns-clause-left : goal.returns-clause-left
returns-clause-left c = grind (arith, common_steps)

pub index_mut-requires : goal.index_mut-requires
index_mut-requires g c = grind (arith, common_steps)

pub index_mut-requires-in-loop-k : goal.index_mut-requires-in-loop-k
index_mut-requires-in-loop-k g c = grind (arith, common_steps)

pub loop-k-preserved : goal.loop-k-preserved
loop-k-preserved g c =
    let l = c.loop-k in
    let k : ℕ = l.k in
    let late = l.self-inside.planes.items in
    let items = l.bands-inside.planes.items in
    let late_count = ap (λ (b : BandsOf g.row.T.Denot). length b.bands) c.self.view_is in
    let late_depth = ap (λ (b : BandsOf g.row.T.Denot). b.depth) c.self.view_is in
    let count = ap (λ (b : BandsOf g.row.T.Denot). length b.bands) c.bands.view_is in
    let depth = ap (λ (b : BandsOf g.row.T.Denot). b.depth) c.bands.view_is in
    let late_inside : k < length late = omega (arith, c.loop-k-test.true, l.auto.k-end, c.len-k-end.ensures, l.invariant.late_count, late_count) in
    let inside : k < length items = omega (arith, c.loop-k-test.true, l.auto.k-end, c.len-k-end.ensures, l.invariant.count, count, late_count, c.bands.invariant.0, c.self.invariant.0, c.requires.same_depth, depth, late_depth) in
    let made : c.make.new.plane ≡ get_or c.args.self.now.bands k no_band =
    c.make.ensures.made ∙ c.index_mut.ensures.value ∙ get_or_default late k c.index_mut.result.now no_band late_inside ∙ l.invariant.late_rest k (omega arith) in
    record {
      depth = l.invariant.depth;
      count = length-set items k c.make.new.plane ∙ l.invariant.count;
      late_depth = l.invariant.late_depth;
      late_count = length-set late k c.make.new.self ∙ l.invariant.late_count;
      left = below_more (λ j. height (get_or (set late k c.make.new.self) j no_band) ≡ 0) k
          (λ j lt. ap height (get_or-set_other late k j c.make.new.self no_band (omega (arith, lt))) ∙ l.invariant.left j lt)
          (ap height (get_or-set_same late k c.make.new.self no_band late_inside) ∙ c.make.ensures.left);
      done = below_more (λ j. get_or (set items k c.make.new.plane) j no_band ≡ get_or c.args.self.now.bands j no_band) k
          (λ j lt. get_or-set_other items k j c.make.new.plane no_band (omega (arith, lt)) ∙ l.invariant.done j lt)
          (get_or-set_same items k c.make.new.plane no_band inside ∙ made);
      rest = λ j le. get_or-set_other items k j c.make.new.plane no_band (omega (arith, le)) ∙ l.invariant.rest j (omega (arith, le));
      late_rest = λ j le. get_or-set_other late k j c.make.new.self no_band (omega (arith, le)) ∙ l.invariant.late_rest j (omega (arith, le));
    }
