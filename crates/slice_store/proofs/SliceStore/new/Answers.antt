use Rattle.std.proofs.Common.{◌≡◌, ap, sym, ◌∙◌, ℕ, ◌*◌, ◌≤◌, length, get_or, arith}
use Rattle.std.proofs.lemmas.List.{get_or_default, length-replicate}
use Rattle.slice_geometry.specs.Geometry.{padded_length}
use Rattle.slice_store.specs.Cut.{Cut}
use Rattle.slice_store.specs.Room.{strip_start}
use Rattle.slice_store.proofs.Whole.{all_strips}
use Rattle.slice_store.proofs.Starts.{starts_rise, row_inside}
use Rattle.slice_store.proofs.SliceStore.new.Goals as goal

pub invariant_of-result : goal.invariant_of-result
invariant_of-result g c =
    let cut = c.rules.ensures in
    let strips : ℕ = c.min-strips.result in
    let starts = c.in_ok-starts.ensures in
    let some : 1 ≤ strips = omega (arith, c.min-strips.ensures, c.requires.some, cut.slices.some_down, c.down.ensures) in
    let end : c.index.result.now ≡ get_or c.in_ok-starts.starts.items strips 0 = c.index.ensures ∙ get_or_default c.in_ok-starts.starts.items strips c.index.result.now 0 (omega (arith, starts.starts.count)) in
    let count : length c.in_ok-numbers.numbers.items ≡ get_or c.in_ok-starts.starts.items strips 0 = ap length c.in_ok-numbers.ensures ∙ length-replicate c.index.result.now g.T.Number.none ∙ end in (
      c.in_ok-befores.ensures,
      c.in_ok-unders.ensures,
      record {
        cut = cut;
        some = some;
        count = starts.starts.count;
        rises = starts_rise c.in_ok-cuts.cuts.slicing c.in_ok-cuts.cuts.size strips c.in_ok-starts.starts.items starts.starts;
        fits = row_inside c.in_ok-cuts.cuts.slicing c.in_ok-cuts.cuts.size strips c.in_ok-starts.starts.items starts.starts some cut.slices.some_across;
        last = sym count;
        short = omega (arith, count, starts.short);
      },
    )

pub returns-clause-exact : goal.returns-clause-exact
returns-clause-exact g c room =
    let s = c.in_ok-cuts.cuts.slicing in
    let size = c.in_ok-cuts.cuts.size in
    let strips : ℕ = c.min-strips.result in
    let starts = c.in_ok-starts.ensures in
    let asked : c.in_ok-cuts.cuts.slicing.slices_y ≡ c.args.layout.slices_y = ap (λ (v : Cut). v.slicing.slices_y) c.in_ok-cuts.ensures in
    let all : strips ≡ s.slices_y = omega (arith, c.min-strips.ensures, c.down.ensures, asked, room) in
    ap length c.in_ok-numbers.ensures ∙ length-replicate c.index.result.now g.T.Number.none
    ∙ c.index.ensures ∙ get_or_default c.in_ok-starts.starts.items strips c.index.result.now 0 (omega (arith, starts.starts.count))
    ∙ starts.starts.each strips (omega arith)
    ∙ ap (λ (n : ℕ). strip_start s size n n) all ∙ all_strips s size c.rules.ensures
    ∙ ap (λ (v : Cut). padded_length v.slicing.depth v.size.w * padded_length v.slicing.depth v.size.h) c.in_ok-cuts.ensures
