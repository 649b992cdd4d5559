use Rattle.std.proofs.Common.{ℕ, ◌+◌, ◌*◌, ◌≤◌, List, subst, ap, arith}
use Rattle.std.specs.Prelude.{slice_index}
use Rattle.slice_geometry.specs.SliceOrder.{level_of, orient_of}
use Rattle.slice_geometry.proofs.NumberedBands.{band-exists, index-numbered}
use Rattle.slice_encoder.proofs.steep.steep_ok.Goals as goal

pub returns-then-entry-limit : goal.returns-then-entry-limit
returns-then-entry-limit c =
    let a = c.args in
    let k = c.loop-entry.entry-index in (
      λ e. absurd cc,
      λ ok. absurd (
          let there = ok (level_of k) (orient_of k) (band-exists a.depth k (omega arith)) in
          let bound : slice_index a.matrix.now.entries k + 4 * (a.signal_depth + 2 + 3 * a.depth) ≤ 127 = subst (λ (i : ℕ). slice_index a.matrix.now.entries i + 4 * (a.signal_depth + 2 + 3 * a.depth) ≤ 127) (index-numbered k) there in
          omega (arith, bound, ap (λ (es : List ℕ). slice_index es k) c.entries-entry-items.ensures.value)),
    )
