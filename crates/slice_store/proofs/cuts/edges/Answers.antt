use Rattle.std.proofs.Common.{◌+◌, ◌*◌, ◌/◌, ◌%◌, ◌<◌, ◌≤◌, ℕ, get_or, arith, mod-lt}
use Rattle.std.proofs.lemmas.Nat.{mul-le}
use Rattle.slice_geometry.specs.Geometry.{slice_start}
use Rattle.slice_store.proofs.Tables.{column_inside, all_filled}
use Rattle.slice_store.proofs.cuts.edges.Goals as goal

pub overflow_mul-lengths : goal.overflow_mul-lengths
overflow_mul-lengths c =
    let step : ℕ = c.args.count + 1 in
    let k : ℕ = c.loop-k.k in
    let length = c.requires.short (k / step) (column_inside k c.args.levels step c.loop-k-test.true) in
    let part : k % step < step = mod-lt k (omega arith) in
    let most : get_or c.args.lengths (k / step) 0 * (k % step) ≤ 8192 * 8192 = mul-le (get_or c.args.lengths (k / step) 0) (k % step) 8192 8192 length (omega (arith, part, c.requires.few)) in
    omega (arith, most)

pub returns : goal.returns
returns c =
    all_filled c.loop-k.edges.items (λ level i. slice_start (get_or c.args.lengths level 0) c.args.count i) c.args.levels (c.args.count + 1) c.loop-k.k c.loop-k.invariant.size
    (omega (arith, c.loop-k-test.false, c.loop-k.auto.k-end)) c.loop-k.invariant.filled
