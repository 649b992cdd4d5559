use Rattle.std.proofs.Common.{rules, ◌≡◌, ◌∙◌, ap, subst, ℕ, ◌≤◌, arith, ℤ, pos, to_z, of_z, w16, slice_index_or}
use Rattle.std.specs.Prelude.{◌↔◌, unsigned_abs}
use Rattle.planes.specs.Numbers.{Within}
use Rattle.lifting.specs.Places.{place}
use Rattle.lifting.specs.Ranges.{LineWithin}
use Rattle.lifting.proofs.Short.{magnitude_is, one_more}
use Rattle.lifting.proofs.carried.front_greatest.Goals as goal

pub loop-i-preserved : goal.loop-i-preserved
loop-i-preserved c m =
    let i : ℕ = c.loop-i.i in
    let v : ℤ = slice_index_or c.args.row.now i (pos 0) in
    let same : to_z w16 (of_z w16 v) ≡ v = search rules in
    one_more (λ (k : ℕ). Within m (place c.args.row.now k)) i c.loop-i.most c.unsigned_abs.result c.max-most.result m c.max-most.ensures (c.loop-i.invariant m)
    (magnitude_is m c.unsigned_abs.result v (c.unsigned_abs.ensures.value ∙ ap unsigned_abs same))

pub returns : goal.returns
returns c m =
    let all : c.loop-i.i ≡ c.args.w = omega (arith, c.loop-i-test.false, c.loop-i.auto.i-end) in
    subst (λ (i : ℕ). (c.loop-i.most ≤ m) ↔ LineWithin i m (place c.args.row.now)) all (c.loop-i.invariant m)
