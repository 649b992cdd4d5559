use Rattle.std.proofs.Common.{◌≡◌, ℕ, subst, arith}
use Rattle.slice_store.specs.Gathered.{HaveStrips}
use Rattle.slice_store.proofs.gathered.SliceStore+i16.gather.Goals as goal

pub returns-clause-strips : goal.returns-clause-strips
returns-clause-strips g c =
    let s = c.args.self.now in
    let all : c.loop-sy.sy ≡ s.slicing.slices_y = omega (arith, c.loop-sy-test.false, c.loop-sy.auto.sy-end, c.down-sy-end.ensures) in
    subst (λ (n : ℕ). HaveStrips g.T.Number.value g.T.Number.none s c.loop-sy.bands n) all c.loop-sy.invariant.strips
