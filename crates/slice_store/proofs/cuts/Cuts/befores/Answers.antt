use Rattle.std.proofs.Common.{◌≡◌, ap, ◌∙◌, ℕ, ◌+◌, ◌*◌, arith}
use Rattle.slice_store.specs.Places.{numbers_before}
use Rattle.slice_store.proofs.Tables.{all_filled}
use Rattle.slice_store.proofs.cuts.Cuts.befores.Goals as goal

pub returns : goal.returns
returns c =
    let s = c.args.self.now.slicing in
    let l = c.loop-k in
    let end : c.down-2.result * (c.across-step.result + 1) ≡ s.slices_y * (s.slices_x + 1) =
    ap (λ (n : ℕ). n * (c.across-step.result + 1)) c.down-2.ensures ∙ ap (λ (n : ℕ). s.slices_y * (n + 1)) c.across-step.ensures in
    all_filled l.befores.items (λ sy sx. numbers_before s c.args.self.now.size sx sy) s.slices_y (s.slices_x + 1) l.k l.invariant.size
    (omega (arith, end, l.auto.k-end, c.loop-k-test.false)) l.invariant.filled
