use Rattle.std.proofs.Common.{◌≡◌, ap, ◌∙◌, ℕ, ◌+◌, ◌*◌, ◌/◌, ◌%◌, arith}
use Rattle.slice_geometry.specs.SliceOrder.{places_before}
use Rattle.slice_store.proofs.Tables.{all_filled}
use Rattle.slice_store.proofs.cuts.Cuts.unders.Goals as goal

pub returns : goal.returns
returns c =
    let s = c.args.self.now.slicing in
    let l = c.loop-k in
    let end : c.down.result * (c.depth.result + 1) * c.across-across.result ≡ s.slices_y * (s.depth + 1) * s.slices_x =
    ap (λ (n : ℕ). n * (c.depth.result + 1) * c.across-across.result) c.down.ensures
    ∙ ap (λ (n : ℕ). s.slices_y * (n + 1) * c.across-across.result) c.depth.ensures
    ∙ ap (λ (n : ℕ). s.slices_y * (s.depth + 1) * n) c.across-across.ensures in
    all_filled l.unders.items (λ row sx. places_before s c.args.self.now.size sx (row / (s.depth + 1)) (row % (s.depth + 1)) 1) (s.slices_y * (s.depth + 1)) s.slices_x l.k l.invariant.size
    (omega (arith, end, l.auto.k-end, c.loop-k-test.false)) l.invariant.filled
