use Rattle.std.proofs.Common.{◌≡◌, ap, sym, subst, ◌∙◌, ℕ, ◌+◌, ◌-◌, ◌*◌, ◌/◌, ◌<◌, ◌≤◌, arith}
use Rattle.slice_geometry.specs.Geometry.{band_size}
use Rattle.slice_geometry.proofs.Places.{holding_below, holding_from, holding_to}
use Rattle.slice_store.specs.Sides.{top}
use Rattle.slice_store.proofs.Sizes.{h_most, all_top}
use Rattle.slice_store.proofs.cuts.Cuts.row_with.Goals as goal

pub overflow_add-result : goal.overflow_add-result
overflow_add-result c = omega (arith, h_most c.args.self.now.slicing c.args.self.now.size c.rules.ensures c.args.level, c.requires.inside)

pub returns-clause-value : goal.returns-clause-value
returns-clause-value c =
    let s = c.args.self.now.slicing in
    let size = c.args.self.now.size in
    let level : ℕ = c.args.level in
    let tall : c.top.result ≡ (band_size s.depth level size).h = c.top.ensures ∙ ap (λ (n : ℕ). top s size level n) c.down-2.ensures ∙ all_top s size c.rules.ensures level in
    ap (λ (n : ℕ). ((c.args.y + 1) * n - 1) / c.top.result) c.down.ensures ∙ ap (λ (n : ℕ). ((c.args.y + 1) * s.slices_y - 1) / n) tall

pub returns-clause-down : goal.returns-clause-down
returns-clause-down c =
    let s = c.args.self.now.slicing in
    let h : ℕ = (band_size s.depth c.args.level c.args.self.now.size).h in
    subst (λ (n : ℕ). n < s.slices_y) (sym (returns-clause-value c)) (holding_below h s.slices_y c.args.y c.rules.ensures.slices.some_down c.requires.inside)

pub returns-clause-top : goal.returns-clause-top
returns-clause-top c =
    let s = c.args.self.now.slicing in
    let h : ℕ = (band_size s.depth c.args.level c.args.self.now.size).h in
    subst (λ (n : ℕ). top s c.args.self.now.size c.args.level n ≤ c.args.y) (sym (returns-clause-value c)) (holding_from h s.slices_y c.args.y c.rules.ensures.slices.some_down c.requires.inside)

pub returns-clause-bottom : goal.returns-clause-bottom
returns-clause-bottom c =
    let s = c.args.self.now.slicing in
    let h : ℕ = (band_size s.depth c.args.level c.args.self.now.size).h in
    subst (λ (n : ℕ). c.args.y < top s c.args.self.now.size c.args.level (n + 1)) (sym (returns-clause-value c)) (holding_to h s.slices_y c.args.y c.rules.ensures.slices.some_down c.requires.inside)
