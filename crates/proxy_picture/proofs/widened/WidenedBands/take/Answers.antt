use Rattle.std.proofs.Common.{◌≡◌, ◌∙◌, refl, ap, ℕ, length, true, arith}
use Rattle.std.specs.Prelude.{take, drop, ◌++◌}
use Rattle.slice_geometry.specs.Geometry.{padded_length}
use Rattle.slice_geometry.proofs.Lengths.{padded_most}
use Rattle.slice_store.specs.ShortBands.{short_stack}
use Rattle.proxy_picture.specs.Making.{AreForWidening}
use Rattle.proxy_picture.proofs.Same.{sized_agree, length_over}
use Rattle.proxy_picture.proofs.widened.WidenedBands.take.Goals as goal

pub widen-requires-clause-sizes : goal.widen-requires-clause-sizes
widen-requires-clause-sizes c =
    let depth : ℕ = c.args.short.now.slices.slicing.depth in
    let w : ℕ = padded_length depth c.args.short.now.slices.size.w in
    let h : ℕ = padded_length depth c.args.short.now.slices.size.h in
    let are : AreForWidening depth w h c.make.new.self × (c.make.new.self.is_made ≡ true) = c.make.ensures depth w h c.requires.sizes in
    sized_agree (short_stack c.args.short.now) c.make.new.self.bands depth w h (record { same_depth = refl; sizes = c.requires.sound.sizes }) (are.0.made are.1)

pub widen-requires-clause-room : goal.widen-requires-clause-room
widen-requires-clause-room c =
    let depth : ℕ = c.args.short.now.slices.slicing.depth in
    let w : ℕ = padded_length depth c.args.short.now.slices.size.w in
    let h : ℕ = padded_length depth c.args.short.now.slices.size.h in
    let are : AreForWidening depth w h c.make.new.self × (c.make.new.self.is_made ≡ true) = c.make.ensures depth w h c.requires.sizes in
    let cut = c.numbers.ensures.sound.cut in
    omega (arith, ap length c.as_mut_slice.ensures.value, are.0.row, padded_most depth c.args.short.now.slices.size.w cut.depth cut.size.width)

pub returns-clause-made : goal.returns-clause-made
returns-clause-made c =
    let depth : ℕ = c.args.short.now.slices.slicing.depth in
    let w : ℕ = padded_length depth c.args.short.now.slices.size.w in
    let h : ℕ = padded_length depth c.args.short.now.slices.size.h in
    let are : AreForWidening depth w h c.make.new.self × (c.make.new.self.is_made ≡ true) = c.make.ensures depth w h c.requires.sizes in
    are.1

pub returns-clause-row : goal.returns-clause-row
returns-clause-row c =
    let depth : ℕ = c.args.short.now.slices.slicing.depth in
    let w : ℕ = padded_length depth c.args.short.now.slices.size.w in
    let h : ℕ = padded_length depth c.args.short.now.slices.size.h in
    let are : AreForWidening depth w h c.make.new.self × (c.make.new.self.is_made ≡ true) = c.make.ensures depth w h c.requires.sizes in
    let row = c.make.new.self.row in
    let new = c.widen.new.row in
    ap (λ (n : ℕ). length (take n (new ++ drop (length new) row.items))) row.ok.0 ∙ length_over row.items new ∙ are.0.row
