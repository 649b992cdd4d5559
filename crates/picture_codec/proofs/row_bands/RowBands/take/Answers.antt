use Rattle.std.proofs.Common.{sym, subst}
use Rattle.planes.specs.declared.Trio.{Trio}
use Rattle.slice_decoder.specs.Short.{shown_trio}
use Rattle.picture_codec.specs.DecodedBands.{AllAgree, narrow_of, LateSeen}
use Rattle.picture_codec.proofs.TakenRows.{narrow-beside, same-agrees, beside-kept}
use Rattle.picture_codec.proofs.row_bands.RowBands.take.Goals as goal

pub take-requires-clause-beside : goal.take-requires-clause-beside
take-requires-clause-beside c =
    let short = narrow_of (shown_trio c.args.short.now) in
    narrow-beside short c.self.inside.narrow.bands c.self.inside.wide.bands c.self.inside.is_wide c.self.invariant.sizes
    (subst (λ (b : LateSeen Trio). AllAgree short b.bands) (sym c.self.view_is) c.requires.beside)

pub invariant_of-self : goal.invariant_of-self
invariant_of-self c =
    let short = narrow_of (shown_trio c.args.short.now) in
    let before =
    narrow-beside short c.self.inside.narrow.bands c.self.inside.wide.bands c.self.inside.is_wide c.self.invariant.sizes
    (subst (λ (b : LateSeen Trio). AllAgree short b.bands) (sym c.self.view_is) c.requires.beside) in
    let after = c.take.new.self.bands in
    let same = c.take.ensures.same in
    beside-kept short c.self.inside.narrow c.take.new.self c.self.inside.wide before
    (record { luma = same-agrees short.luma after.luma same.luma; c1 = same-agrees short.c1 after.c1 same.c1; c2 = same-agrees short.c2 after.c2 same.c2 })
    c.self.invariant.sizes
