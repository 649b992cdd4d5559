use Rattle.std.proofs.Common.{sym, subst, arith}
use Rattle.std.proofs.lemmas.Grind.{common_steps}
use Rattle.slice_store.specs.declared.short_bands.ShortTrio.{ShortTrio}
use Rattle.slice_decoder.specs.Decoded.{AreReady}
use Rattle.slice_decoder.specs.Short.{shown_trio}
use Rattle.picture_codec.specs.ShortSlices.{AreBeside}
use Rattle.picture_codec.proofs.Gathered.{beside-after}
use Rattle.picture_codec.proofs.short_slices.ShortSlices.decode.Goals as goal

pub returns-clause-beside : goal.returns-clause-beside
returns-clause-beside c = λ rows agree.
    let s = c.args.params.now.layout in
    let shape = c.args.shape.now in
    let old = c.self.inside.bands in
    let new = c.decode_short.new.bands in
    let ready = subst (λ (b : ShortTrio). AreReady s shape c.args.sx c.args.sy (shown_trio b)) (sym c.self.view_is) c.requires.ready in
    beside-after s shape c.args.sx c.args.sy old new rows c.decode_short.ensures.others ready
    (subst (λ (b : ShortTrio). AreBeside b rows) (sym c.self.view_is) agree)

pub decode_short-requires-clause-cut : goal.decode_short-requires-clause-cut
decode_short-requires-clause-cut c = grind (arith, common_steps)
