use Rattle.std.proofs.Common.{◌∙◌, ℤ, sym, ap, subst}
use Rattle.std.proofs.Common.{arith}
use Rattle.std.proofs.lemmas.Grind.{common_steps}
use Rattle.planes.specs.Raster.{Raster, height}
use Rattle.planes.specs.Subbands.{with_band}
use Rattle.slice_store.specs.Gathered.{ShowTheSame}
use Rattle.slice_store.specs.ShortBands.{short_stack}
use Rattle.slice_store.proofs.Lowest.{shorts_agree, lowest_width, lowest_height, shows_all}
use Rattle.slice_store.proofs.Strips.{no_strips_yet, all_same}
use Rattle.slice_store.proofs.short_bands.ShortBands.gather.Goals as goal

pub gather-requires-clause-depth : goal.gather-requires-clause-depth
gather-requires-clause-depth c = sym c.requires.sizes.same_depth

pub gather-requires-clause-sizes : goal.gather-requires-clause-sizes
gather-requires-clause-sizes c =
    no_strips_yet c.args.self.now.slices c.args.bands.now (shorts_agree c.args.self.now c.shows.ensures.sizes c.requires.sound c.args.bands.now c.requires.sizes)

pub narrow_plane-requires-clause-same_width : goal.narrow_plane-requires-clause-same_width
narrow_plane-requires-clause-same_width c =
    lowest_width c.args.self.now c.shows.ensures.sizes c.requires.sound c.args.bands.now c.requires.sizes c.gather.new.bands (all_same c.args.self.now.slices c.shows.ensures.sound.cut c.gather.new.bands c.gather.ensures.depth c.gather.ensures.strips) c.band_mut.ensures.there
    ∙ sym (ap (λ (p : Raster ℤ). p.w) c.band_mut.ensures.value)

pub narrow_plane-requires-clause-same_height : goal.narrow_plane-requires-clause-same_height
narrow_plane-requires-clause-same_height c =
    lowest_height c.args.self.now c.shows.ensures.sizes c.requires.sound c.args.bands.now c.requires.sizes c.gather.new.bands (all_same c.args.self.now.slices c.shows.ensures.sound.cut c.gather.new.bands c.gather.ensures.depth c.gather.ensures.strips) c.band_mut.ensures.there
    ∙ sym (ap (λ (p : Raster ℤ). height p) c.band_mut.ensures.value)

pub returns-clause-same : goal.returns-clause-same
returns-clause-same c = λ _.
    subst (λ (p : Raster ℤ). ShowTheSame (short_stack c.args.self.now) (with_band c.gather.new.bands 0 0 p)) (sym c.narrow_plane.ensures)
    (shows_all c.args.self.now c.shows.ensures.sizes c.requires.sound c.args.bands.now c.requires.sizes c.gather.new.bands (all_same c.args.self.now.slices c.shows.ensures.sound.cut c.gather.new.bands c.gather.ensures.depth c.gather.ensures.strips) c.band_mut.ensures.there)

pub returns-clause-answer : goal.returns-clause-answer
returns-clause-answer c = grind (arith, common_steps)

pub narrow_plane-requires-clause-short : goal.narrow_plane-requires-clause-short
narrow_plane-requires-clause-short c = grind (arith, common_steps)
