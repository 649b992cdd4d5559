use Rattle.std.proofs.Common.{◌∙◌, ◌^◌, ℤ, pos, sym, ap, subst}
use Rattle.planes.specs.Bounded.{AreBandsWithin}
use Rattle.planes.specs.Raster.{Raster, height}
use Rattle.planes.specs.Subbands.{with_band}
use Rattle.slice_store.specs.ShortBands.{short_stack}
use Rattle.slice_store.specs.Gathered.{ShowTheSame}
use Rattle.slice_store.proofs.Lowest.{shorts_agree, lowest_width, lowest_height, shows_all, all_narrow}
use Rattle.slice_store.proofs.Strips.{no_strips_yet, all_same, all_within}
use Rattle.slice_store.proofs.short_bands.ShortBands.widen.Goals as goal

pub gather-requires-clause-depth : goal.gather-requires-clause-depth
gather-requires-clause-depth c = sym c.requires.sizes.same_depth

pub gather-requires-clause-sizes : goal.gather-requires-clause-sizes
gather-requires-clause-sizes c =
    no_strips_yet c.args.self.now.slices c.args.bands.now (shorts_agree c.args.self.now c.shows.ensures.sizes c.requires.sound c.args.bands.now c.requires.sizes)

pub copy_plane-requires-clause-same_width : goal.copy_plane-requires-clause-same_width
copy_plane-requires-clause-same_width c =
    lowest_width c.args.self.now c.shows.ensures.sizes c.requires.sound c.args.bands.now c.requires.sizes c.gather.new.bands (all_same c.args.self.now.slices c.shows.ensures.sound.cut c.gather.new.bands c.gather.ensures.depth c.gather.ensures.strips) c.band_mut.ensures.there
    ∙ sym (ap (λ (p : Raster ℤ). p.w) c.band_mut.ensures.value)

pub copy_plane-requires-clause-same_height : goal.copy_plane-requires-clause-same_height
copy_plane-requires-clause-same_height c =
    lowest_height c.args.self.now c.shows.ensures.sizes c.requires.sound c.args.bands.now c.requires.sizes c.gather.new.bands (all_same c.args.self.now.slices c.shows.ensures.sound.cut c.gather.new.bands c.gather.ensures.depth c.gather.ensures.strips) c.band_mut.ensures.there
    ∙ sym (ap (λ (p : Raster ℤ). height p) c.band_mut.ensures.value)

pub returns-clause-same : goal.returns-clause-same
returns-clause-same c =
    subst (λ (p : Raster ℤ). ShowTheSame (short_stack c.args.self.now) (with_band c.gather.new.bands 0 0 p)) (sym c.copy_plane.ensures)
    (shows_all c.args.self.now c.shows.ensures.sizes c.requires.sound c.args.bands.now c.requires.sizes c.gather.new.bands (all_same c.args.self.now.slices c.shows.ensures.sound.cut c.gather.new.bands c.gather.ensures.depth c.gather.ensures.strips) c.band_mut.ensures.there)

pub returns-clause-within : goal.returns-clause-within
returns-clause-within c =
    let s = c.args.self.now.slices in
    subst (λ (p : Raster ℤ). AreBandsWithin (pos (2 ^ 18)) (with_band c.gather.new.bands 0 0 p)) (sym c.copy_plane.ensures)
    (all_narrow c.args.self.now c.shows.ensures.sizes c.requires.sound c.args.bands.now c.requires.sizes c.gather.new.bands (all_same s c.shows.ensures.sound.cut c.gather.new.bands c.gather.ensures.depth c.gather.ensures.strips) c.band_mut.ensures.there
    (all_within s c.shows.ensures.sound.cut c.gather.new.bands c.gather.ensures.depth c.gather.ensures.strips))
