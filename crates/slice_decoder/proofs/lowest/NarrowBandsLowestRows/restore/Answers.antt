use Rattle.std.proofs.Common.{◌^◌, ℤ, pos, refl, sym, subst, inl}
use Rattle.planes.specs.Raster.{Raster}
use Rattle.planes.specs.Bounded.{IsPlaneWithin}
use Rattle.planes.specs.Subbands.{with_band}
use Rattle.slice_decoder.proofs.NarrowBands.{either-outside, lowest-is, lowest-keeps, lowest-narrow}
use Rattle.slice_decoder.proofs.lowest.NarrowBandsLowestRows.restore.Goals as goal

pub restore_narrow-requires-clause-narrow : goal.restore_narrow-requires-clause-narrow
restore_narrow-requires-clause-narrow c = subst (λ (p : Raster ℤ). IsPlaneWithin (pos (2 ^ 18)) p) (sym c.band_mut.ensures.value) (c.requires.sound 0 0 (inl (refl, refl)))

pub returns-clause-keeps : goal.returns-clause-keeps
returns-clause-keeps c =
    let after = c.restore_narrow.new.plane in
    lowest-keeps c.args.rect c.args.self.now c.band_mut.result.now after c.band_mut.ensures.value c.band_mut.ensures.there
    (either-outside c.args.rect c.band_mut.result.now after c.restore_narrow.result c.restore_narrow.ensures.restored c.restore_narrow.ensures.stopped)

pub returns-clause-sound : goal.returns-clause-sound
returns-clause-sound c =
    let b = c.args.self.now in
    let after = c.restore_narrow.new.plane in
    let keeps =
    lowest-keeps c.args.rect b c.band_mut.result.now after c.band_mut.ensures.value c.band_mut.ensures.there
    (either-outside c.args.rect c.band_mut.result.now after c.restore_narrow.result c.restore_narrow.ensures.restored c.restore_narrow.ensures.stopped)
    in
    lowest-narrow c.args.rect b (with_band b 0 0 after) keeps
    (subst (λ (p : Raster ℤ). IsPlaneWithin (pos (2 ^ 18)) p) (sym (lowest-is b after c.band_mut.ensures.there)) c.restore_narrow.ensures.narrow) c.requires.sound
