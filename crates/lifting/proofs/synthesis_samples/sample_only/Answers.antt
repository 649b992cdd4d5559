use Rattle.std.proofs.Common.{◌∙◌, ap, sym, ℕ, arith}
use Rattle.planes.specs.Valued.{grid_of}
use Rattle.planes.specs.Raster.{Raster}
use Rattle.lifting.specs.Bands.{lowest, coefficients_in}
use Rattle.lifting.specs.Clipping.{sample_of}
use Rattle.lifting.specs.Transform.{synthesis}
use Rattle.lifting.proofs.Levels.{whole_at_zero, whole_by_none, sizes_stay, lowest_columns, lowest_rows}
use Rattle.lifting.proofs.synthesis_samples.sample_only.Goals as goal

pub sample_lowest-requires : goal.sample_lowest-requires
sample_lowest-requires G c =
    let b = c.args.bands.now in
    let w = c.args.size.w in
    let h = c.args.size.h in
    let s = c.requires.shown in
    let columns = whole_by_none w b.depth c.requires.none in
    let rows = whole_by_none h b.depth c.requires.none in
    record {
      shown = (s.some_bits, c.requires.bits, s.count, s.few);
      high = omega (arith, s.down, whole_at_zero h b.depth c.requires.none, lowest_rows b b w h columns rows c.requires.sizes (sizes_stay b) c.band.result.now c.band.ensures);
      fits = omega (arith, s.across, whole_at_zero w b.depth c.requires.none, lowest_columns b b w h columns rows c.requires.sizes (sizes_stay b) c.band.result.now c.band.ensures);
    }

pub returns-clause-samples : goal.returns-clause-samples
unfolding synthesis
returns-clause-samples G c k y x ly lx =
    let b = c.args.bands.now in
    let out = sample_of c.args.area.depth in
    c.sample_lowest.ensures.samples y x ly lx
    ∙ ap (λ (p : Raster G.row.T.Denot). out (grid_of G.T.Number.value G.T.Number.none p y x)) c.band.ensures
    ∙ ap (λ (d : ℕ). out (synthesis k (lowest b.depth c.args.size.h) (lowest b.depth c.args.size.w) (coefficients_in G.T.Number.value G.T.Number.none b) d y x)) (sym c.requires.none)
