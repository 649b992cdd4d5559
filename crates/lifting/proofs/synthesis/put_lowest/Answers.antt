use Rattle.std.proofs.Common.{◌≡◌, ◌∙◌, ap, ℕ, ◌+◌, ◌-◌, ◌*◌, ◌^◌, arith}
use Rattle.planes.specs.Valued.{grid_of}
use Rattle.planes.specs.Raster.{Raster, height}
use Rattle.lifting.specs.Bands.{lowest}
use Rattle.lifting.specs.Transform.{synthesis}
use Rattle.lifting.proofs.Levels.{sizes_stay, lowest_columns, lowest_rows}
use Rattle.lifting.proofs.synthesis.put_lowest.Goals as goal

pub copy_corner-requires : goal.copy_corner-requires
copy_corner-requires G c =
    let q = c.requires.room in
    let wide = lowest_columns c.args.bands.now c.args.bands.now c.args.size.w c.args.size.h q.whole_columns q.whole_rows q.bands (sizes_stay c.args.bands.now) c.band-lowest.result.now c.band-lowest.ensures in
    let high = lowest_rows c.args.bands.now c.args.bands.now c.args.size.w c.args.size.h q.whole_columns q.whole_rows q.bands (sizes_stay c.args.bands.now) c.band-lowest.result.now c.band-lowest.ensures in
    record {
      fits = (omega (arith, c.w-across.ensures, wide, q.columns), omega (arith, c.w-across.ensures));
      high = (omega (arith, c.h.ensures, c.h-down.ensures, high, q.rows), omega (arith, c.h-down.ensures));
    }

pub overflow_sub-top : goal.overflow_sub-top
overflow_sub-top G c =
    let q = c.requires.room in
    let high = lowest_rows c.args.bands.now c.args.bands.now c.args.size.w c.args.size.h q.whole_columns q.whole_rows q.bands (sizes_stay c.args.bands.now) c.band-lowest.result.now c.band-lowest.ensures in
    omega (arith, c.h.ensures, c.h-down.ensures, high, q.rows)

pub returns-clause-levels : goal.returns-clause-levels
unfolding synthesis
returns-clause-levels G c k y x ly lx =
    let q = c.requires.room in
    let b = c.args.bands.now in
    let w = c.args.size.w in
    let h = c.args.size.h in
    let new = c.copy_corner.new.dst in
    let rows = lowest_rows b b w h q.whole_columns q.whole_rows q.bands (sizes_stay b) c.band-lowest.result.now c.band-lowest.ensures in
    let place : height new - lowest b.depth h * 2 ^ 0 + y ≡ c.h.result - c.h-down.result + y = omega (arith, c.copy_corner.ensures.same_size.1, c.h.ensures, c.h-down.ensures, rows) in
    ap (λ (n : ℕ). grid_of G.T.Number.value G.T.Number.none new n x) place
    ∙ c.copy_corner.ensures.copied y x (omega (arith, ly, c.h-down.ensures, rows))
    (omega (arith, lx, c.w-across.ensures, lowest_columns b b w h q.whole_columns q.whole_rows q.bands (sizes_stay b) c.band-lowest.result.now c.band-lowest.ensures))
    ∙ ap (λ (r : Raster G.row.T.Denot). grid_of G.T.Number.value G.T.Number.none r y x) c.band-lowest.ensures
