use Rattle.std.proofs.Common.{◌*◌, ◌^◌}
use Rattle.planes.proofs.Floors.{wider}
use Rattle.lifting.specs.Places.{row_grid}
use Rattle.lifting.proofs.LevelSteps.{lifted_small, between_small}
use Rattle.lifting.proofs.level_down.finish_two.Goals as goal

pub lift_row_between-requires-2-clause-a_small : goal.lift_row_between-requires-2-clause-a_small
lift_row_between-requires-2-clause-a_small G c x lx =
    let q = c.requires in
    wider (2 ^ 29) G.T.Number.reach _ G.met.T.Analysed.back_law
    (between_small c.args.wavelet c.args.y c.args.below (2 * c.args.w) (row_grid G.T.Number.value G.T.Number.none (2 * c.args.w) c.args.ring.now) (row_grid G.T.Number.value G.T.Number.none (2 * c.args.w) c.lift_row_between.new.rows) q.even_small q.odd_small q.above_small q.below_small
    c.lift_row_between.ensures.lifted c.lift_row_between.ensures.others c.place_before.result c.place_before.ensures x lx)

pub lift_row_between-requires-2-clause-b_small : goal.lift_row_between-requires-2-clause-b_small
lift_row_between-requires-2-clause-b_small G c x lx =
    let q = c.requires in
    wider (2 ^ 29) G.T.Number.reach _ G.met.T.Analysed.back_law
    (lifted_small c.args.wavelet c.args.y c.args.below (2 * c.args.w) (row_grid G.T.Number.value G.T.Number.none (2 * c.args.w) c.args.ring.now) (row_grid G.T.Number.value G.T.Number.none (2 * c.args.w) c.lift_row_between.new.rows) q.even_small q.odd_small q.above_small q.below_small
    c.lift_row_between.ensures.lifted c.lift_row_between.ensures.others x lx)
