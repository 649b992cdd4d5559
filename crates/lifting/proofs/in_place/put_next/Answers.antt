use Rattle.std.proofs.Common.{rules, refl, ◌-◌, ◌*◌}
use Rattle.planes.specs.Valued.{grid_of}
use Rattle.lifting.specs.Places.{row_grid}
use Rattle.lifting.proofs.InPlace.{own_pair, pair_before, pair_held}
use Rattle.lifting.proofs.in_place.put_next.Goals as goal

pub put_pair-requires : goal.put_pair-requires
put_pair-requires g c κs within =
    let l = c.args.up.now in
    let q = c.requires.1.1 in
    let s = q.1.1.1.1.1.1.1.1 in
    let grid = row_grid g.T.Number.value g.T.Number.none (2 * l.w) in
    let ring = grid c.take_row-2.new.ring in
    let plane = grid_of g.T.Number.value g.T.Number.none c.args.plane.now in
    let one = c.take_row.ensures in
    let two = c.take_row-2.ensures in
    let above = c.pair_in-above in
    let pair = c.pair_in-pair in (
      search rules,
      (
        search rules,
        (
          q.0,
          (
            q.1.0,
            (
              q.1.1.0,
              (
                pair_held g.T.Number.value g.T.Number.none l.w c.saturating_sub.result (l.came - 1) g.g ring above.result c.saturating_sub.ensures
                    (pair_before l.w l.came g.g plane (grid c.args.pairs.now) (grid c.take_row.new.ring) ring one.row one.others two.row two.others s.0 s.1) above.ensures.long above.ensures.ll above.ensures.hl above.ensures.lh above.ensures.hh,
                (
                  pair_held g.T.Number.value g.T.Number.none l.w l.came l.came g.g ring pair.result refl (own_pair l.w l.came g.g plane (grid c.args.pairs.now) (grid c.take_row.new.ring) ring one.row one.others two.row two.others s.0)
                      pair.ensures.long pair.ensures.ll pair.ensures.hl pair.ensures.lh pair.ensures.hh,
                  (q.1.1.1.0, q.1.1.1.1.0),
                ),
              ),
            ),
          ),
        ),
      ),
    )
