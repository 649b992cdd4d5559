use Rattle.std.proofs.Common.{◌+◌, ◌*◌, arith}
use Rattle.lifting.specs.LevelRows.{HoldsRows}
use Rattle.lifting.specs.Places.{row_grid}
use Rattle.lifting.proofs.LevelRows.{due_now, few_more, row_more, even_small, odd_small, above_small, below_small, pair_more}
use Rattle.lifting.proofs.level_down.take_row.Goals as goal

pub finish_two-requires-clause-even_small : goal.finish_two-requires-clause-even_small
finish_two-requires-clause-even_small g c =
    let a = c.args in
    let q = c.requires.1.1 in
    let few = few_more a.wavelet a.h a.came a.made q.1.1.1.1.1.0 in
    let due = due_now a.wavelet a.h a.came a.made q.1.1.1.1.1.0 q.1.1.1.1.0 (omega (arith, c.rows_for.ensures, c.if-came-rows_for.false)) in
    let grid = row_grid g.T.Number.value g.T.Number.none (2 * a.w) in
    let held : HoldsRows a.wavelet a.h a.w (a.came + 1) a.made g.g (grid c.put_sides.new.ring) =
    row_more a.wavelet a.h a.w a.came a.made g.g (grid a.ring.now) (grid c.put_sides.new.ring) few.0 few.1 c.put_sides.ensures.row c.put_sides.ensures.others q.1.1.1.1.1.1.1.1.1 in
    even_small a.wavelet a.h a.w g.g (a.came + 1) a.made c.row_below.result (grid c.put_sides.new.ring) due.0 due.1 c.row_below.ensures.inner c.row_below.ensures.last held q.1.1.1.1.1.1.1.1.0

pub finish_two-requires-clause-odd_small : goal.finish_two-requires-clause-odd_small
finish_two-requires-clause-odd_small g c =
    let a = c.args in
    let q = c.requires.1.1 in
    let few = few_more a.wavelet a.h a.came a.made q.1.1.1.1.1.0 in
    let due = due_now a.wavelet a.h a.came a.made q.1.1.1.1.1.0 q.1.1.1.1.0 (omega (arith, c.rows_for.ensures, c.if-came-rows_for.false)) in
    let grid = row_grid g.T.Number.value g.T.Number.none (2 * a.w) in
    let held : HoldsRows a.wavelet a.h a.w (a.came + 1) a.made g.g (grid c.put_sides.new.ring) =
    row_more a.wavelet a.h a.w a.came a.made g.g (grid a.ring.now) (grid c.put_sides.new.ring) few.0 few.1 c.put_sides.ensures.row c.put_sides.ensures.others q.1.1.1.1.1.1.1.1.1 in
    odd_small a.wavelet a.h a.w g.g (a.came + 1) a.made c.row_below.result (grid c.put_sides.new.ring) due.0 due.1 c.row_below.ensures.inner c.row_below.ensures.last held q.1.1.1.1.1.1.1.1.0

pub finish_two-requires-clause-above_small : goal.finish_two-requires-clause-above_small
finish_two-requires-clause-above_small g c =
    let a = c.args in
    let q = c.requires.1.1 in
    let few = few_more a.wavelet a.h a.came a.made q.1.1.1.1.1.0 in
    let due = due_now a.wavelet a.h a.came a.made q.1.1.1.1.1.0 q.1.1.1.1.0 (omega (arith, c.rows_for.ensures, c.if-came-rows_for.false)) in
    let grid = row_grid g.T.Number.value g.T.Number.none (2 * a.w) in
    let held : HoldsRows a.wavelet a.h a.w (a.came + 1) a.made g.g (grid c.put_sides.new.ring) =
    row_more a.wavelet a.h a.w a.came a.made g.g (grid a.ring.now) (grid c.put_sides.new.ring) few.0 few.1 c.put_sides.ensures.row c.put_sides.ensures.others q.1.1.1.1.1.1.1.1.1 in
    above_small a.wavelet a.h a.w g.g (a.came + 1) a.made c.row_below.result (grid c.put_sides.new.ring) due.0 due.1 c.row_below.ensures.inner c.row_below.ensures.last held q.1.1.1.1.1.1.1.1.0

pub finish_two-requires-clause-below_small : goal.finish_two-requires-clause-below_small
finish_two-requires-clause-below_small g c =
    let a = c.args in
    let q = c.requires.1.1 in
    let few = few_more a.wavelet a.h a.came a.made q.1.1.1.1.1.0 in
    let due = due_now a.wavelet a.h a.came a.made q.1.1.1.1.1.0 q.1.1.1.1.0 (omega (arith, c.rows_for.ensures, c.if-came-rows_for.false)) in
    let grid = row_grid g.T.Number.value g.T.Number.none (2 * a.w) in
    let held : HoldsRows a.wavelet a.h a.w (a.came + 1) a.made g.g (grid c.put_sides.new.ring) =
    row_more a.wavelet a.h a.w a.came a.made g.g (grid a.ring.now) (grid c.put_sides.new.ring) few.0 few.1 c.put_sides.ensures.row c.put_sides.ensures.others q.1.1.1.1.1.1.1.1.1 in
    below_small a.wavelet a.h a.w g.g (a.came + 1) a.made c.row_below.result (grid c.put_sides.new.ring) due.0 due.1 c.row_below.ensures.inner c.row_below.ensures.last held q.1.1.1.1.1.1.1.1.0

pub returns-clause-after : goal.returns-clause-after
returns-clause-after g c =
    let a = c.args in
    let q = c.requires.1.1 in
    let few = few_more a.wavelet a.h a.came a.made q.1.1.1.1.1.0 in
    let due = due_now a.wavelet a.h a.came a.made q.1.1.1.1.1.0 q.1.1.1.1.0 (omega (arith, c.rows_for.ensures, c.if-came-rows_for.false)) in
    let grid = row_grid g.T.Number.value g.T.Number.none (2 * a.w) in
    let held : HoldsRows a.wavelet a.h a.w (a.came + 1) a.made g.g (grid c.put_sides.new.ring) =
    row_more a.wavelet a.h a.w a.came a.made g.g (grid a.ring.now) (grid c.put_sides.new.ring) few.0 few.1 c.put_sides.ensures.row c.put_sides.ensures.others q.1.1.1.1.1.1.1.1.1 in
    let done = c.finish_two.ensures in
    pair_more a.wavelet a.h a.w g.g (a.came + 1) a.made c.row_below.result (grid c.put_sides.new.ring) due.0 due.1 c.row_below.ensures.inner c.row_below.ensures.last held
    (grid c.finish_two.new.ring) done.odd done.even done.others
