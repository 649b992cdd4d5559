use Rattle.std.proofs.Common.{◌+◌, ◌∙◌, refl, arith, inr}
use Rattle.std.proofs.lemmas.Grind.{common_steps}
use Rattle.planes.specs.Rect.{IsInRect}
use Rattle.planes.specs.Valued.{grid_of}
use Rattle.dc_prediction.specs.Restoring.{row_rect}
use Rattle.dc_prediction.proofs.Joined.{upper, upper_row, may_row, rect_stops, joined, nothing}
use Rattle.dc_prediction.proofs.restore_of.Goals as goal

pub loop-y-init : goal.loop-y-init
loop-y-init g c = record {
  same_width = refl;
  same_height = refl;
  restored = nothing g.T.Predicted.limit (upper c.args.rect c.args.rect.y0) (grid_of g.T.Number.value g.T.Number.none c.args.plane.now) (inr (omega arith));
}

pub restore_row-requires-clause-may : goal.restore_row-requires-clause-may
restore_row-requires-clause-may g c =
    let grid = grid_of g.T.Number.value g.T.Number.none in
    let l = c.loop-y in
    may_row g.T.Predicted.most g.T.Number.reach g.T.Predicted.limit c.args.rect l.y (omega arith) c.loop-y-test.true (grid c.args.plane.now) (grid l.plane) c.requires.may l.invariant.restored

pub returns-then-not-restore_row-clause-stopped : goal.returns-then-not-restore_row-clause-stopped
returns-then-not-restore_row-clause-stopped g c stopped =
    let grid = grid_of g.T.Number.value g.T.Number.none in
    let l = c.loop-y in
    rect_stops g.T.Predicted.limit g.T.Predicted.keeps c.args.rect l.y (omega arith) c.loop-y-test.true (grid c.args.plane.now) (grid l.plane) (grid c.restore_row.new.plane) l.invariant.restored
    (c.restore_row.ensures.stopped c.if-not-restore_row.true)

pub loop-y-preserved : goal.loop-y-preserved
loop-y-preserved g c =
    let grid = grid_of g.T.Number.value g.T.Number.none in
    let r = c.args.rect in
    let l = c.loop-y in
    let q = c.restore_row.ensures in
    record {
      same_width = q.same_width ∙ l.invariant.same_width;
      same_height = q.same_height ∙ l.invariant.same_height;
      restored =
          joined g.T.Predicted.limit (IsInRect (upper r (l.y + 1))) (IsInRect (upper r l.y)) (IsInRect (row_rect l.y r.x0 r.x1)) (upper_row r l.y (omega arith))
          (grid c.args.plane.now) (grid l.plane) (grid c.restore_row.new.plane) l.invariant.restored (q.restored c.if-not-restore_row.false);
    }

pub returns-clause-restored : goal.returns-clause-restored
returns-clause-restored g c = grind (arith, common_steps)
