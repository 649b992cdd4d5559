use Rattle.std.proofs.Common.{◌+◌, ◌∙◌, refl, arith, inl}
use Rattle.planes.specs.Rect.{IsInRect}
use Rattle.planes.specs.Valued.{grid_of}
use Rattle.dc_prediction.specs.Restoring.{row_rect}
use Rattle.dc_prediction.proofs.Joined.{places_split, may_place, row_stops, joined, nothing}
use Rattle.dc_prediction.proofs.restore_row.Goals as goal

pub loop-x-init : goal.loop-x-init
loop-x-init g c = record {
  from = omega arith;
  same_width = refl;
  same_height = refl;
  restored = nothing g.T.Predicted.limit (row_rect c.args.y c.args.x0 c.args.x0) (grid_of g.T.Number.value g.T.Number.none c.args.plane.now) (inl (omega arith));
}

pub restore_place-requires-clause-may : goal.restore_place-requires-clause-may
restore_place-requires-clause-may g c =
    let grid = grid_of g.T.Number.value g.T.Number.none in
    let l = c.loop-x in
    may_place g.T.Predicted.most g.T.Number.reach g.T.Predicted.limit c.args.y c.args.x0 l.x c.args.x1 l.invariant.from c.loop-x-test.true (grid c.args.plane.now) (grid l.plane) c.requires.may l.invariant.restored

pub returns-then-not-restore_place-clause-stopped : goal.returns-then-not-restore_place-clause-stopped
returns-then-not-restore_place-clause-stopped g c stopped =
    let grid = grid_of g.T.Number.value g.T.Number.none in
    let l = c.loop-x in
    row_stops g.T.Predicted.limit g.T.Predicted.keeps c.args.y c.args.x0 l.x c.args.x1 l.invariant.from c.loop-x-test.true (grid c.args.plane.now) (grid l.plane) (grid c.restore_place.new.plane) l.invariant.restored
    (c.restore_place.ensures.stopped c.if-not-restore_place.true)

pub loop-x-preserved : goal.loop-x-preserved
loop-x-preserved g c =
    let grid = grid_of g.T.Number.value g.T.Number.none in
    let l = c.loop-x in
    let y = c.args.y in
    let x0 = c.args.x0 in
    let q = c.restore_place.ensures in
    record {
      from = omega (arith, l.invariant.from);
      same_width = q.same_width ∙ l.invariant.same_width;
      same_height = q.same_height ∙ l.invariant.same_height;
      restored =
          joined g.T.Predicted.limit (IsInRect (row_rect y x0 (l.x + 1))) (IsInRect (row_rect y x0 l.x)) (IsInRect (row_rect y l.x (l.x + 1))) (places_split y x0 l.x l.invariant.from)
          (grid c.args.plane.now) (grid l.plane) (grid c.restore_place.new.plane) l.invariant.restored (q.restored c.if-not-restore_place.false);
    }
