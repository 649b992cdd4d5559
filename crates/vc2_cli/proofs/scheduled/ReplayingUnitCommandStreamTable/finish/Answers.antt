use Rattle.std.proofs.Common.{subst, ap, ◌∙◌}
use Rattle.slice_geometry.specs.UnitLengths.{UnitShapesSeen}
use Rattle.run_theory.specs.Fronts.{Close}
use Rattle.run_theory.specs.Runs.{Closes}
use Rattle.stream_rows.specs.Units.{Past}
use Rattle.vc2_cli.specs.declared.status.Ending.{Ending}
use Rattle.vc2_cli.proofs.Replaying.{ending_is}
use Rattle.vc2_cli.proofs.scheduled.ReplayingUnitCommandStreamTable.finish.Goals as goal

pub returns-clause-wrote : goal.returns-clause-wrote
returns-clause-wrote g c = λ before p few final.
    let written = g.K.Sink.written in
    let s = c.args.self.now in
    subst (λ (e : Close Ending). Closes e.ending e.last (written c.args.out.now) (written c.accept.new.out) c.accept.result)
    (ending_is s.schedule s.slices s.pictures c.place.result c.replay-outcome.result before c.args.table.now c.args._item c.shapes.result.now p (c.place.ensures.value ∙ ap (λ (z : Past). z.place) c.earlier.ensures) (ap (λ (x : UnitShapesSeen). x.units) c.shapes.ensures.value) c.shapes.ensures.total c.replay-outcome.ensures)
    c.accept.ensures.wrote
