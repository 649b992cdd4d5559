use Rattle.std.proofs.Common.{◌∙◌, ap, sym, Ok, Result}
use Rattle.stream_cut.specs.Cutter.{run_of}
use Rattle.stream_cut.specs.declared.cutter.CutStop.{CutStop}
use Rattle.vc2_cli.specs.declared.status.Ending.TheVariants.{Done}
use Rattle.vc2_cli.specs.declared.status.Note.TheVariants.{Encoded}
use Rattle.vc2_cli.specs.Cut.{ending_of}
use Rattle.vc2_cli.specs.Mapped.{result_told}
use Rattle.vc2_cli.proofs.EncodeTurns.{planned}
use Rattle.vc2_cli.proofs.cut.outcome_of.Goals as goal

pub returns-in-Ok : goal.returns-in-Ok
returns-in-Ok c =
    let settings = c.args.settings.now in
    let cutter = c.args.cutter.now in
    ap (λ s. Ok (Done (Encoded s))) (c.plan-schedule.ensures.value ∙ planned c.shapes.result.now settings.rate settings.idle _ _ c.shapes.ensures.units c.shapes.ensures.total)
    ∙ ap (λ (came : Result (Unit {0}) CutStop). result_told (ending_of settings.rate settings.idle) (run_of cutter.shapes cutter.total came)) (sym c.in-Ok.is)
