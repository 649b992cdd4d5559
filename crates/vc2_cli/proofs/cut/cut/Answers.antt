use Rattle.std.proofs.Common.{Result, sym, subst}
use Rattle.run_theory.specs.Runs.{change, Runs}
use Rattle.run_theory.specs.declared.Halt.{Halt}
use Rattle.run_theory.proofs.Closing.{runs_unbegun}
use Rattle.unit_reader.specs.Soon.{Soon}
use Rattle.stream_cut.specs.Cut.{Frames}
use Rattle.stream_cut.specs.Cut as cutter
use Rattle.stream_cut.specs.Cutter as cutter_runs
use Rattle.stream_cut.specs.Cutter.{run_of}
use Rattle.vc2_cli.specs.declared.status.Ending.{Ending}
use Rattle.vc2_cli.specs.Cut.{cut_command_machine}
use Rattle.vc2_cli.specs.Endings.{IsDone, MayEndOtherwise}
use Rattle.vc2_cli.proofs.Cutting.{cut_runs, cut_soon, unmade_soon}
use Rattle.vc2_cli.proofs.cut.cut.Goals as goal

pub outcome_of-result-requires : goal.outcome_of-result-requires
outcome_of-result-requires g c = c.requires.rate

pub returns-in-Ok-clause-runs : goal.returns-in-Ok-clause-runs
returns-in-Ok-clause-runs g c =
    let settings = c.args.settings.now in
    let src = change g.S.Source.rest g.S.Source.faults c.args.src.now c.cut-came.new.src in
    let out = change g.K.Sink.written g.K.Sink.faults c.args.out.now c.cut-came.new.out in
    let new = c.cut-came.new.self in
    let came = run_of new.shapes new.total c.cut-came.result in
    subst (λ (r : Result Ending Halt). Runs (cut_command_machine settings) IsDone src out r) (sym c.outcome_of-result.ensures)
    (cut_runs settings src out came (subst (λ (f : Frames). Runs (cutter.cut_machine f) cutter_runs.IsCutToTheEnd src out came) c.in-Ok.ensures.new.frames_are c.cut-came.ensures.runs))

pub returns-in-Ok-clause-soon : goal.returns-in-Ok-clause-soon
returns-in-Ok-clause-soon g c =
    let settings = c.args.settings.now in
    let rest = g.S.Source.rest in
    let new = c.cut-came.new.self in
    let came = run_of new.shapes new.total c.cut-came.result in
    subst (λ (r : Result Ending Halt). Soon MayEndOtherwise (cut_command_machine settings) 4096 (rest c.args.src.now) (rest c.cut-came.new.src) r) (sym c.outcome_of-result.ensures)
    (cut_soon settings (rest c.args.src.now) (rest c.cut-came.new.src) came
    (subst (λ (f : Frames). Soon cutter_runs.MayGoOn (cutter.cut_machine f) 4096 (rest c.args.src.now) (rest c.cut-came.new.src) came) c.in-Ok.ensures.new.frames_are c.cut-came.ensures.soon))

pub returns-in-Err-clause-runs : goal.returns-in-Err-clause-runs
returns-in-Err-clause-runs g c =
    runs_unbegun (cut_command_machine c.args.settings.now) IsDone (g.S.Source.rest c.args.src.now) (g.K.Sink.written c.args.out.now) (g.S.Source.faults c.args.src.now) (g.K.Sink.faults c.args.out.now)

pub returns-in-Err-clause-soon : goal.returns-in-Err-clause-soon
returns-in-Err-clause-soon g c = unmade_soon c.args.settings.now (g.S.Source.rest c.args.src.now)
