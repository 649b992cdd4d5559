use Rattle.std.proofs.Common.{ap, subst}
use Rattle.run_theory.specs.Runs.{change, Runs}
use Rattle.unit_reader.proofs.Exits.{none_soon}
use Rattle.stream_cut.specs.Cut.{Frames, cut_machine}
use Rattle.stream_cut.specs.Cutter.{CutterSeen, IsCutToTheEnd, MayGoOn}
use Rattle.stream_cut.proofs.Running.{laws}
use Rattle.stream_cut.proofs.CutOpen.{cut_opens}
use Rattle.stream_cut.proofs.cutter.Cutter.run.Goals as goal

pub returns-in-Ok-clause-runs : goal.returns-in-Ok-clause-runs
returns-in-Ok-clause-runs g c =
    let src = change g.S.Source.rest g.S.Source.faults c.args.src.now c.run_units-result.new.src in
    let out = change g.K.Sink.written g.K.Sink.faults c.args.out.now c.run_units-result.new.out in
    subst (λ (f : Frames). Runs (cut_machine f) IsCutToTheEnd src out c.run_units-result.result) (ap (λ (v : CutterSeen). v.frames) c.self.view_is) c.run_units-result.ensures.runs

pub returns-in-Err-clause-soon : goal.returns-in-Err-clause-soon
returns-in-Err-clause-soon g c = none_soon MayGoOn (cut_machine c.args.self.now.frames) (laws c.args.self.now.frames) (cut_opens c.args.self.now.frames) (g.S.Source.rest c.args.src.now) _
