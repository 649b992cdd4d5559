use Rattle.std.proofs.Common.{Ok, Result, ap, ◌∙◌, subst, sym}
use Rattle.run_theory.specs.Runs.{change}
use Rattle.vc2_words.specs.declared.words.Command.{Command}
use Rattle.vc2_words.specs.declared.keys.WordFault.{WordFault}
use Rattle.vc2_words.specs.Commands.{command_seen}
use Rattle.vc2_cli.specs.Words.{seen_words}
use Rattle.vc2_cli.specs.Reply.{command_reply, command_due}
use Rattle.vc2_cli.specs.Running.{running_of}
use Rattle.vc2_cli.specs.Settled.{Settles}
use Rattle.vc2_cli.specs.Soon.{StopsSoon}
use Rattle.vc2_cli.proofs.SoonTold.{reads_soon, reads_at}
use Rattle.vc2_cli.proofs.Settling.{settles, settled_usage, causes, trial_at, header_at}
use Rattle.vc2_cli.proofs.Told.{if_trial, if_header}
use Rattle.vc2_cli.proofs.top.answer.Goals as goal

pub returns-in-Ok-clause-settled : goal.returns-in-Ok-clause-settled
returns-in-Ok-clause-settled g c = λ input e.
    let rest1 = g.S.Source.rest c.perform.new.src in
    let out0 = g.K.Sink.written c.args.out.now in
    let out1 = g.K.Sink.written c.perform.new.out in
    let note0 = g.N.Sink.written c.args.note.now in
    let note1 = g.N.Sink.written c.conclude.new.note in
    subst (λ (r : Result Command WordFault). Settles (command_reply (seen_words r) input) (command_due (seen_words r)) input rest1 out0 out1 note0 note1 c.conclude.result) (sym c.in-Ok.is)
    (settles (running_of (command_seen c.in-Ok.command)) rest1 out0 out1 note0 note1 input c.perform.result c.conclude.result (c.perform.ensures.runs.comes input e) c.conclude.ensures.told)

pub returns-in-Ok-clause-limit : goal.returns-in-Ok-clause-limit
returns-in-Ok-clause-limit g c = c.perform.ensures.runs.limit

pub returns-in-Ok-clause-causes : goal.returns-in-Ok-clause-causes
returns-in-Ok-clause-causes g c =
    let src = change g.S.Source.rest g.S.Source.faults c.args.src.now c.perform.new.src in
    let out = change g.K.Sink.written g.K.Sink.faults c.args.out.now c.perform.new.out in
    let note = change g.N.Sink.written g.N.Sink.faults c.args.note.now c.conclude.new.note in
    causes src out note c.perform.result c.conclude.result c.perform.ensures.runs.cause c.conclude.ensures.told c.conclude.ensures.cause

pub returns-in-Ok-clause-trial : goal.returns-in-Ok-clause-trial
returns-in-Ok-clause-trial g c =
    let src = change g.S.Source.rest g.S.Source.faults c.args.src.now c.perform.new.src in
    let out = change g.K.Sink.written g.K.Sink.faults c.args.out.now c.perform.new.out in
    trial_at _ _ _ c.in-Ok.is
    (if_trial (command_seen c.in-Ok.command) src out (g.N.Sink.written c.args.note.now) (g.N.Sink.written c.conclude.new.note) c.perform.result c.conclude.result c.perform.ensures.more c.conclude.ensures.told)

pub returns-in-Ok-clause-header : goal.returns-in-Ok-clause-header
returns-in-Ok-clause-header g c =
    let src = change g.S.Source.rest g.S.Source.faults c.args.src.now c.perform.new.src in
    let out = change g.K.Sink.written g.K.Sink.faults c.args.out.now c.perform.new.out in
    header_at _ _ _ c.in-Ok.is (if_header (command_seen c.in-Ok.command) src out c.perform.result c.perform.ensures.more)

pub returns-in-Ok-clause-soon : goal.returns-in-Ok-clause-soon
returns-in-Ok-clause-soon g c = λ input e.
    reads_at (λ r stops. StopsSoon (command_reply r) stops input (g.S.Source.rest c.perform.new.src) c.conclude.result) _ _ c.in-Ok.is
    (reads_soon (running_of (command_seen c.in-Ok.command)) (g.S.Source.rest c.args.src.now) (g.S.Source.rest c.perform.new.src) (g.N.Sink.written c.args.note.now) (g.N.Sink.written c.conclude.new.note) input c.perform.result c.conclude.result e c.perform.ensures.runs.soon c.conclude.ensures.told)

pub perform-requires-clause-schedule : goal.perform-requires-clause-schedule
perform-requires-clause-schedule g c = λ schedule is. c.requires.schedule schedule (ap seen_words c.in-Ok.is ∙ ap Ok is)

pub perform-requires-clause-settings : goal.perform-requires-clause-settings
perform-requires-clause-settings g c = λ s is. c.requires.settings s (ap seen_words c.in-Ok.is ∙ ap Ok is)

pub perform-requires-clause-trial : goal.perform-requires-clause-trial
perform-requires-clause-trial g c = λ s part is. c.requires.trial s part (ap seen_words c.in-Ok.is ∙ ap Ok is)

pub perform-requires-clause-weave : goal.perform-requires-clause-weave
perform-requires-clause-weave g c = λ video is. c.requires.weave video (ap seen_words c.in-Ok.is ∙ ap Ok is)

pub perform-requires-clause-split : goal.perform-requires-clause-split
perform-requires-clause-split g c = λ video is. c.requires.split video (ap seen_words c.in-Ok.is ∙ ap Ok is)

pub perform-requires-clause-cut : goal.perform-requires-clause-cut
perform-requires-clause-cut g c = λ settings is. c.requires.cut settings (ap seen_words c.in-Ok.is ∙ ap Ok is)

pub returns-in-Err-clause-settled : goal.returns-in-Err-clause-settled
returns-in-Err-clause-settled g c = λ input e.
    subst (λ (r : Result Command WordFault). Settles (command_reply (seen_words r) input) (command_due (seen_words r)) input (g.S.Source.rest c.args.src.now) (g.K.Sink.written c.args.out.now) (g.K.Sink.written c.args.out.now)
    (g.N.Sink.written c.args.note.now) (g.N.Sink.written c.refuse.new.note) c.refuse.result) (sym c.in-Err.is)
    (settled_usage c.in-Err.fault input (g.S.Source.rest c.args.src.now) (g.K.Sink.written c.args.out.now) (g.N.Sink.written c.args.note.now) (g.N.Sink.written c.refuse.new.note) c.refuse.result e c.refuse.ensures.told)

pub returns-in-Err-clause-trial : goal.returns-in-Err-clause-trial
returns-in-Err-clause-trial g c = trial_at _ _ _ c.in-Err.is tt

pub returns-in-Err-clause-header : goal.returns-in-Err-clause-header
returns-in-Err-clause-header g c = header_at _ _ _ c.in-Err.is tt

pub returns-in-Err-clause-soon : goal.returns-in-Err-clause-soon
returns-in-Err-clause-soon g c = λ input e.
    reads_at (λ r stops. StopsSoon (command_reply r) stops input (g.S.Source.rest c.args.src.now) c.refuse.result) _ _ c.in-Err.is tt
