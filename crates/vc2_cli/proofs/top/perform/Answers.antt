use Rattle.std.proofs.Common.{refl, subst, sym, ap, ◌∙◌, Result}
use Rattle.run_theory.specs.Runs.{Change, change}
use Rattle.run_theory.specs.declared.Halt.{Halt}
use Rattle.vc2_words.specs.declared.words.Command.{Command}
use Rattle.vc2_words.specs.declared.words.Command.TheVariants.{Check}
use Rattle.vc2_words.specs.Commands.{AskedCommand, command_seen}
use Rattle.vc2_words.specs.Shown.{shown}
use Rattle.vc2_cli.specs.declared.status.Ending.{Ending}
use Rattle.vc2_cli.specs.Running.{running_of}
use Rattle.vc2_cli.specs.RunsAs.{RunsAs, SaysMore, Does}
use Rattle.vc2_cli.specs.ChainLines.{chain_machine}
use Rattle.vc2_cli.proofs.Chaining.{chain_laws}
use Rattle.vc2_cli.specs.Decode.{decode_machine, check_machine}
use Rattle.vc2_cli.proofs.Decoding.{decode_laws, check_laws}
use Rattle.vc2_cli.specs.Proxy.{proxy_machine}
use Rattle.vc2_cli.proofs.Proxying.{proxy_laws}
use Rattle.vc2_cli.specs.Scheduled.{replay_machine}
use Rattle.vc2_cli.proofs.Replaying.{replay_laws}
use Rattle.vc2_cli.specs.Encode.{encode_machine}
use Rattle.vc2_cli.proofs.EncodeTurns.{encode_laws}
use Rattle.vc2_cli.proofs.EncodeReplies.{some_size}
use Rattle.vc2_cli.specs.Weave.{order_of, weave_command_machine, split_command_machine}
use Rattle.vc2_cli.proofs.Weaving.{weave_laws, split_laws}
use Rattle.vc2_cli.specs.Frames.{frames_machine}
use Rattle.vc2_cli.proofs.Framing.{frames_laws}
use Rattle.vc2_cli.specs.Cut.{cut_command_machine}
use Rattle.vc2_cli.proofs.Cutting.{cut_laws}
use Rattle.vc2_cli.proofs.Told.{units_run, video_runs, header_runs, trial_runs}
use Rattle.vc2_cli.proofs.top.perform.Goals as goal

-- a command by its run
does : (asked : AskedCommand) (src out : Change) (result : Result Ending Halt) → RunsAs (running_of asked) src out result → SaysMore asked src out result → Does asked src out result
does asked src out result runs more = record { runs = runs; more = more }

pub returns-in-Chain : goal.returns-in-Chain
returns-in-Chain g c =
    let src = change g.S.Source.rest g.S.Source.faults c.args.src.now c.chain.new.src in
    let out = change g.K.Sink.written g.K.Sink.faults c.args.out.now c.chain.new.out in
    subst (λ (a : Command). Does (command_seen a) src out c.chain.result) (sym c.in-Chain.is) (does _ src out c.chain.result (units_run chain_machine chain_laws src out c.chain.result c.chain.ensures.runs c.chain.ensures.soon) tt)

pub returns-in-Header : goal.returns-in-Header
returns-in-Header g c =
    let src = change g.S.Source.rest g.S.Source.faults c.args.src.now c.header.new.src in
    let out = change g.K.Sink.written g.K.Sink.faults c.args.out.now c.header.new.out in
    subst (λ (a : Command). Does (command_seen a) src out c.header.result) (sym c.in-Header.is) (does _ src out c.header.result (header_runs src out c.header.result c.header.ensures.left c.header.ensures.limit c.header.ensures.ran c.header.ensures.cause c.header.ensures.soon) c.header.ensures.limit)

pub returns-in-Decode : goal.returns-in-Decode
returns-in-Decode g c =
    let src = change g.S.Source.rest g.S.Source.faults c.args.src.now c.decode.new.src in
    let out = change g.K.Sink.written g.K.Sink.faults c.args.out.now c.decode.new.out in
    subst (λ (a : Command). Does (command_seen a) src out c.decode.result) (sym c.in-Decode.is) (does _ src out c.decode.result (units_run decode_machine decode_laws src out c.decode.result c.decode.ensures.runs c.decode.ensures.soon) tt)

pub returns-in-None : goal.returns-in-None
returns-in-None g c =
    let src = change g.S.Source.rest g.S.Source.faults c.args.src.now c.check.new.src in
    let out = change g.K.Sink.written g.K.Sink.faults c.args.out.now c.check.new.out in
    subst (λ (a : Command). Does (command_seen a) src out c.check.result) (sym (c.in-Check.is ∙ ap Check c.in-None.is)) (does _ src out c.check.result (units_run check_machine check_laws src out c.check.result c.check.ensures.runs c.check.ensures.soon) tt)

pub returns-in-Some : goal.returns-in-Some
returns-in-Some g c =
    let src = change g.S.Source.rest g.S.Source.faults c.args.src.now c.check_schedule.new.src in
    let out = change g.K.Sink.written g.K.Sink.faults c.args.out.now c.check_schedule.new.out in
    subst (λ (a : Command). Does (command_seen a) src out c.check_schedule.result) (sym (c.in-Check.is ∙ ap Check c.in-Some.is)) (does _ src out c.check_schedule.result (units_run (replay_machine c.in-Some.schedule) (replay_laws c.in-Some.schedule) src out c.check_schedule.result c.check_schedule.ensures.runs c.check_schedule.ensures.soon) tt)

pub returns-in-Proxy : goal.returns-in-Proxy
returns-in-Proxy g c =
    let src = change g.S.Source.rest g.S.Source.faults c.args.src.now c.proxy.new.src in
    let out = change g.K.Sink.written g.K.Sink.faults c.args.out.now c.proxy.new.out in
    subst (λ (a : Command). Does (command_seen a) src out c.proxy.result) (sym c.in-Proxy.is) (does _ src out c.proxy.result (units_run (proxy_machine c.in-Proxy.level) (proxy_laws c.in-Proxy.level) src out c.proxy.result c.proxy.ensures.runs c.proxy.ensures.soon) tt)

pub returns-in-Frames : goal.returns-in-Frames
returns-in-Frames g c =
    let src = change g.S.Source.rest g.S.Source.faults c.args.src.now c.frames.new.src in
    let out = change g.K.Sink.written g.K.Sink.faults c.args.out.now c.frames.new.out in
    subst (λ (a : Command). Does (command_seen a) src out c.frames.result) (sym c.in-Frames.is) (does _ src out c.frames.result (units_run (frames_machine (order_of c.in-Frames.top)) (frames_laws (order_of c.in-Frames.top)) src out c.frames.result c.frames.ensures.runs c.frames.ensures.soon) tt)

pub returns-in-Encode : goal.returns-in-Encode
returns-in-Encode g c =
    let src = change g.S.Source.rest g.S.Source.faults c.args.src.now c.encode.new.src in
    let out = change g.K.Sink.written g.K.Sink.faults c.args.out.now c.encode.new.out in
    let s = shown c.in-Encode.settings in
    let lawful = c.requires.settings s (ap command_seen c.in-Encode.is) in
    subst (λ (a : Command). Does (command_seen a) src out c.encode.result) (sym c.in-Encode.is) (does _ src out c.encode.result (video_runs (encode_machine s) (encode_laws s (some_size s lawful.0.header.passes)) src out c.encode.result c.encode.ensures.runs c.encode.ensures.soon) tt)

pub returns-in-Weave : goal.returns-in-Weave
returns-in-Weave g c =
    let src = change g.S.Source.rest g.S.Source.faults c.args.src.now c.weave.new.src in
    let out = change g.K.Sink.written g.K.Sink.faults c.args.out.now c.weave.new.out in
    subst (λ (a : Command). Does (command_seen a) src out c.weave.result) (sym c.in-Weave.is) (does _ src out c.weave.result (video_runs (weave_command_machine c.in-Weave.video) (weave_laws c.in-Weave.video (c.requires.weave c.in-Weave.video (ap command_seen c.in-Weave.is))) src out c.weave.result c.weave.ensures.runs c.weave.ensures.soon) tt)

pub returns-in-Split : goal.returns-in-Split
returns-in-Split g c =
    let src = change g.S.Source.rest g.S.Source.faults c.args.src.now c.split.new.src in
    let out = change g.K.Sink.written g.K.Sink.faults c.args.out.now c.split.new.out in
    subst (λ (a : Command). Does (command_seen a) src out c.split.result) (sym c.in-Split.is) (does _ src out c.split.result (video_runs (split_command_machine c.in-Split.video) (split_laws c.in-Split.video (c.requires.split c.in-Split.video (ap command_seen c.in-Split.is))) src out c.split.result c.split.ensures.runs c.split.ensures.soon) tt)

pub returns-in-Cut : goal.returns-in-Cut
returns-in-Cut g c =
    let src = change g.S.Source.rest g.S.Source.faults c.args.src.now c.cut.new.src in
    let out = change g.K.Sink.written g.K.Sink.faults c.args.out.now c.cut.new.out in
    let settings = c.in-Cut.settings in
    subst (λ (a : Command). Does (command_seen a) src out c.cut.result) (sym c.in-Cut.is) (does _ src out c.cut.result (units_run (cut_command_machine settings) (cut_laws settings) src out c.cut.result c.cut.ensures.runs c.cut.ensures.soon) tt)

pub returns-in-Trial : goal.returns-in-Trial
returns-in-Trial g c =
    let src = change g.S.Source.rest g.S.Source.faults c.args.src.now c.args.src.now in
    let out = change g.K.Sink.written g.K.Sink.faults c.args.out.now c.trial.new.out in
    subst (λ (a : Command). Does (command_seen a) src out c.trial.result) (sym c.in-Trial.is) (does _ src out c.trial.result (trial_runs (shown c.in-Trial.settings) c.in-Trial.part src.was src.faults_were out c.trial.result c.trial.ensures.told c.trial.ensures.cause) (c.trial.ensures.told, refl, refl))

-- ---- what is asked of the words

pub check_schedule-requires : goal.check_schedule-requires
check_schedule-requires g c = c.requires.schedule c.in-Some.schedule (ap command_seen (c.in-Check.is ∙ ap Check c.in-Some.is))

pub encode-requires-clause-lawful : goal.encode-requires-clause-lawful
encode-requires-clause-lawful g c = (c.requires.settings (shown c.in-Encode.settings) (ap command_seen c.in-Encode.is)).0

pub encode-requires-clause-steep : goal.encode-requires-clause-steep
encode-requires-clause-steep g c = (c.requires.settings (shown c.in-Encode.settings) (ap command_seen c.in-Encode.is)).1

pub trial-requires-clause-lawful : goal.trial-requires-clause-lawful
trial-requires-clause-lawful g c = (c.requires.trial (shown c.in-Trial.settings) c.in-Trial.part (ap command_seen c.in-Trial.is)).0

pub trial-requires-clause-steep : goal.trial-requires-clause-steep
trial-requires-clause-steep g c = (c.requires.trial (shown c.in-Trial.settings) c.in-Trial.part (ap command_seen c.in-Trial.is)).1

pub weave-requires : goal.weave-requires
weave-requires g c = c.requires.weave c.in-Weave.video (ap command_seen c.in-Weave.is)

pub split-requires : goal.split-requires
split-requires g c = c.requires.split c.in-Split.video (ap command_seen c.in-Split.is)

pub cut-requires : goal.cut-requires
cut-requires g c = c.requires.cut c.in-Cut.settings (ap command_seen c.in-Cut.is)
