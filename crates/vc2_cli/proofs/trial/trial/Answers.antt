use Rattle.std.proofs.Common.{◌≡◌}
use Rattle.vc2_io.proofs.Short.{GrewShort-along}
use Rattle.vc2_words.specs.Shown.{shown}
use Rattle.vc2_cli.specs.Trial.{trial_text}
use Rattle.vc2_cli.proofs.trial.trial.Goals as goal

pub returns-clause-told : goal.returns-clause-told
returns-clause-told g c =
    let text : c.as_bytes.result.now ≡ trial_text (shown c.args.settings.now) c.args.part = cc (c.as_bytes.ensures.value, c.in-Ok-lines.ensures, c.in-Ok.ensures.bytes, c.in-Ok.ensures.plan, c.in-Ok.ensures.worst, c.count.ensures.value, c.from.ensures, c.from-2.ensures) in
    GrewShort-along _ _ _ _ text c.in-Err-write_whole.ensures.err
