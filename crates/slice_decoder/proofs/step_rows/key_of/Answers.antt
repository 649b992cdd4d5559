use Rattle.slice_decoder.specs.Jobs.{short_part}
use Rattle.slice_decoder.proofs.StepRows.{same-quantisers}
use Rattle.slice_decoder.proofs.step_rows.key_of.Goals as goal

pub returns-clause-quantisers : goal.returns-clause-quantisers
returns-clause-quantisers c =
    same-quantisers c.args.each (short_part c.args.job) c.args.job.areas.now c.requires.job.areas c.requires.job.entries
