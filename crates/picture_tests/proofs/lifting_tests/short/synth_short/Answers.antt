use Rattle.picture_tests.proofs.ShortRoom.{room}
use Rattle.picture_tests.proofs.lifting_tests.short.synth_short.Goals as goal

pub synth_samples_short-fits-requires-clause-room : goal.synth_samples_short-fits-requires-clause-room
synth_samples_short-fits-requires-clause-room g c =
    let q = c.requires in
    room c.args.bands.now c.args.w q.some q.few q.whole q.sizes c.plane-levels.ensures c.plane-scratch.ensures
