use Rattle.picture_tests.proofs.ShortRoom.{sizes_after}
use Rattle.picture_tests.proofs.lifting_tests.short.expect.Goals as goal

pub synth_short-fits-requires-clause-sizes : goal.synth_short-fits-requires-clause-sizes
synth_short-fits-requires-clause-sizes g c = sizes_after c.args.w 16 c.put_content.ensures c.zero_bands-bands.ensures.sizes
