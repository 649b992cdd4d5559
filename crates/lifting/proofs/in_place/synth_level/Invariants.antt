use Rattle.planes.specs.Raster.{at}
use Rattle.lifting.proofs.in_place.synth_level.Given as goal

abbrev pub ghost-synth_rows : goal.ghost-synth_rows
ghost-synth_rows a = at a.plane.now
