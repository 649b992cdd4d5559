use Rattle.planes.specs.Raster.{at}
use Rattle.lifting.proofs.in_place.analyse_level.Given as goal

abbrev pub ghost-analyse_rows : goal.ghost-analyse_rows
ghost-analyse_rows a = at a.plane.now
