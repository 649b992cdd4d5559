use Rattle.slice_store.proofs.Apart.{in_run, places_apart}
use Rattle.slice_store.proofs.each_place_is_alone.Goals as goal

pub returns-clause-inside : goal.returns-clause-inside
returns-clause-inside c s level orient y x sound place = in_run s sound level orient y x place

pub returns-clause-apart : goal.returns-clause-apart
returns-clause-apart c s l o y x m p j i sound a b together e = places_apart s sound l o y x m p j i a b together e
