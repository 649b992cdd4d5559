use Rattle.std.proofs.Common.{◌≡◌, Ok, IfOk, subst}
use Rattle.slice_store.specs.declared.short_bands.ShortBands.{ShortBands}
use Rattle.slice_store.specs.ShortBands.{IsShortSound}
use Rattle.picture_codec.proofs.short_slices.short_zero_trio.Goals as goal

-- bands that were made are sound
pub returns-clause-sound : goal.returns-clause-sound
returns-clause-sound c = record {
  luma = subst (λ r. IfOk r IsShortSound) c.in_ok-luma.ensures.0 c.short_zero_bands.ensures.sound;
  c1 = subst (λ r. IfOk r IsShortSound) c.in_ok-luma.ensures.1 c.short_zero_bands-2.ensures.sound;
  c2 = subst (λ r. IfOk r IsShortSound) c.in_ok-luma.ensures.2 c.short_zero_bands-3.ensures.sound;
}
