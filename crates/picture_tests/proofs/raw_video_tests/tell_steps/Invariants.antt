use Rattle.std.proofs.Common.{◌≡◌, false}
use Rattle.picture_tests.proofs.raw_video_tests.tell_steps.Given as goal

abbrev pub invariant-loop : goal.invariant-loop
invariant-loop g l = (l.reader.refused ≡ false) × (l.picture.shape ≡ l.reader.shape)
