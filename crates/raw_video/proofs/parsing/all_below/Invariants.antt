use Rattle.std.proofs.Common.{◌≡◌, ◌<◌, true, take}
use Rattle.std.specs.List.{All}
use Rattle.raw_video.proofs.parsing.all_below.Given as goal

abbrev pub invariant-loop-v : goal.invariant-loop-v
invariant-loop-v l = l.below ≡ true → All (λ v. v < l.bound) (take l.v-index l.samples)
