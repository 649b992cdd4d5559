use Rattle.std.proofs.Common.{◌≡◌, take}
use Rattle.trial_video.specs.Worst.{farthest}
use Rattle.trial_video.proofs.worst.farthest.Given as goal

abbrev pub invariant-loop-k : goal.invariant-loop-k
invariant-loop-k l = l.most ≡ farthest (take l.k l.raw) (take l.k l.decoded)
