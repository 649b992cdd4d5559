use Rattle.std.proofs.Common.{◌≡◌, ◌<◌, take, false}
use Rattle.std.specs.List.{All}
use Rattle.raw_video.specs.RawParse.{samples_in}
use Rattle.raw_video.proofs.parsing.parse_narrow.Given as goal

abbrev pub invariant-loop-k : goal.invariant-loop-k
invariant-loop-k l = record {
  same : take l.k l.samples ≡ samples_in false (take l.k l.bytes);
  few : All (λ v. v < 256) (take l.k l.bytes);
}
