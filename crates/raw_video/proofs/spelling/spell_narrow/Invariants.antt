use Rattle.std.proofs.Common.{◌≡◌, false, take}
use Rattle.raw_video.specs.RawText.{text_of}
use Rattle.raw_video.proofs.spelling.spell_narrow.Given as goal

abbrev pub invariant-loop-k : goal.invariant-loop-k
invariant-loop-k l = take l.k l.bytes ≡ text_of false (take l.k l.samples)
