use Rattle.std.proofs.Common.{◌≡◌, ◌*◌, true, take}
use Rattle.raw_video.specs.RawText.{text_of}
use Rattle.raw_video.proofs.spelling.spell_wide.Given as goal

abbrev pub invariant-loop-k : goal.invariant-loop-k
invariant-loop-k l = take (2 * l.k) l.bytes ≡ text_of true (take l.k l.samples)
