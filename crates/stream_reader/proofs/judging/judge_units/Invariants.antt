use Rattle.std.proofs.Common.{◌-◌, ◌^◌, Some}
use Rattle.stream_reader.proofs.Judges.{GoesOn}
use Rattle.stream_reader.proofs.judging.judge_units.Given as goal

abbrev pub invariant-loop-item : goal.invariant-loop-item
invariant-loop-item l = record {
  goes : GoesOn (Some l.bytes) (Some l.src) l.reader;
}

abbrev pub decreases-loop-item : goal.decreases-loop-item
decreases-loop-item l = 2 ^ 40 - l.reader.past.place
