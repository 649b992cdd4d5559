use Rattle.std.proofs.Common.{◌≡◌, ℕ, ◌+◌, ◌-◌, ◌<◌, ◌≤◌, true, false}
use Rattle.slice_encoder.specs.LowNeeds.{may_fit}
use Rattle.slice_encoder.specs.GatheredSlices.{gathered_low, AreLooks}
use Rattle.slice_encoder.proofs.candidates.find_first.Given as goal

abbrev pub invariant-loop-start : goal.invariant-loop-start
invariant-loop-start l = record {
  order : l.start ≤ l.end;
  most : l.end ≤ 127;
  steps : l.step ≤ 32;
  near : l.wanted ≤ 200;
  may : may_fit l.bytes (gathered_low l.gathered l.fn.firsts l.matrix l.end) ≡ true;
  known : l.known ≡ true → AreLooks l.looks l.gathered l.matrix l.end;
  next : l.has_next ≡ true → AreLooks l.next l.gathered l.matrix (l.end + 1);
  refuted : (i : ℕ) → i < l.start → may_fit l.bytes (gathered_low l.gathered l.fn.firsts l.matrix i) ≡ false;
}

abbrev pub decreases-loop-start : goal.decreases-loop-start
decreases-loop-start l = l.end - l.start
