use Rattle.std.proofs.Common.{◌≡◌, ℕ, ◌-◌, ◌<◌, ◌≤◌, true, false}
use Rattle.slice_encoder.specs.LowNeeds.{lower_of, may_fit}
use Rattle.slice_encoder.specs.Ready.{coded_picture}
use Rattle.slice_encoder.proofs.candidates.find_candidate.Given as goal

abbrev pub invariant-loop-start : goal.invariant-loop-start
invariant-loop-start l = record {
  order : l.start ≤ l.end;
  most : l.end ≤ 127;
  may : may_fit l.fn.bytes (lower_of (coded_picture l.fn.layout l.fn.shape l.fn.matrix l.fn.coefficients) l.fn.sx l.fn.sy l.end) ≡ true;
  refuted : (i : ℕ) → i < l.start → may_fit l.fn.bytes (lower_of (coded_picture l.fn.layout l.fn.shape l.fn.matrix l.fn.coefficients) l.fn.sx l.fn.sy i) ≡ false;
}

abbrev pub decreases-loop-start : goal.decreases-loop-start
decreases-loop-start l = l.end - l.start
