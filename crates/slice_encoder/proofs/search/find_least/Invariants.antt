use Rattle.std.proofs.Common.{◌≡◌, ℕ, ◌<◌, length, false}
use Rattle.slice_encoder.specs.Choice.{fits}
use Rattle.slice_encoder.specs.GatheredSlices.{AreLooks}
use Rattle.slice_encoder.specs.Jobs.{picture_of}
use Rattle.slice_encoder.specs.Tries.{tried_lists}
use Rattle.slice_encoder.proofs.Others.{AllKeepOthers}
use Rattle.slice_encoder.proofs.search.find_least.Given as goal

abbrev pub invariant-loop-index : goal.invariant-loop-index
invariant-loop-index g l = record {
  luma_length : length l.luma ≡ length l.fn.luma;
  colour_length : length l.colour ≡ length l.fn.colour;
  looks : AreLooks l.looks l.gathered l.job.matrix.now l.index;
  keeps : AllKeepOthers (picture_of l.job g.coefficients) l.job.sx l.job.sy l.fn.kept l.kept;
  refuted : (i : ℕ) → i < l.index → fits l.job.bytes (tried_lists (picture_of l.job g.coefficients) l.fn.kept l.job.sx l.job.sy i) ≡ false;
}

abbrev pub ghost-first_residuals : goal.ghost-first_residuals
ghost-first_residuals g a = g.coefficients

abbrev pub ghost-try_at : goal.ghost-try_at
ghost-try_at g a = g.coefficients
