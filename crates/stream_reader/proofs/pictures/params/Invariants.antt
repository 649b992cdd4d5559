use Rattle.std.proofs.Common.{◌≡◌, ◌≤◌, ◌+◌, ◌-◌, ◌^◌, List, ℕ, Option, length}
use Rattle.field_rows.specs.Rows.{Rows, renamed, ◌>>=◌}
use Rattle.transform_params.specs.Params.{Params, params_rows}
use Rattle.run_theory.specs.Begun.{Begun}
use Rattle.stream_rows.specs.declared.reason.Reason.{Reason}
use Rattle.stream_rows.specs.Units.{Past, DataUnit, units, transform_reason}
use Rattle.stream_reader.proofs.pictures.params.Given as goal

abbrev pub invariant-loop-params : goal.invariant-loop-params
invariant-loop-params g l = record {
  begun : (z : Past) (others : Params → Rows Reason DataUnit) (held0 : List ℕ) (rest0 : Option (List ℕ)) → Begun units z held0 rest0 (g.S.Source.rest l.fn.src) l.place l.fn.window.held (renamed transform_reason params_rows >>= others)
      → Begun units z held0 rest0 (g.S.Source.rest l.src) l.place l.window.held (renamed transform_reason params_rows >>= others);
  total : l.place + length l.window.held + l.window.room ≡ 2 ^ 40;
  few : length l.window.held ≤ 8192;
  steady : g.S.Source.faults l.src ≡ g.S.Source.faults l.fn.src;
}

abbrev pub decreases-loop-params : goal.decreases-loop-params
decreases-loop-params g l = 513 - length l.window.held
