use Rattle.std.proofs.Common.{◌≡◌, ◌≤◌, ◌+◌, ◌-◌, ◌^◌, List, ℕ, Option, length}
use Rattle.field_rows.specs.Rows.{Rows, ◌>>=◌}
use Rattle.parse_info.specs.declared.ParseInfo.{ParseInfo}
use Rattle.run_theory.specs.Begun.{Begun}
use Rattle.stream_rows.specs.declared.reason.Reason.{Reason}
use Rattle.stream_rows.specs.Units.{DataUnit, units, unit_head}
use Rattle.stream_reader.proofs.units.head.Given as goal

abbrev pub invariant-loop-info : goal.invariant-loop-info
invariant-loop-info g l =
    let z = l.fn.earlier in
    record {
      begun : (others : ParseInfo → Rows Reason DataUnit) (held0 : List ℕ) (rest0 : Option (List ℕ)) → Begun units z held0 rest0 (g.S.Source.rest l.fn.src) z.place l.fn.window.held (unit_head z >>= others)
          → Begun units z held0 rest0 (g.S.Source.rest l.src) z.place l.window.held (unit_head z >>= others);
      total : z.place + length l.window.held + l.window.room ≡ 2 ^ 40;
      few : length l.window.held ≤ 4108;
      steady : g.S.Source.faults l.src ≡ g.S.Source.faults l.fn.src;
    }

abbrev pub decreases-loop-info : goal.decreases-loop-info
decreases-loop-info g l = 13 - length l.window.held
