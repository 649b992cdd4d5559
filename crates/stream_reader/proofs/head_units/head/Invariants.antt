use Rattle.std.proofs.Common.{◌≡◌, ◌≤◌, ◌+◌, ◌-◌, ◌^◌, List, ℕ, Option, length}
use Rattle.field_rows.specs.Rows.{Rows, ◌>>=◌}
use Rattle.parse_info.specs.declared.ParseInfo.{ParseInfo}
use Rattle.run_theory.specs.Begun.{Begun}
use Rattle.stream_rows.specs.declared.reason.Reason.{Reason}
use Rattle.stream_reader.specs.HeadUnits.{heads, head_only_head}
use Rattle.stream_reader.proofs.head_units.head.Given as goal

abbrev pub invariant-loop-info : goal.invariant-loop-info
invariant-loop-info g l = record {
  begun : (others : ParseInfo → Rows Reason ParseInfo) (held0 : List ℕ) (rest0 : Option (List ℕ)) → Begun heads l.place held0 rest0 (g.S.Source.rest l.fn.src) l.place l.fn.window.held (head_only_head >>= others)
      → Begun heads l.place held0 rest0 (g.S.Source.rest l.src) l.place l.window.held (head_only_head >>= others);
  total : l.place + length l.window.held + l.window.room ≡ 2 ^ 40;
  room : l.window.room ≤ l.fn.window.room;
  few : length l.window.held ≤ 4108;
  steady : g.S.Source.faults l.src ≡ g.S.Source.faults l.fn.src;
}

abbrev pub decreases-loop-info : goal.decreases-loop-info
decreases-loop-info g l = 13 - length l.window.held
