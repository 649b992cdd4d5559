use Rattle.std.proofs.Common.{◌≡◌, ◌+◌, ◌-◌, ◌≤◌, List, ℕ, Option, length}
use Rattle.run_theory.specs.Begun.{Begun}
use Rattle.stream_rows.specs.Units.{Past, units, first_payload}
use Rattle.stream_reader.proofs.parts.read_header.Given as goal

abbrev pub invariant-loop-read : goal.invariant-loop-read
invariant-loop-read g l = record {
  begun : (z : Past) (held0 : List ℕ) (rest0 : Option (List ℕ)) (next : ℕ) → Begun units z held0 rest0 (g.S.Source.rest l.fn.src) l.place l.fn.window.held (first_payload z next)
      → Begun units z held0 rest0 (g.S.Source.rest l.src) l.place l.window.held (first_payload z next);
  room : length l.window.held + l.window.room ≡ length l.fn.window.held + l.fn.window.room;
  few : length l.window.held ≤ 8192;
  steady : g.S.Source.faults l.src ≡ g.S.Source.faults l.fn.src;
}

abbrev pub decreases-loop-read : goal.decreases-loop-read
decreases-loop-read g l = 512 - length l.window.held
