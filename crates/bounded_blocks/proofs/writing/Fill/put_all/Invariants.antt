use Rattle.std.proofs.Common.{◌≡◌, take}
use Rattle.bounded_blocks.specs.Writing.{Puts, codes_of}
use Rattle.bounded_blocks.proofs.writing.Fill.put_all.Given as goal

abbrev pub invariant-loop-value : goal.invariant-loop-value
invariant-loop-value l = record {
  same_reference : l.self.bytes.ghost_name ≡ l.fn.self.bytes.ghost_name;
  same_end : l.self.end ≡ l.fn.self.end;
  puts : Puts l.fn.self.end l.fn.self.place l.fn.self.bytes.now l.self.place l.self.bytes.now (codes_of (take l.value-index l.values));
}
