use Rattle.std.proofs.Common.{◌≡◌, ◌≤◌, ◌+◌, ◌*◌, length, drop}
use Rattle.field_rows.specs.Given.{value_bits}
use Rattle.transform_params.specs.ParameterFields.{entry_fields}
use Rattle.transform_params.proofs.writing.entries_len.Given as goal

abbrev pub invariant-loop-entry : goal.invariant-loop-entry
invariant-loop-entry l = record {
  so_far : l.bits + length (value_bits (entry_fields (drop l.entry-index l.entries))) ≡ length (value_bits (entry_fields l.entries));
  few : l.bits ≤ 65 * l.entry-index;
}
