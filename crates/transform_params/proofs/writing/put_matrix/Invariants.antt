use Rattle.std.proofs.Common.{◌≡◌, ◌+◌, ◌++◌, length, drop}
use Rattle.bit_codes.specs.Bits.{bits_before}
use Rattle.field_rows.specs.Given.{value_bits}
use Rattle.transform_params.specs.ParameterFields.{entry_fields, matrix_fields}
use Rattle.transform_params.proofs.writing.put_matrix.Given as goal

abbrev pub invariant-loop-entry : goal.invariant-loop-entry
invariant-loop-entry l = record {
  items : l.entry-items ≡ l.matrix.entries;
  same : l.w.bytes.ghost_name ≡ l.fn.w.bytes.ghost_name;
  room : length l.w.bytes.now ≡ length l.fn.w.bytes.now;
  place : l.w.place + length (value_bits (entry_fields (drop l.entry-index l.entry-items))) ≡ l.fn.w.place + length (value_bits (matrix_fields l.matrix));
  written : bits_before l.w.place l.w.bytes.now ++ value_bits (entry_fields (drop l.entry-index l.entry-items)) ≡ bits_before l.fn.w.place l.fn.w.bytes.now ++ value_bits (matrix_fields l.matrix);
}
