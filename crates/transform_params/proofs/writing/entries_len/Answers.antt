use Rattle.std.proofs.Common.{◌+◌, Bool, List, length, drop, get_or, ap, arith}
use Rattle.std.proofs.lemmas.List.{length-append}
use Rattle.bit_codes.specs.Codes.{code_of}
use Rattle.field_rows.specs.Given.{value_bits}
use Rattle.field_rows.proofs.CodeLengths.{code_short}
use Rattle.transform_params.specs.ParameterFields.{entry_fields}
use Rattle.transform_params.proofs.Entries.{entry_next, entries_done, all_small}
use Rattle.transform_params.proofs.writing.entries_len.Goals as goal

pub loop-entry-preserved : goal.loop-entry-preserved
loop-entry-preserved c =
    let l = c.loop-entry in
    let items = c.args.entries.now in
    let value = get_or items l.entry-index 0 in
    let next = ap (λ (t : List Bool). length t) (entry_next l.entry-index items c.loop-entry-test.true) in
    record {
      so_far = omega (arith, l.invariant.so_far, next, length-append (code_of value) (value_bits (entry_fields (drop (l.entry-index + 1) items))), c.uint_len-bits.ensures);
      few = omega (arith, l.invariant.few, c.uint_len-bits.ensures, code_short value (omega (arith, c.type_inv.entries l.entry-index)));
    }

pub returns-clause-value : goal.returns-clause-value
returns-clause-value c =
    let l = c.loop-entry in
    omega (arith, l.invariant.so_far, ap (λ (t : List Bool). length t) (entries_done l.entry-index c.args.entries.now (omega (arith, c.loop-entry-test.false))))

pub returns-clause-small : goal.returns-clause-small
returns-clause-small c = all_small c.args.entries.now (λ i. omega (arith, c.type_inv.entries i))
