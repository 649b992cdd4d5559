use Rattle.std.proofs.Common.{◌+◌, ◌++◌, Bool, List, length, drop, get_or, sym, ap, ◌∙◌, arith, append-nil}
use Rattle.std.proofs.lemmas.List.{length-append}
use Rattle.bit_codes.specs.Codes.{code_of}
use Rattle.bit_codes.specs.Bits.{bits_before}
use Rattle.field_rows.specs.Given.{value_bits}
use Rattle.transform_params.specs.ParameterFields.{entry_fields}
use Rattle.transform_params.proofs.Entries.{entry_next, entry_first, entry_put, entries_done}
use Rattle.transform_params.proofs.writing.put_matrix.Goals as goal

pub loop-entry-init : goal.loop-entry-init
loop-entry-init c =
    let same = ap (λ l. value_bits (entry_fields l)) c.entries-entry-items.ensures.value in
    record {
      items = c.entries-entry-items.ensures.value;
      same = c.put_flag.ensures.same_reference;
      room = c.put_flag.ensures.room;
      place = omega (arith, c.put_flag.ensures.place, ap (λ (l : List Bool). length l) same);
      written = entry_first _ _ _ _ c.put_flag.ensures.written same;
    }

pub put_uint-requires : goal.put_uint-requires
put_uint-requires c =
    let l = c.loop-entry in
    let items = c.entries-entry-items.result.now in
    let next = ap (λ (t : List Bool). length t) (entry_next l.entry-index items c.loop-entry-test.true) in
    omega (arith, next, length-append (code_of (get_or items l.entry-index 0)) (value_bits (entry_fields (drop (l.entry-index + 1) items))), l.invariant.place, l.invariant.room, c.requires)

pub loop-entry-preserved : goal.loop-entry-preserved
loop-entry-preserved c =
    let l = c.loop-entry in
    let items = c.entries-entry-items.result.now in
    let next = entry_next l.entry-index items c.loop-entry-test.true in
    record {
      items = l.invariant.items;
      same = c.put_uint.ensures.same_reference ∙ l.invariant.same;
      room = c.put_uint.ensures.room ∙ l.invariant.room;
      place = omega (arith, ap (λ (t : List Bool). length t) next, length-append (code_of (get_or items l.entry-index 0)) (value_bits (entry_fields (drop (l.entry-index + 1) items))), l.invariant.place, c.put_uint.ensures.place);
      written = entry_put _ _ _ _ _ _ c.put_uint.ensures.written next l.invariant.written;
    }

pub returns-clause-place : goal.returns-clause-place
returns-clause-place c =
    let l = c.loop-entry in
    omega (arith, l.invariant.place, ap (λ (t : List Bool). length t) (entries_done l.entry-index c.entries-entry-items.result.now (omega (arith, c.loop-entry-test.false))))

pub returns-clause-written : goal.returns-clause-written
returns-clause-written c =
    let l = c.loop-entry in
    sym (append-nil (bits_before l.w.place l.w.bytes.now)) ∙ ap (λ t. bits_before l.w.place l.w.bytes.now ++ t) (sym (entries_done l.entry-index c.entries-entry-items.result.now (omega (arith, c.loop-entry-test.false)))) ∙ l.invariant.written
