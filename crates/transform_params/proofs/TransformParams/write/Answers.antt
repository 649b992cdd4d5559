use Rattle.std.proofs.Common.{◌≡◌, ◌*◌, ◌≤◌, ◌++◌, ℕ, List, length, Ok, sym, ap, subst, ◌∙◌, arith}
use Rattle.bit_codes.specs.Bits.{bits_of, bits_before, cursor_at, zeros_to_byte_end}
use Rattle.field_rows.specs.Rows.{read}
use Rattle.field_rows.specs.Given.{value_bits}
use Rattle.field_rows.proofs.Filled.{bytes_by_bits, length-filled}
use Rattle.transform_params.specs.Params.{reason_of, params_rows}
use Rattle.bit_codes.specs.Codes.{code_of}
use Rattle.transform_params.specs.ParameterFields.{fields_of, bit_length, params_bytes}
use Rattle.transform_params.proofs.Entries.{all_written, all_bits, bit_length-parts}
use Rattle.transform_params.specs.Views.{params_of}
use Rattle.transform_params.proofs.WrittenBack.{written_back}
use Rattle.transform_params.proofs.TransformParams.write.Goals as goal
use Rattle.field_rows.proofs.Passing.{length-zeros}

pub returns-clause-bytes : goal.returns-clause-bytes
returns-clause-bytes c =
    let p = params_of c.args.self.now in
    let last = c.align.new.self in
    let parts = bit_length-parts p in
    let at : c.put_matrix.new.w.place ≡ bit_length p = omega (arith, parts, c.put_matrix.ensures.place, c.put_layout.ensures.place, c.put_uint.ensures.place, c.new-w.ensures.place, ap (λ n. length (code_of n)) c.wavelet_index.ensures) in
    let tie = c.bytes-1.given.1.1 (sym (c.align.ensures.same_reference ∙ c.put_matrix.ensures.same_reference ∙ c.put_layout.ensures.same_reference ∙ c.put_uint.ensures.same_reference ∙ c.new-w.ensures.same_reference)) in
    let full : 8 * length last.bytes.now ≤ last.place = omega (arith, c.align.ensures.place, length-zeros c.put_matrix.new.w.place, at, c.align.ensures.room, c.put_matrix.ensures.room, c.put_layout.ensures.room, c.put_uint.ensures.room, ap (λ (l : List ℕ). length l) c.new-w.ensures.bytes, c.requires) in
    bytes_by_bits c.bytes-1.given.0 (value_bits (fields_of p) ++ zeros_to_byte_end (bit_length p)) (λ i. omega (arith, c.type_inv.bytes i))
    (ap bits_of tie ∙ sym (all_bits last.place last.bytes.now full)
    ∙ all_written p _ _ _ _ _ c.put_matrix.new.w.place (ap (λ n. bits_before n c.new-w.result.bytes.now) c.new-w.ensures.place) (c.put_uint.ensures.written ∙ ap (λ n. bits_before c.new-w.result.place c.new-w.result.bytes.now ++ code_of n) c.wavelet_index.ensures)
    c.put_layout.ensures.written c.put_matrix.ensures.written c.align.ensures.written at)

pub returns-clause-read_back : goal.returns-clause-read_back
returns-clause-read_back c = λ more.
    let p = params_of c.args.self.now in
    let r : List ℕ → ℕ → Type 0 = λ bytes n. read reason_of params_rows (cursor_at (bytes ++ more) 0) ≡ Ok (p, cursor_at (bytes ++ more) (8 * n)) in
    let here : r (params_bytes p) (length (params_bytes p)) = subst (λ (n : ℕ). r (params_bytes p) n) (sym (length-filled (value_bits (fields_of p)))) (written_back p more c.byte_len.ensures.lawful) in
    subst (λ (l : List ℕ). r l (length l)) (sym (returns-clause-bytes c)) here
