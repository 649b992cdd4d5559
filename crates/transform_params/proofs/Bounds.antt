-- Transform parameters are short.
use Rattle.std.proofs.Common.{ℕ, ◌+◌, ◌^◌, ◌<◌, ◌≤◌, List, [], ◌∷◌, length, arith}
use Rattle.field_rows.proofs.CodeLengths.{AreFew, AreFew-append, few_short}
use Rattle.transform_params.specs.Params.{Params, params_fields}
use Rattle.transform_params.specs.ParameterFields.{wavelet_fields, slicing_fields, entry_fields, matrix_fields, fields_of, byte_length, unit_length, AreLawfulParams}
use Rattle.transform_params.proofs.WrittenBack.{params_kinds}

few_entries : (entries : List ℕ) → AreFew (length entries) (entry_fields entries)
few_entries [] = record { each = tt; count = omega arith }
few_entries (e ∷ entries) = let others = few_entries entries in record { each = (tt, others.each); count = omega (arith, others.count) }

few_fields : (p : Params) → AreFew (1 + (5 + (1 + length p.matrix.entries))) (fields_of p)
few_fields p =
    let entries = few_entries p.matrix.entries in
    AreFew-append 1 (5 + (1 + length p.matrix.entries)) (wavelet_fields p.wavelet) _ (record { each = (tt, tt); count = omega arith })
    (AreFew-append 5 (1 + length p.matrix.entries) (slicing_fields p.slicing) (matrix_fields p.matrix) (record { each = (tt, (tt, (tt, (tt, (tt, tt))))); count = omega arith })
    (record { each = (tt, entries.each); count = omega (arith, entries.count) }))

-- at most 20 fields of at most 65 bits
params_short : (p : Params) → AreLawfulParams p → byte_length p ≤ 163
params_short p f = omega (arith, few_short (1 + (5 + (1 + length p.matrix.entries))) params_fields (fields_of p) (few_fields p) (params_kinds p f), f.count, f.allowed.depth)

-- a unit of a picture has far fewer bytes than an offset counts
pub unit_small : (p : Params) → AreLawfulParams p → unit_length p < 2 ^ 32
unit_small p f = omega (arith, params_short p f, f.allowed.share.total)
