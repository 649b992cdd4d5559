-- Entries of a matrix that are written one after another.
use Rattle.std.proofs.Common.{◌≡◌, ◌+◌, ◌*◌, ◌≤◌, ◌<◌, ◌^◌, ◌++◌, ℕ, zero, suc, Bool, List, [], ◌∷◌, true, length, drop, get_or, refl, sym, ap, ◌∙◌, arith, add-one, append_assoc}
use Rattle.std.specs.List.{AllByRecursion}
use Rattle.std.proofs.lemmas.List.{length-append, take_all}
use Rattle.std.proofs.Math.Seq.{drop-cons}
use Rattle.bit_codes.specs.Codes.{code_of}
use Rattle.field_rows.specs.Given.{value_bits}
use Rattle.bit_codes.specs.Bits.{bits_of, bits_before, zeros_to_byte_end}
use Rattle.bit_codes.proofs.BitLemmas.{length-bits}
use Rattle.field_rows.proofs.Written.{written-number, written-append}
use Rattle.transform_params.specs.Params.{Params}
use Rattle.transform_params.specs.ParameterFields.{wavelet_index, entry_fields, slicing_fields, matrix_fields, fields_of, bit_length}

-- one entry more
pub entry_next : (n : ℕ) (items : List ℕ) → n < length items → value_bits (entry_fields (drop n items)) ≡ code_of (get_or items n 0) ++ value_bits (entry_fields (drop (n + 1) items))
entry_next n items lt = ap (λ l. value_bits (entry_fields l)) (drop-cons items n 0 lt) ∙ ap (λ k. code_of (get_or items n 0) ++ value_bits (entry_fields (drop k items))) (sym (add-one n))

pub entry_first : (now before : List Bool) (rest more : List Bool) → now ≡ before ++ true ∷ [] → rest ≡ more → now ++ rest ≡ before ++ true ∷ more
entry_first now before rest more e h = ap (λ l. l ++ rest) e ∙ append_assoc before (true ∷ []) rest ∙ ap (λ m. before ++ true ∷ m) h

pub entry_put : (now before code more all : List Bool) (rest : List Bool) → now ≡ before ++ code → rest ≡ code ++ more → before ++ rest ≡ all → now ++ more ≡ all
entry_put now before code more all rest e h k = ap (λ l. l ++ more) e ∙ append_assoc before code more ∙ ap (λ l. before ++ l) (sym h) ∙ k

-- nothing is left
pub entries_done : (n : ℕ) (items : List ℕ) → length items ≤ n → value_bits (entry_fields (drop n items)) ≡ []
entries_done zero [] le = refl
entries_done (suc n) [] le = refl
entries_done zero (x ∷ items) le = absurd (omega arith)
entries_done (suc n) (x ∷ items) le = entries_done n items (omega arith)

pub all_small : (items : List ℕ) → ((i : ℕ) → get_or items i 0 < 2 ^ 32) → AllByRecursion (λ n. n < 2 ^ 32) items
all_small [] f = tt
all_small (x ∷ items) f = (f 0, all_small items (λ i. f (suc i)))

-- the fields of the parameters, part by part
pub params_written : (p : Params) → value_bits (fields_of p) ≡ (code_of (wavelet_index p.wavelet) ++ value_bits (slicing_fields p.slicing)) ++ value_bits (matrix_fields p.matrix)
params_written p =
    let layout = slicing_fields p.slicing in
    let matrix = matrix_fields p.matrix in
    written-number (wavelet_index p.wavelet) (layout ++ matrix) ∙ ap (λ t. code_of (wavelet_index p.wavelet) ++ t) (written-append layout matrix)
    ∙ sym (append_assoc (code_of (wavelet_index p.wavelet)) (value_bits layout) (value_bits matrix))

pub all_written : (p : Params) (b0 b1 b2 b3 b4 : List Bool) (place : ℕ) → b0 ≡ [] → b1 ≡ b0 ++ code_of (wavelet_index p.wavelet) → b2 ≡ b1 ++ value_bits (slicing_fields p.slicing) → b3 ≡ b2 ++ value_bits (matrix_fields p.matrix)
    → b4 ≡ b3 ++ zeros_to_byte_end place → place ≡ bit_length p → b4 ≡ value_bits (fields_of p) ++ zeros_to_byte_end (bit_length p)
all_written p b0 b1 b2 b3 b4 place e0 e1 e2 e3 e4 at =
    let first : b1 ≡ code_of (wavelet_index p.wavelet) = e1 ∙ ap (λ t. t ++ code_of (wavelet_index p.wavelet)) e0 in
    let all : b3 ≡ value_bits (fields_of p) = e3 ∙ ap (λ t. t ++ value_bits (matrix_fields p.matrix)) (e2 ∙ ap (λ t. t ++ value_bits (slicing_fields p.slicing)) first) ∙ sym (params_written p) in
    e4 ∙ ap (λ t. t ++ zeros_to_byte_end place) all ∙ ap (λ n. value_bits (fields_of p) ++ zeros_to_byte_end n) at

-- all bits of bytes
pub all_bits : (place : ℕ) (bytes : List ℕ) → 8 * length bytes ≤ place → bits_before place bytes ≡ bits_of bytes
all_bits place bytes le = take_all place (bits_of bytes) (omega (arith, length-bits bytes))

pub bit_length-parts : (p : Params) → bit_length p ≡ length (code_of (wavelet_index p.wavelet)) + length (value_bits (slicing_fields p.slicing)) + length (value_bits (matrix_fields p.matrix))
bit_length-parts p =
    let code = code_of (wavelet_index p.wavelet) in
    omega (arith, ap (λ (t : List Bool). length t) (params_written p), length-append (code ++ value_bits (slicing_fields p.slicing)) (value_bits (matrix_fields p.matrix)), length-append code (value_bits (slicing_fields p.slicing)))
