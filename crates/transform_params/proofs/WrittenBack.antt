-- What is written of lawful parameters is read back, whatever follows.
use Rattle.std.proofs.Common.{◌≡◌, ℕ, ◌+◌, ◌*◌, ◌^◌, ◌<◌, true, List, [], ◌∷◌, ◌++◌, length, Result, Ok, refl, ap, subst, ◌∙◌, arith, append-nil}
use Rattle.std.specs.List.{AllByRecursion}
use Rattle.std.proofs.lemmas.Bool.Decides.{nat_tests}
use Rattle.bit_codes.specs.Bits.{Cursor, cursor_at}
use Rattle.field_rows.specs.Rows.{Value, Number, Flag, Rows, done, ◌>>=◌, number, within, number_under, flag_set, numbers, Fault, read}
use Rattle.field_rows.specs.Given.{checked, value_bits, AreOfKind, Pass}
use Rattle.field_rows.proofs.Passing.{Pass-bind, kinds-bind, Pass-read_bytes}
use Rattle.field_rows.proofs.Filled.{bits_of-filled, length-filled}
use Rattle.slice_geometry.specs.Slicing.{Slicing, IsAllowed}
use Rattle.quant_factors.specs.Weights.{Weights}
use Rattle.lifting.specs.declared.Wavelet.{Wavelet}
use Rattle.lifting.specs.declared.Wavelet.TheVariants.{LeGall, HaarFlat, HaarShift}
use Rattle.transform_params.specs.declared.faults.TransformReason.{TransformReason}
use Rattle.transform_params.specs.declared.faults.TransformReason.TheVariants.{DefaultMatrix}
use Rattle.transform_params.specs.Params.{Params, reason_of, wavelet_index_rows, wavelet_rows, slices_y_rows, denominator_rows, slicing_rows, matrix_rows, params_fields, params_rows}
use Rattle.transform_params.specs.ParameterFields.{wavelet_fields, slicing_fields, entry_fields, matrix_fields, fields_of, byte_length, params_bytes, AreLawfulParams}

-- fields that pass and are of their rows' kinds
record Passes {R A : Type 0} (rows : Rows R A) (vs : List Value) (a : A) : Type 0 where
  pass : Pass rows vs a
  kinds : AreOfKind rows vs

Passes-bind : {R A B : Type 0} (rows : Rows R A) (next : A → Rows R B) (vs ws : List Value) (a : A) (b : B) → Passes rows vs a → Passes (next a) ws b → Passes (rows >>= next) (vs ++ ws) b
Passes-bind rows next vs ws a b p q = record { pass = Pass-bind rows next vs ws a b p.pass q.pass; kinds = kinds-bind rows next vs ws a p.pass p.kinds q.kinds }

pass_wavelet : (w : Wavelet) → Passes wavelet_rows (wavelet_fields w) w
unfolding wavelet_rows wavelet_index_rows number_under ◌>>=◌ checked
pass_wavelet LeGall = record { pass = record { passed = λ more. refl }; kinds = (omega arith, refl) }
pass_wavelet HaarFlat = record { pass = record { passed = λ more. refl }; kinds = (omega arith, refl) }
pass_wavelet HaarShift = record { pass = record { passed = λ more. refl }; kinds = (omega arith, refl) }

pass_slicing : (s : Slicing) → IsAllowed s → s.a < 2 ^ 32 → s.b < 2 ^ 32 → Passes slicing_rows (slicing_fields s) s
unfolding slicing_rows slices_y_rows denominator_rows number_under within number ◌>>=◌ checked
pass_slicing s f a b =
    record {
      pass = record { passed = λ more. grind (arith, nat_tests) };
      kinds = (omega arith, (omega arith, (omega arith, (a, (b, refl)))));
    }

pass_done : {R A : Type 0} (a : A) → Passes {R = R} (done a) [] a
unfolding checked
pass_done a = record { pass = record { passed = λ more. refl }; kinds = refl }

pass_number : {R : Type 0} (n : ℕ) → n < 2 ^ 32 → Passes {R = R} number (Number n ∷ []) n
unfolding number checked
pass_number n lt = record { pass = record { passed = λ more. refl }; kinds = (lt, refl) }

pass_entries : (entries : List ℕ) → AllByRecursion (λ n. n < 2 ^ 32) entries → Passes {R = TransformReason} (numbers (length entries)) (entry_fields entries) entries
unfolding numbers
pass_entries [] f = pass_done []
pass_entries (e ∷ entries) f =
    Passes-bind number (λ first. numbers (length entries) >>= λ others. done (first ∷ others)) (Number e ∷ []) (entry_fields entries) e (e ∷ entries) (pass_number e f.0)
    (subst (λ (vs : List Value). Passes {R = TransformReason} (numbers (length entries) >>= λ others. done (e ∷ others)) vs (e ∷ entries)) (append-nil (entry_fields entries))
    (Passes-bind (numbers (length entries)) (λ others. done (e ∷ others)) (entry_fields entries) [] entries (e ∷ entries) (pass_entries entries f.1) (pass_done (e ∷ entries))))

pass_set : Passes (flag_set {R = TransformReason} DefaultMatrix) (Flag true ∷ []) true
unfolding flag_set checked
pass_set = record { pass = record { passed = λ more. refl }; kinds = (tt, refl) }

pass_matrix : (depth : ℕ) (m : Weights) → m.depth ≡ depth → length m.entries ≡ 1 + 3 * depth → AllByRecursion (λ n. n < 2 ^ 32) m.entries → Passes (matrix_rows depth) (matrix_fields m) m
unfolding matrix_rows
pass_matrix depth m deep count small =
    Passes-bind (flag_set DefaultMatrix) (λ custom. numbers (1 + 3 * depth) >>= λ entries. done (record { depth = depth; entries = entries })) (Flag true ∷ []) (entry_fields m.entries) true m pass_set
    (subst (λ (vs : List Value). Passes {R = TransformReason} (numbers (1 + 3 * depth) >>= λ entries. done (record { depth = depth; entries = entries })) vs m) (append-nil (entry_fields m.entries))
    (Passes-bind (numbers (1 + 3 * depth)) (λ entries. done (record { depth = depth; entries = entries })) (entry_fields m.entries) [] m.entries m
    (subst (λ (n : ℕ). Passes {R = TransformReason} (numbers n) (entry_fields m.entries) m.entries) count (pass_entries m.entries small))
    (subst (λ (d : ℕ). Passes {R = TransformReason} {A = Weights} (done (record { depth = d; entries = m.entries })) [] m) deep (pass_done m))))

pass_params : (p : Params) → AreLawfulParams p → Passes params_fields (fields_of p) p
unfolding params_fields
pass_params p f =
    Passes-bind wavelet_rows (λ wavelet. slicing_rows >>= λ slicing. matrix_rows slicing.depth >>= λ matrix. done (record { wavelet = wavelet; slicing = slicing; matrix = matrix }))
    (wavelet_fields p.wavelet) (slicing_fields p.slicing ++ matrix_fields p.matrix) p.wavelet p (pass_wavelet p.wavelet)
    (Passes-bind slicing_rows (λ slicing. matrix_rows slicing.depth >>= λ matrix. done (record { wavelet = p.wavelet; slicing = slicing; matrix = matrix }))
    (slicing_fields p.slicing) (matrix_fields p.matrix) p.slicing p (pass_slicing p.slicing f.allowed f.a f.b)
    (subst (λ (vs : List Value). Passes (matrix_rows p.slicing.depth >>= λ matrix. done (record { wavelet = p.wavelet; slicing = p.slicing; matrix = matrix })) vs p) (append-nil (matrix_fields p.matrix))
    (Passes-bind (matrix_rows p.slicing.depth) (λ matrix. done (record { wavelet = p.wavelet; slicing = p.slicing; matrix = matrix })) (matrix_fields p.matrix) [] p.matrix p
    (pass_matrix p.slicing.depth p.matrix f.deep f.count f.small) (pass_done p))))

pub params_kinds : (p : Params) → AreLawfulParams p → AreOfKind params_fields (fields_of p)
params_kinds p f = let both = pass_params p f in both.kinds

-- the law
pub written_back : (p : Params) (more : List ℕ) → AreLawfulParams p → read reason_of params_rows (cursor_at (params_bytes p ++ more) 0) ≡ Ok (p, cursor_at (params_bytes p ++ more) (8 * byte_length p))
unfolding params_rows
written_back p more f =
    let both = pass_params p f in
    Pass-read_bytes reason_of params_fields (fields_of p) p (params_bytes p) more both.pass both.kinds (bits_of-filled (value_bits (fields_of p)))
    ∙ ap (λ (n : ℕ). let r : Result (Params × Cursor) (Fault TransformReason) = Ok (p, cursor_at (params_bytes p ++ more) (8 * n)) in r) (length-filled (value_bits (fields_of p)))
