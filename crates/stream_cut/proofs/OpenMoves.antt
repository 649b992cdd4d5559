-- Behind the beginning of a unit that stands, the rest of the unit is left.
use Rattle.std.proofs.Common.{◌≡◌, ℕ, ◌+◌, ◌*◌, ◌≤◌, Bool, List, ◌++◌, length, take, drop, Ok, sym, ap, subst, ◌∙◌, arith}
use Rattle.std.proofs.lemmas.List.{length-take, take-append-drop, take_at}
use Rattle.bit_codes.specs.Bits.{bits_of}
use Rattle.bit_codes.proofs.BitLemmas.{length-bits}
use Rattle.bit_codes.proofs.Numbers.{bits_of-append}
use Rattle.field_rows.specs.Rows.{Rows, ◌>>=◌, read}
use Rattle.field_rows.proofs.Reading.{read-bind}
use Rattle.run_theory.specs.Grammar.{bytes_at}
use Rattle.run_theory.specs.Begun.{Moves}
use Rattle.stream_rows.specs.declared.reason.Reason.{Reason}
use Rattle.stream_rows.specs.Units.{Past, DataUnit, reason_of}
use Rattle.stream_rows.proofs.Exact.{read-others}
use Rattle.stream_cut.specs.Skim.{skim_grammar, skim_rows}
use Rattle.stream_cut.specs.Opening.{Opened, open_rows}
use Rattle.stream_cut.proofs.RestRows.{rest_rows}
use Rattle.stream_cut.proofs.SameRows.{same_rows}

moves_over : (rows : Rows Reason Opened) (next : Opened → Rows Reason DataUnit) (at : ℕ) (bytes : List ℕ) (a : Opened) (long : ℕ) → read reason_of rows (bytes_at at bytes) ≡ Ok (a, bytes_at (at + long) (drop long bytes)) → long ≤ length bytes
    → Moves skim_grammar (rows >>= next) at (take long bytes) (next a)
moves_over rows next at bytes a long e inside = record { moves = λ more. moves more }
  where
    moves : (more : List ℕ) → read reason_of (rows >>= next) (bytes_at at (take long bytes ++ more)) ≡ read reason_of (next a) (bytes_at (at + length (take long bytes)) more)
    moves more =
        let t = read-others reason_of rows (bytes_at at bytes) a (bytes_at (at + long) (drop long bytes)) (bits_of more) (record { whole = omega (arith, length-bits bytes) }) (omega (arith, length-bits more)) e in
        let size : length t.text ≡ 8 * long = omega (arith, t.along) in
        let whole : bits_of bytes ≡ bits_of (take long bytes) ++ bits_of (drop long bytes) = ap bits_of (sym (take-append-drop long bytes)) ∙ bits_of-append (take long bytes) (drop long bytes) in
        let piece : length (take long bytes) ≡ long = omega (arith, length-take long bytes, inside) in
        let text : t.text ≡ bits_of (take long bytes) = sym (take_at t.text (bits_of (drop long bytes)) (8 * long) size) ∙ ap (take (8 * long)) (sym t.parts ∙ whole) ∙ take_at (bits_of (take long bytes)) (bits_of (drop long bytes)) (8 * long) (omega (arith, length-bits (take long bytes), piece)) in
        let bits : t.text ++ bits_of more ≡ bits_of (take long bytes ++ more) = ap (λ l. l ++ bits_of more) text ∙ sym (bits_of-append (take long bytes) more) in
        let here : read reason_of rows (bytes_at at (take long bytes ++ more)) ≡ Ok (a, bytes_at (at + long) more) = ap (λ (l : List Bool). read reason_of rows (record { place = 8 * at; rest = l })) (sym bits) ∙ t.same in
        read-bind reason_of rows next (bytes_at at (take long bytes ++ more)) ∙ rw here (ap (λ (p : ℕ). read reason_of (next a) (bytes_at p more)) (omega (arith, piece)))

pub opening_moves : (z : Past) (bytes : List ℕ) (opened : Opened) (size : ℕ) → read reason_of (open_rows z) (bytes_at z.place bytes) ≡ Ok (opened, bytes_at (z.place + size) (drop size bytes)) → size ≤ length bytes
    → Moves skim_grammar (skim_rows z) z.place (take size bytes) (rest_rows z opened)
opening_moves z bytes opened size e inside =
    subst (λ rows. Moves skim_grammar rows z.place (take size bytes) (rest_rows z opened)) (same_rows z) (moves_over (open_rows z) (rest_rows z) z.place bytes opened size e inside)
