-- What is asked of the rows of a unit for the laws of streams by them, and that the rows of a stream are such.
use Rattle.std.proofs.Common.{◌≡◌, ℕ, zero, suc, ◌+◌, ◌*◌, ◌≤◌, Bool, List, [], ◌∷◌, length, Err, refl, ap, arith}
use Rattle.std.proofs.lemmas.List.{length-append}
use Rattle.std.proofs.lemmas.Bool.{lt-ltb}
use Rattle.bit_codes.specs.Bits.{Cursor}
use Rattle.bit_codes.proofs.BitLemmas.{length-bits}
use Rattle.field_rows.specs.Rows.{Value, Number, Flag, Bytes, Skipped, Here, Rows, done, row, a_number, a_flag, some_bytes, to_byte_end, here, read, field_at, spelled}
use Rattle.field_rows.specs.Standing.{StandsAt, Stand}
use Rattle.field_rows.proofs.Pieces.{Stand-along}
use Rattle.field_rows.proofs.Shorter.{BeginsWithBytes}
use Rattle.run_theory.specs.Grammar.{bytes_at, unit_at}
use Rattle.run_theory.specs.GrammarLaws.{IsGrammar}
use Rattle.run_theory.proofs.Whole.{EndsWhole}
use Rattle.stream_rows.specs.declared.reason.Reason.{Reason}
use Rattle.stream_rows.specs.declared.reason.Reason.TheVariants as reasons
use Rattle.stream_rows.specs.Units.{Past, DataUnit, reason_of, unit_rows}
use Rattle.stream_rows.specs.Streams.{UnitRows, units_by}
use Rattle.stream_rows.proofs.UnitsLaws.{units_laws}
use Rattle.stream_rows.proofs.Whole.{unit_whole}

-- These are the rows of a grammar, and each unit of them ends with a byte.
pub record IsTable (rows : UnitRows) : Type 0 where
  pub grammar : IsGrammar (units_by rows)
  pub whole : (z : Past) → EndsWhole reason_of (rows z)

pub stream_table : IsTable unit_rows
stream_table = record { grammar = units_laws; whole = unit_whole }

-- a field of bytes takes a byte at least
field_long : (n : ℕ) (v : Value) (c mid : Cursor) → StandsAt (some_bytes (suc n)) v c mid → length mid.rest + 8 ≤ length c.rest
field_long n (Bytes bytes) c mid f = omega (arith, ap (λ (t : List Bool). length t) f.parts, length-append f.text mid.rest, f.spelled.0, ap (λ (t : List Bool). length t) f.spelled.2, length-bits bytes)
field_long n (Number m) c mid f = absurd f.spelled
field_long n (Flag b) c mid f = absurd f.spelled
field_long n (Skipped b) c mid f = absurd f.spelled
field_long n (Here p) c mid f = absurd f.spelled

rows_long : (rows : Rows Reason DataUnit) (vs : List Value) (c : Cursor) (unit : DataUnit) (mid : Cursor) → BeginsWithBytes rows → Stand rows vs c unit mid → length mid.rest + 8 ≤ length c.rest
rows_long (done made) vs c unit mid h f = absurd h
rows_long (row a_number at rules next) vs c unit mid h f = absurd h
rows_long (row a_flag at rules next) vs c unit mid h f = absurd h
rows_long (row (some_bytes zero) at rules next) vs c unit mid h f = absurd h
rows_long (row to_byte_end at rules next) vs c unit mid h f = absurd h
rows_long (row here at rules next) vs c unit mid h f = absurd h
rows_long (row (some_bytes (suc n)) at rules next) [] c unit mid h f = absurd f
rows_long (row (some_bytes (suc n)) at rules next) (v ∷ vs) c unit mid h f =
    let more = Stand-along (next v) vs f.0 unit mid f.3 in
    omega (arith, field_long n v c f.0 f.1, ap (λ (t : List Bool). length t) more.parts, length-append more.text mid.rest)

-- each unit takes a byte at least
pub unit_long : (rows : UnitRows) → IsTable rows → (z : Past) (vs : List Value) (c : Cursor) (unit : DataUnit) (mid : Cursor) → Stand (rows z) vs c unit mid → length mid.rest + 8 ≤ length c.rest
unit_long rows t z vs c unit mid f = rows_long (rows z) vs c unit mid (t.grammar.some z) f

-- where no byte is left, the first field is short
rows_short : (rows : Rows Reason DataUnit) (place : ℕ) → BeginsWithBytes rows → read reason_of rows (bytes_at place []) ≡ Err (record { place = 8 * place; reason = reasons.Truncated })
unfolding read field_at spelled
rows_short (done made) place h = absurd h
rows_short (row a_number at rules next) place h = absurd h
rows_short (row a_flag at rules next) place h = absurd h
rows_short (row (some_bytes zero) at rules next) place h = absurd h
rows_short (row to_byte_end at rules next) place h = absurd h
rows_short (row here at rules next) place h = absurd h
rows_short (row (some_bytes (suc n)) at rules next) place h = rw (lt-ltb 0 (8 * suc n) (omega arith)) refl

pub none_read : (rows : UnitRows) → IsTable rows → (z : Past) → unit_at (units_by rows) z [] ≡ Err (record { place = 8 * z.place; reason = reasons.Truncated })
none_read rows t z = rows_short (rows z) z.place (t.grammar.some z)
