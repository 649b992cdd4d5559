-- A unit that is refused in its beginning.
use Rattle.std.proofs.Common.{◌≡◌, ◌+◌, ◌<◌, ℕ, List, length, true, Err, refl, sym, ap, ◌∙◌, arith}
use Rattle.field_rows.specs.Rows.{read, Fault}
use Rattle.run_theory.specs.Grammar.{bytes_at}
use Rattle.stream_rows.specs.declared.reason.Reason.{Reason}
use Rattle.stream_rows.specs.declared.reason.Reason.TheVariants as reasons
use Rattle.stream_rows.specs.Units.{Past, reason_of, is_truncated}
use Rattle.stream_cut.specs.Skim.{skim_rows}
use Rattle.stream_cut.specs.Opening.{open_rows}
use Rattle.stream_cut.proofs.SameRows.{refused_with}

-- the unit's bytes are refused as those of its beginning are
pub unit_refused : (z : Past) (held bytes : List ℕ) (fault : Fault Reason) → bytes ≡ held → read reason_of (open_rows z) (bytes_at (z.place + 0) bytes) ≡ Err fault → read reason_of (skim_rows z) (bytes_at z.place held) ≡ Err fault
unit_refused z held bytes fault same e =
    refused_with z (bytes_at z.place held) fault
    (ap (λ l. read reason_of (open_rows z) (bytes_at z.place l)) (sym same) ∙ ap (λ n. read reason_of (open_rows z) (bytes_at n bytes)) (omega arith) ∙ e)

-- only a short field is one
only_truncated : (reason : Reason) → is_truncated reason ≡ true → reason ≡ reasons.Truncated
only_truncated reasons.Truncated e = refl
only_truncated other e = cc e

-- what was short is few bytes
pub short_few : (reason : Reason) (held bytes : List ℕ) (most : ℕ) → is_truncated reason ≡ true → bytes ≡ held → (reason ≡ reasons.Truncated → 0 + length bytes < most) → length held < most
short_few reason held bytes most e same few = omega (arith, few (only_truncated reason e), ap (λ (l : List ℕ). length l) same)
