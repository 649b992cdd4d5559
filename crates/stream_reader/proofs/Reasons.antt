-- The reason of a short field, and what is asked of a table of units with the reasons of a stream.
use Rattle.std.proofs.Common.{◌≡◌, ◌≢◌, true, false, Bool, refl, sym, ap, ◌∙◌}
use Rattle.run_theory.specs.Grammar.{Grammar}
use Rattle.run_theory.proofs.GrammarLaws.{IsGrammar}
use Rattle.stream_rows.specs.declared.reason.Reason.{Reason}
use Rattle.stream_rows.specs.declared.reason.Reason.TheVariants as reasons
use Rattle.stream_rows.specs.Units.{units, reason_of, is_truncated}
use Rattle.stream_rows.proofs.UnitsLaws.{units_laws}

-- What is asked of a table of units with the reasons of a stream.
pub record IsTable {Z U : Type 0} (g : Grammar Z Reason U) : Type 0 where
  pub laws : IsGrammar g
  pub names : g.reason_of ≡ reason_of
  pub told : (reason : Reason) → g.is_short reason ≡ is_truncated reason

pub units_table : IsTable units
units_table = record { laws = units_laws; names = refl; told = λ reason. refl }

-- a reason that is that of a short field
pub truncated : (r : Reason) → is_truncated r ≡ true → r ≡ reasons.Truncated
truncated reasons.Truncated e = refl
truncated reasons.BadPrefix e = absurd cc
truncated (reasons.UnsupportedCode code) e = absurd cc
truncated reasons.OffsetWrong e = absurd cc
truncated reasons.OffsetShort e = absurd cc
truncated reasons.PreviousWrong e = absurd cc
truncated reasons.NoSequenceHeader e = absurd cc
truncated reasons.HeaderDiffers e = absurd cc
truncated reasons.NumberTooLarge e = absurd cc
truncated reasons.VersionRefused e = absurd cc
truncated reasons.NotLowDelay e = absurd cc
truncated reasons.PresetFormat e = absurd cc
truncated (reasons.DefaultTaken field) e = absurd cc
truncated reasons.SizeRefused e = absurd cc
truncated reasons.SamplingUnknown e = absurd cc
truncated reasons.SizeNotDivisible e = absurd cc
truncated reasons.ScanUnknown e = absurd cc
truncated reasons.RateRefused e = absurd cc
truncated reasons.SignalRefused e = absurd cc
truncated reasons.CodingModeUnknown e = absurd cc
truncated reasons.PictureNumberWrong e = absurd cc
truncated reasons.FieldNumberOdd e = absurd cc
truncated reasons.HalfFrame e = absurd cc
truncated (reasons.WaveletRefused index) e = absurd cc
truncated reasons.DepthRefused e = absurd cc
truncated reasons.SlicesRefused e = absurd cc
truncated reasons.ShareRefused e = absurd cc
truncated reasons.DefaultMatrix e = absurd cc
truncated reasons.LumaLengthTooLong e = absurd cc
truncated reasons.CoefficientTooLarge e = absurd cc
truncated reasons.StreamTooLong e = absurd cc
truncated reasons.SampleTooLarge e = absurd cc
truncated reasons.RawTruncated e = absurd cc

-- and one that isn't
pub not_truncated : (r : Reason) → is_truncated r ≡ false → r ≢ reasons.Truncated
not_truncated r e same = let both : true ≡ false = sym (ap is_truncated same) ∙ e in cc

pub other_reason : (r : Reason) → r ≢ reasons.Truncated → is_truncated r ≡ false
other_reason r other = by (is_truncated r) refl
  where
    by : (cut : Bool) → is_truncated r ≡ cut → is_truncated r ≡ false
    by true e = absurd (other (truncated r e))
    by false e = e
