-- Groups of a header's parts that break a rule of their rows.
use Rattle.std.proofs.Common.{◌≡◌, ℕ, zero, suc, ◌-◌, ◌^◌, ◌<◌, ◌≤◌, true, false, List, [], ◌∷◌, Some, Result, Ok, Err, refl, sym, subst, ◌∙◌, inl, inr, arith}
use Rattle.std.specs.Prelude.{OnOk, IfErr}
use Rattle.sequence_header.specs.Checking.{Checks}
use Rattle.std.specs.Int.{is_in_range}
use Rattle.std.proofs.lemmas.Bool.{le-leb, cases_lt}
use Rattle.field_rows.specs.Given.{Pass, Fail}
use Rattle.field_rows.specs.Rows.{Value, Rows, ◌>>=◌, if_set, first_broken}
use Rattle.field_rows.proofs.Passing.{Pass-number, Pass-within, Pass-flag, Pass-flag_set, Fail-first, Fail-later, Fail-number_under, Fail-within, above_range}
use Rattle.slice_geometry.specs.declared.Size.{Size}
use Rattle.sequence_header.specs.declared.parts.HeaderReason.{HeaderReason}
use Rattle.sequence_header.specs.declared.parts.HeaderReason.TheVariants.{VersionRefused, SizeRefused, ScanUnknown, RateRefused, SignalRefused}
use Rattle.sequence_header.specs.declared.parts.Version.{Version}
use Rattle.sequence_header.specs.declared.parts.SignalRange.{SignalRange}
use Rattle.sequence_header.specs.declared.parts.RateField.TheVariants as rates
use Rattle.sequence_header.specs.declared.parts.SignalField.TheVariants as signals
use Rattle.sequence_header.specs.Header.{version_rows, height_rules, size_rows, sampling_rules, sampling_rows, scan_rows, rate_rows, excursion, signal_rows, coding_rules, coding_rows}
use Rattle.sequence_header.specs.HeaderFields.{version_fields, size_fields, sampling_fields, scan_fields, rate_fields, signal_fields, coding_fields}

-- a number from 1 on that is out of a range is above it
past : (high n : ℕ) → is_in_range 1 high (suc n) ≡ false → high < suc n
past high n e = elim (cases_lt high (suc n)) [ inl lt ↦ lt | inr le ↦ absurd (let inside : is_in_range 1 high (suc n) ≡ true = rw (le-leb 1 (suc n) (omega arith), le-leb (suc n) high le) refl in let both : true ≡ false = sym inside ∙ e in cc) ]

-- the first field fails, or the others do
first_fails : {R A B : Type 0} (rows : Rows R A) (next : A → Rows R B) (v : Value) (ws : List Value) (reason : R) → Fail rows (v ∷ []) reason → Fail (rows >>= next) (v ∷ ws) reason
first_fails rows next v ws reason f = Fail-first rows next (v ∷ []) ws reason f

later_fails : {R A B : Type 0} (rows : Rows R A) (next : A → Rows R B) (v : Value) (ws : List Value) (a : A) (reason : R) → Pass rows (v ∷ []) a → Fail (next a) ws reason → Fail (rows >>= next) (v ∷ ws) reason
later_fails rows next v ws a reason p f = Fail-later rows next (v ∷ []) ws a reason p f

pub version_fail : (v : Version) → is_in_range 1 2 v.major ≡ false → Fail version_rows (version_fields v) VersionRefused
unfolding version_rows
version_fail v e = first_fails _ _ _ _ _ (Fail-within 1 2 VersionRefused v.major e)

pub width_fail : (size : Size) → is_in_range 1 8192 size.w ≡ false → Fail size_rows (size_fields size) SizeRefused
unfolding size_rows
width_fail size e = later_fails _ _ _ _ _ _ (Pass-flag_set _) (first_fails _ _ _ _ _ (Fail-within 1 8192 SizeRefused size.w e))

pub height_fail : (size : Size) (reason : HeaderReason) → 1 ≤ size.w → size.w ≤ 8192 → first_broken (height_rules size.w size.h) ≡ Some reason → Fail size_rows (size_fields size) reason
unfolding size_rows
height_fail size reason low high e =
    later_fails _ _ _ _ _ _ (Pass-flag_set _) (later_fails _ _ _ _ _ _ (Pass-within 1 8192 _ size.w low high) (first_fails _ _ _ _ _ (Fail-number_under (height_rules size.w) size.h reason e)))

pub sampling_fail : (size : Size) (index : ℕ) (reason : HeaderReason) → first_broken (sampling_rules size index) ≡ Some reason → Fail (sampling_rows size) (sampling_fields index) reason
unfolding sampling_rows
sampling_fail size index reason e = later_fails _ _ _ _ _ _ (Pass-flag_set _) (first_fails _ _ _ _ _ (Fail-number_under (sampling_rules size) index reason e))

pub scan_fail : (n : ℕ) → is_in_range 0 1 n ≡ false → Fail scan_rows (scan_fields (Some n)) ScanUnknown
unfolding scan_rows if_set
scan_fail n e = later_fails _ _ _ _ _ _ (Pass-flag true) (first_fails _ _ _ _ _ (Fail-within 0 1 ScanUnknown n e))

pub rate_fail : (n : ℕ) → is_in_range 1 8 n ≡ false → Fail rate_rows (rate_fields (rates.Index n)) RateRefused
unfolding rate_rows
rate_fail zero e =
    later_fails _ _ _ _ _ _ (Pass-flag_set _) (later_fails _ _ _ _ _ _ (Pass-within 0 8 _ 0 (omega arith) (omega arith)) (first_fails _ _ _ _ _ (Fail-within 1 (2 ^ 32 - 1) RateRefused 0 refl)))
rate_fail (suc n) e =
    let above : 8 < suc n = past 8 n e in
    later_fails _ _ _ _ _ _ (Pass-flag_set _) (first_fails _ _ _ _ _ (Fail-within 0 8 RateRefused (suc n) (above_range 0 8 (suc n) above)))

pub numerator_fail : (n d : ℕ) → is_in_range 1 (2 ^ 32 - 1) n ≡ false → Fail rate_rows (rate_fields (rates.Pair n d)) RateRefused
unfolding rate_rows
numerator_fail n d e =
    later_fails _ _ _ _ _ _ (Pass-flag_set _) (later_fails _ _ _ _ _ _ (Pass-within 0 8 _ 0 (omega arith) (omega arith)) (first_fails _ _ _ _ _ (Fail-within 1 (2 ^ 32 - 1) RateRefused n e)))

pub denominator_fail : (n d : ℕ) → 1 ≤ n → n ≤ 2 ^ 32 - 1 → is_in_range 1 (2 ^ 32 - 1) d ≡ false → Fail rate_rows (rate_fields (rates.Pair n d)) RateRefused
unfolding rate_rows
denominator_fail n d low high e =
    later_fails _ _ _ _ _ _ (Pass-flag_set _) (later_fails _ _ _ _ _ _ (Pass-within 0 8 _ 0 (omega arith) (omega arith))
    (later_fails _ _ _ _ _ _ (Pass-within 1 (2 ^ 32 - 1) _ n low high) (first_fails _ _ _ _ _ (Fail-within 1 (2 ^ 32 - 1) RateRefused d e))))

pub signal_fail : (n : ℕ) → is_in_range 1 4 n ≡ false → Fail signal_rows (signal_fields (signals.Index n)) SignalRefused
unfolding signal_rows excursion
signal_fail zero e =
    later_fails _ _ _ _ _ _ (Pass-flag_set _) (later_fails _ _ _ _ _ _ (Pass-within 0 4 _ 0 (omega arith) (omega arith)) (later_fails _ _ _ _ _ _ (Pass-number 0) (first_fails _ _ _ _ _ (Fail-within 1 65535 SignalRefused 0 refl))))
signal_fail (suc n) e =
    let above : 4 < suc n = past 4 n e in
    later_fails _ _ _ _ _ _ (Pass-flag_set _) (first_fails _ _ _ _ _ (Fail-within 0 4 SignalRefused (suc n) (above_range 0 4 (suc n) above)))

pub luma_fail : (s : SignalRange) → is_in_range 1 65535 s.luma_excursion ≡ false → Fail signal_rows (signal_fields (signals.Custom s)) SignalRefused
unfolding signal_rows excursion
luma_fail s e =
    later_fails _ _ _ _ _ _ (Pass-flag_set _) (later_fails _ _ _ _ _ _ (Pass-within 0 4 _ 0 (omega arith) (omega arith)) (later_fails _ _ _ _ _ _ (Pass-number s.luma_offset) (first_fails _ _ _ _ _ (Fail-within 1 65535 SignalRefused s.luma_excursion e))))

pub colour_fail : (s : SignalRange) → 1 ≤ s.luma_excursion → s.luma_excursion ≤ 65535 → is_in_range 1 65535 s.colour_excursion ≡ false → Fail signal_rows (signal_fields (signals.Custom s)) SignalRefused
unfolding signal_rows excursion
colour_fail s low high e =
    later_fails _ _ _ _ _ _ (Pass-flag_set _) (later_fails _ _ _ _ _ _ (Pass-within 0 4 _ 0 (omega arith) (omega arith)) (later_fails _ _ _ _ _ _ (Pass-number s.luma_offset)
    (later_fails _ _ _ _ _ _ (Pass-within 1 65535 _ s.luma_excursion low high) (later_fails _ _ _ _ _ _ (Pass-number s.colour_offset) (first_fails _ _ _ _ _ (Fail-within 1 65535 SignalRefused s.colour_excursion e))))))

pub coding_fail : (size : Size) (sampling coding : ℕ) (reason : HeaderReason) → first_broken (coding_rules size sampling coding) ≡ Some reason → Fail (coding_rows size sampling) (coding_fields coding) reason
unfolding coding_rows
coding_fail size sampling coding reason e = Fail-number_under (coding_rules size sampling) coding reason e

-- ---- what a check of one number answers for its group

pub from_within : {A : Type 0} (rows : Rows HeaderReason A) (fields : List Value) (a : A) (low high v : ℕ) (reason : HeaderReason) (r : Result (Unit {0}) HeaderReason)
    → OnOk r ((low ≤ v) × (v ≤ high)) → IfErr r (λ e. (e ≡ reason) × (is_in_range low high v ≡ false))
    → (low ≤ v → v ≤ high → Pass rows fields a) → (is_in_range low high v ≡ false → Fail rows fields reason) → Checks r rows fields a
from_within rows fields a low high v reason (Ok x) ok err p f = p ok.0 ok.1
from_within rows fields a low high v reason (Err e) ok err p f = subst (λ (x : HeaderReason). Fail rows fields x) (sym err.0) (f err.1)
