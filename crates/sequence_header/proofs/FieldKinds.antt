-- The fields of a header's groups are of their rows' kinds, where the numbers fit.
use Rattle.std.proofs.Common.{◌≡◌, ℕ, zero, suc, ◌^◌, ◌<◌, ◌≤◌, true, false, eqb, List, [], ◌∷◌, ◌++◌, Option, Some, None, refl, subst, arith}
use Rattle.std.proofs.lemmas.Bool.{ne_eqb}
use Rattle.std.proofs.lemmas.List.{append-nil}
use Rattle.field_rows.specs.Given.{AreOfKind}
use Rattle.field_rows.specs.Rows.{Value, Number, Flag, Rows, done, ◌>>=◌, number, within, number_under, flag, flag_set, if_set}
use Rattle.field_rows.proofs.Passing.{kinds-bind, Pass-flag, Pass-number}
use Rattle.sequence_header.specs.declared.parts.HeaderReason.{HeaderReason}
use Rattle.sequence_header.proofs.Groups.{index_passing}
use Rattle.slice_geometry.specs.declared.Size.{Size}
use Rattle.sequence_header.specs.declared.parts.Version.{Version}
use Rattle.sequence_header.specs.declared.parts.CleanArea.{CleanArea}
use Rattle.sequence_header.specs.declared.parts.SignalRange.{SignalRange}
use Rattle.sequence_header.specs.declared.parts.RateField.TheVariants as rates
use Rattle.sequence_header.specs.declared.parts.AspectField.TheVariants as aspects
use Rattle.sequence_header.specs.declared.parts.SignalField.TheVariants as signals
use Rattle.sequence_header.specs.declared.parts.ColourField.{ColourField}
use Rattle.sequence_header.specs.declared.parts.ColourField.TheVariants as colours
use Rattle.sequence_header.specs.Header.{version_rows, size_rows, sampling_rows, scan_rows, rate_rows, aspect_rows, clean_rows, excursion, signal_rows, flagged_index, colour_rows, coding_rows}
use Rattle.sequence_header.specs.HeaderFields.{version_fields, size_fields, sampling_fields, scan_fields, rate_fields, aspect_fields, clean_fields, signal_fields, index_fields, colour_fields, coding_fields}

pub version_kinds : (v : Version) → v.major < 2 ^ 32 → v.minor < 2 ^ 32 → v.level < 2 ^ 32 → AreOfKind version_rows (version_fields v)
unfolding version_rows within number_under number ◌>>=◌
version_kinds v a b c = (a, (b, (omega arith, (c, (omega arith, refl)))))

pub size_kinds : (size : Size) → size.w < 2 ^ 32 → size.h < 2 ^ 32 → AreOfKind size_rows (size_fields size)
unfolding size_rows within number_under flag_set ◌>>=◌
size_kinds size w h = (tt, (w, (h, refl)))

pub sampling_kinds : (size : Size) (index : ℕ) → index < 2 ^ 32 → AreOfKind (sampling_rows size) (sampling_fields index)
unfolding sampling_rows number_under flag_set ◌>>=◌
sampling_kinds size index h = (tt, (h, refl))

pub scan_kinds_none : AreOfKind scan_rows (scan_fields None)
unfolding scan_rows within flag if_set ◌>>=◌
scan_kinds_none = (tt, refl)

pub scan_kinds : (n : ℕ) → n < 2 ^ 32 → AreOfKind scan_rows (scan_fields (Some n))
unfolding scan_rows within flag if_set ◌>>=◌
scan_kinds n h = (tt, (h, refl))

pub rate_kinds_pair : (n d : ℕ) → n < 2 ^ 32 → d < 2 ^ 32 → AreOfKind rate_rows (rate_fields (rates.Pair n d))
unfolding rate_rows within flag_set ◌>>=◌
rate_kinds_pair n d h k = (tt, (omega arith, (h, (k, refl))))

pub rate_kinds : (n : ℕ) → 1 ≤ n → n < 2 ^ 32 → AreOfKind rate_rows (rate_fields (rates.Index n))
unfolding rate_rows within flag_set ◌>>=◌
rate_kinds zero some h = absurd (omega arith)
rate_kinds (suc n) some h = let other : eqb (suc n) 0 ≡ false = ne_eqb (suc n) 0 (λ q. omega arith) in (tt, (h, rw other refl))

pub aspect_kinds_none : AreOfKind aspect_rows (aspect_fields aspects.Default)
unfolding aspect_rows flag number ◌>>=◌
aspect_kinds_none = (tt, refl)

pub aspect_kinds_pair : (n d : ℕ) → n < 2 ^ 32 → d < 2 ^ 32 → AreOfKind aspect_rows (aspect_fields (aspects.Pair n d))
unfolding aspect_rows flag number ◌>>=◌
aspect_kinds_pair n d h k = (tt, (omega arith, (h, (k, refl))))

pub aspect_kinds : (n : ℕ) → 1 ≤ n → n < 2 ^ 32 → AreOfKind aspect_rows (aspect_fields (aspects.Index n))
unfolding aspect_rows flag number ◌>>=◌
aspect_kinds n some h = let other : eqb n 0 ≡ false = ne_eqb n 0 (λ q. omega arith) in (tt, (h, rw other refl))

pub clean_kinds_none : AreOfKind clean_rows (clean_fields None)
unfolding clean_rows flag if_set number ◌>>=◌
clean_kinds_none = (tt, refl)

pub clean_kinds : (a : CleanArea) → a.width < 2 ^ 32 → a.height < 2 ^ 32 → a.left < 2 ^ 32 → a.top < 2 ^ 32 → AreOfKind clean_rows (clean_fields (Some a))
unfolding clean_rows flag if_set number ◌>>=◌
clean_kinds a w h l t = (tt, (w, (h, (l, (t, refl)))))

pub signal_kinds : (n : ℕ) → 1 ≤ n → n < 2 ^ 32 → AreOfKind signal_rows (signal_fields (signals.Index n))
unfolding signal_rows excursion within flag_set number ◌>>=◌
signal_kinds zero some h = absurd (omega arith)
signal_kinds (suc n) some h = let other : eqb (suc n) 0 ≡ false = ne_eqb (suc n) 0 (λ q. omega arith) in (tt, (h, rw other refl))

pub signal_kinds_custom : (s : SignalRange) → s.luma_offset < 2 ^ 32 → s.luma_excursion < 2 ^ 32 → s.colour_offset < 2 ^ 32 → s.colour_excursion < 2 ^ 32 → AreOfKind signal_rows (signal_fields (signals.Custom s))
unfolding signal_rows excursion within flag_set number ◌>>=◌
signal_kinds_custom s a b c d = (tt, (omega arith, (a, (b, (c, (d, refl))))))

pub index_kinds_none : AreOfKind flagged_index (index_fields None)
unfolding flagged_index flag if_set number ◌>>=◌
index_kinds_none = (tt, refl)

pub index_kinds : (n : ℕ) → n < 2 ^ 32 → AreOfKind flagged_index (index_fields (Some n))
unfolding flagged_index flag if_set number ◌>>=◌
index_kinds n h = (tt, (h, refl))

pub colour_kinds_none : AreOfKind colour_rows (colour_fields colours.Default)
unfolding colour_rows flag number ◌>>=◌
colour_kinds_none = (tt, refl)

pub colour_kinds : (n : ℕ) → 1 ≤ n → n < 2 ^ 32 → AreOfKind colour_rows (colour_fields (colours.Index n))
unfolding colour_rows flag number ◌>>=◌
colour_kinds n some h = let other : eqb n 0 ≡ false = ne_eqb n 0 (λ q. omega arith) in (tt, (h, rw other refl))

abbrev custom_rows : Rows HeaderReason ColourField
custom_rows = flagged_index >>= λ primaries. flagged_index >>= λ matrix. flagged_index >>= λ transfer. done (colours.Custom primaries matrix transfer)

custom_kinds : (p m t : Option ℕ) → AreOfKind flagged_index (index_fields p) → AreOfKind flagged_index (index_fields m) → AreOfKind flagged_index (index_fields t)
    → AreOfKind custom_rows (index_fields p ++ (index_fields m ++ index_fields t))
custom_kinds p m t kp km kt =
    kinds-bind flagged_index _ (index_fields p) (index_fields m ++ index_fields t) p (index_passing p) kp
    (kinds-bind flagged_index _ (index_fields m) (index_fields t) m (index_passing m) km
    (subst (λ (vs : List Value). AreOfKind (flagged_index >>= λ transfer. done (colours.Custom p m transfer)) vs) (append-nil (index_fields t)) (kinds-bind flagged_index _ (index_fields t) [] t (index_passing t) kt refl)))

flag_kind : AreOfKind {R = HeaderReason} flag (Flag true ∷ [])
unfolding flag
flag_kind = (tt, refl)

number_kind : AreOfKind {R = HeaderReason} number (Number 0 ∷ [])
unfolding number
number_kind = (omega arith, refl)

-- the flag and the index before them
two_fields : (vs : List Value) → AreOfKind custom_rows vs → AreOfKind colour_rows (Flag true ∷ Number 0 ∷ vs)
unfolding colour_rows
two_fields vs k = kinds-bind flag _ (Flag true ∷ []) (Number 0 ∷ vs) true (Pass-flag true) flag_kind (kinds-bind number _ (Number 0 ∷ []) vs 0 (Pass-number 0) number_kind k)

pub colour_kinds_custom : (p m t : Option ℕ) → AreOfKind flagged_index (index_fields p) → AreOfKind flagged_index (index_fields m) → AreOfKind flagged_index (index_fields t)
    → AreOfKind colour_rows (colour_fields (colours.Custom p m t))
colour_kinds_custom p m t kp km kt = two_fields (index_fields p ++ (index_fields m ++ index_fields t)) (custom_kinds p m t kp km kt)

pub coding_kinds : (size : Size) (sampling coding : ℕ) → coding < 2 ^ 32 → AreOfKind (coding_rows size sampling) (coding_fields coding)
unfolding coding_rows number_under
coding_kinds size sampling coding h = (h, refl)
