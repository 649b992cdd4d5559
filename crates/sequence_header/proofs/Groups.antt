-- Groups of a header's parts that pass their rows, by plain facts on their numbers.
use Rattle.std.proofs.Common.{◌≡◌, ℕ, zero, suc, ◌-◌, ◌^◌, ◌<◌, ◌≤◌, true, false, eqb, List, [], ◌∷◌, ◌++◌, Option, Some, None, subst, arith}
use Rattle.std.proofs.lemmas.List.{append-nil}
use Rattle.std.proofs.lemmas.Bool.{ne_eqb}
use Rattle.field_rows.specs.Given.{Pass}
use Rattle.field_rows.specs.Rows.{Value, Number, done, ◌>>=◌, first_broken}
use Rattle.field_rows.proofs.Passing.{Pass-then, Pass-bind, Pass-done, Pass-number, Pass-within, Pass-flag, Pass-flag_set, Pass-number_under, Pass-if_set, Pass-if_not_set}
use Rattle.slice_geometry.specs.declared.Size.{Size}
use Rattle.sequence_header.specs.declared.parts.Version.{Version}
use Rattle.sequence_header.specs.declared.parts.CleanArea.{CleanArea}
use Rattle.sequence_header.specs.declared.parts.SignalRange.{SignalRange}
use Rattle.sequence_header.specs.declared.parts.RateField.TheVariants as rates
use Rattle.sequence_header.specs.declared.parts.AspectField.{AspectField}
use Rattle.sequence_header.specs.declared.parts.AspectField.TheVariants as aspects
use Rattle.sequence_header.specs.declared.parts.SignalField.TheVariants as signals
use Rattle.sequence_header.specs.declared.parts.ColourField.{ColourField}
use Rattle.sequence_header.specs.declared.parts.ColourField.TheVariants as colours
use Rattle.sequence_header.specs.Header.{version_rows, height_rules, size_rows, sampling_rules, sampling_rows, scan_rows, rate_rows, aspect_rows, clean_rows, excursion, signal_rows, flagged_index, colour_rows, coding_rules, coding_rows}
use Rattle.sequence_header.specs.Checking.{HasAspectIndex, HasColourIndex}
use Rattle.sequence_header.specs.HeaderFields.{version_fields, size_fields, sampling_fields, scan_fields, rate_fields, aspect_fields, clean_fields, signal_fields, index_fields, colour_fields, coding_fields}

pub version_pass : (v : Version) → 1 ≤ v.major → v.major ≤ 2 → Pass version_rows (version_fields v) v
unfolding version_rows
version_pass v low high =
    Pass-then _ _ _ _ _ _ (Pass-within 1 2 _ v.major low high) (Pass-then _ _ _ _ _ _ (Pass-number v.minor) (Pass-then _ _ _ _ _ _ (Pass-within 0 0 _ 0 (omega arith) (omega arith))
    (Pass-then _ _ _ _ _ _ (Pass-number v.level) (Pass-then _ _ _ _ _ _ (Pass-within 0 0 _ 0 (omega arith) (omega arith)) (Pass-done _)))))

pub size_pass : (size : Size) → 1 ≤ size.w → size.w ≤ 8192 → first_broken (height_rules size.w size.h) ≡ None → Pass size_rows (size_fields size) size
unfolding size_rows
size_pass size low high passed =
    Pass-then _ _ _ _ _ _ (Pass-flag_set _) (Pass-then _ _ _ _ _ _ (Pass-within 1 8192 _ size.w low high) (Pass-then _ _ _ _ _ _ (Pass-number_under (height_rules size.w) size.h passed) (Pass-done _)))

pub sampling_pass : (size : Size) (index : ℕ) → first_broken (sampling_rules size index) ≡ None → Pass (sampling_rows size) (sampling_fields index) index
unfolding sampling_rows
sampling_pass size index passed = Pass-then _ _ _ _ _ _ (Pass-flag_set _) (Pass-then _ _ _ _ _ _ (Pass-number_under (sampling_rules size) index passed) (Pass-done _))

pub scan_pass : (n : ℕ) → n ≤ 1 → Pass scan_rows (scan_fields (Some n)) (Some n)
unfolding scan_rows
scan_pass n high = Pass-then _ _ _ _ _ _ (Pass-flag true) (Pass-if_set _ (Number n ∷ []) n (Pass-within 0 1 _ n (omega arith) high))

pub scan_pass_none : Pass scan_rows (scan_fields None) None
unfolding scan_rows
scan_pass_none = Pass-then _ _ _ _ _ _ (Pass-flag false) (Pass-if_not_set _)

pub rate_pass_pair : (n d : ℕ) → 1 ≤ n → 1 ≤ d → n < 2 ^ 32 → d < 2 ^ 32 → Pass rate_rows (rate_fields (rates.Pair n d)) (rates.Pair n d)
unfolding rate_rows
rate_pass_pair n d some_n some_d fits_n fits_d =
    Pass-then _ _ _ _ _ _ (Pass-flag_set _) (Pass-then _ _ _ _ _ _ (Pass-within 0 8 _ 0 (omega arith) (omega arith))
    (Pass-then _ _ _ _ _ _ (Pass-within 1 (2 ^ 32 - 1) _ n some_n (omega arith)) (Pass-then _ _ _ _ _ _ (Pass-within 1 (2 ^ 32 - 1) _ d some_d (omega arith)) (Pass-done _))))

pub rate_pass : (n : ℕ) → 1 ≤ n → n ≤ 8 → Pass rate_rows (rate_fields (rates.Index n)) (rates.Index n)
unfolding rate_rows
rate_pass zero some high = absurd (omega arith)
rate_pass (suc n) some high =
    let other : eqb (suc n) 0 ≡ false = ne_eqb (suc n) 0 (λ q. omega arith) in
    Pass-then _ _ _ _ _ _ (Pass-flag_set _) (Pass-then _ _ _ _ _ _ (Pass-within 0 8 _ (suc n) (omega arith) high) (rw other (Pass-done _)))

pub aspect_pass_none : Pass aspect_rows (aspect_fields aspects.Default) aspects.Default
unfolding aspect_rows
aspect_pass_none = Pass-then _ _ _ _ _ _ (Pass-flag false) (Pass-done _)

pub aspect_pass_pair : (n d : ℕ) → Pass aspect_rows (aspect_fields (aspects.Pair n d)) (aspects.Pair n d)
unfolding aspect_rows
aspect_pass_pair n d = Pass-then _ _ _ _ _ _ (Pass-flag true) (Pass-then _ _ _ _ _ _ (Pass-number 0) (Pass-then _ _ _ _ _ _ (Pass-number n) (Pass-then _ _ _ _ _ _ (Pass-number d) (Pass-done _))))

pub aspect_pass : (n : ℕ) → 1 ≤ n → Pass aspect_rows (aspect_fields (aspects.Index n)) (aspects.Index n)
unfolding aspect_rows
aspect_pass n some =
    let other : eqb n 0 ≡ false = ne_eqb n 0 (λ q. omega arith) in
    Pass-then _ _ _ _ _ _ (Pass-flag true) (Pass-then _ _ _ _ _ _ (Pass-number n) (rw other (Pass-done _)))

pub clean_pass_none : Pass clean_rows (clean_fields None) None
unfolding clean_rows
clean_pass_none = Pass-then _ _ _ _ _ _ (Pass-flag false) (Pass-if_not_set _)

pub clean_pass : (a : CleanArea) → Pass clean_rows (clean_fields (Some a)) (Some a)
unfolding clean_rows
clean_pass a = Pass-then _ _ _ _ _ _ (Pass-flag true) (Pass-if_set _ (Number a.width ∷ Number a.height ∷ Number a.left ∷ Number a.top ∷ []) a
    (Pass-then _ _ _ _ _ _ (Pass-number a.width) (Pass-then _ _ _ _ _ _ (Pass-number a.height) (Pass-then _ _ _ _ _ _ (Pass-number a.left) (Pass-then _ _ _ _ _ _ (Pass-number a.top) (Pass-done _))))))

pub signal_pass : (n : ℕ) → 1 ≤ n → n ≤ 4 → Pass signal_rows (signal_fields (signals.Index n)) (signals.Index n)
unfolding signal_rows
signal_pass zero some high = absurd (omega arith)
signal_pass (suc n) some high =
    let other : eqb (suc n) 0 ≡ false = ne_eqb (suc n) 0 (λ q. omega arith) in
    Pass-then _ _ _ _ _ _ (Pass-flag_set _) (Pass-then _ _ _ _ _ _ (Pass-within 0 4 _ (suc n) (omega arith) high) (rw other (Pass-done _)))

pub signal_pass_custom : (s : SignalRange) → 1 ≤ s.luma_excursion → s.luma_excursion ≤ 65535 → 1 ≤ s.colour_excursion → s.colour_excursion ≤ 65535
    → Pass signal_rows (signal_fields (signals.Custom s)) (signals.Custom s)
unfolding signal_rows excursion
signal_pass_custom s l1 l2 c1 c2 =
    Pass-then _ _ _ _ _ _ (Pass-flag_set _) (Pass-then _ _ _ _ _ _ (Pass-within 0 4 _ 0 (omega arith) (omega arith))
    (Pass-then _ _ _ _ _ _ (Pass-number s.luma_offset) (Pass-then _ _ _ _ _ _ (Pass-within 1 65535 _ s.luma_excursion l1 l2)
    (Pass-then _ _ _ _ _ _ (Pass-number s.colour_offset) (Pass-then _ _ _ _ _ _ (Pass-within 1 65535 _ s.colour_excursion c1 c2) (Pass-done _))))))

pub index_pass_none : Pass flagged_index (index_fields None) None
unfolding flagged_index
index_pass_none = Pass-then _ _ _ _ _ _ (Pass-flag false) (Pass-if_not_set _)

pub index_pass : (n : ℕ) → Pass flagged_index (index_fields (Some n)) (Some n)
unfolding flagged_index
index_pass n = Pass-then _ _ _ _ _ _ (Pass-flag true) (Pass-if_set _ (Number n ∷ []) n (Pass-number n))

pub colour_pass_none : Pass colour_rows (colour_fields colours.Default) colours.Default
unfolding colour_rows
colour_pass_none = Pass-then _ _ _ _ _ _ (Pass-flag false) (Pass-done _)

pub colour_pass : (n : ℕ) → 1 ≤ n → Pass colour_rows (colour_fields (colours.Index n)) (colours.Index n)
unfolding colour_rows
colour_pass n some =
    let other : eqb n 0 ≡ false = ne_eqb n 0 (λ q. omega arith) in
    Pass-then _ _ _ _ _ _ (Pass-flag true) (Pass-then _ _ _ _ _ _ (Pass-number n) (rw other (Pass-done _)))

pub colour_pass_custom : (p m t : Option ℕ) → Pass flagged_index (index_fields p) p → Pass flagged_index (index_fields m) m → Pass flagged_index (index_fields t) t
    → Pass colour_rows (colour_fields (colours.Custom p m t)) (colours.Custom p m t)
unfolding colour_rows
colour_pass_custom p m t fp fm ft =
    Pass-then _ _ _ _ _ _ (Pass-flag true) (Pass-then _ _ _ _ _ _ (Pass-number 0)
    (Pass-bind flagged_index _ (index_fields p) (index_fields m ++ index_fields t) p _ fp (Pass-bind flagged_index _ (index_fields m) (index_fields t) m _ fm (last t ft))))
  where
    last : (t : Option ℕ) → Pass flagged_index (index_fields t) t → Pass (flagged_index >>= λ transfer. done (colours.Custom p m transfer)) (index_fields t) (colours.Custom p m t)
    last t ft = subst (λ (vs : List Value). Pass (flagged_index >>= λ transfer. done (colours.Custom p m transfer)) vs (colours.Custom p m t)) (append-nil (index_fields t)) (Pass-bind flagged_index _ (index_fields t) [] t _ ft (Pass-done _))

pub coding_pass : (size : Size) (sampling coding : ℕ) → first_broken (coding_rules size sampling coding) ≡ None → Pass (coding_rows size sampling) (coding_fields coding) coding
unfolding coding_rows
coding_pass size sampling coding passed = Pass-number_under (coding_rules size sampling) coding passed

pub ruleset scan_passes = (scan_pass, scan_pass_none)

pub ruleset rate_passes = (rate_pass, rate_pass_pair)

pub ruleset aspect_passes = (aspect_pass, aspect_pass_none, aspect_pass_pair)

pub ruleset clean_passes = (clean_pass, clean_pass_none)

pub ruleset signal_passes = (signal_pass, signal_pass_custom)

pub ruleset index_passes = (index_pass, index_pass_none)

pub ruleset colour_passes = (colour_pass, colour_pass_none, colour_pass_custom)

-- ---- the groups without rules

pub aspect_passing : (a : AspectField) → HasAspectIndex a → Pass aspect_rows (aspect_fields a) a
aspect_passing aspects.Default h = aspect_pass_none
aspect_passing (aspects.Index n) h = aspect_pass n h
aspect_passing (aspects.Pair n d) h = aspect_pass_pair n d

pub clean_passing : (a : Option CleanArea) → Pass clean_rows (clean_fields a) a
clean_passing None = clean_pass_none
clean_passing (Some a) = clean_pass a

pub index_passing : (n : Option ℕ) → Pass flagged_index (index_fields n) n
index_passing None = index_pass_none
index_passing (Some n) = index_pass n

pub colour_passing : (a : ColourField) → HasColourIndex a → Pass colour_rows (colour_fields a) a
colour_passing colours.Default h = colour_pass_none
colour_passing (colours.Index n) h = colour_pass n h
colour_passing (colours.Custom p m t) h = colour_pass_custom p m t (index_passing p) (index_passing m) (index_passing t)
