-- Indices in the parts of a header that pass.
use Rattle.std.proofs.Common.{◌≡◌, zero, suc, List, [], Result, Ok, refl, arith, None, ap}
use Rattle.field_rows.specs.Given.{Pass, Fail, checked}
use Rattle.field_rows.specs.Rows.{Value, Rows, number, flag, ◌>>=◌, if_set}
use Rattle.sequence_header.specs.declared.parts.HeaderReason.{HeaderReason}
use Rattle.sequence_header.specs.declared.parts.RateField.{RateField}
use Rattle.sequence_header.specs.declared.parts.RateField.TheVariants as rates
use Rattle.sequence_header.specs.declared.parts.AspectField.{AspectField}
use Rattle.sequence_header.specs.declared.parts.AspectField.TheVariants as aspects
use Rattle.sequence_header.specs.declared.parts.SignalField.{SignalField}
use Rattle.sequence_header.specs.declared.parts.SignalField.TheVariants as signals
use Rattle.sequence_header.specs.declared.parts.ColourField.{ColourField}
use Rattle.sequence_header.specs.declared.parts.ColourField.TheVariants as colours
use Rattle.sequence_header.specs.Header.{rate_rows, aspect_rows, signal_rows, colour_rows, flagged_index}
use Rattle.sequence_header.specs.HeaderFields.{rate_fields, aspect_fields, signal_fields, colour_fields}
use Rattle.sequence_header.specs.Checking.{HasRateIndex, HasAspectIndex, HasSignalIndex, HasColourIndex}
use Rattle.sequence_header.proofs.Failing.{rate_fail, signal_fail}

-- fields do not both pass and fail
pub not_both : {A : Type 0} (rows : Rows HeaderReason A) (vs : List Value) (a : A) (reason : HeaderReason) → Pass rows vs a → Fail rows vs reason → ⊥
not_both rows vs a reason p f = let e = p.passed [] in let g = f.failed [] in cc

pub rate_index : (r : RateField) → Pass rate_rows (rate_fields r) r → HasRateIndex r
rate_index (rates.Index zero) p = absurd (not_both rate_rows _ _ _ p (rate_fail 0 refl))
rate_index (rates.Index (suc n)) p = omega arith
rate_index (rates.Pair n d) p = tt

pub signal_index : (s : SignalField) → Pass signal_rows (signal_fields s) s → HasSignalIndex s
signal_index (signals.Index zero) p = absurd (not_both signal_rows _ _ _ p (signal_fail 0 refl))
signal_index (signals.Index (suc n)) p = omega arith
signal_index (signals.Custom s) p = tt

one_made : {X : Type 0} (x y : X) (r : Result X HeaderReason) → r ≡ Ok x → r ≡ Ok y → x ≡ y
one_made x y r e f = cc

-- the check makes a pair of an index of 0
aspect_zero : checked aspect_rows (aspect_fields (aspects.Index 0)) ≡ Ok (aspects.Pair 0 0, [])
unfolding aspect_rows flag number ◌>>=◌ checked
aspect_zero = refl

aspect_not_zero : Pass aspect_rows (aspect_fields (aspects.Index 0)) (aspects.Index 0) → ⊥
aspect_not_zero p =
    let both : (aspects.Pair 0 0, []) ≡ (aspects.Index 0, []) = one_made _ _ (checked aspect_rows (aspect_fields (aspects.Index 0))) aspect_zero (p.passed []) in
    let same : aspects.Pair 0 0 ≡ aspects.Index 0 = ap (λ (x : AspectField × List Value). x.0) both in
    absurd cc

pub aspect_index : (a : AspectField) → Pass aspect_rows (aspect_fields a) a → HasAspectIndex a
aspect_index aspects.Default p = tt
aspect_index (aspects.Index zero) p = absurd (aspect_not_zero p)
aspect_index (aspects.Index (suc n)) p = omega arith
aspect_index (aspects.Pair n d) p = tt

colour_zero : checked colour_rows (colour_fields (colours.Index 0)) ≡ Ok (colours.Custom None None None, [])
unfolding colour_rows flagged_index flag if_set number ◌>>=◌ checked
colour_zero = refl

colour_not_zero : Pass colour_rows (colour_fields (colours.Index 0)) (colours.Index 0) → ⊥
colour_not_zero p =
    let both : (colours.Custom None None None, []) ≡ (colours.Index 0, []) = one_made _ _ (checked colour_rows (colour_fields (colours.Index 0))) colour_zero (p.passed []) in
    let same : colours.Custom None None None ≡ colours.Index 0 = ap (λ (x : ColourField × List Value). x.0) both in
    absurd cc

pub colour_index : (a : ColourField) → Pass colour_rows (colour_fields a) a → HasColourIndex a
colour_index colours.Default p = tt
colour_index (colours.Index zero) p = absurd (colour_not_zero p)
colour_index (colours.Index (suc n)) p = omega arith
colour_index (colours.Custom p m t) q = tt
