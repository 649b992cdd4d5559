use Rattle.std.proofs.Common.{◌^◌, ◌<◌, get_or, ℤ, pos, unsigned_abs, w64, sym, ap, subst, ◌∙◌, arith}
use Rattle.std.proofs.lemmas.Int.{to_z-of_z, fits_signed_from_abs}
use Rattle.quant_factors.specs.Factors.{inverse_of}
use Rattle.slice_decoder.proofs.Dealt.{large_there, none_large}
use Rattle.slice_decoder.proofs.dealing.dequantise.Goals as goal

pub returns-in-TooLarge-clause-small : goal.returns-in-TooLarge-clause-small
returns-in-TooLarge-clause-small c =
    let here = c.loop-value.invariant.rest c.loop-value.value-index (omega arith) in
    let fits = fits_signed_from_abs w64 (get_or c.loop-value.values c.loop-value.value-index (pos 0)) (omega (arith, ap unsigned_abs here, c.requires.small c.loop-value.value-index)) in
    let P : ℤ → Type 0 = λ v. 2 ^ 36 < unsigned_abs (inverse_of v c.args.index) in
    sym (large_there c.args.values.now c.args.index c.loop-value.value-index (omega arith) (subst P (to_z-of_z w64 (get_or c.loop-value.values c.loop-value.value-index (pos 0)) fits ∙ here) c.in-TooLarge.ensures))

pub returns-clause-small : goal.returns-clause-small
returns-clause-small c = sym (none_large c.args.values.now c.args.index (λ k lt. c.loop-value.invariant.small k (omega arith)))
