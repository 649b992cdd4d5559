use Rattle.std.proofs.Common.{◌≡◌, ◌∙◌, ℕ, ◌+◌, ◌-◌, ◌*◌, ◌^◌, ◌<◌, Bool, List, ◌++◌, append_assoc, sym, ap, subst, arith, pos, to_z, w64}
use Rattle.std.specs.Prelude.{unsigned_abs}
use Rattle.bit_codes.specs.Bits.{digits_below}
use Rattle.bit_codes.specs.Codes.{code_of, signed_code_of}
use Rattle.slice_encoder.proofs.BlockTexts.{told}
use Rattle.slice_encoder.proofs.CodeTexts.{few_digits, one_digit, digit_fits, split_code}
use Rattle.slice_encoder.proofs.code_texts.split_text.Goals as goal

pub spread-requires-clause-few : goal.spread-requires-clause-few
spread-requires-clause-few c =
    let few = few_digits c.ilog2-digits.result 36 (c.unsigned_abs-number.result + 1) c.ilog2-digits.ensures.power_le (omega (arith, c.requires, c.unsigned_abs-number.ensures.value, ap unsigned_abs (told c.args.v c.requires))) in
    omega (arith, few, c.min-low.ensures)

pub returns-then-v-eq0-clause-front : goal.returns-then-v-eq0-clause-front
returns-then-v-eq0-clause-front c =
    let few = few_digits c.ilog2-digits.result 36 (c.unsigned_abs-number.result + 1) c.ilog2-digits.ensures.power_le (omega (arith, c.requires, c.unsigned_abs-number.ensures.value, ap unsigned_abs (told c.args.v c.requires))) in
    omega (arith, few, c.min-low.ensures)

pub returns-clause-front : goal.returns-clause-front
returns-clause-front c =
    let few = few_digits c.ilog2-digits.result 36 (c.unsigned_abs-number.result + 1) c.ilog2-digits.ensures.power_le (omega (arith, c.requires, c.unsigned_abs-number.ensures.value, ap unsigned_abs (told c.args.v c.requires))) in
    omega (arith, few, c.min-low.ensures)

pub returns-then-v-eq0-clause-one : goal.returns-then-v-eq0-clause-one
returns-then-v-eq0-clause-one c = λ small.
    let few = few_digits c.ilog2-digits.result 11 (c.unsigned_abs-number.result + 1) c.ilog2-digits.ensures.power_le (omega (arith, small, c.unsigned_abs-number.ensures.value, ap unsigned_abs (told c.args.v c.requires))) in
    omega (arith, few, c.min-low.ensures)

pub returns-clause-one : goal.returns-clause-one
returns-clause-one c = λ small.
    let few = few_digits c.ilog2-digits.result 11 (c.unsigned_abs-number.result + 1) c.ilog2-digits.ensures.power_le (omega (arith, small, c.unsigned_abs-number.ensures.value, ap unsigned_abs (told c.args.v c.requires))) in
    omega (arith, few, c.min-low.ensures)

pub returns-then-v-eq0-clause-short : goal.returns-then-v-eq0-clause-short
returns-then-v-eq0-clause-short c = λ small.
    let few = few_digits c.ilog2-digits.result 5 (c.unsigned_abs-number.result + 1) c.ilog2-digits.ensures.power_le (omega (arith, small, c.unsigned_abs-number.ensures.value, ap unsigned_abs (told c.args.v c.requires))) in
    omega (arith, few, c.min-low.ensures)

pub returns-clause-short : goal.returns-clause-short
returns-clause-short c = λ small.
    let few = few_digits c.ilog2-digits.result 5 (c.unsigned_abs-number.result + 1) c.ilog2-digits.ensures.power_le (omega (arith, small, c.unsigned_abs-number.ensures.value, ap unsigned_abs (told c.args.v c.requires))) in
    omega (arith, few, c.min-low.ensures)

pub returns-then-v-eq0-clause-code : goal.returns-then-v-eq0-clause-code
returns-then-v-eq0-clause-code c =
    let v = c.args.v in
    let n = c.unsigned_abs-number.result in
    let k = c.ilog2-digits.result in
    let low = c.min-low.result in
    let few = few_digits k 36 (n + 1) c.ilog2-digits.ensures.power_le (omega (arith, c.requires, c.unsigned_abs-number.ensures.value, ap unsigned_abs (told c.args.v c.requires))) in
    let zero : v ≡ pos 0 = sym (told v c.requires) ∙ ap (to_z w64) c.if-v-eq0.true in
    let none : n ≡ 0 = c.unsigned_abs-number.ensures.value ∙ ap unsigned_abs (told v c.requires) ∙ ap unsigned_abs zero in
    let whole : low - 0 ≡ low = omega arith in
    record {
      text = split_code n k low c.spread.result c.spread-2.result (omega (arith, few)) c.ilog2-digits.ensures.power_le c.ilog2-digits.ensures.next_power_gt c.spread.ensures.text c.spread-2.ensures.text ∙ ap code_of none ∙ ap signed_code_of (sym zero);
      front = c.spread.ensures.small;
      back = digit_fits c.spread-2.result (2 * low) 1 (subst (λ (j : ℕ). c.spread-2.result < 2 ^ (2 * j)) whole c.spread-2.ensures.small) (omega arith);
    }

pub returns-clause-code : goal.returns-clause-code
returns-clause-code c =
    let v = c.args.v in
    let n = c.unsigned_abs-number.result in
    let k = c.ilog2-digits.result in
    let low = c.min-low.result in
    let few = few_digits k 36 (n + 1) c.ilog2-digits.ensures.power_le (omega (arith, c.requires, c.unsigned_abs-number.ensures.value, ap unsigned_abs (told c.args.v c.requires))) in
    let whole : low - 0 ≡ low = omega arith in
    let f = digits_below (2 * (k - low)) c.spread.result in
    let b : ℕ = 2 * c.spread-2.result + 1 in
    let s = c.sign_digit.result in
    let small : b < 2 ^ (2 * low + 1) = digit_fits c.spread-2.result (2 * low) 1 (subst (λ (j : ℕ). c.spread-2.result < 2 ^ (2 * j)) whole c.spread-2.ensures.small) (omega arith) in
    record {
      text =
          ap (λ (t : List Bool). f ++ t) (one_digit b (2 * low + 1) s c.sign_digit.ensures.small)
          ∙ sym (append_assoc f (digits_below (2 * low + 1) b) (digits_below 1 s))
          ∙ ap (λ (t : List Bool). t ++ digits_below 1 s)
          (split_code n k low c.spread.result c.spread-2.result (omega (arith, few)) c.ilog2-digits.ensures.power_le c.ilog2-digits.ensures.next_power_gt c.spread.ensures.text c.spread-2.ensures.text ∙ ap code_of c.unsigned_abs-number.ensures.value)
          ∙ c.sign_digit.ensures.digit
          ∙ ap signed_code_of (told v c.requires);
      front = c.spread.ensures.small;
      back = digit_fits b (2 * low + 1) s small c.sign_digit.ensures.small;
    }
