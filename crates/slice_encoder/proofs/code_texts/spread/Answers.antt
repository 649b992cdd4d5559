use Rattle.std.proofs.Common.{◌≡◌, ◌∙◌, ℕ, ◌+◌, ◌-◌, ◌*◌, ◌/◌, ◌^◌, ◌<◌, bit_and, Bool, List, ◌++◌, refl, sym, ap, subst, arith}
use Rattle.bit_codes.specs.Bits.{bit, digits_below}
use Rattle.bit_codes.specs.Codes.{interleaved}
use Rattle.bounded_blocks.proofs.Put.{digit-more}
use Rattle.slice_encoder.proofs.CodeTexts.{text_small, more_fits, more_digits}
use Rattle.slice_encoder.proofs.code_texts.spread.Goals as goal

pub loop-left-init : goal.loop-left-init
loop-left-init c =
    let n = c.args.number in
    let k = c.args.from in
    let none : k - k ≡ 0 = omega arith in
    record {
      least = c.requires.order;
      most = omega arith;
      small = subst (λ (j : ℕ). 0 < 2 ^ (2 * j)) (sym none) (omega arith);
      so_far = ap (λ (j : ℕ). digits_below (2 * j) 0 ++ interleaved (digits_below k n)) none;
    }

pub overflow_mul-text : goal.overflow_mul-text
overflow_mul-text c =
    let l = c.loop-left in
    omega (arith, text_small l.text (2 * (c.args.from - l.left)) l.invariant.small (omega (arith, c.requires.few, l.invariant.least)))

pub overflow_add-text : goal.overflow_add-text
overflow_add-text c =
    let l = c.loop-left in
    let j : ℕ = c.args.from - l.left in
    omega (arith, text_small _ (2 * (j + 1)) (more_fits l.text j c.args.number (l.left - 1) l.invariant.small) (omega (arith, c.requires.few, l.invariant.least, l.invariant.most, c.loop-left-test.true)))

pub loop-left-preserved : goal.loop-left-preserved
loop-left-preserved c =
    let l = c.loop-left in
    let k = c.args.from in
    let n : ℕ = c.args.number in
    let j : ℕ = k - l.left in
    let front = digits_below (2 * j) l.text in
    let next : j + 1 ≡ k - (l.left - 1) = omega (arith, c.loop-left-test.true, l.invariant.most) in
    let more : ℕ = 4 * l.text + bit_and (n / 2 ^ (l.left - 1)) 1 in
    record {
      least = omega (arith, c.loop-left-test.true);
      most = omega (arith, l.invariant.most);
      small = subst (λ (i : ℕ). more < 2 ^ (2 * i)) next (more_fits l.text j n (l.left - 1) l.invariant.small);
      so_far =
          ap (λ (t : List Bool). t ++ interleaved (digits_below (l.left - 1) n)) (ap (λ (i : ℕ). digits_below (2 * i) more) (sym next) ∙ more_digits l.text j n (l.left - 1))
          ∙ digit-more l.left n front (interleaved (digits_below k n)) (bit n (l.left - 1)) (omega (arith, c.loop-left-test.true)) refl l.invariant.so_far;
    }

pub returns : goal.returns
returns c =
    let l = c.loop-left in
    let here : l.left ≡ c.args.to = omega (arith, c.loop-left-test.false, l.invariant.least) in
    record {
      text = subst (λ (i : ℕ). digits_below (2 * (c.args.from - i)) l.text ++ interleaved (digits_below i c.args.number) ≡ interleaved (digits_below c.args.from c.args.number)) here l.invariant.so_far;
      small = subst (λ (i : ℕ). l.text < 2 ^ (2 * (c.args.from - i))) here l.invariant.small;
    }
