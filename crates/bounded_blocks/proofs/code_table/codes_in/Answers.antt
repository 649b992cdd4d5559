use Rattle.std.proofs.Common.{◌≡◌, ℕ, ◌-◌, w8, ◌++◌, take, to_z, of_z, sym, ap, subst, ◌∙◌, arith}
use Rattle.std.specs.Int.RustNames.{unsigned_abs}
use Rattle.std.proofs.lemmas.Int.{to_z-of_z, fits_signed_from_abs}
use Rattle.std.proofs.lemmas.List.{length-set}
use Rattle.bit_codes.specs.Bits.{digits_below}
use Rattle.bounded_blocks.specs.Parts.{ReadsValues}
use Rattle.bit_codes.proofs.CodeOf.{length-digits_below}
use Rattle.bounded_blocks.specs.ShortCodes.{BeginsBits}
use Rattle.bounded_blocks.proofs.TableCodes.{codes-begin, low_set, one_code_more}
use Rattle.bounded_blocks.proofs.code_table.codes_in.Goals as goal

pub returns-then-code-eq0 : goal.returns-then-code-eq0
returns-then-code-eq0 c = let l = c.loop-i in codes-begin l.codes 12 c.args.word (omega (arith, l.invariant.count)) l.invariant.few l.invariant.low
    (λ rest. subst (λ (n : ℕ). ReadsValues n (digits_below 12 c.args.word ++ rest) (take n l.codes.values) (digits_below (12 - l.codes.length) c.args.word ++ rest)) (sym l.invariant.count) (l.invariant.read rest))

pub overflow_add-codes-in-loop-i : goal.overflow_add-codes-in-loop-i
overflow_add-codes-in-loop-i c =
    let l = c.loop-i in
    let q = c.code_in-code.ensures.begins c.if-code-eq0.false in
    omega (arith, q.0, length-digits_below (12 - c.from.result) c.args.word, c.from.ensures, l.invariant.few)

pub loop-i-preserved : goal.loop-i-preserved
loop-i-preserved c =
    let l = c.loop-i in
    let code = c.code_in-code.result in
    let v = to_z w8 (of_z w8 code.value) in
    let kept : v ≡ code.value = to_z-of_z w8 code.value (fits_signed_from_abs w8 code.value (omega (arith, c.code_in-code.ensures.small))) in
    let begins : BeginsBits code (digits_below (12 - l.codes.length) c.args.word) =
    subst (λ (n : ℕ). BeginsBits code (digits_below (12 - n) c.args.word)) c.from.ensures c.code_in-code.ensures.begins in
    let more = one_code_more 12 l.i l.codes.length c.args.word l.codes.values code v (omega (arith, l.invariant.room, c.loop-i-test.true)) kept (omega (arith, c.code_in-code.ensures.small)) l.invariant.few
    begins c.if-code-eq0.false l.invariant.read in
    record {
      count = omega (arith, l.invariant.count);
      most = omega (arith, c.loop-i-test.true);
      room = length-set l.codes.values l.i v ∙ l.invariant.room;
      low = low_set l.codes.values l.i v l.invariant.low (omega (arith, ap unsigned_abs kept, c.code_in-code.ensures.small));
      few = more.0;
      read = more.1;
    }

pub returns : goal.returns
returns c = let l = c.loop-i in codes-begin l.codes 12 c.args.word (omega (arith, l.invariant.count)) l.invariant.few l.invariant.low
    (λ rest. subst (λ (n : ℕ). ReadsValues n (digits_below 12 c.args.word ++ rest) (take n l.codes.values) (digits_below (12 - l.codes.length) c.args.word ++ rest)) (sym l.invariant.count) (l.invariant.read rest))
