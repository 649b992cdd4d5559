use Rattle.std.proofs.Common.{◌≡◌, ◌∙◌, ℕ, ◌+◌, ◌*◌, ◌^◌, ◌<◌, ◌≤◌, min, length, get_or, ap, arith, ℤ, pos}
use Rattle.std.specs.Prelude.{unsigned_abs}
use Rattle.std.proofs.lemmas.List.{length-set}
use Rattle.std.proofs.lemmas.List.Elements.{All-get_or}
use Rattle.planes.specs.Numbers.{Within}
use Rattle.slice_encoder.proofs.Near.{fits_narrow, within_abs}
use Rattle.slice_encoder.proofs.SizeLists.{two_more, pairs_put, pairs_kept}
use Rattle.slice_encoder.proofs.sizes.put_pairs.Goals as goal

pub loop-place-preserved : goal.loop-place-preserved
loop-place-preserved g c =
    let a = c.args in
    let l = c.loop-place in
    let i = l.invariant in
    let k : ℕ = l.place in
    let one : ℤ = get_or a.first.now k (pos 0) in
    let two : ℤ = get_or a.second.now k (pos 0) in
    let top : ℕ = c.max-top.result in
    let greatest = g.T.Magnitude.greatest in
    let one_near : Within (2 ^ 27) one = All-get_or (Within (2 ^ 27)) a.first.now k (pos 0) (omega arith) c.requires.first_small in
    let two_near : Within (2 ^ 27) two = All-get_or (Within (2 ^ 27)) a.second.now k (pos 0) (omega (arith, c.requires.same)) c.requires.second_small in
    let one_is : c.unsigned_abs-one.result ≡ unsigned_abs one = c.unsigned_abs-one.ensures.value ∙ ap unsigned_abs (fits_narrow one one_near) in
    let two_is : c.unsigned_abs-two.result ≡ unsigned_abs two = c.unsigned_abs-two.ensures.value ∙ ap unsigned_abs (fits_narrow two two_near) in
    let room : 2 * k + 1 < length l.out = omega (arith, i.same_length, c.requires.room) in
    let one_few : c.unsigned_abs-one.result ≤ 2 ^ 27 = omega (arith, one_is, within_abs (2 ^ 27) one one_near) in
    let two_few : c.unsigned_abs-two.result ≤ 2 ^ 27 = omega (arith, two_is, within_abs (2 ^ 27) two two_near) in
    record {
      same_length = length-set _ (2 * k + 1) _ ∙ length-set l.out (2 * k) _ ∙ i.same_length;
      sizes = pairs_put g.T.Number.value g.T.Number.none greatest a.first.now a.second.now l.out k c.clipped.result c.clipped-in-loop-place.result room
          (c.clipped.ensures ∙ ap (λ (n : ℕ). pos (min n greatest)) one_is) (c.clipped-in-loop-place.ensures ∙ ap (λ (n : ℕ). pos (min n greatest)) two_is) i.sizes;
      rest = λ p le. pairs_kept g.T.Number.value g.T.Number.none l.out k c.clipped.result c.clipped-in-loop-place.result p (omega (arith, le)) ∙ i.rest p (omega (arith, le));
      most = two_more a.first.now a.second.now k (λ p z. unsigned_abs z ≤ top) (λ p lt. omega (arith, i.most p lt, c.max-top.ensures)) (omega (arith, one_is, c.max-top.ensures, c.max.ensures)) (omega (arith, two_is, c.max-top.ensures, c.max.ensures));
      few = omega (arith, c.max-top.ensures, c.max.ensures, one_few, two_few, i.few);
    }
