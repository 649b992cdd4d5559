use Rattle.std.proofs.Common.{◌≡◌, ◌∙◌, ℕ, ◌+◌, ◌<◌, length, min, ap, sym, arith, ℤ, pos, ◌+ℤ◌}
use Rattle.planes.specs.Valued.{valued}
use Rattle.slice_encoder.specs.Looks.{passes, above}
use Rattle.slice_encoder.proofs.PlaceLooks.{read_is, next_above, next_last, next_most, last_most}
use Rattle.slice_encoder.proofs.looks.look_four.Goals as goal

pub loop-k-init : goal.loop-k-init
loop-k-init g c =
    let none : min 0 g.T.Magnitude.greatest ≡ 0 = omega arith in
    let one : min 1 g.T.Magnitude.greatest ≡ 1 = omega (arith, g.met.T.Magnitude.one_law) in
    record {
      some = c.clipped-some.ensures ∙ ap pos none;
      more = c.clipped-more.ensures ∙ ap pos none;
      last = c.clipped-last.ensures ∙ ap pos none;
      number = c.clipped-number.ensures ∙ ap pos one;
      some_most = omega arith;
      second_most = omega arith;
      third_most = omega arith;
      fourth_most = omega arith;
      last_most = omega arith;
    }

pub loop-k-preserved : goal.loop-k-preserved
loop-k-preserved g c =
    let a = c.args in
    let l = c.loop-k in
    let k : ℕ = l.k in
    let i = l.invariant in
    let value = g.T.Number.value in
    let none = g.T.Number.none in
    let lt : k < length a.sizes.now = omega (arith, c.loop-k-test.true, l.auto.k-end) in
    let sizes = valued value none a.sizes.now in
    let size : ℤ = value c.index-sizes-k.result in
    let size_is : size ≡ sizes k = read_is value none a.sizes.now k c.index-sizes-k.result c.index-sizes-k.is lt in
    let first_is = read_is value none a.first.now k c.index-first-k.result c.index-first-k.is (omega (arith, lt, c.requires.first)) in
    let again_is = read_is value none a.first.now k c.index-first-k-in-loop-k.result c.index-first-k-in-loop-k.is (omega (arith, lt, c.requires.first)) in
    let second_is = read_is value none a.second.now k c.index-second-k.result c.index-second-k.is (omega (arith, lt, c.requires.second)) in
    let third_is = read_is value none a.third.now k c.index-third-k.result c.index-third-k.is (omega (arith, lt, c.requires.third)) in
    let fourth_is = read_is value none a.fourth.now k c.index-fourth-k.result c.index-fourth-k.is (omega (arith, lt, c.requires.fourth)) in
    let p : ℕ = passes (value c.index-second-k.result) size in
    let q : ℕ = passes (value c.index-third-k.result) size in
    let r : ℕ = passes (value c.index-fourth-k.result) size in
    let first_next = next_above (valued value none a.first.now) sizes k (value c.index-first-k.result) size first_is size_is in
    let second_next = next_above (valued value none a.second.now) sizes k (value c.index-second-k.result) size second_is size_is in
    let third_next = next_above (valued value none a.third.now) sizes k (value c.index-third-k.result) size third_is size_is in
    let fourth_next = next_above (valued value none a.fourth.now) sizes k (value c.index-fourth-k.result) size fourth_is size_is in
    let whole : above (valued value none a.second.now) sizes k + above (valued value none a.third.now) sizes k + above (valued value none a.fourth.now) sizes k + p + q + r
    ≡ above (valued value none a.second.now) sizes (k + 1) + above (valued value none a.third.now) sizes (k + 1) + above (valued value none a.fourth.now) sizes (k + 1) =
    omega (arith, second_next, third_next, fourth_next) in
    record {
      some = c.counted-some.ensures ∙ ap (λ (z : ℤ). z +ℤ pos (passes (value c.index-first-k.result) size)) i.some ∙ ap pos (sym first_next);
      more =
          c.counted-more-in-loop-k-2.ensures
          ∙ ap (λ (z : ℤ). z +ℤ pos r) (c.counted-more-in-loop-k.ensures ∙ ap (λ (z : ℤ). z +ℤ pos q) (c.counted-more.ensures ∙ ap (λ (z : ℤ). z +ℤ pos p) i.more))
          ∙ ap pos whole;
      last = next_last (valued value none a.first.now) sizes k (value c.index-first-k-in-loop-k.result) size again_is size_is (value l.number) (value l.last) (value c.later-last.result) c.later-last.ensures i.number i.last;
      number = c.next-number.ensures ∙ ap (λ (z : ℤ). z +ℤ pos 1) i.number;
      some_most = next_most (valued value none a.first.now) sizes k (value c.index-first-k.result) size first_is size_is i.some_most;
      second_most = next_most (valued value none a.second.now) sizes k (value c.index-second-k.result) size second_is size_is i.second_most;
      third_most = next_most (valued value none a.third.now) sizes k (value c.index-third-k.result) size third_is size_is i.third_most;
      fourth_most = next_most (valued value none a.fourth.now) sizes k (value c.index-fourth-k.result) size fourth_is size_is i.fourth_most;
      last_most = last_most (valued value none a.first.now) sizes (k + 1);
    }
