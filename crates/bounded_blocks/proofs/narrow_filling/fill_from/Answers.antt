use Rattle.std.proofs.Common.{◌≡◌, ℕ, ◌<◌, ◌≤◌, length, map, take, List, Bool, ℤ, refl, sym, ap, subst, ◌∙◌, arith}
use Rattle.std.proofs.lemmas.List.{length-set, take-take}
use Rattle.std.specs.Int.RustNames.{unsigned_abs}
use Rattle.bounded_blocks.specs.Reading.{value_at, values}
use Rattle.bounded_blocks.specs.Parts.{block_of, AreWithin, ReadsValues}
use Rattle.bounded_blocks.specs.Windows.{HoldsRead}
use Rattle.bounded_blocks.proofs.ReadLemmas.{all-take, one-above, values-take}
use Rattle.bounded_blocks.proofs.ReadSteps.{single-held, before-single, holds-from}
use Rattle.bounded_blocks.proofs.narrow_filling.fill_from.Goals as goal

pub returns-in_default-clause-within : goal.returns-in_default-clause-within
returns-in_default-clause-within g c =
    let most : ℕ = g.T.Held.most in
    let l = c.loop-done in
    let bytes = c.args.bytes.now in
    let end = c.args.end in
    let four = c.look_four-now in
    let out : List ℤ = map g.T.Held.value four.new.out in
    let stays : four.result.1 ≡ l.done = omega (arith, c.if-now-done.false) in
    let here = holds-from most bytes c.args.start end l.done (map g.T.Held.value l.out) l.window c.showing-here.result c.showing-here.ensures.at c.showing-here.ensures.same l.invariant.holds in
    let held : HoldsRead most bytes c.args.start end l.done out four.result.0 = subst
    (λ (n : ℕ). HoldsRead most bytes c.args.start end n out four.result.0) stays (four.ensures.holds bytes c.args.start end here) in
    let mid = block_of bytes c.min.result end in
    let before = before-single bytes c.args.start end l.done four.result.0.place four.result.0.place c.min.result
    (take l.done out) c.min.ensures refl held.read in (
      λ e. absurd cc,
      λ all. absurd (one-above most l.done c.args.count (block_of bytes c.args.start end) mid
          (take l.done out) before c.loop-done-test.true c.in_default.ensures.none all),
    )

pub loop-done-preserved : goal.loop-done-preserved
loop-done-preserved g c =
    let most : ℕ = g.T.Held.most in
    let value = g.T.Held.value in
    let l = c.loop-done in
    let bytes = c.args.bytes.now in
    let end = c.args.end in
    let whole = block_of bytes c.args.start end in
    let four = c.look_four-now in
    let out : List ℤ = map value four.new.out in
    let stays : four.result.1 ≡ l.done = omega (arith, c.if-now-done.false) in
    let here = holds-from most bytes c.args.start end l.done (map value l.out) l.window c.showing-here.result c.showing-here.ensures.at c.showing-here.ensures.same l.invariant.holds in
    let held : HoldsRead most bytes c.args.start end l.done out four.result.0 = subst (λ (n : ℕ). HoldsRead most bytes c.args.start end n out four.result.0) stays
    (four.ensures.holds bytes c.args.start end here) in
    let mid = block_of bytes c.min.result end in
    let next = c.window_at-window-else-now-done in
    let is = c.in-Some.ensures.some in
    let room : l.done < length four.new.out =
    omega (arith, c.loop-done-test.true, l.invariant.length, four.ensures.length, c.requires.spare) in
    let before = before-single bytes c.args.start end l.done four.result.0.place four.result.0.place c.min.result
    (take l.done out) c.min.ensures refl held.read in
    let left : (value_at mid).1 ≡ block_of bytes next.result.place end = is.2 ∙ ap (λ (p : ℕ). block_of bytes p end) (sym next.ensures.place) in
    let more = single-held value most l.done whole mid (block_of bytes next.result.place end) four.new.out _ room g.met.T.Held.small_law before held.within is.0 is.1 left in
    record {
      inside = omega (arith, c.loop-done-test.true);
      length = length-set four.new.out l.done _ ∙ four.ensures.length ∙ l.invariant.length;
      holds = record {
        at = record {
          most = omega (arith, next.ensures.none);
          near = omega (arith, next.ensures.none, next.ensures.place, is.3);
          shows = λ i lt. absurd (omega (arith, lt, next.ensures.none));
        };
        read = more.0;
        within = more.1;
      };
    }

-- the first values of those that were read
first_read : (n k : ℕ) (block left : List Bool) (out : List ℤ) → n ≤ k → ReadsValues k block (take k out) left → take n out ≡ values n block
first_read n k block left out le r = sym (take-take n k out le) ∙ ap (take n) (sym r.same) ∙ values-take n k block le

pub returns-clause-within : goal.returns-clause-within
returns-clause-within g c =
    let most : ℕ = g.T.Held.most in
    let l = c.loop-done in
    let out : List ℤ = map g.T.Held.value l.out in
    let n = c.args.count in
    let block = block_of c.args.bytes.now c.args.start c.args.end in
    let le : n ≤ l.done = omega (arith, c.loop-done-test.false) in
    let first : AreWithin most (take n out) = subst (AreWithin most) (take-take n l.done out le)
    (all-take (λ z. unsigned_abs z ≤ most) n (take l.done out) l.invariant.holds.within) in
    (λ e. subst (AreWithin most) (first_read n l.done block _ out le l.invariant.holds.read) first, λ all. refl)

pub returns-clause-read : goal.returns-clause-read
returns-clause-read g c refl =
    first_read c.args.count c.loop-done.done (block_of c.args.bytes.now c.args.start c.args.end) _ (map g.T.Held.value c.loop-done.out)
    (omega (arith, c.loop-done-test.false)) c.loop-done.invariant.holds.read
