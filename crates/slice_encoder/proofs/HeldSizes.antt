-- What a list of magnitudes holds after some were put at its front.
use Rattle.std.proofs.Common.{◌≡◌, ◌∙◌, ap, sym, subst, ℕ, ◌-◌, ◌*◌, ◌^◌, ◌<◌, ◌≤◌, min, Bool, true, List, ◌++◌, length, take, drop, get_or, arith, ℤ, pos}
use Rattle.std.specs.Prelude.{slice_index, unsigned_abs}
use Rattle.slice_encoder.specs.declared.limits.RowKey.{RowKey}
use Rattle.slice_encoder.specs.Gathering.{GatheredSeen, IsGatheredSound}
use Rattle.slice_encoder.specs.Limits.{AreSizesTo, IsCut}
use Rattle.slice_encoder.specs.Sizes.{HoldsSizes, shown}
use Rattle.slice_encoder.proofs.Gathers.{written_over}
use Rattle.slice_encoder.proofs.TakenSizes.{all_put, put_whole, top_put}

-- Magnitudes m, cut at g, stand at the front of a list, where they were put over an older one's.
pub record IsPut (end g : ℕ) (m : ℕ → ℕ) (old new : List ℤ) : Type 0 where
  pub count : length new ≡ length old
  pub all : AreSizesTo g old → AreSizesTo g new
  pub top : (top : ℕ) → top ≤ g → ((p : ℕ) → p < end → m p ≤ top) → AreSizesTo top (take end new)
  pub seen : (top : ℕ) → top ≤ g → ((p : ℕ) → p < end → m p ≤ top) → (p : ℕ) → p < end → unsigned_abs (get_or new p (pos 0)) ≡ m p

-- so they do in a vector that was lent
pub put_back : (n end g : ℕ) (m : ℕ → ℕ) (old lent out : List ℤ) → lent ≡ old → length out ≡ length lent → length lent ≡ n → ((p : ℕ) → p < end → get_or out p (pos 0) ≡ pos (min (m p) g)) → ((p : ℕ) → end ≤ p → get_or out p (pos 0) ≡ get_or lent p (pos 0))
    → IsPut end g m old (take n (out ++ drop (length out) old))
put_back n end g m old lent out is same count put rest =
    let whole : take n (out ++ drop (length out) old) ≡ out = written_over n out _ (omega (arith, same, count)) in
    let long : length out ≡ length old = same ∙ ap (λ (t : List ℤ). length t) is in
    subst (IsPut end g m old) (sym whole) (record {
      count = long;
      all = all_put end g m old out put (λ p le. rest p le ∙ ap (λ (t : List ℤ). get_or t p (pos 0)) is) long;
      top = λ top le most. top_put end g top m out put le most;
      seen = λ top le most. put_whole end g top m out put le most;
    })

-- The bands of what was gathered stand one behind the other, those of a list that takes each value once or twice too.
module _ (times : ℕ → ℕ) (rises : (a b : ℕ) → a ≤ b → times a ≤ times b) (none : times 0 ≡ 0) (d n : ℕ) (g : GatheredSeen) (sound : IsGatheredSound g) (depth : d ≡ g.depth) (ends : List ℕ)
    (lies : (k : ℕ) → k ≤ 3 * g.depth → slice_index ends k ≡ times (slice_index g.ends k - slice_index g.ends 0)) (count : n ≡ times (slice_index g.ends (3 * g.depth) - slice_index g.ends 0)) where
  here : (k : ℕ) → k ≤ 3 * d → slice_index ends k ≡ times (slice_index g.ends k - slice_index g.ends 0)
  here k le = lies k (omega (arith, le, depth))

  end_is : slice_index ends (3 * d) ≡ n
  end_is = ap (λ (k : ℕ). slice_index ends (3 * k)) depth ∙ lies (3 * g.depth) (omega arith) ∙ sym count

  pub held : (key : RowKey) (top : ℕ) (b : Bool) (short long : List ℤ) → IsCut key → key.front ≤ 3 * d → ((k : ℕ) → k ≤ key.front → slice_index key.ends k ≡ slice_index ends k) → n ≤ length short → length long ≡ length short → length short ≤ 2 ^ 33
      → AreSizesTo top (take n (shown b short long)) → top ≤ 2 ^ 27 → (b ≡ true → top ≤ 16383) → AreSizesTo 32767 short → AreSizesTo 2147483647 long → HoldsSizes d ends key top b short long
  held key top b short long cut front ends_same inside same few top_is small short_small short_all long_all = record {
    shallow = omega (arith, depth, sound.shallow);
    start = here 0 (omega arith) ∙ ap times (omega arith) ∙ none;
    rise = λ k one le.
        let order = rises (slice_index g.ends (k - 1) - slice_index g.ends 0) (slice_index g.ends k - slice_index g.ends 0) (omega (arith, sound.rise k one (omega (arith, le, depth)))) in
        omega (arith, here (k - 1) (omega (arith, le)), here k le, order);
    whole = λ k le.
        let order = rises (slice_index g.ends k - slice_index g.ends 0) (slice_index g.ends (3 * g.depth) - slice_index g.ends 0) (omega (arith, sound.whole k (omega (arith, le, depth)))) in
        omega (arith, here k le, end_is, count, order);
    inside = omega (arith, end_is, inside);
    same = same;
    few = few;
    cut = cut;
    front = front;
    ends_same = ends_same;
    top_is = subst (λ (k : ℕ). AreSizesTo top (take k (shown b short long))) (sym end_is) top_is;
    small = small;
    short_small = short_small;
    short_all = short_all;
    long_all = long_all;
  }
