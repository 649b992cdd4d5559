-- Where all rows have come, all rows of the bands are finished.
use Rattle.std.proofs.Common.{◌≡◌, ◌∙◌, refl, sym, ap, subst, ℕ, zero, suc, ◌+◌, ◌-◌, ◌*◌, ◌/◌, ◌^◌, ◌<◌, List, length, arith, inl, inr}
use Rattle.std.proofs.lemmas.Bool.{cases_eq}
use Rattle.std.proofs.lemmas.Bool.Decides.{nat_tests}
use Rattle.planes.specs.Raster.{height, at}
use Rattle.planes.specs.Subbands.{BandStack, band_of}
use Rattle.lifting.specs.declared.Wavelet.{Wavelet}
use Rattle.lifting.specs.declared.Wavelet.TheVariants.{LeGall, HaarFlat, HaarShift}
use Rattle.lifting.specs.Bands.{lowest, coefficients_of}
use Rattle.lifting.specs.LevelRows.{pairs_whole}
use Rattle.lifting.specs.Ranges.{SameInside, SameBands}
use Rattle.lifting.specs.Lines.{Line}
use Rattle.lifting.specs.RowSinks.{IsBandRowPut}
use Rattle.lifting.specs.RowAnalysis.{LevelSeen, level_at, lifted_at, HoldAnalysisIn, Coming, coming_in, coming_at, rows_behind, AreInTurn, ShowsLevels, ShowsLowest}
use Rattle.lifting.specs.Transform.{Grid, every_other, remaining, analysed, analysis}
use Rattle.lifting.proofs.Levels.{whole_at_zero}
use Rattle.lifting.proofs.RowsInTurn.{twice_at, last_at, first_at, analysed_is}

all_whole : (k : Wavelet) (h n : ℕ) → n ≡ 2 * h → pairs_whole k h n ≡ h
all_whole LeGall h n all = grind (arith, nat_tests)
all_whole HaarFlat h n all = omega arith
all_whole HaarShift h n all = omega arith

-- what comes to the first of some levels
pub same_coming : {X : Type 0} (g : Grid) (ls : List (LevelSeen X)) (w h : ℕ) → 2 * (level_at ls 0).w ≡ w → 2 * (level_at ls 0).h ≡ h → coming_in g ls ≡ record { depth = length ls; w = w; h = h; grid = g }
same_coming g ls w h ew eh = ap (λ (m : ℕ). record { depth = length ls; w = m; h = 2 * (level_at ls 0).h; grid = g }) ew ∙ ap (λ (m : ℕ). record { depth = length ls; w = w; h = m; grid = g }) eh

module _ {X : Type 0} (k : Wavelet) (w h came : ℕ) (ls : List (LevelSeen X)) (turn : AreInTurn k w h came ls) (some : 0 < length ls) where
  pub first_w : 2 * (level_at ls 0).w ≡ w
  first_w = ap (λ (m : ℕ). 2 * m) (turn.columns 0 some) ∙ twice_at w (length ls) 0 some ∙ first_at w (length ls) turn.whole_columns

  pub first_h : 2 * (level_at ls 0).h ≡ h
  first_h = ap (λ (m : ℕ). 2 * m) (turn.rows 0 some) ∙ twice_at h (length ls) 0 some ∙ first_at h (length ls) turn.whole_rows

module _ {X : Type 0} (k : Wavelet) (c : Coming) (ls : List (LevelSeen X)) (depth : c.depth ≡ length ls) (turn : AreInTurn k c.w c.h c.h ls) where
  columns : (j : ℕ) → j < c.depth → (level_at ls j).w ≡ lowest c.depth c.w * 2 ^ (c.depth - suc j)
  columns j lt = turn.columns j (omega (arith, depth, lt)) ∙ ap (λ (d : ℕ). lowest d c.w * 2 ^ (d - suc j)) (sym depth)

  rows : (j : ℕ) → j < c.depth → (level_at ls j).h ≡ lowest c.depth c.h * 2 ^ (c.depth - suc j)
  rows j lt = turn.rows j (omega (arith, depth, lt)) ∙ ap (λ (d : ℕ). lowest d c.h * 2 ^ (d - suc j)) (sym depth)

  all_made : (j : ℕ) → j < c.depth → (level_at ls j).made ≡ (level_at ls j).h
  all_made zero lt =
      let first = first_h k c.w c.h c.h ls turn (omega (arith, depth, lt)) in
      turn.made 0 (omega (arith, depth, lt)) ∙ all_whole k (level_at ls 0).h (level_at ls 0).came (turn.next 0 (omega (arith, depth, lt)) ∙ sym first)
  all_made (suc m) lt =
      let lo : suc m < length ls = omega (arith, depth, lt) in
      let half : 2 * (level_at ls (suc m)).h ≡ (level_at ls m).h = ap (λ (n : ℕ). 2 * n) (rows (suc m) lt) ∙ twice_at c.h c.depth (suc m) lt ∙ sym (rows m (omega (arith, lt))) in
      turn.made (suc m) lo ∙ all_whole k (level_at ls (suc m)).h (level_at ls (suc m)).came (turn.next (suc m) lo ∙ all_made m (omega (arith, lt)) ∙ sym half)

  all_lowest : (d : ℕ) → d ≡ c.depth → rows_behind c.h ls d ≡ lowest c.depth c.h
  all_lowest zero e =
      let one : c.h ≡ c.h / 2 ^ 0 = omega arith in
      one ∙ ap (λ (d : ℕ). lowest d c.h) e
  all_lowest (suc m) e = all_made m (omega (arith, e)) ∙ rows m (omega (arith, e)) ∙ last_at c.h c.depth m (sym e)

  module _ (b : BandStack) (levels : ShowsLevels k c ls b) (low : ShowsLowest k c (rows_behind c.h ls c.depth) b) where
    level_here : (n : ℕ) → n < c.depth → c.depth - (c.depth - suc n) ≡ suc n
    level_here n lt = omega (arith, lt)

    part : (o py px : ℕ) (n : ℕ) → (lt : n < c.depth)
        → SameInside (level_at ls (c.depth - suc n)).made (level_at ls (c.depth - suc n)).w (at (band_of b (c.depth - (c.depth - suc n)) o)) (every_other py px (lifted_at k (coming_at k c (c.depth - suc n)) (level_at ls (c.depth - suc n))))
        → SameInside (lowest c.depth c.h * 2 ^ n) (lowest c.depth c.w * 2 ^ n) (at (band_of b (suc n) o)) (every_other py px (analysed k (lowest c.depth c.h) (lowest c.depth c.w) c.depth c.grid (suc n)))
    part o py px n lt held y x ly lx =
        let j : ℕ = c.depth - suc n in
        let lj : j < c.depth = omega (arith, lt) in
        let is : c.depth - j ≡ suc n = level_here n lt in
        let size : c.depth - suc j ≡ n = omega (arith, lt) in
        let tall : (level_at ls j).made ≡ lowest c.depth c.h * 2 ^ n = all_made j lj ∙ rows j lj ∙ ap (λ (m : ℕ). lowest c.depth c.h * 2 ^ m) size in
        let wide : (level_at ls j).w ≡ lowest c.depth c.w * 2 ^ n = columns j lj ∙ ap (λ (m : ℕ). lowest c.depth c.w * 2 ^ m) size in
        ap (λ (m : ℕ). at (band_of b m o) y x) (sym is)
        ∙ held y x (omega (arith, ly, tall)) (omega (arith, lx, wide))
        ∙ analysed_is k c (level_at ls j) j lj (columns j lj) (rows j lj) (2 * y + py) (2 * x + px)
        ∙ ap (λ (m : ℕ). analysed k (lowest c.depth c.h) (lowest c.depth c.w) c.depth c.grid m (2 * y + py) (2 * x + px)) is

    pub all_shown : SameBands (lowest c.depth c.h) (lowest c.depth c.w) c.depth (coefficients_of b) (analysis k (lowest c.depth c.h) (lowest c.depth c.w) c.depth c.grid)
    unfolding analysis
    all_shown = record {
      ll = λ y x ly lx. low y x (omega (arith, ly, all_lowest c.depth refl)) lx;
      hl = λ n lt. part 1 0 1 n lt (levels (c.depth - suc n) (omega (arith, lt))).hl;
      lh = λ n lt. part 2 1 0 n lt (levels (c.depth - suc n) (omega (arith, lt))).lh;
      hh = λ n lt. part 3 1 1 n lt (levels (c.depth - suc n) (omega (arith, lt))).hh;
    }

abbrev pub coming_to : {X : Type 0} → ℕ → ℕ → Grid → List (LevelSeen X) → Coming
coming_to w h g ls = record { depth = length ls; w = w; h = h; grid = g }

pub whole_shown : {X : Type 0} (k : Wavelet) (g : Grid) (w h came : ℕ) (ls : List (LevelSeen X)) → AreInTurn k w h came ls → came ≡ h → (b : BandStack) → b.depth ≡ length ls
    → ShowsLevels k (coming_to w h g ls) ls b → ShowsLowest k (coming_to w h g ls) (rows_behind came ls (length ls)) b → HoldAnalysisIn k b w h g
whole_shown k g w h came ls turn all b depth levels low =
    subst (λ (d : ℕ). SameBands (lowest d h) (lowest d w) d (coefficients_of b) (analysis k (lowest d h) (lowest d w) d g)) (sym depth)
    (all_shown k (coming_to w h g ls) ls refl (subst (λ (n : ℕ). AreInTurn k w h n ls) all turn) b levels
    (subst (λ (n : ℕ). ShowsLowest k (coming_to w h g ls) (rows_behind n ls (length ls)) b) all low))

-- ---- without levels

module _ {X : Type 0} (k : Wavelet) (g : Grid) (w h came : ℕ) (ls : List (LevelSeen X)) (bare : length ls ≡ 0) where
  bare_comes : (y x : ℕ) → g y x ≡ coming_at k (coming_to w h g ls) (length ls) y x
  unfolding remaining
  bare_comes y x = ap (λ (i : ℕ). coming_at k (coming_to w h g ls) i y x) (sym bare)

  pub bare_in_turn : AreInTurn k w h came ls → came < h → AreInTurn k w h (came + 1) ls
  bare_in_turn turn more = record {
    few = turn.few;
    whole_columns = turn.whole_columns;
    whole_rows = turn.whole_rows;
    some = turn.some;
    short = turn.short;
    low = turn.low;
    inside = omega (arith, more);
    columns = turn.columns;
    rows = turn.rows;
    ready = turn.ready;
    made = turn.made;
    next = λ j lt. absurd (omega (arith, lt, bare));
  }

  pub bare_shown : (row : Line) (b b' : BandStack) → (band_of b 0 0).w ≡ w → height (band_of b 0 0) ≡ h → came < h → IsBandRowPut 0 0 came row b b' → ((x : ℕ) → x < w → row x ≡ g came x)
      → ShowsLowest k (coming_to w h g ls) (rows_behind came ls (length ls)) b → ShowsLowest k (coming_to w h g ls) (rows_behind (came + 1) ls (length ls)) b'
  bare_shown row b b' wide high more put is_row shown r x lr lx =
      let before : rows_behind came ls (length ls) ≡ came = ap (rows_behind came ls) bare in
      let after : rows_behind (came + 1) ls (length ls) ≡ came + 1 = ap (rows_behind (came + 1) ls) bare in
      let all : lowest (length ls) w ≡ w = whole_at_zero w (length ls) bare in
      let inside_w : x < (band_of b 0 0).w = omega (arith, lx, all, wide) in
      elim (cases_eq r came) [
        | inl e ↦ rw e (put.here x inside_w ∙ is_row x (omega (arith, lx, all)) ∙ bare_comes came x)
        | inr ne ↦ put.others 0 0 r x (inl (refl, refl)) (omega (arith, lr, after, high, more)) inside_w (inr (inr ne)) ∙ shown r x (omega (arith, lr, after, before, ne)) lx
      ]
