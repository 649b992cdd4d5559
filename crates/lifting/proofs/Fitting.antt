-- Each number that enters a step of synthesis, from bounds of the bands.
use Rattle.std.proofs.Common.{◌≡◌, ℕ, zero, suc, ◌-◌, ◌*◌, ◌/◌, ◌%◌, ◌^◌, ◌<◌, ◌≤◌, lit≤, arith, inl, inr, pos}
use Rattle.std.proofs.lemmas.Bool.{cases_eq}
use Rattle.planes.specs.Numbers.{Within}
use Rattle.bit_codes.specs.declared.TheConstants.{MAX_MAGNITUDE}
use Rattle.planes.proofs.Floors.{wider}
use Rattle.lifting.specs.declared.Wavelet.{Wavelet}
use Rattle.lifting.specs.declared.Wavelet.TheVariants.{LeGall, HaarFlat, HaarShift}
use Rattle.lifting.specs.declared.PairStep.TheVariants.{EvenDown, OddUp}
use Rattle.lifting.specs.Steps.{step}
use Rattle.lifting.specs.Lines.{Line, before, after, lift, synthesis_line}
use Rattle.lifting.specs.Transform.{Grid, on_columns, Coefficients, interleaved, synthesis_level, synthesis}
use Rattle.lifting.specs.Ranges.{LineWithin, GridWithin, BandsWithin, level_reach, reach, SynthesisStays}
use Rattle.lifting.specs.Fits.{LineFits, LevelFits, SynthesisFits, LevelFitsIn}
use Rattle.planes.specs.Subbands.{BandStack}
use Rattle.lifting.specs.Bands.{lowest, coefficients_of}
use Rattle.lifting.specs.Carried.{even_carried, line_carried, level_entered, level_carried, IsShortAt}
use Rattle.lifting.proofs.Undone.{before_parity, after_parity, lift_at, lift_other}
use Rattle.lifting.proofs.Inside.{before_inside, after_inside, twice_size}
use Rattle.lifting.proofs.Growth.{even_carries, odd_grows, halved_within, reach_least}

-- ---- a line whose even places are within e, and whose odd ones within o

record LineTwo (n e o : ℕ) (a : Line) : Type 0 where
  pub evens : (j : ℕ) → j < n → j % 2 ≡ 0 → Within e (a j)
  pub odds : (j : ℕ) → j < n → j % 2 ≡ 1 → Within o (a j)

module _ (k : Wavelet) (n e o : ℕ) (a : Line) (even : n % 2 ≡ 0) (two : LineTwo n e o a) where
  lifted_evens : (j : ℕ) → j < n → j % 2 ≡ 0 → Within (even_carried e o) (lift 0 n (step k EvenDown) a j)
  lifted_evens j lt p =
      let ahead : before j % 2 ≡ 1 = (let ne = before_parity j 0 p in omega arith) in
      let behind : after n j % 2 ≡ 1 = (let ne = after_parity n j 0 even p in omega arith) in
      rw (lift_at 0 n (step k EvenDown) a j p)
      (even_carries k e o (a j) (a (before j)) (a (after n j)) (two.evens j lt p)
      (two.odds (before j) (before_inside n j even lt) ahead) (two.odds (after n j) (after_inside n j even lt) behind))

  kept_odds : (j : ℕ) → j < n → j % 2 ≡ 1 → Within o (lift 0 n (step k EvenDown) a j)
  kept_odds j lt p = rw (lift_other 0 n (step k EvenDown) a j (omega arith)) (two.odds j lt p)

  made_evens : (j : ℕ) → j < n → j % 2 ≡ 0 → Within (even_carried e o) (synthesis_line k n a j)
  unfolding synthesis_line
  made_evens j lt p = rw (lift_other 1 n (step k OddUp) (lift 0 n (step k EvenDown) a) j (omega arith)) (lifted_evens j lt p)

  made_odds : (j : ℕ) → j < n → j % 2 ≡ 1 → Within (line_carried e o) (synthesis_line k n a j)
  unfolding synthesis_line
  made_odds j lt p =
      let ahead : before j % 2 ≡ 0 = (let ne = before_parity j 1 p in omega arith) in
      let behind : after n j % 2 ≡ 0 = (let ne = after_parity n j 1 even p in omega arith) in
      let line = lift 0 n (step k EvenDown) a in
      rw (lift_at 1 n (step k OddUp) line j p)
      (odd_grows k o (even_carried e o) (line j) (line (before j)) (line (after n j)) (kept_odds j lt p)
      (lifted_evens (before j) (before_inside n j even lt) ahead) (lifted_evens (after n j) (after_inside n j even lt) behind))

  made_within : LineWithin n (line_carried e o) (synthesis_line k n a)
  made_within j lt = elim (cases_eq (j % 2) 0) [
    | inl p ↦ wider (even_carried e o) (line_carried e o) _ (omega arith) (made_evens j lt p)
    | inr ne ↦ made_odds j lt (omega arith)
  ]

  line_fits : (m : ℕ) → o ≤ m → even_carried e o ≤ m → LineFits k n m a
  line_fits m few enough = record {
    own = λ j lt. elim (cases_eq (j % 2) 0) [ inl p ↦ wider e m _ (omega (arith, enough)) (two.evens j lt p) | inr ne ↦ wider o m _ few (two.odds j lt (omega arith)) ];
    even = λ j lt. elim (cases_eq (j % 2) 0) [ inl p ↦ wider (even_carried e o) m _ enough (lifted_evens j lt p) | inr ne ↦ wider o m _ few (kept_odds j lt (omega arith)) ];
  }

-- ---- a level, from LL within `low` and the others within `high`

module _ (k : Wavelet) (h w H W : ℕ) (eh : H ≡ 2 * h) (ew : W ≡ 2 * w) (low high : ℕ) (ll hl lh hh : Grid)
    (pl : GridWithin h w low ll) (ph : GridWithin h w high hl) (pv : GridWithin h w high lh) (pd : GridWithin h w high hh) where
  abbrev level : Grid
  level = interleaved ll hl lh hh

  even_height : H % 2 ≡ 0
  even_height = omega (arith, eh)

  even_width : W % 2 ≡ 0
  even_width = omega (arith, ew)

  even_column : (x : ℕ) → x < W → x % 2 ≡ 0 → LineTwo H low high (λ j. level j x)
  unfolding interleaved
  even_column x lx p = record {
    evens = λ j lt q. rw (q, p) (pl (j / 2) (x / 2) (omega (arith, eh)) (omega (arith, ew)));
    odds = λ j lt q. rw (q, p) (pv (j / 2) (x / 2) (omega (arith, eh)) (omega (arith, ew)));
  }

  odd_column : (x : ℕ) → x < W → x % 2 ≡ 1 → LineTwo H high high (λ j. level j x)
  unfolding interleaved
  odd_column x lx p = record {
    evens = λ j lt q. rw (q, p) (ph (j / 2) (x / 2) (omega (arith, eh)) (omega (arith, ew)));
    odds = λ j lt q. rw (q, p) (pd (j / 2) (x / 2) (omega (arith, eh)) (omega (arith, ew)));
  }

  row_two : (y : ℕ) → y < H → LineTwo W (line_carried low high) (line_carried high high) (on_columns (synthesis_line k H) level y)
  row_two y ly = record {
    evens = λ x lx p. made_within k H low high (λ j. level j x) even_height (even_column x lx p) y ly;
    odds = λ x lx p. made_within k H high high (λ j. level j x) even_height (odd_column x lx p) y ly;
  }

  pub level_within : GridWithin H W (level_carried k low high) (synthesis_level k H W level)
  unfolding synthesis_level
  level_within y x ly lx =
      halved_within k (line_carried (line_carried low high) (line_carried high high)) _
      (made_within k W (line_carried low high) (line_carried high high) (on_columns (synthesis_line k H) level y) even_width (row_two y ly) x lx)

  pub level_fits : (m : ℕ) → level_entered low high ≤ m → LevelFits k H W m level
  level_fits m enough =
      let columns : (high ≤ m) × (even_carried low high ≤ m) × (even_carried high high ≤ m) × (line_carried high high ≤ m) =
      (omega (arith, enough), omega (arith, enough), omega (arith, enough), omega (arith, enough)) in
      record {
        columns = λ x lx. elim (cases_eq (x % 2) 0) [
          | inl p ↦ line_fits k H low high (λ j. level j x) even_height (even_column x lx p) m columns.0 columns.1
          | inr ne ↦ line_fits k H high high (λ j. level j x) even_height (odd_column x lx (omega arith)) m columns.0 columns.2
        ];
        rows = λ y ly. line_fits k W (line_carried low high) (line_carried high high) (on_columns (synthesis_line k H) level y) even_width (row_two y ly) m columns.3 enough;
      }

-- ---- all levels: LL of level n is within `low n`, and the other bands that it meets are within `high n`

module _ (k : Wavelet) (h w depth : ℕ) (c : Coefficients) (low high : ℕ → ℕ) (ll : GridWithin h w (low 0) c.ll)
    (hl : (n : ℕ) → n < depth → GridWithin (h * 2 ^ n) (w * 2 ^ n) (high n) (c.hl (suc n)))
    (lh : (n : ℕ) → n < depth → GridWithin (h * 2 ^ n) (w * 2 ^ n) (high n) (c.lh (suc n)))
    (hh : (n : ℕ) → n < depth → GridWithin (h * 2 ^ n) (w * 2 ^ n) (high n) (c.hh (suc n)))
    (carries : (n : ℕ) → n < depth → level_carried k (low n) (high n) ≤ low (suc n)) where
  synthesis_within : (n : ℕ) → n ≤ depth → GridWithin (h * 2 ^ n) (w * 2 ^ n) (low n) (synthesis k h w c n)
  unfolding synthesis
  synthesis_within zero le = λ y x ly lx. ll y x (omega arith) (omega arith)
  synthesis_within (suc n) le = λ y x ly lx.
      let lt : n < depth = omega arith in
      wider (level_carried k (low n) (high n)) (low (suc n)) _ (carries n lt)
      (level_within k (h * 2 ^ n) (w * 2 ^ n) (h * 2 ^ suc n) (w * 2 ^ suc n) (twice_size h n) (twice_size w n) (low n) (high n) (synthesis k h w c n) (c.hl (suc n)) (c.lh (suc n)) (c.hh (suc n))
      (synthesis_within n (omega arith)) (hl n lt) (lh n lt) (hh n lt) y x ly lx)

  pub synthesis_fits : (m : ℕ) → low 0 ≤ m → ((n : ℕ) → n < depth → level_entered (low n) (high n) ≤ m) → SynthesisFits k h w depth m c
  synthesis_fits m some enters = record {
    ll = λ y x ly lx. wider (low 0) m _ some (ll y x ly lx);
    levels = λ n lt.
        level_fits k (h * 2 ^ n) (w * 2 ^ n) (h * 2 ^ suc n) (w * 2 ^ suc n) (twice_size h n) (twice_size w n) (low n) (high n) (synthesis k h w c n) (c.hl (suc n)) (c.lh (suc n)) (c.hh (suc n))
        (synthesis_within n (omega (arith, lt))) (hl n lt) (lh n lt) (hh n lt) m (enters n lt);
  }

-- ---- 16 bits

pub short_fits : (k : Wavelet) (b : BandStack) (w h n : ℕ) → IsShortAt k b w h n → LevelFitsIn (λ v. v) (pos 0) k (2 ^ 14 - 2) b w h n
short_fits k b w h n s =
    let c = coefficients_of b in
    let y = lowest b.depth h in
    let x = lowest b.depth w in
    level_fits k (y * 2 ^ n) (x * 2 ^ n) (y * 2 ^ suc n) (x * 2 ^ suc n) (twice_size y n) (twice_size x n) s.low s.high (synthesis k y x c n) (c.hl (suc n)) (c.lh (suc n)) (c.hh (suc n))
    s.within_ll s.within_hl s.within_lh s.within_hh (2 ^ 14 - 2) s.few

-- ---- 32 and 64 bits have room for four levels

carried_least : (k : Wavelet) (m others : ℕ) → others ≤ m → level_carried k m others ≤ level_reach m
carried_least LeGall m others le = omega (arith, le)
carried_least HaarFlat m others le = omega (arith, le)
carried_least HaarShift m others le = omega (arith, le)

pub synthesis_stays : (k : Wavelet) (h w depth m others : ℕ) (c : Coefficients) → others ≤ m → BandsWithin h w depth m others c → SynthesisStays k h w depth m c
synthesis_stays k h w depth m others c few small =
    synthesis_within k h w depth c (reach m) (λ _. others) small.ll small.hl small.lh small.hh
    (λ n lt. carried_least k (reach m n) others (let least = reach_least m n in omega (arith, few, least)))

reach_more : (m a b : ℕ) → a ≤ b → reach m a ≤ reach m b
reach_more m a zero le = let is : a ≡ 0 = omega arith in rw is (omega arith)
reach_more m a (suc b) le = elim (cases_eq a (suc b)) [
  | inl is ↦ rw is (omega arith)
  | inr ne ↦ let below = reach_more m a b (omega arith) in omega (arith, below)
]

entered_least : (m others start : ℕ) → m ≤ start → others ≤ start → level_entered m others ≤ level_entered start start
entered_least m others start le few = omega (arith, le, few)

module _ (k : Wavelet) (h w depth : ℕ) (c : Coefficients) (four : depth ≤ 4) (m others start room : ℕ) (few : others ≤ m) (small : BandsWithin h w depth m others c) where
  bands_fit : reach m 3 ≤ start → level_entered start start ≤ room → SynthesisFits k h w depth room c
  bands_fit third enough =
      let first : m ≤ start = (let less = reach_more m 0 3 (omega arith) in omega (arith, less, third)) in
      synthesis_fits k h w depth c (reach m) (λ _. others) small.ll small.hl small.lh small.hh
      (λ n lt. carried_least k (reach m n) others (let least = reach_least m n in omega (arith, few, least))) room
      (omega (arith, first, enough))
      (λ n lt.
      let most = reach_more m n 3 (omega (arith, lt, four)) in
      let inside = entered_least (reach m n) others start (omega (arith, most, third)) (omega (arith, few, first)) in
      omega (arith, inside, enough))

  -- and each level that they make is within that room
  levels_made : reach m 4 ≤ room → (n : ℕ) → n ≤ depth → GridWithin (h * 2 ^ n) (w * 2 ^ n) room (synthesis k h w c n)
  levels_made last n le y x ly lx =
      let most = reach_more m n 4 (omega (arith, le, four)) in
      wider (reach m n) room _ (omega (arith, most, last)) (synthesis_stays k h w depth m others c few small n le y x ly lx)

pub wide_made : (k : Wavelet) (h w depth : ℕ) (c : Coefficients) → depth ≤ 4 → BandsWithin h w depth (2 ^ 50) MAX_MAGNITUDE c → (n : ℕ) → n ≤ depth → GridWithin (h * 2 ^ n) (w * 2 ^ n) (2 ^ 61) (synthesis k h w c n)
wide_made k h w depth c four small = levels_made k h w depth c four (2 ^ 50) (2 ^ 36) (2 ^ 58) (2 ^ 61) (lit≤ tt) small (lit≤ tt)

pub narrow_made : (k : Wavelet) (h w depth : ℕ) (c : Coefficients) → depth ≤ 4 → BandsWithin h w depth (2 ^ 18) (2 ^ 18) c → (n : ℕ) → n ≤ depth → GridWithin (h * 2 ^ n) (w * 2 ^ n) (2 ^ 29) (synthesis k h w c n)
narrow_made k h w depth c four small = levels_made k h w depth c four (2 ^ 18) (2 ^ 18) (2 ^ 26) (2 ^ 29) (lit≤ tt) small (lit≤ tt)

pub wide_fits : (k : Wavelet) (h w depth : ℕ) (c : Coefficients) → depth ≤ 4 → BandsWithin h w depth (2 ^ 50) MAX_MAGNITUDE c → SynthesisFits k h w depth (2 ^ 61) c
wide_fits k h w depth c four small = bands_fit k h w depth c four (2 ^ 50) (2 ^ 36) (2 ^ 58) (2 ^ 61) (lit≤ tt) small (lit≤ tt) (lit≤ tt)

pub narrow_fits : (k : Wavelet) (h w depth : ℕ) (c : Coefficients) → depth ≤ 4 → BandsWithin h w depth (2 ^ 18) (2 ^ 18) c → SynthesisFits k h w depth (2 ^ 29) c
narrow_fits k h w depth c four small = bands_fit k h w depth c four (2 ^ 18) (2 ^ 18) (2 ^ 26) (2 ^ 29) (lit≤ tt) small (lit≤ tt) (lit≤ tt)
