-- Levels through which rows go in turn.
use Rattle.std.proofs.Common.{◌≡◌, ◌≢◌, ◌∙◌, refl, sym, ap, subst, ℕ, ℤ, suc, zero, pos, ◌+◌, ◌-◌, ◌*◌, ◌%◌, ◌^◌, ◌<◌, ◌≤◌, List, length, Bool, true, false, arith, inl, inr}
use Rattle.std.proofs.lemmas.Bool.{cases_eq, cases_lt}
use Rattle.planes.specs.Raster.{height, at}
use Rattle.planes.specs.Subbands.{BandStack, BandExists, band_of, subband_length, HaveSizes, AgreeInSizes}
use Rattle.lifting.specs.declared.Wavelet.{Wavelet}
use Rattle.lifting.specs.Bands.{lowest, HoldLevel}
use Rattle.lifting.specs.LevelRows.{pairs_whole}
use Rattle.lifting.specs.Ranges.{GridWithin}
use Rattle.lifting.specs.RowAnalysis.{LevelSeen, level_at, IsReadyRing, RowsWait, HasTaken, IsAbove, lifted_at, Coming, coming_at, rows_behind, AreInTurn, RowsHaveCome, ShowsLevels, ShowsLowest}
use Rattle.lifting.specs.RowSinks.{IsBandRowPut, AreBandsOf, HoldPair, OtherRowsStay}
use Rattle.lifting.specs.Transform.{Grid, analysis_level, every_other, remaining, analysed}
use Rattle.lifting.proofs.Coefficients.{left_at}
use Rattle.lifting.proofs.Inside.{twice_size}
use Rattle.lifting.proofs.Levels.{whole_size, band_size}
use Rattle.lifting.proofs.LevelsDown.{eightfold}
use Rattle.lifting.proofs.SinkRows.{level_more, level_stays}
use Rattle.planes.proofs.Floors.{wider}

-- ---- sizes of a level, and what comes to the next one

module _ (size depth : ℕ) where
  pub twice_at : (j : ℕ) → j < depth → 2 * (lowest depth size * 2 ^ (depth - suc j)) ≡ lowest depth size * 2 ^ (depth - j)
  twice_at j lt =
      let next : suc (depth - suc j) ≡ depth - j = omega arith in
      sym (twice_size (lowest depth size) (depth - suc j)) ∙ ap (λ (n : ℕ). lowest depth size * 2 ^ n) next

  pub last_at : (j : ℕ) → depth ≡ suc j → lowest depth size * 2 ^ (depth - suc j) ≡ lowest depth size
  last_at j last =
      let none : depth - suc j ≡ 0 = omega arith in
      let one : lowest depth size * 2 ^ 0 ≡ lowest depth size = omega arith in
      ap (λ (n : ℕ). lowest depth size * 2 ^ n) none ∙ one

  pub first_at : size % 2 ^ depth ≡ 0 → lowest depth size * 2 ^ (depth - 0) ≡ size
  first_at whole =
      let all : depth - 0 ≡ depth = omega arith in
      ap (λ (n : ℕ). lowest depth size * 2 ^ n) all ∙ whole_size size depth whole

  pub band_at : (j : ℕ) → j < depth → size % 2 ^ depth ≡ 0 → subband_length depth (depth - j) size ≡ lowest depth size * 2 ^ (depth - suc j)
  band_at j lt whole =
      let level : depth - j ≡ depth - suc j + 1 = omega arith in
      ap (λ (l : ℕ). subband_length depth l size) level ∙ band_size size depth whole (depth - suc j) (omega arith)

module _ {X : Type 0} (k : Wavelet) (c : Coming) (l : LevelSeen X) (j : ℕ) (lt : j < c.depth)
    (columns : l.w ≡ lowest c.depth c.w * 2 ^ (c.depth - suc j)) (rows : l.h ≡ lowest c.depth c.h * 2 ^ (c.depth - suc j)) where
  twice_w : 2 * l.w ≡ lowest c.depth c.w * 2 ^ (c.depth - j)
  twice_w = ap (λ (m : ℕ). 2 * m) columns ∙ twice_at c.w c.depth j lt

  twice_h : 2 * l.h ≡ lowest c.depth c.h * 2 ^ (c.depth - j)
  twice_h = ap (λ (m : ℕ). 2 * m) rows ∙ twice_at c.h c.depth j lt

  -- the level is that of the definition,
  pub lifted_is : (y x : ℕ) → lifted_at k (coming_at k c j) l y x ≡ analysis_level k (lowest c.depth c.h * 2 ^ (c.depth - j)) (lowest c.depth c.w * 2 ^ (c.depth - j)) (coming_at k c j) y x
  lifted_is y x =
      ap (λ (m : ℕ). analysis_level k m (2 * l.w) (coming_at k c j) y x) twice_h
      ∙ ap (λ (m : ℕ). analysis_level k (lowest c.depth c.h * 2 ^ (c.depth - j)) m (coming_at k c j) y x) twice_w

  -- and its rows of LL come to the next one.
  pub ll_comes : (y x : ℕ) → every_other 0 0 (lifted_at k (coming_at k c j) l) y x ≡ coming_at k c (suc j) y x
  unfolding remaining
  ll_comes y x = lifted_is (2 * y + 0) (2 * x + 0)

  pub analysed_is : (y x : ℕ) → lifted_at k (coming_at k c j) l y x ≡ analysed k (lowest c.depth c.h) (lowest c.depth c.w) c.depth c.grid (c.depth - j) y x
  unfolding analysed
  analysed_is y x =
      let back : c.depth - (c.depth - j) ≡ j = omega arith in
      lifted_is y x ∙ ap (λ (i : ℕ). analysis_level k (lowest c.depth c.h * 2 ^ (c.depth - j)) (lowest c.depth c.w * 2 ^ (c.depth - j)) (coming_at k c i) y x) (sym back)

  pub coming_small : c.depth ≤ 4 → c.h % 2 ^ c.depth ≡ 0 → c.w % 2 ^ c.depth ≡ 0 → GridWithin c.h c.w (2 ^ 15) c.grid → GridWithin (2 * l.h) (2 * l.w) (2 ^ 25) (coming_at k c j)
  coming_small four whole_rows whole_columns small y x ly lx =
      wider (2 ^ 15 * 8 ^ j) (2 ^ 25) _ (eightfold j (omega arith))
      (left_at k (lowest c.depth c.h) (lowest c.depth c.w) c.depth (2 ^ 15) c.grid
      (λ y x ly lx. small y x (omega (arith, ly, whole_size c.h c.depth whole_rows)) (omega (arith, lx, whole_size c.w c.depth whole_columns)))
      j (c.depth - j) (omega arith) y x (omega (arith, ly, twice_h)) (omega (arith, lx, twice_w)))

-- ---- levels of which the first have taken a row

-- a row more has come, and a pair more is whole
pub record IsOneMore {X : Type 0} (old new : LevelSeen X) : Type 0 where
  pub came : new.came ≡ old.came + 1
  pub made : new.made ≡ old.made + 1

-- the first j levels have taken a row, and made a pair of it; the others wait
pub record HaveTaken {X : Type 0} (value : X → ℤ) (none : X) (k : Wavelet) (c : Coming) (j : ℕ) (old new : List (LevelSeen X)) : Type 0 where
  pub count : length new ≡ length old
  pub taken : (i : ℕ) → i < j → IsOneMore (level_at old i) (level_at new i)
  pub waiting : (i : ℕ) → j ≤ i → level_at new i ≡ level_at old i
  pub columns : (i : ℕ) → i < length old → (level_at new i).w ≡ (level_at old i).w
  pub rows : (i : ℕ) → i < length old → (level_at new i).h ≡ (level_at old i).h
  pub ready : (i : ℕ) → i < length old → IsReadyRing (level_at new i)
  pub made : (i : ℕ) → i < length old → (level_at new i).made ≡ pairs_whole k (level_at new i).h (level_at new i).came
  pub come : RowsHaveCome value none k c new

module _ {X : Type 0} (value : X → ℤ) (none : X) (k : Wavelet) (c : Coming) (y : ℕ) (old : List (LevelSeen X))
    (depth : c.depth ≡ length old) (turn : AreInTurn k c.w c.h y old) (come : RowsHaveCome value none k c old) where
  module _ (j : ℕ) (ls : List (LevelSeen X)) (lt : j < length old) (have : HaveTaken value none k c j old ls) where
    here_columns : (i : ℕ) → i < length old → (level_at ls i).w ≡ lowest c.depth c.w * 2 ^ (c.depth - suc i)
    here_columns i li = have.columns i li ∙ turn.columns i li ∙ ap (λ (d : ℕ). lowest d c.w * 2 ^ (d - suc i)) (sym depth)

    here_rows : (i : ℕ) → i < length old → (level_at ls i).h ≡ lowest c.depth c.h * 2 ^ (c.depth - suc i)
    here_rows i li = have.rows i li ∙ turn.rows i li ∙ ap (λ (d : ℕ). lowest d c.h * 2 ^ (d - suc i)) (sym depth)

    whole_columns : c.w % 2 ^ c.depth ≡ 0
    whole_columns = ap (λ (d : ℕ). c.w % 2 ^ d) depth ∙ turn.whole_columns

    whole_rows : c.h % 2 ^ c.depth ≡ 0
    whole_rows = ap (λ (d : ℕ). c.h % 2 ^ d) depth ∙ turn.whole_rows

    -- how many rows have come to level j
    pub came_here : (level_at ls j).came ≡ rows_behind y old j
    came_here = ap (λ (l : LevelSeen X). l.came) (have.waiting j (omega arith)) ∙ turn.next j lt

    pub more_come : y < c.h → (level_at ls j).came < 2 * (level_at ls j).h
    more_come more = elim (cases_eq j 0) [
      | inl e ↦
          let front : (level_at ls j).came ≡ y = came_here ∙ ap (rows_behind y old) e in
          let tall : 2 * (level_at ls j).h ≡ c.h = ap (λ (m : ℕ). 2 * m) (here_rows j lt) ∙ twice_at c.h c.depth j (omega arith) ∙ ap (λ (i : ℕ). lowest c.depth c.h * 2 ^ (c.depth - i)) e ∙ first_at c.h c.depth whole_rows in
          omega (arith, front, tall, more)
      | inr ne ↦
          let i : ℕ = j - 1 in
          let next : j ≡ suc i = omega arith in
          let above = level_at ls i in
          let front : (level_at ls j).came ≡ (level_at old i).made = came_here ∙ ap (rows_behind y old) next in
          let half : 2 * (level_at ls j).h ≡ above.h =
          ap (λ (m : ℕ). 2 * m) (here_rows j lt) ∙ twice_at c.h c.depth j (omega arith) ∙ ap (λ (n : ℕ). lowest c.depth c.h * 2 ^ (c.depth - n)) next ∙ sym (here_rows i (omega arith)) in
          omega (arith, front, half, (have.taken i (omega arith)).made, (have.ready i (omega arith)).early, (have.ready i (omega arith)).few)
    ]

    pub small_here : GridWithin c.h c.w (2 ^ 15) c.grid → GridWithin (2 * (level_at ls j).h) (2 * (level_at ls j).w) (2 ^ 25) (coming_at k c j)
    small_here small = coming_small k c (level_at ls j) j (omega arith) (here_columns j lt) (here_rows j lt) (omega (arith, depth, turn.few)) whole_rows whole_columns small

    -- the first level takes the row that comes
    pub first_wide : j ≡ 0 → 2 * (level_at ls j).w ≡ c.w
    first_wide e = ap (λ (m : ℕ). 2 * m) (here_columns j lt) ∙ twice_at c.w c.depth j (omega (arith, depth)) ∙ ap (λ (i : ℕ). lowest c.depth c.w * 2 ^ (c.depth - i)) e ∙ first_at c.w c.depth whole_columns

    pub first_row : j ≡ 0 → (x : ℕ) → c.grid y x ≡ coming_at k c j (level_at ls j).came x
    unfolding remaining
    first_row e x =
        let front : (level_at ls j).came ≡ y = came_here ∙ ap (rows_behind y old) e in
        ap (λ (n : ℕ). coming_at k c 0 n x) (sym front) ∙ ap (λ (i : ℕ). coming_at k c i (level_at ls j).came x) (sym e)

    -- and each other one what the level above it made
    pub above_here : (i : ℕ) → j ≡ suc i → IsAbove value none k (coming_at k c j) (level_at ls i) (level_at ls j)
    above_here i next =
        let made = (have.taken i (omega arith)).made in
        let front : (level_at ls j).came ≡ (level_at old i).made = came_here ∙ ap (rows_behind y old) next in
        record {
          grid = coming_at k c i;
          waits = have.come i (omega (arith, have.count));
          some = omega (arith, made);
          next = omega (arith, made, front);
          columns = here_columns i (omega arith) ∙ ap (λ (n : ℕ). lowest c.depth c.w * 2 ^ (c.depth - n)) (sym next) ∙ sym (twice_at c.w c.depth j (omega arith)) ∙ ap (λ (m : ℕ). 2 * m) (sym (here_columns j lt));
          row = λ x lx.
              ll_comes k c (level_at ls i) i (omega arith) (here_columns i (omega arith)) (here_rows i (omega arith)) ((level_at ls i).made - 1) x
              ∙ ap (λ (n : ℕ). coming_at k c n ((level_at ls i).made - 1) x) (sym next);
        }

-- ---- levels in turn again, behind the row

module _ {X : Type 0} (k : Wavelet) (c : Coming) (y : ℕ) (old new : List (LevelSeen X)) (turn : AreInTurn k c.w c.h y old) (more : y < c.h) (len : length new ≡ length old)
    (columns : (i : ℕ) → i < length old → (level_at new i).w ≡ (level_at old i).w) (rows : (i : ℕ) → i < length old → (level_at new i).h ≡ (level_at old i).h) where
  pub in_turn_again : ((i : ℕ) → i < length old → IsReadyRing (level_at new i))
      → ((i : ℕ) → i < length old → (level_at new i).made ≡ pairs_whole k (level_at new i).h (level_at new i).came)
      → ((i : ℕ) → i < length old → (level_at new i).came ≡ rows_behind (y + 1) new i) → AreInTurn k c.w c.h (y + 1) new
  in_turn_again ready made next = record {
    few = omega (arith, len, turn.few);
    whole_columns = ap (λ (d : ℕ). c.w % 2 ^ d) len ∙ turn.whole_columns;
    whole_rows = ap (λ (d : ℕ). c.h % 2 ^ d) len ∙ turn.whole_rows;
    some = turn.some;
    short = turn.short;
    low = turn.low;
    inside = omega arith;
    columns = λ i li. let lo : i < length old = omega (arith, len, li) in columns i lo ∙ turn.columns i lo ∙ ap (λ (d : ℕ). lowest d c.w * 2 ^ (d - suc i)) (sym len);
    rows = λ i li. let lo : i < length old = omega (arith, len, li) in rows i lo ∙ turn.rows i lo ∙ ap (λ (d : ℕ). lowest d c.h * 2 ^ (d - suc i)) (sym len);
    ready = λ i li. ready i (omega (arith, len, li));
    made = λ i li. made i (omega (arith, len, li));
    next = λ i li. next i (omega (arith, len, li));
  }

module _ {X : Type 0} (value : X → ℤ) (none : X) (k : Wavelet) (c : Coming) (y : ℕ) (old : List (LevelSeen X))
    (depth : c.depth ≡ length old) (turn : AreInTurn k c.w c.h y old) (come : RowsHaveCome value none k c old) (more : y < c.h) where
  -- where all have taken a row
  pub all_in_turn : (j : ℕ) (ls : List (LevelSeen X)) → j ≡ length old → HaveTaken value none k c j old ls → AreInTurn k c.w c.h (y + 1) ls
  all_in_turn j ls all have =
      let behind : (i : ℕ) → i ≤ j → rows_behind (y + 1) ls i ≡ rows_behind y old i + 1 = elim [ zero ↦ λ le. refl | suc m ↦ λ le. (have.taken m (omega arith)).made ∙ refl ] in
      in_turn_again k c y old ls turn more have.count have.columns have.rows have.ready have.made
      (λ i li. (have.taken i (omega arith)).came ∙ ap (λ (n : ℕ). n + 1) (turn.next i li) ∙ sym (behind i (omega arith)))

  module _ (j : ℕ) (ls ls' : List (LevelSeen X)) (lt : j < length old) (have : HaveTaken value none k c j old ls) (is_whole : Bool) (count : length ls' ≡ length ls)
      (took : HasTaken value none k (coming_at k c j) is_whole (level_at ls j) (level_at ls' j)) (others : (i : ℕ) → i ≢ j → level_at ls' i ≡ level_at ls i) where
    len : length ls' ≡ length old
    len = count ∙ have.count

    everywhere : (P : ℕ → LevelSeen X → Type 0) → P j (level_at ls' j) → ((i : ℕ) → i ≢ j → P i (level_at ls i)) → (i : ℕ) → P i (level_at ls' i)
    everywhere P here there i = elim (cases_eq i j) [
      | inl e ↦ subst (λ (n : ℕ). P n (level_at ls' n)) (sym e) here
      | inr ne ↦ subst (P i) (sym (others i ne)) (there i ne)
    ]

    pub columns_then : (i : ℕ) → i < length old → (level_at ls' i).w ≡ (level_at old i).w
    columns_then = everywhere (λ i l. i < length old → l.w ≡ (level_at old i).w) (λ li. took.w ∙ have.columns j lt) (λ i ne li. have.columns i li)

    pub rows_then : (i : ℕ) → i < length old → (level_at ls' i).h ≡ (level_at old i).h
    rows_then = everywhere (λ i l. i < length old → l.h ≡ (level_at old i).h) (λ li. took.h ∙ have.rows j lt) (λ i ne li. have.rows i li)

    pub ready_then : (i : ℕ) → i < length old → IsReadyRing (level_at ls' i)
    ready_then = everywhere (λ i l. i < length old → IsReadyRing l) (λ li. took.ready) (λ i ne li. have.ready i li)

    made_then : (i : ℕ) → i < length old → (level_at ls' i).made ≡ pairs_whole k (level_at ls' i).h (level_at ls' i).came
    made_then = everywhere (λ i l. i < length old → l.made ≡ pairs_whole k l.h l.came) (λ li. took.made) (λ i ne li. have.made i li)

    come_old : (i : ℕ) → i < length old → RowsWait value none k (coming_at k c i) (level_at ls' i)
    come_old = everywhere (λ i l. i < length old → RowsWait value none k (coming_at k c i) l) (λ li. took.after) (λ i ne li. have.come i (omega (arith, have.count, li)))

    pub come_then : RowsHaveCome value none k c ls'
    come_then i li = come_old i (omega (arith, len, li))

    waited : level_at ls j ≡ level_at old j
    waited = have.waiting j (omega arith)

    pub one_taken : is_whole ≡ true → HaveTaken value none k c (j + 1) old ls'
    one_taken whole = record {
      count = len;
      taken = everywhere (λ i l. i < j + 1 → IsOneMore (level_at old i) l)
          (λ li. record { came = took.came ∙ ap (λ (l : LevelSeen X). l.came + 1) waited; made = took.whole whole ∙ ap (λ (l : LevelSeen X). l.made + 1) waited })
          (λ i ne li. have.taken i (omega arith));
      waiting = λ i le. others i (omega arith) ∙ have.waiting i (omega arith);
      columns = columns_then;
      rows = rows_then;
      ready = ready_then;
      made = made_then;
      come = come_then;
    }

    -- where level j makes no pair of its row, the levels behind it wait
    module _ (waits : is_whole ≡ false) where
      pub made_waits : (i : ℕ) → j ≤ i → (level_at ls' i).made ≡ (level_at old i).made
      made_waits = everywhere (λ i l. j ≤ i → l.made ≡ (level_at old i).made) (λ le. took.waits waits ∙ ap (λ (l : LevelSeen X). l.made) waited) (λ i ne le. ap (λ (l : LevelSeen X). l.made) (have.waiting i le))

      behind_then : (i : ℕ) → i ≤ j → rows_behind (y + 1) ls' i ≡ rows_behind y old i + 1
      behind_then zero le = refl
      behind_then (suc m) le = ap (λ (l : LevelSeen X). l.made) (others m (omega arith)) ∙ (have.taken m (omega arith)).made

      behind_waits : (i : ℕ) → j < i → rows_behind (y + 1) ls' i ≡ rows_behind y old i
      behind_waits zero lt = absurd (omega arith)
      behind_waits (suc m) lt = made_waits m (omega arith)

      next_then : (i : ℕ) → i < length old → (level_at ls' i).came ≡ rows_behind (y + 1) ls' i
      next_then i li = elim (cases_lt i j) [
        | inl below ↦
            ap (λ (l : LevelSeen X). l.came) (others i (omega arith)) ∙ (have.taken i below).came ∙ ap (λ (n : ℕ). n + 1) (turn.next i li) ∙ sym (behind_then i (omega arith))
        | inr above ↦ elim (cases_eq i j) [
          | inl e ↦
              ap (λ (n : ℕ). (level_at ls' n).came) e ∙ took.came ∙ ap (λ (l : LevelSeen X). l.came + 1) waited ∙ ap (λ (n : ℕ). n + 1) (turn.next j lt) ∙ sym (behind_then j (omega arith))
              ∙ ap (rows_behind (y + 1) ls') (sym e)
          | inr ne ↦
              ap (λ (l : LevelSeen X). l.came) (others i ne ∙ have.waiting i above) ∙ turn.next i li ∙ sym (behind_waits i (omega arith))
        ]
      ]

      pub stopped_in_turn : AreInTurn k c.w c.h (y + 1) ls'
      stopped_in_turn = in_turn_again k c y old ls' turn more len columns_then rows_then ready_then made_then next_then

      -- LL has no row more
      pub lowest_waits : rows_behind (y + 1) ls' c.depth ≡ rows_behind y old c.depth
      lowest_waits = behind_waits c.depth (omega (arith, depth))

-- ---- what a stack shows

-- a level with the sizes of another one, and as many pairs
pub held_as : {X : Type 0} (k : Wavelet) (n made made' : ℕ) (g : Grid) (l l' : LevelSeen X) (b : BandStack) → made' ≡ made → l'.w ≡ l.w → l'.h ≡ l.h
    → HoldLevel (λ v. v) (pos 0) made l.w (lifted_at k g l) n b → HoldLevel (λ v. v) (pos 0) made' l'.w (lifted_at k g l') n b
held_as k n made made' g l l' b em ew eh held = rw (em, ew, eh) held

module _ {X : Type 0} (k : Wavelet) (c : Coming) (y : ℕ) (old : List (LevelSeen X)) (depth : c.depth ≡ length old) (turn : AreInTurn k c.w c.h y old)
    (b0 : BandStack) (stack : b0.depth ≡ c.depth) (sizes : HaveSizes b0 c.w c.h) (b : BandStack) (agree : AgreeInSizes b0 b) where
  whole_w : c.w % 2 ^ c.depth ≡ 0
  whole_w = ap (λ (d : ℕ). c.w % 2 ^ d) depth ∙ turn.whole_columns

  whole_h : c.h % 2 ^ c.depth ≡ 0
  whole_h = ap (λ (d : ℕ). c.h % 2 ^ d) depth ∙ turn.whole_rows

  -- the bands of level i
  pub bands_of_level : (i : ℕ) → i < length old → AreBandsOf (c.depth - i) (level_at old i).w (level_at old i).h b
  bands_of_level i li o one three =
      let ex : BandExists b0.depth (c.depth - i) o = inr (omega (arith, depth), omega (arith, stack), one, three) in (
        sym (agree.widths (c.depth - i) o ex) ∙ sizes.widths (c.depth - i) o ex ∙ ap (λ (d : ℕ). subband_length d (c.depth - i) c.w) stack
            ∙ band_at c.w c.depth i (omega (arith, depth)) whole_w ∙ ap (λ (d : ℕ). lowest d c.w * 2 ^ (d - suc i)) depth ∙ sym (turn.columns i li),
        sym (agree.heights (c.depth - i) o ex) ∙ sizes.heights (c.depth - i) o ex ∙ ap (λ (d : ℕ). subband_length d (c.depth - i) c.h) stack
            ∙ band_at c.h c.depth i (omega (arith, depth)) whole_h ∙ ap (λ (d : ℕ). lowest d c.h * 2 ^ (d - suc i)) depth ∙ sym (turn.rows i li),
      )

  pub lowest_band : ((band_of b 0 0).w ≡ lowest c.depth c.w) × (height (band_of b 0 0) ≡ lowest c.depth c.h)
  lowest_band =
      let ex : BandExists b0.depth 0 0 = inl (refl, refl) in (
        sym (agree.widths 0 0 ex) ∙ sizes.widths 0 0 ex ∙ ap (λ (d : ℕ). lowest d c.w) stack,
        sym (agree.heights 0 0 ex) ∙ sizes.heights 0 0 ex ∙ ap (λ (d : ℕ). lowest d c.h) stack,
      )

  -- the number of a level
  level_inside : (i : ℕ) → i < length old → (1 ≤ c.depth - i) × (c.depth - i ≤ b.depth)
  level_inside i li = (omega (arith, depth), omega (arith, stack, agree.same_depth))

  module _ (ls : List (LevelSeen X)) (columns : (i : ℕ) → i < length old → (level_at ls i).w ≡ (level_at old i).w) (rows : (i : ℕ) → i < length old → (level_at ls i).h ≡ (level_at old i).h)
      (ready : (i : ℕ) → i < length old → IsReadyRing (level_at ls i)) where
    pub bands_now : (i : ℕ) → i < length old → AreBandsOf (c.depth - i) (level_at ls i).w (level_at ls i).h b
    bands_now i li o one three = ((bands_of_level i li o one three).0 ∙ sym (columns i li), (bands_of_level i li o one three).1 ∙ sym (rows i li))

    pub few_made : (i : ℕ) → i < length old → (level_at ls i).made ≤ (level_at ls i).h
    few_made i li = omega (arith, (ready i li).early, (ready i li).few)

    -- a level that shows what it showed
    still : (b' : BandStack) (i : ℕ) → i < length old
        → ((o y x : ℕ) → 1 ≤ o → o ≤ 3 → y < height (band_of b (c.depth - i) o) → x < (band_of b (c.depth - i) o).w → at (band_of b' (c.depth - i) o) y x ≡ at (band_of b (c.depth - i) o) y x)
        → ShowsLevels k c ls b
        → HoldLevel (λ v. v) (pos 0) (level_at ls i).made (level_at ls i).w (lifted_at k (coming_at k c i) (level_at ls i)) (c.depth - i) b'
    still b' i li stay shown =
        level_stays (c.depth - i) (level_at ls i).made (level_at ls i).w (level_at ls i).h (lifted_at k (coming_at k c i) (level_at ls i)) b b' (level_inside i li).0 (level_inside i li).1 (bands_now i li) (few_made i li) stay (shown i (omega (arith, depth)))

    -- a row of LL leaves what the levels show
    pub shown_beside : (b' : BandStack) (y : ℕ) (row : ℕ → ℤ) → IsBandRowPut 0 0 y row b b' → ShowsLevels k c ls b → ShowsLevels k c ls b'
    shown_beside b' y row put shown i li =
        let lo : i < length old = omega (arith, depth) in
        still b' i lo (λ o y x one three ly lx. put.others (c.depth - i) o y x (inr ((level_inside i lo).0, (level_inside i lo).1, one, three)) ly lx (inl (omega (arith, (level_inside i lo).0)))) shown

    module _ (value : X → ℤ) (none : X) (j : ℕ) (ls' : List (LevelSeen X)) (lt : j < length old) (is_whole : Bool)
        (took : HasTaken value none k (coming_at k c j) is_whole (level_at ls j) (level_at ls' j)) (others : (i : ℕ) → i ≢ j → level_at ls' i ≡ level_at ls i) where
      -- a level that made no pair shows what it showed
      pub shown_waits : is_whole ≡ false → ShowsLevels k c ls b → ShowsLevels k c ls' b
      shown_waits waits shown i li = elim (cases_eq i j) [
        | inl e ↦
            subst (λ (n : ℕ). HoldLevel (λ v. v) (pos 0) (level_at ls' n).made (level_at ls' n).w (lifted_at k (coming_at k c n) (level_at ls' n)) (c.depth - n) b) (sym e)
            (held_as k (c.depth - j) (level_at ls j).made (level_at ls' j).made (coming_at k c j) (level_at ls j) (level_at ls' j) b (took.waits waits) took.w took.h (shown j (omega (arith, depth))))
        | inr ne ↦
            subst (λ (l : LevelSeen X). HoldLevel (λ v. v) (pos 0) l.made l.w (lifted_at k (coming_at k c i) l) (c.depth - i) b) (sym (others i ne)) (shown i li)
      ]

      -- and one that made a pair, which stands in its bands, shows it too
      pub shown_then : (b' : BandStack) → is_whole ≡ true → OtherRowsStay (c.depth - j) ((level_at ls' j).made - 1) b b'
          → HoldPair (c.depth - j) ((level_at ls' j).made - 1) (level_at ls' j).w (lifted_at k (coming_at k c j) (level_at ls' j)) b'
          → ShowsLevels k c ls b → ShowsLevels k c ls' b'
      shown_then b' whole stay pair shown i li =
          let made : (level_at ls' j).made ≡ (level_at ls j).made + 1 = took.whole whole in
          elim (cases_eq i j) [
            | inl e ↦
                subst (λ (n : ℕ). HoldLevel (λ v. v) (pos 0) (level_at ls' n).made (level_at ls' n).w (lifted_at k (coming_at k c n) (level_at ls' n)) (c.depth - n) b') (sym e)
                (level_more (c.depth - j) (level_at ls' j).made (level_at ls' j).w (level_at ls' j).h (lifted_at k (coming_at k c j) (level_at ls' j)) b b' (level_inside j lt).0 (level_inside j lt).1
                (λ o one three. ((bands_now j lt o one three).0 ∙ sym took.w, (bands_now j lt o one three).1 ∙ sym took.h)) (omega (arith, made)) (omega (arith, took.ready.early, took.ready.few)) stay pair
                (held_as k (c.depth - j) (level_at ls j).made ((level_at ls' j).made - 1) (coming_at k c j) (level_at ls j) (level_at ls' j) b (omega (arith, made)) took.w took.h (shown j (omega (arith, depth)))))
            | inr ne ↦
                let lo : i < length old = omega (arith, depth) in
                subst (λ (l : LevelSeen X). HoldLevel (λ v. v) (pos 0) l.made l.w (lifted_at k (coming_at k c i) l) (c.depth - i) b') (sym (others i ne))
                (still b' i lo (λ o y x one three ly lx. stay (c.depth - i) o y x (inr ((level_inside i lo).0, (level_inside i lo).1, one, three)) ly lx (inl (omega (arith, ne, depth)))) shown)
          ]

    -- ---- LL, behind the last level

    module _ (m : ℕ) (last : c.depth ≡ suc m) where
      last_inside : m < length old
      last_inside = omega (arith, depth, last)

      last_columns : (level_at ls m).w ≡ lowest c.depth c.w * 2 ^ (c.depth - suc m)
      last_columns = columns m last_inside ∙ turn.columns m last_inside ∙ ap (λ (d : ℕ). lowest d c.w * 2 ^ (d - suc m)) (sym depth)

      last_rows : (level_at ls m).h ≡ lowest c.depth c.h * 2 ^ (c.depth - suc m)
      last_rows = rows m last_inside ∙ turn.rows m last_inside ∙ ap (λ (d : ℕ). lowest d c.h * 2 ^ (d - suc m)) (sym depth)

      pub low_columns : (band_of b 0 0).w ≡ (level_at ls m).w
      low_columns = lowest_band.0 ∙ sym (last_columns ∙ last_at c.w c.depth m last)

      pub low_rows : (level_at ls m).made ≤ lowest c.depth c.h
      low_rows =
          let tall : (level_at ls m).h ≡ lowest c.depth c.h = last_rows ∙ last_at c.h c.depth m last in
          omega (arith, tall, few_made m last_inside)

      pub shown_lowest : (b' : BandStack) → IsBandRowPut 0 0 ((level_at ls m).made - 1) (every_other 0 0 (lifted_at k (coming_at k c m) (level_at ls m)) ((level_at ls m).made - 1)) b b'
          → 1 ≤ (level_at ls m).made → (n : ℕ) → (level_at ls m).made ≡ n + 1 → ShowsLowest k c n b → ShowsLowest k c (level_at ls m).made b'
      shown_lowest b' put some n more shown r x lr lx =
          let inside_w : x < (band_of b 0 0).w = omega (arith, lowest_band.0, lx) in
          let inside_h : r < height (band_of b 0 0) = omega (arith, lowest_band.1, low_rows, lr) in
          elim (cases_eq r ((level_at ls m).made - 1)) [
            | inl e ↦
                rw e (put.here x inside_w
                ∙ ll_comes k c (level_at ls m) m (omega (arith, last)) last_columns last_rows ((level_at ls m).made - 1) x
                ∙ ap (λ (i : ℕ). coming_at k c i ((level_at ls m).made - 1) x) (sym last))
            | inr ne ↦ put.others 0 0 r x (inl (refl, refl)) inside_h inside_w (inr (inr ne)) ∙ shown r x (omega (arith, more, lr, ne)) lx
          ]
