use Rattle.std.proofs.Common.{rules, ◌≡◌, ◌∙◌, refl, sym, ap, subst, ℕ, suc, ◌+◌, ◌-◌, ◌<◌, ◌≤◌, length, true, false, arith, inl}
use Rattle.std.proofs.lemmas.List.{get_or_read_under}
use Rattle.std.specs.Prelude.{slice_index_or}
use Rattle.planes.specs.Raster.{height}
use Rattle.planes.specs.Subbands.{band_of}
use Rattle.lifting.specs.RowAnalysis.{LevelSeen, level_at, no_level, IsReadyRing, RowsWait, lifted_at, coming_at, rows_behind}
use Rattle.lifting.specs.RowSinks.{AreBandsOf, HoldPair, OtherRowsStay, IsBandRowPut}
use Rattle.lifting.specs.Transform.{every_other}
use Rattle.lifting.proofs.RowsInTurn.{more_come, small_here, first_wide, first_row, above_here, all_in_turn, come_then, columns_then, rows_then, ready_then, one_taken, stopped_in_turn, lowest_waits, lowest_band, bands_now, shown_beside, shown_waits, shown_then, low_columns, low_rows, shown_lowest}
use Rattle.lifting.proofs.SinkRows.{agree_then}
use Rattle.lifting.proofs.row_analysis.hand_down.Goals as goal

pub take_next-requires : goal.take_next-requires
take_next-requires g c κs within =
    let q = c.requires.1.1.1 in
    let k = c.args.wavelet in
    let value = g.T.Number.value in
    let none = g.T.Number.none in
    let old = c.args.levels.now in
    let ls = c.loop-j.levels in
    let j = c.loop-j.j in
    let i = c.loop-j.invariant in
    let have = i.taken in
    let y = (level_at old 0).came in
    let depth = q.1.0 in
    let turn = q.1.1.0 in
    let more = q.1.1.1.0 in
    let come = q.1.1.1.1.1.1.1.0 in
    let stack = g.S.RowSink.stack in
    let same = q.1.1.1.1.1.1.1.1.1.0 in
    let sizes = q.1.1.1.1.1.1.1.1.1.1 in
    let b0 = stack c.args.sink.now in
    let b = stack c.loop-j.sink in
    let lt : j < length old = omega (arith, c.loop-j-test.true) in
    let a = first_wide value none k g.c y old depth turn come j ls lt have in (
      search rules,
      (
        search rules,
        (
          omega (arith, lt, have.count),
          (
            λ n ln. have.ready n (omega (arith, ln, have.count)),
            (
              have.made j lt,
              (
                more_come value none k g.c y old depth turn come j ls lt have more,
                (
                  small_here value none k g.c y old depth turn come j ls lt have q.1.1.1.1.1.1.0,
                  (
                    have.come j (omega (arith, lt, have.count)),
                    (
                      λ e. omega (arith, a e, q.1.1.1.1.0),
                      (
                        λ e x lx. q.1.1.1.1.1.0 x (omega (arith, lx, a e)) ∙ first_row value none k g.c y old depth turn come j ls lt have e x,
                        above_here value none k g.c y old depth turn come j ls lt have,
                      ),
                    ),
                  ),
                ),
              ),
            ),
          ),
        ),
      ),
    )

pub returns-then-not-take_next-clause-turn : goal.returns-then-not-take_next-clause-turn
returns-then-not-take_next-clause-turn g c =
    let q = c.requires.1.1.1 in
    let k = c.args.wavelet in
    let value = g.T.Number.value in
    let none = g.T.Number.none in
    let old = c.args.levels.now in
    let ls = c.loop-j.levels in
    let j = c.loop-j.j in
    let i = c.loop-j.invariant in
    let have = i.taken in
    let y = (level_at old 0).came in
    let depth = q.1.0 in
    let turn = q.1.1.0 in
    let more = q.1.1.1.0 in
    let come = q.1.1.1.1.1.1.1.0 in
    let stack = g.S.RowSink.stack in
    let same = q.1.1.1.1.1.1.1.1.1.0 in
    let sizes = q.1.1.1.1.1.1.1.1.1.1 in
    let b0 = stack c.args.sink.now in
    let b = stack c.loop-j.sink in
    let lt : j < length old = omega (arith, c.loop-j-test.true) in
    let new = c.take_next.new.levels in
    let took = c.take_next.ensures.taken in
    let others = c.take_next.ensures.others in
    let count : length new ≡ length ls = c.take_next.auto.levels in
    let waits : c.take_next.result ≡ false = search rules in
    stopped_in_turn value none k g.c y old depth turn come more j ls new lt have c.take_next.result count took others waits

pub returns-then-not-take_next-clause-come : goal.returns-then-not-take_next-clause-come
returns-then-not-take_next-clause-come g c =
    let q = c.requires.1.1.1 in
    let k = c.args.wavelet in
    let value = g.T.Number.value in
    let none = g.T.Number.none in
    let old = c.args.levels.now in
    let ls = c.loop-j.levels in
    let j = c.loop-j.j in
    let i = c.loop-j.invariant in
    let have = i.taken in
    let y = (level_at old 0).came in
    let depth = q.1.0 in
    let turn = q.1.1.0 in
    let more = q.1.1.1.0 in
    let come = q.1.1.1.1.1.1.1.0 in
    let stack = g.S.RowSink.stack in
    let same = q.1.1.1.1.1.1.1.1.1.0 in
    let sizes = q.1.1.1.1.1.1.1.1.1.1 in
    let b0 = stack c.args.sink.now in
    let b = stack c.loop-j.sink in
    let lt : j < length old = omega (arith, c.loop-j-test.true) in
    let new = c.take_next.new.levels in
    let took = c.take_next.ensures.taken in
    let others = c.take_next.ensures.others in
    let count : length new ≡ length ls = c.take_next.auto.levels in
    come_then value none k g.c y old depth turn come more j ls new lt have c.take_next.result count took others

pub returns-then-not-take_next-clause-levels : goal.returns-then-not-take_next-clause-levels
returns-then-not-take_next-clause-levels g c shown =
    let q = c.requires.1.1.1 in
    let k = c.args.wavelet in
    let value = g.T.Number.value in
    let none = g.T.Number.none in
    let old = c.args.levels.now in
    let ls = c.loop-j.levels in
    let j = c.loop-j.j in
    let i = c.loop-j.invariant in
    let have = i.taken in
    let y = (level_at old 0).came in
    let depth = q.1.0 in
    let turn = q.1.1.0 in
    let more = q.1.1.1.0 in
    let come = q.1.1.1.1.1.1.1.0 in
    let stack = g.S.RowSink.stack in
    let same = q.1.1.1.1.1.1.1.1.1.0 in
    let sizes = q.1.1.1.1.1.1.1.1.1.1 in
    let b0 = stack c.args.sink.now in
    let b = stack c.loop-j.sink in
    let lt : j < length old = omega (arith, c.loop-j-test.true) in
    let new = c.take_next.new.levels in
    let took = c.take_next.ensures.taken in
    let others = c.take_next.ensures.others in
    let count : length new ≡ length ls = c.take_next.auto.levels in
    let waits : c.take_next.result ≡ false = search rules in
    shown_waits k g.c y old depth turn b0 same sizes b i.agree ls have.columns have.rows have.ready value none j new lt c.take_next.result took others waits (i.shown shown)

pub returns-then-not-take_next-clause-lowest : goal.returns-then-not-take_next-clause-lowest
returns-then-not-take_next-clause-lowest g c shown r x lr lx =
    let q = c.requires.1.1.1 in
    let k = c.args.wavelet in
    let value = g.T.Number.value in
    let none = g.T.Number.none in
    let old = c.args.levels.now in
    let ls = c.loop-j.levels in
    let j = c.loop-j.j in
    let i = c.loop-j.invariant in
    let have = i.taken in
    let y = (level_at old 0).came in
    let depth = q.1.0 in
    let turn = q.1.1.0 in
    let more = q.1.1.1.0 in
    let come = q.1.1.1.1.1.1.1.0 in
    let stack = g.S.RowSink.stack in
    let same = q.1.1.1.1.1.1.1.1.1.0 in
    let sizes = q.1.1.1.1.1.1.1.1.1.1 in
    let b0 = stack c.args.sink.now in
    let b = stack c.loop-j.sink in
    let lt : j < length old = omega (arith, c.loop-j-test.true) in
    let new = c.take_next.new.levels in
    let took = c.take_next.ensures.taken in
    let others = c.take_next.ensures.others in
    let count : length new ≡ length ls = c.take_next.auto.levels in
    let waits : c.take_next.result ≡ false = search rules in
    let m : ℕ = length old - 1 in
    let last : g.c.depth ≡ suc m = omega (arith, depth, q.0) in
    let behind : rows_behind (y + 1) new g.c.depth ≡ (level_at new m).made = ap (rows_behind (y + 1) new) last in
    let low = low_rows k g.c y old depth turn b0 same sizes b i.agree new (columns_then value none k g.c y old depth turn come more j ls new lt have c.take_next.result count took others) (rows_then value none k g.c y old depth turn come more j ls new lt have c.take_next.result count took others) (ready_then value none k g.c y old depth turn come more j ls new lt have c.take_next.result count took others) m last in
    i.lowest r x (omega (arith, lr, behind, low)) lx ∙ shown r x (omega (arith, lr, lowest_waits value none k g.c y old depth turn come more j ls new lt have c.take_next.result count took others waits)) lx

pub deal_pair-requires-clause-fits : goal.deal_pair-requires-clause-fits
deal_pair-requires-clause-fits g c =
    let q = c.requires.1.1.1 in
    let k = c.args.wavelet in
    let value = g.T.Number.value in
    let none = g.T.Number.none in
    let old = c.args.levels.now in
    let ls = c.loop-j.levels in
    let j = c.loop-j.j in
    let i = c.loop-j.invariant in
    let have = i.taken in
    let y = (level_at old 0).came in
    let depth = q.1.0 in
    let turn = q.1.1.0 in
    let more = q.1.1.1.0 in
    let come = q.1.1.1.1.1.1.1.0 in
    let stack = g.S.RowSink.stack in
    let same = q.1.1.1.1.1.1.1.1.1.0 in
    let sizes = q.1.1.1.1.1.1.1.1.1.1 in
    let b0 = stack c.args.sink.now in
    let b = stack c.loop-j.sink in
    let lt : j < length old = omega (arith, c.loop-j-test.true) in
    let new = c.take_next.new.levels in
    let took = c.take_next.ensures.taken in
    let others = c.take_next.ensures.others in
    let count : length new ≡ length ls = c.take_next.auto.levels in
    let Level = LevelSeen g.row.T.Denot in
    let raw : Level = slice_index_or new j c.index-levels-j.result in
    let here : raw ≡ level_at new j = sym c.index-levels-j.is ∙ get_or_read_under new j (length new) c.index-levels-j.result no_level c.index-levels-j.is (omega (arith, lt, count, have.count)) refl in
    subst (λ (l : Level). AreBandsOf (length old - j) l.w l.h b) (sym here)
    (subst (λ (d : ℕ). AreBandsOf (d - j) (level_at new j).w (level_at new j).h b) depth
    (bands_now k g.c y old depth turn b0 same sizes b i.agree new (columns_then value none k g.c y old depth turn come more j ls new lt have c.take_next.result count took others) (rows_then value none k g.c y old depth turn come more j ls new lt have c.take_next.result count took others) (ready_then value none k g.c y old depth turn come more j ls new lt have c.take_next.result count took others) j lt))

pub loop-j-preserved : goal.loop-j-preserved
loop-j-preserved g c =
    let q = c.requires.1.1.1 in
    let k = c.args.wavelet in
    let value = g.T.Number.value in
    let none = g.T.Number.none in
    let old = c.args.levels.now in
    let ls = c.loop-j.levels in
    let j = c.loop-j.j in
    let i = c.loop-j.invariant in
    let have = i.taken in
    let y = (level_at old 0).came in
    let depth = q.1.0 in
    let turn = q.1.1.0 in
    let more = q.1.1.1.0 in
    let come = q.1.1.1.1.1.1.1.0 in
    let stack = g.S.RowSink.stack in
    let same = q.1.1.1.1.1.1.1.1.1.0 in
    let sizes = q.1.1.1.1.1.1.1.1.1.1 in
    let b0 = stack c.args.sink.now in
    let b = stack c.loop-j.sink in
    let lt : j < length old = omega (arith, c.loop-j-test.true) in
    let new = c.take_next.new.levels in
    let took = c.take_next.ensures.taken in
    let others = c.take_next.ensures.others in
    let count : length new ≡ length ls = c.take_next.auto.levels in
    let Level = LevelSeen g.row.T.Denot in
    let raw : Level = slice_index_or new j c.index-levels-j.result in
    let here : raw ≡ level_at new j = sym c.index-levels-j.is ∙ get_or_read_under new j (length new) c.index-levels-j.result no_level c.index-levels-j.is (omega (arith, lt, count, have.count)) refl in
    let whole : c.take_next.result ≡ true = search rules in
    let dealt = c.deal_pair.ensures in
    let b' = stack c.deal_pair.new.sink in
    let stay : OtherRowsStay (g.c.depth - j) ((level_at new j).made - 1) b b' =
    subst (λ (l : Level). OtherRowsStay (g.c.depth - j) (l.made - 1) b b') here (subst (λ (d : ℕ). OtherRowsStay (d - j) (raw.made - 1) b b') (sym depth) dealt.others) in
    let grid = coming_at k g.c j in
    let pair : HoldPair (g.c.depth - j) ((level_at new j).made - 1) (level_at new j).w (lifted_at k grid (level_at new j)) b' =
    subst (λ (l : Level). HoldPair (g.c.depth - j) (l.made - 1) l.w (lifted_at k grid l) b') here
    (subst (λ (d : ℕ). HoldPair (d - j) (raw.made - 1) raw.w (lifted_at k grid raw) b') (sym depth) (dealt.put k grid (subst (RowsWait value none k grid) (sym here) took.after))) in
    let band = lowest_band k g.c y old depth turn b0 same sizes b i.agree in
    record {
      taken = one_taken value none k g.c y old depth turn come more j ls new lt have c.take_next.result count took others whole;
      opened = dealt.open;
      stays = g.met.S.RowSink.in_turn _ _ _ i.stays dealt.stays;
      agree = agree_then b0 b i.agree b' dealt.sizes;
      shown = λ shown. shown_then k g.c y old depth turn b0 same sizes b i.agree ls have.columns have.rows have.ready value none j new lt c.take_next.result took others b' whole stay pair (i.shown shown);
      lowest = λ r x lr lx. dealt.others 0 0 r x (inl (refl, refl)) (omega (arith, lr, band.1)) (omega (arith, lx, band.0)) (inl (omega (arith, lt))) ∙ i.lowest r x lr lx;
    }

pub put_lowest-requires-clause-ready : goal.put_lowest-requires-clause-ready
put_lowest-requires-clause-ready g c =
    let q = c.requires.1.1.1 in
    let k = c.args.wavelet in
    let value = g.T.Number.value in
    let none = g.T.Number.none in
    let old = c.args.levels.now in
    let ls = c.loop-j.levels in
    let j = c.loop-j.j in
    let i = c.loop-j.invariant in
    let have = i.taken in
    let y = (level_at old 0).came in
    let depth = q.1.0 in
    let turn = q.1.1.0 in
    let more = q.1.1.1.0 in
    let come = q.1.1.1.1.1.1.1.0 in
    let stack = g.S.RowSink.stack in
    let same = q.1.1.1.1.1.1.1.1.1.0 in
    let sizes = q.1.1.1.1.1.1.1.1.1.1 in
    let b0 = stack c.args.sink.now in
    let b = stack c.loop-j.sink in
    let all : j ≡ length old = omega (arith, c.loop-j-test.false, c.loop-j.auto.j-end) in
    let m : ℕ = length old - 1 in
    let last : g.c.depth ≡ suc m = omega (arith, depth, q.0) in
    let Level = LevelSeen g.row.T.Denot in
    let raw : Level = slice_index_or ls m c.index-levels-depth.result in
    let here : raw ≡ level_at ls m = sym c.index-levels-depth.is ∙ get_or_read_under ls m (length ls) c.index-levels-depth.result no_level c.index-levels-depth.is (omega (arith, have.count, q.0)) refl in
    subst IsReadyRing (sym here) (have.ready m (omega (arith, q.0)))

pub put_lowest-requires-clause-some : goal.put_lowest-requires-clause-some
put_lowest-requires-clause-some g c =
    let q = c.requires.1.1.1 in
    let k = c.args.wavelet in
    let value = g.T.Number.value in
    let none = g.T.Number.none in
    let old = c.args.levels.now in
    let ls = c.loop-j.levels in
    let j = c.loop-j.j in
    let i = c.loop-j.invariant in
    let have = i.taken in
    let y = (level_at old 0).came in
    let depth = q.1.0 in
    let turn = q.1.1.0 in
    let more = q.1.1.1.0 in
    let come = q.1.1.1.1.1.1.1.0 in
    let stack = g.S.RowSink.stack in
    let same = q.1.1.1.1.1.1.1.1.1.0 in
    let sizes = q.1.1.1.1.1.1.1.1.1.1 in
    let b0 = stack c.args.sink.now in
    let b = stack c.loop-j.sink in
    let all : j ≡ length old = omega (arith, c.loop-j-test.false, c.loop-j.auto.j-end) in
    let m : ℕ = length old - 1 in
    let last : g.c.depth ≡ suc m = omega (arith, depth, q.0) in
    let Level = LevelSeen g.row.T.Denot in
    let raw : Level = slice_index_or ls m c.index-levels-depth.result in
    let here : raw ≡ level_at ls m = sym c.index-levels-depth.is ∙ get_or_read_under ls m (length ls) c.index-levels-depth.result no_level c.index-levels-depth.is (omega (arith, have.count, q.0)) refl in
    let made = (have.taken m (omega (arith, all, q.0))).made in
    subst (λ (l : Level). 1 ≤ l.made) (sym here) (omega (arith, made))

pub put_lowest-requires-clause-inside : goal.put_lowest-requires-clause-inside
put_lowest-requires-clause-inside g c =
    let q = c.requires.1.1.1 in
    let k = c.args.wavelet in
    let value = g.T.Number.value in
    let none = g.T.Number.none in
    let old = c.args.levels.now in
    let ls = c.loop-j.levels in
    let j = c.loop-j.j in
    let i = c.loop-j.invariant in
    let have = i.taken in
    let y = (level_at old 0).came in
    let depth = q.1.0 in
    let turn = q.1.1.0 in
    let more = q.1.1.1.0 in
    let come = q.1.1.1.1.1.1.1.0 in
    let stack = g.S.RowSink.stack in
    let same = q.1.1.1.1.1.1.1.1.1.0 in
    let sizes = q.1.1.1.1.1.1.1.1.1.1 in
    let b0 = stack c.args.sink.now in
    let b = stack c.loop-j.sink in
    let all : j ≡ length old = omega (arith, c.loop-j-test.false, c.loop-j.auto.j-end) in
    let m : ℕ = length old - 1 in
    let last : g.c.depth ≡ suc m = omega (arith, depth, q.0) in
    let Level = LevelSeen g.row.T.Denot in
    let raw : Level = slice_index_or ls m c.index-levels-depth.result in
    let here : raw ≡ level_at ls m = sym c.index-levels-depth.is ∙ get_or_read_under ls m (length ls) c.index-levels-depth.result no_level c.index-levels-depth.is (omega (arith, have.count, q.0)) refl in
    let made = (have.taken m (omega (arith, all, q.0))).made in
    let low = low_rows k g.c y old depth turn b0 same sizes b i.agree ls have.columns have.rows have.ready m last in
    let band = lowest_band k g.c y old depth turn b0 same sizes b i.agree in
    subst (λ (l : Level). l.made - 1 < height (band_of b 0 0)) (sym here) (omega (arith, made, low, band.1))

pub put_lowest-requires-clause-columns : goal.put_lowest-requires-clause-columns
put_lowest-requires-clause-columns g c =
    let q = c.requires.1.1.1 in
    let k = c.args.wavelet in
    let value = g.T.Number.value in
    let none = g.T.Number.none in
    let old = c.args.levels.now in
    let ls = c.loop-j.levels in
    let j = c.loop-j.j in
    let i = c.loop-j.invariant in
    let have = i.taken in
    let y = (level_at old 0).came in
    let depth = q.1.0 in
    let turn = q.1.1.0 in
    let more = q.1.1.1.0 in
    let come = q.1.1.1.1.1.1.1.0 in
    let stack = g.S.RowSink.stack in
    let same = q.1.1.1.1.1.1.1.1.1.0 in
    let sizes = q.1.1.1.1.1.1.1.1.1.1 in
    let b0 = stack c.args.sink.now in
    let b = stack c.loop-j.sink in
    let all : j ≡ length old = omega (arith, c.loop-j-test.false, c.loop-j.auto.j-end) in
    let m : ℕ = length old - 1 in
    let last : g.c.depth ≡ suc m = omega (arith, depth, q.0) in
    let Level = LevelSeen g.row.T.Denot in
    let raw : Level = slice_index_or ls m c.index-levels-depth.result in
    let here : raw ≡ level_at ls m = sym c.index-levels-depth.is ∙ get_or_read_under ls m (length ls) c.index-levels-depth.result no_level c.index-levels-depth.is (omega (arith, have.count, q.0)) refl in
    low_columns k g.c y old depth turn b0 same sizes b i.agree ls have.columns have.rows have.ready m last ∙ ap (λ (l : Level). l.w) (sym here)

pub returns-clause-turn : goal.returns-clause-turn
returns-clause-turn g c =
    let q = c.requires.1.1.1 in
    let k = c.args.wavelet in
    let value = g.T.Number.value in
    let none = g.T.Number.none in
    let old = c.args.levels.now in
    let ls = c.loop-j.levels in
    let j = c.loop-j.j in
    let i = c.loop-j.invariant in
    let have = i.taken in
    let y = (level_at old 0).came in
    let depth = q.1.0 in
    let turn = q.1.1.0 in
    let more = q.1.1.1.0 in
    let come = q.1.1.1.1.1.1.1.0 in
    let stack = g.S.RowSink.stack in
    let same = q.1.1.1.1.1.1.1.1.1.0 in
    let sizes = q.1.1.1.1.1.1.1.1.1.1 in
    let b0 = stack c.args.sink.now in
    let b = stack c.loop-j.sink in
    let all : j ≡ length old = omega (arith, c.loop-j-test.false, c.loop-j.auto.j-end) in
    let m : ℕ = length old - 1 in
    let last : g.c.depth ≡ suc m = omega (arith, depth, q.0) in
    let Level = LevelSeen g.row.T.Denot in
    let raw : Level = slice_index_or ls m c.index-levels-depth.result in
    let here : raw ≡ level_at ls m = sym c.index-levels-depth.is ∙ get_or_read_under ls m (length ls) c.index-levels-depth.result no_level c.index-levels-depth.is (omega (arith, have.count, q.0)) refl in
    all_in_turn value none k g.c y old depth turn come more j ls all have

pub returns-clause-sizes : goal.returns-clause-sizes
returns-clause-sizes g c =
    let q = c.requires.1.1.1 in
    let k = c.args.wavelet in
    let value = g.T.Number.value in
    let none = g.T.Number.none in
    let old = c.args.levels.now in
    let ls = c.loop-j.levels in
    let j = c.loop-j.j in
    let i = c.loop-j.invariant in
    let have = i.taken in
    let y = (level_at old 0).came in
    let depth = q.1.0 in
    let turn = q.1.1.0 in
    let more = q.1.1.1.0 in
    let come = q.1.1.1.1.1.1.1.0 in
    let stack = g.S.RowSink.stack in
    let same = q.1.1.1.1.1.1.1.1.1.0 in
    let sizes = q.1.1.1.1.1.1.1.1.1.1 in
    let b0 = stack c.args.sink.now in
    let b = stack c.loop-j.sink in
    agree_then b0 b i.agree (stack c.put_lowest.new.sink) c.put_lowest.ensures.sizes

pub returns-clause-levels : goal.returns-clause-levels
returns-clause-levels g c shown =
    let q = c.requires.1.1.1 in
    let k = c.args.wavelet in
    let value = g.T.Number.value in
    let none = g.T.Number.none in
    let old = c.args.levels.now in
    let ls = c.loop-j.levels in
    let j = c.loop-j.j in
    let i = c.loop-j.invariant in
    let have = i.taken in
    let y = (level_at old 0).came in
    let depth = q.1.0 in
    let turn = q.1.1.0 in
    let more = q.1.1.1.0 in
    let come = q.1.1.1.1.1.1.1.0 in
    let stack = g.S.RowSink.stack in
    let same = q.1.1.1.1.1.1.1.1.1.0 in
    let sizes = q.1.1.1.1.1.1.1.1.1.1 in
    let b0 = stack c.args.sink.now in
    let b = stack c.loop-j.sink in
    let all : j ≡ length old = omega (arith, c.loop-j-test.false, c.loop-j.auto.j-end) in
    let m : ℕ = length old - 1 in
    let last : g.c.depth ≡ suc m = omega (arith, depth, q.0) in
    let Level = LevelSeen g.row.T.Denot in
    let raw : Level = slice_index_or ls m c.index-levels-depth.result in
    let here : raw ≡ level_at ls m = sym c.index-levels-depth.is ∙ get_or_read_under ls m (length ls) c.index-levels-depth.result no_level c.index-levels-depth.is (omega (arith, have.count, q.0)) refl in
    let b' = stack c.put_lowest.new.sink in
    let grid = coming_at k g.c m in
    let put : IsBandRowPut 0 0 ((level_at ls m).made - 1) (every_other 0 0 (lifted_at k grid (level_at ls m)) ((level_at ls m).made - 1)) b b' =
    subst (λ (l : Level). IsBandRowPut 0 0 (l.made - 1) (every_other 0 0 (lifted_at k grid l) (l.made - 1)) b b') here
    (c.put_lowest.ensures.put k grid (subst (RowsWait value none k grid) (sym here) (have.come m (omega (arith, have.count, q.0))))) in
    shown_beside k g.c y old depth turn b0 same sizes b i.agree ls have.columns have.rows have.ready b' _ _ put (i.shown shown)

pub returns-clause-lowest : goal.returns-clause-lowest
returns-clause-lowest g c shown r x lr lx =
    let q = c.requires.1.1.1 in
    let k = c.args.wavelet in
    let value = g.T.Number.value in
    let none = g.T.Number.none in
    let old = c.args.levels.now in
    let ls = c.loop-j.levels in
    let j = c.loop-j.j in
    let i = c.loop-j.invariant in
    let have = i.taken in
    let y = (level_at old 0).came in
    let depth = q.1.0 in
    let turn = q.1.1.0 in
    let more = q.1.1.1.0 in
    let come = q.1.1.1.1.1.1.1.0 in
    let stack = g.S.RowSink.stack in
    let same = q.1.1.1.1.1.1.1.1.1.0 in
    let sizes = q.1.1.1.1.1.1.1.1.1.1 in
    let b0 = stack c.args.sink.now in
    let b = stack c.loop-j.sink in
    let all : j ≡ length old = omega (arith, c.loop-j-test.false, c.loop-j.auto.j-end) in
    let m : ℕ = length old - 1 in
    let last : g.c.depth ≡ suc m = omega (arith, depth, q.0) in
    let Level = LevelSeen g.row.T.Denot in
    let raw : Level = slice_index_or ls m c.index-levels-depth.result in
    let here : raw ≡ level_at ls m = sym c.index-levels-depth.is ∙ get_or_read_under ls m (length ls) c.index-levels-depth.result no_level c.index-levels-depth.is (omega (arith, have.count, q.0)) refl in
    let made = (have.taken m (omega (arith, all, q.0))).made in
    let b' = stack c.put_lowest.new.sink in
    let grid = coming_at k g.c m in
    let put : IsBandRowPut 0 0 ((level_at ls m).made - 1) (every_other 0 0 (lifted_at k grid (level_at ls m)) ((level_at ls m).made - 1)) b b' =
    subst (λ (l : Level). IsBandRowPut 0 0 (l.made - 1) (every_other 0 0 (lifted_at k grid l) (l.made - 1)) b b') here
    (c.put_lowest.ensures.put k grid (subst (RowsWait value none k grid) (sym here) (have.come m (omega (arith, have.count, q.0))))) in
    let low = low_rows k g.c y old depth turn b0 same sizes b i.agree ls have.columns have.rows have.ready m last in
    let behind : rows_behind (y + 1) ls g.c.depth ≡ (level_at ls m).made = ap (rows_behind (y + 1) ls) last in
    let before : rows_behind y old g.c.depth ≡ (level_at old m).made = ap (rows_behind y old) last in
    shown_lowest k g.c y old depth turn b0 same sizes b i.agree ls have.columns have.rows have.ready m last b' put (omega (arith, made)) (level_at old m).made made
    (λ r x lr lx. i.lowest r x (omega (arith, lr, made, low)) lx ∙ shown r x (omega (arith, lr, before)) lx) r x (omega (arith, lr, behind)) lx
