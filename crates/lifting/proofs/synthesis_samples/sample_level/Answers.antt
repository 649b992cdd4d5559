use Rattle.std.proofs.Common.{rules, refl, ◌∙◌, ap, ℕ, ◌+◌, ◌-◌, ◌<◌, arith, List}
use Rattle.planes.specs.Valued.{valued, grid_of}
use Rattle.planes.proofs.RowLists.{length-rows_of}
use Rattle.lifting.proofs.LevelPairs.{pair_of}
use Rattle.lifting.proofs.synthesis_samples.sample_level.Goals as goal

pub put_pair-requires : goal.put_pair-requires
put_pair-requires g c κs within =
    let at = valued g.T.Number.value g.T.Number.none in
    let l = c.args.level.now in
    let i = c.loop-y.invariant in
    let y : ℕ = c.loop-y.y in
    let lt : y < l.h = c.loop-y-test.true in (
      search rules,
      (
        search rules,
        (
          i.is_open,
          (
            omega (arith, i.came, i.is.1, lt),
            (
              rw (i.is.2, i.is.1, i.came) i.given,
              (
                rw (i.is.0, i.came) i.above,
                (
                  pair_of g.T.Number.value g.T.Number.none g.g l y _ _ lt i.is.0 i.came c.requires.1.1.1.1.0 c.pair-pair.result c.row-in-loop-y.result.now c.pair-pair.ensures.ll (omega (arith, c.row-in-loop-y.ensures.len, c.requires.1.1.1.1.1.1.1.1.0))
                      (λ x lx. ap (λ (r : List g.row.T.Denot). at r x) c.row-in-loop-y.ensures.value ∙ ap (λ (n : ℕ). grid_of g.T.Number.value g.T.Number.none c.args.plane.now (n - l.h + y) x) c.h-2.ensures.value ∙ c.requires.1.1.1.1.1.1.0 y x lt lx)
                      c.pair-pair.ensures.long c.pair-pair.ensures.hl c.pair-pair.ensures.lh c.pair-pair.ensures.hh,
                  (rw (i.is.2, i.is.1, i.is.0) c.requires.1.1.1.1.1.0, i.has),
                ),
              ),
            ),
          ),
        ),
      ),
    )

pub sample_rows-requires : goal.sample_rows-requires
sample_rows-requires g c κs within =
    let i = c.loop-y.invariant in
    let put = c.put_pair.ensures in
    let shown = c.requires.1.1.1.1.1.1.1.1.1.1.1.1.0 in (
      search rules,
      (
        search rules,
        (
          put.open,
          (
            rw (put.same_level.wavelet, put.same_level.h, put.same_level.w, i.is.2, i.is.1, i.is.0) c.requires.1.1.1.1.1.0,
            (
              put.after,
              (
                (shown.0, shown.1, i.count ∙ shown.2, shown.3),
                (omega (arith, put.same_level.w, i.is.0, c.requires.1.1.1.1.1.1.1.1.1.1.1.1.1.0), rw (put.counts.1, put.same_level.wavelet, put.same_level.h, put.same_level.w, i.is.2, i.is.1, i.is.0) i.done),
              ),
            ),
          ),
        ),
      ),
    )

pub returns-clause-same_size_scratch : goal.returns-clause-same_size_scratch
returns-clause-same_size_scratch g c = (refl, length-rows_of _ _ _)
