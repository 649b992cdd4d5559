use Rattle.std.proofs.Common.{rules, refl, ◌∙◌, ap, ℕ, ◌+◌, ◌-◌, ◌<◌, ◌≤◌, arith, List}
use Rattle.planes.specs.Valued.{valued, grid_of}
use Rattle.planes.proofs.RowLists.{length-rows_of}
use Rattle.lifting.proofs.LevelPairs.{pair_of}
use Rattle.lifting.proofs.synthesis.raise_level.Goals as goal

pub put_pair-requires : goal.put_pair-requires
put_pair-requires g c κs within =
    let at = valued g.T.Number.value g.T.Number.none in
    let l = c.args.level.now in
    let i = c.loop-y.invariant in
    let y : ℕ = c.loop-y.y in
    let lt : y < l.h = c.loop-y-test.true in
    let b : ℕ = c.saturating_sub-before.result in
    let few : b ≤ y = omega (arith, c.saturating_sub-before.ensures) in
    let before : y ≤ b + 1 = omega (arith, c.saturating_sub-before.ensures) in
    let pair = pair_of g.T.Number.value g.T.Number.none g.g l in (
      search rules,
      (
        search rules,
        (
          i.is_open,
          (
            omega (arith, i.came, i.is.1, lt),
            (
              rw (i.is.2, i.is.1, i.came) i.given,
              (
                pair b _ _ (omega (arith, few, lt)) i.is.0 (omega (arith, i.came, c.saturating_sub-before.ensures)) c.requires.1.1.1.0 c.pair-above.result c.row.result.now c.pair-above.ensures.ll (omega (arith, c.row.ensures.len, c.requires.1.1.1.1.1.1.0, i.same_size.0))
                    (λ x lx. ap (λ (r : List g.row.T.Denot). at r x) c.row.ensures.value ∙ ap (λ (n : ℕ). grid_of g.T.Number.value g.T.Number.none c.loop-y.plane (n - l.h + b) x) c.h-2.ensures.value ∙ i.rest b x lt before (omega (arith, few, lt)) lx)
                    c.pair-above.ensures.long c.pair-above.ensures.hl c.pair-above.ensures.lh c.pair-above.ensures.hh,
                (
                  pair y _ _ lt i.is.0 i.came c.requires.1.1.1.0 c.pair-pair.result c.row-in-loop-y.result.now c.pair-pair.ensures.ll (omega (arith, c.row-in-loop-y.ensures.len, c.requires.1.1.1.1.1.1.0, i.same_size.0))
                      (λ x lx. ap (λ (r : List g.row.T.Denot). at r x) c.row-in-loop-y.ensures.value ∙ ap (λ (n : ℕ). grid_of g.T.Number.value g.T.Number.none c.loop-y.plane (n - l.h + y) x) c.h-2.ensures.value ∙ i.rest y x lt (omega arith) lt lx)
                      c.pair-pair.ensures.long c.pair-pair.ensures.hl c.pair-pair.ensures.lh c.pair-pair.ensures.hh,
                  (rw (i.is.2, i.is.1, i.is.0) c.requires.1.1.1.1.0, i.has),
                ),
              ),
            ),
          ),
        ),
      ),
    )

pub returns-clause-same_size_scratch : goal.returns-clause-same_size_scratch
returns-clause-same_size_scratch g c = (refl, length-rows_of _ _ _)
