use Rattle.std.proofs.Common.{rules, ◌≤◌, ◌*◌, ◌^◌, lit≤, arith}
use Rattle.lifting.specs.Ranges.{even_reach, line_reach}
use Rattle.lifting.proofs.Growth.{level_fits_in}
use Rattle.lifting.proofs.LevelPairs.{few_final}
use Rattle.lifting.proofs.in_place.synth_rows.Goals as goal

pub put_next-requires : goal.put_next-requires
put_next-requires g c κs within =
    let i = c.loop-y.invariant in
    let l = c.loop-y.up in
    let q = c.requires.1.1.1.1.1.1.1.1 in
    let enough : even_reach (line_reach (2 ^ 58)) ≤ 2 ^ 61 = lit≤ tt in
    let fits = level_fits_in c.args.wavelet (2 * c.args.h) (2 * c.args.w) (2 ^ 58) g.T.Number.reach g.g (omega arith) (omega arith) (omega (arith, enough, q.0)) q.1.0 in (
      search rules,
      (
        search rules,
        (
          i.is_open,
          (
            omega (arith, i.came, i.is.1, c.loop-y-test.true),
            (
              i.given,
              (
                rw (i.is.2, i.is.1, i.is.0) fits,
                (
                  i.has,
                  (
                    search rules,
                    (
                      search rules,
                      (
                        search rules,
                        (
                          λ j x le. i.rest j x (omega (arith, le, i.given, (few_final l.wavelet l.h l.came i.is_open.few).0)),
                          i.pair,
                        ),
                      ),
                    ),
                  ),
                ),
              ),
            ),
          ),
        ),
      ),
    )

pub take_rows-requires : goal.take_rows-requires
take_rows-requires g c κs within =
    let i = c.loop-y.invariant in
    let same = c.put_next.ensures.same_level in
    let q = c.requires.1.1.1.1.1.1.1.1 in
    let enough : even_reach (line_reach (2 ^ 58)) ≤ 2 ^ 61 = lit≤ tt in
    let fits = level_fits_in c.args.wavelet (2 * c.args.h) (2 * c.args.w) (2 ^ 58) g.T.Number.reach g.g (omega arith) (omega arith) (omega (arith, enough, q.0)) q.1.0 in
    (search rules, (search rules, (c.put_next.ensures.open, (rw (same.wavelet, same.h, same.w, i.is.2, i.is.1, i.is.0) fits, (c.put_next.ensures.after, (search rules, search rules))))))
