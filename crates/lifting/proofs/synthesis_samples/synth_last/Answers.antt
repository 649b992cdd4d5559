use Rattle.std.proofs.Common.{rules, ◌∙◌, ap, arith}
use Rattle.lifting.specs.Clipping.{sample_of}
use Rattle.lifting.proofs.Levels.{last_asks, last_stands}
use Rattle.lifting.proofs.synthesis_samples.synth_last.Goals as goal

pub sample_level-requires : goal.sample_level-requires
sample_level-requires g c κs within =
    let q = c.requires.room in
    let s = c.requires.shown in
    let last =
    last_asks g.T.Number.value g.T.Number.none c.args.wavelet c.args.bands.now c.args.size.w c.args.size.h q.whole_columns q.whole_rows q.bands c.requires.some
    c.args.plane.now c.depth.result c.depth.ensures.value c.level_of-level.result c.level_of-level.ensures c.requires.below g.T.Number.reach c.requires.has_room in (
      search rules,
      (
        search rules,
        (
          (omega (arith, last.0, q.some_columns), omega (arith, last.1, q.some_rows)),
          (
            last.2,
            (
              last.3,
              (
                last.4,
                (
                  last.5,
                  (
                    omega (arith, last.1, q.low),
                    (
                      omega (arith, last.0, q.columns),
                      (
                        omega (arith, last.1, q.rows),
                        (
                          omega (arith, last.0, q.scratch_columns),
                          (
                            q.three_rows,
                            ((s.some_bits, c.requires.bits, s.count, s.few), (omega (arith, last.0, s.across), omega (arith, last.1, s.down))),
                          ),
                        ),
                      ),
                    ),
                  ),
                ),
              ),
            ),
          ),
        ),
      ),
    )

pub returns-clause-samples : goal.returns-clause-samples
returns-clause-samples g c y x ly lx =
    let q = c.requires.room in
    let s = c.requires.shown in
    c.sample_level.ensures.samples y x ly lx
    ∙ ap (sample_of c.args.area.depth)
    (last_stands g.T.Number.value g.T.Number.none c.args.wavelet c.args.bands.now c.args.size.w c.args.size.h q.whole_columns q.whole_rows q.bands c.requires.some
    c.args.plane.now c.depth.result c.depth.ensures.value c.level_of-level.result c.level_of-level.ensures c.requires.below
    y x (omega (arith, ly, s.down)) (omega (arith, lx, s.across)))
