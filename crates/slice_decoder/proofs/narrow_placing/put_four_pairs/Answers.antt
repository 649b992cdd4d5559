use Rattle.std.proofs.Common.{ℕ, ◌+◌, ◌-◌, ◌*◌, ◌<◌, get_or, pos, ◌∙◌, arith}
use Rattle.slice_decoder.proofs.NarrowBands.{four-at}
use Rattle.slice_decoder.proofs.PairLanes.{lane-at}
use Rattle.slice_decoder.proofs.narrow_placing.put_four_pairs.Goals as goal

pub returns-clause-first : goal.returns-clause-first
returns-clause-first c j low lt =
    let values = c.args.values.now in
    let from = c.args.from in
    let lane = λ (i : ℕ) (few : i < 8). lane-at values from i few c.requires.room (c.requires.narrow (from + i)) in
    c.put_all.ensures.inside j low lt
    ∙ four-at (λ (k : ℕ). get_or values (from + 2 * k) (pos 0)) _ _ _ _ (j - c.args.x) (omega arith) (lane 0 (omega arith)) (lane 2 (omega arith))
    (lane 4 (omega arith)) (lane 6 (omega arith))

pub returns-clause-second : goal.returns-clause-second
returns-clause-second c j low lt =
    let values = c.args.values.now in
    let from = c.args.from in
    let lane = λ (i : ℕ) (few : i < 8). lane-at values from i few c.requires.room (c.requires.narrow (from + i)) in
    c.put_all-2.ensures.inside j low lt
    ∙ four-at (λ (k : ℕ). get_or values (from + (2 * k + 1)) (pos 0)) _ _ _ _ (j - c.args.x) (omega arith) (lane 1 (omega arith)) (lane 3 (omega arith))
    (lane 5 (omega arith)) (lane 7 (omega arith))
