use Rattle.std.proofs.Common.{◌≡◌, ◌∙◌, ap, sym, subst, ℕ, ◌+◌, ◌-◌, ◌*◌, ◌^◌, ◌<◌, arith}
use Rattle.std.proofs.lemmas.Int.{ints}
use Rattle.std.proofs.lemmas.Grind.{common_steps}
use Rattle.std.proofs.lemmas.Bool.{eqb-true}
use Rattle.planes.specs.Numbers.{Within}
use Rattle.planes.specs.Raster.{height}
use Rattle.planes.specs.Valued.{grid_of}
use Rattle.lifting.specs.Bands.{lowest}
use Rattle.lifting.specs.Clipping.{sample_of}
use Rattle.lifting.specs.LowerSamples.{rounded}
use Rattle.lifting.specs.SampleRoom.{IsShownArea}
use Rattle.lifting.proofs.Levels.{all_levels, all_levels_fit}
use Rattle.lifting.proofs.lower_samples.synth_lower_samples_of.Goals.{then-level-depth, else-level-depth}
use Rattle.lifting.proofs.lower_samples.synth_lower_samples_of.Goals as goal

pub synth_samples_of-requires-clause-room : goal.synth_samples_of-requires-clause-room
synth_samples_of-requires-clause-room G c =
    let same : c.args.at.level.levels ≡ c.args.bands.now.depth = elim c.if-level-depth.branch [
      | then-level-depth w ↦ w.if-level-depth.true ∙ c.depth.ensures.value
      | else-level-depth w ↦ eqb-true _ _ (sym w.whole-is ∙ c.if-whole.true) ∙ c.depth.ensures.value
    ] in
    let q = c.requires.room in
    let rows = all_levels c.args.at.size.h _ _ q.whole_rows same in
    all_levels_fit c.args.bands.now c.args.plane.now c.args.scratch.now c.args.at.size.w c.args.at.size.h c.args.at.level.levels q same c.if-size-gt0.true c.if-size-gt0-2.true (omega (arith, rows, c.requires.rows, c.h.ensures.value, c.h.ensures.most)) (omega (arith, c.if-h-ge3.true, c.h-then-size-gt0-2.ensures.value))

pub synth_samples_of-requires-clause-has_room : goal.synth_samples_of-requires-clause-has_room
synth_samples_of-requires-clause-has_room g c = grind (ints, arith, common_steps)

pub synth_samples_of-requires-clause-shown : goal.synth_samples_of-requires-clause-shown
synth_samples_of-requires-clause-shown G c =
    let at = c.args.at in
    let depth : ℕ = c.args.bands.now.depth in
    let same : c.args.at.level.levels ≡ c.args.bands.now.depth = elim c.if-level-depth.branch [
      | then-level-depth w ↦ w.if-level-depth.true ∙ c.depth.ensures.value
      | else-level-depth w ↦ eqb-true _ _ (sym w.whole-is ∙ c.if-whole.true) ∙ c.depth.ensures.value
    ] in
    subst (λ (n : ℕ). IsShownArea c.args.area at.size.w n c.args.samples.now) (all_levels at.size.h depth at.level.levels c.requires.room.whole_rows same)
    (subst (λ (n : ℕ). IsShownArea c.args.area n (lowest depth at.size.h * 2 ^ at.level.levels) c.args.samples.now) (all_levels at.size.w depth at.level.levels c.requires.room.whole_columns same) c.requires.shown)

pub returns-then-h-ge3-clause-samples : goal.returns-then-h-ge3-clause-samples
returns-then-h-ge3-clause-samples c = grind (arith, common_steps)

pub synth_levels_of-requires-clause-room : goal.synth_levels_of-requires-clause-room
synth_levels_of-requires-clause-room g c = grind (ints, arith, common_steps)

pub synth_levels_of-requires-clause-has_room : goal.synth_levels_of-requires-clause-has_room
synth_levels_of-requires-clause-has_room g c = grind (ints, arith, common_steps)

pub round_plane-requires-clause-small : goal.round_plane-requires-clause-small
round_plane-requires-clause-small G c y x ly lx =
    let b = c.args.bands.now in
    let n : ℕ = c.args.at.level.levels in
    let q = c.synth_levels_of.ensures in
    let p = c.synth_levels_of.new.plane in
    let y_in : y < lowest b.depth c.args.at.size.h * 2 ^ n = omega (arith, ly, q.same_size.1, c.requires.rows) in
    let x_in : x < lowest b.depth c.args.at.size.w * 2 ^ n = omega (arith, lx, q.same_size.0, c.requires.columns) in
    let place : height p - lowest b.depth c.args.at.size.h * 2 ^ n + y ≡ y = omega (arith, q.same_size.1, c.requires.rows) in
    subst (λ (j : ℕ). Within G.T.Number.reach (grid_of G.T.Number.value G.T.Number.none p j x)) place (subst (Within G.T.Number.reach) (sym (q.levels y x y_in x_in)) (c.requires.made y x y_in x_in))

pub returns-clause-samples : goal.returns-clause-samples
returns-clause-samples G c y x ly lx =
    let b = c.args.bands.now in
    let n : ℕ = c.args.at.level.levels in
    let q = c.synth_levels_of.ensures in
    let p = c.synth_levels_of.new.plane in
    let y_in : y < lowest b.depth c.args.at.size.h * 2 ^ n = omega (arith, ly, c.requires.shown.down) in
    let x_in : x < lowest b.depth c.args.at.size.w * 2 ^ n = omega (arith, lx, c.requires.shown.across) in
    let place : y ≡ height p - lowest b.depth c.args.at.size.h * 2 ^ n + y = omega (arith, q.same_size.1, c.requires.rows) in
    c.sample_lowest.ensures.samples y x ly lx
    ∙ ap (sample_of c.args.area.depth)
    (c.round_plane.ensures.rounded y x (omega (arith, y_in, q.same_size.1, c.requires.rows)) (omega (arith, x_in, q.same_size.0, c.requires.columns))
    ∙ ap (rounded c.args.at.level.shift) (ap (λ (j : ℕ). grid_of G.T.Number.value G.T.Number.none p j x) place ∙ q.levels y x y_in x_in))
