use Rattle.std.proofs.Common.{◌≡◌, ◌∙◌, refl, sym, ap, ℕ, ℤ, length, take, arith}
use Rattle.std.proofs.lemmas.List.{length-take-le}
use Rattle.planes.specs.Valued.{valued}
use Rattle.lifting.specs.declared.PairStep.TheVariants.{OddUp}
use Rattle.lifting.proofs.Growth.{twofold}
use Rattle.lifting.specs.Steps.{step, halved}
use Rattle.lifting.specs.Clipping.{sample_of}
use Rattle.lifting.proofs.WovenLines.{sides_made, front_fits, back_fits, lifted_front_fits, lifted_back_fits, woven_made, odd_pass}
use Rattle.lifting.proofs.SampleRows.{woven_each}
use Rattle.lifting.proofs.samples.sample_sides.Goals as goal

pub lift_even_half-requires-clause-even_small : goal.lift_even_half-requires-clause-even_small
lift_even_half-requires-clause-even_small G c =
    let parts = c.split_at_mut-even in
    front_fits G.T.Number.value G.T.Number.none c.args.w c.args.row.now parts.result.0.now parts.result.1.now parts.ensures.front parts.ensures.back c.args.wavelet _ parts.ensures.front_len G.T.Number.reach c.requires.has_room

pub lift_even_half-requires-clause-odd_small : goal.lift_even_half-requires-clause-odd_small
lift_even_half-requires-clause-odd_small G c =
    let parts = c.split_at_mut-even in
    back_fits G.T.Number.value G.T.Number.none c.args.w c.args.row.now parts.result.0.now parts.result.1.now parts.ensures.front parts.ensures.back c.args.wavelet _ parts.ensures.front_len G.T.Number.reach c.requires.has_room
    (length (take c.args.w parts.result.1.now)) (length-take-le c.args.w parts.result.1.now (omega arith) ∙ sym parts.ensures.front_len)

pub lift_odd_half-requires-clause-odd_small : goal.lift_odd_half-requires-clause-odd_small
lift_odd_half-requires-clause-odd_small G c =
    let parts = c.split_at_mut-even in
    back_fits G.T.Number.value G.T.Number.none c.args.w c.args.row.now parts.result.0.now parts.result.1.now parts.ensures.front parts.ensures.back c.args.wavelet _ parts.ensures.front_len G.T.Number.reach c.requires.has_room
    (length (take c.args.w parts.result.1.now)) (length-take-le c.args.w parts.result.1.now (omega arith) ∙ sym parts.ensures.front_len)

pub lift_odd_half-requires-clause-even_small : goal.lift_odd_half-requires-clause-even_small
lift_odd_half-requires-clause-even_small G c i lt =
    let parts = c.split_at_mut-even in
    lifted_front_fits G.T.Number.value G.T.Number.none c.args.w c.args.row.now parts.result.0.now parts.result.1.now parts.ensures.front parts.ensures.back c.args.wavelet _ parts.ensures.front_len G.T.Number.reach c.requires.has_room
    (valued G.T.Number.value G.T.Number.none c.lift_even_half.new.even) c.lift_even_half.ensures i (omega (arith, lt, c.lift_even_half.auto.even))

pub weave_samples-requires-clause-even_small : goal.weave_samples-requires-clause-even_small
weave_samples-requires-clause-even_small G c i lt =
    let parts = c.split_at_mut-even in
    let E = valued G.T.Number.value G.T.Number.none c.lift_even_half.new.even in
    twofold G.T.Number.reach (E i) (lifted_front_fits G.T.Number.value G.T.Number.none c.args.w c.args.row.now parts.result.0.now parts.result.1.now parts.ensures.front parts.ensures.back c.args.wavelet _ parts.ensures.front_len G.T.Number.reach c.requires.has_room
    E c.lift_even_half.ensures i (omega (arith, lt, c.lift_even_half.auto.even)))

pub weave_samples-requires-clause-odd_small : goal.weave_samples-requires-clause-odd_small
weave_samples-requires-clause-odd_small G c i lt =
    let at = valued G.T.Number.value G.T.Number.none in
    let parts = c.split_at_mut-even in
    lifted_back_fits G.T.Number.value G.T.Number.none c.args.w c.args.row.now parts.result.0.now parts.result.1.now parts.ensures.front parts.ensures.back c.args.wavelet _ parts.ensures.front_len G.T.Number.reach c.requires.has_room
    (at c.lift_even_half.new.even) c.lift_even_half.ensures (length (take c.args.w parts.result.1.now)) (at c.lift_odd_half.new.odd)
    (length-take-le c.args.w parts.result.1.now (omega arith) ∙ sym parts.ensures.front_len) c.lift_odd_half.ensures i (omega (arith, lt, c.lift_odd_half.auto.odd))

pub returns : goal.returns
returns G c i lt =
    let at = valued G.T.Number.value G.T.Number.none in
    let parts = c.split_at_mut-even in
    let n : ℕ = length parts.result.0.now in
    let k = c.args.wavelet in
    let e = at parts.result.0.now in
    let o = at (take c.args.w parts.result.1.now) in
    let E = at c.lift_even_half.new.even in
    let O = at c.lift_odd_half.new.odd in
    let l : ℕ = length (take c.args.w parts.result.1.now) in
    let same : l ≡ n = length-take-le c.args.w parts.result.1.now (omega arith) ∙ sym parts.ensures.front_len in
    c.weave_samples.ensures i lt
    ∙ ap (sample_of c.args.depth)
    (sym (woven_each (halved k) E O i)
    ∙ woven_made k n e o E c.lift_even_half.ensures O (odd_pass (step k OddUp) n l o O E same c.lift_odd_half.ensures)
    (λ j. halved k (E j)) (λ j. halved k (O j)) (λ j lj. refl) (λ j lj. refl)
    i (omega (arith, lt, c.requires.room, parts.ensures.front_len)))
    ∙ ap (λ (v : ℤ). sample_of c.args.depth (halved k v))
    (sides_made G.T.Number.value G.T.Number.none c.args.w c.args.row.now parts.result.0.now parts.result.1.now parts.ensures.front parts.ensures.back k _ parts.ensures.front_len i (omega (arith, lt, c.requires.room)))
