use Rattle.std.proofs.Common.{◌∙◌, ap, ℕ, ◌+◌, ◌*◌, ◌++◌, drop, arith}
use Rattle.std.proofs.lemmas.List.{get_or_append_left, length-take-le}
use Rattle.planes.specs.Valued.{valued}
use Rattle.lifting.specs.Steps.{doubled}
use Rattle.lifting.specs.Lines.{Line, analysis_line}
use Rattle.lifting.proofs.TwoSides.{two_sides, beside_side}
use Rattle.lifting.proofs.halves_back.analyse_sides.Goals as goal

pub returns : goal.returns
returns g c x lt =
    let value = g.T.Number.value in
    let none = g.T.Number.none in
    let w : ℕ = c.args.w in
    let parts = c.split_at_mut-even in
    let made = c.analyse_halves in
    let line : ℕ → Line = λ n. analysis_line c.args.wavelet (2 * n) (λ j. doubled c.args.wavelet (valued value none c.args.row.now j)) in
    let odds = length-take-le w parts.result.1.now (omega (arith, parts.ensures.back_len, c.requires.room)) in
    two_sides value none w made.new.even (made.new.odd ++ drop w parts.result.1.now) (λ i. line w (2 * i)) (λ i. line w (2 * i + 1)) (made.auto.even ∙ parts.ensures.front_len)
    (λ i li. made.ensures.evens i (omega (arith, li, parts.ensures.front_len)) ∙ ap (λ (n : ℕ). line n (2 * i)) parts.ensures.front_len)
    (λ i li. ap value (get_or_append_left made.new.odd (drop w parts.result.1.now) none i (omega (arith, li, made.auto.odd, odds))) ∙ made.ensures.odds i (omega (arith, li, parts.ensures.front_len)) ∙ ap (λ (n : ℕ). line n (2 * i + 1)) parts.ensures.front_len)
    x lt
    ∙ beside_side (line w) w x
