use Rattle.std.proofs.Common.{arith, ◌≡◌, ◌∙◌, ℕ, ◌+◌, ◌-◌, length, take, drop, sym, subst}
use Rattle.std.proofs.lemmas.Grind.{common_steps, get_or_after_one}
use Rattle.std.proofs.lemmas.List.{length-take-le, get_or-take, length-drop}
use Rattle.planes.specs.Numbers.{Within}
use Rattle.lifting.proofs.halves.lift_beside.Goals as goal

pub returns : goal.returns
returns g c = grind (arith, common_steps)

pub lift_between-requires : goal.lift_between-requires
lift_between-requires g c =
    let other = c.args.other.now in
    let none = g.T.Number.none in
    let n : ℕ = length c.args.dst.now in
    let one : length other - 1 ≡ n = omega (arith, c.requires.len) in
    let first : length (take n other) ≡ n = length-take-le n other (omega (arith, c.requires.len)) in
    let second : length (take (length other - 1) (drop 1 other)) ≡ n = length-take-le (length other - 1) (drop 1 other) (simp length-drop (omega arith)) ∙ one in
    (first, second, c.requires.dst_small, λ i lt. subst (λ x. Within g.T.Number.reach (g.T.Number.value x)) (sym (get_or-take n other i none (omega (arith, first, lt)))) (c.requires.other_small i (omega (arith, first, lt, c.requires.len))), λ i lt. subst (λ x. Within g.T.Number.reach (g.T.Number.value x)) (sym (get_or-take (length other - 1) (drop 1 other) i none (omega (arith, second, one, lt)) ∙ get_or_after_one other i none)) (c.requires.other_small (1 + i) (omega (arith, second, lt, c.requires.len))))
