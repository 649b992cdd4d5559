use Rattle.std.proofs.Common.{◌≡◌, ℕ, ◌+◌, ◌-◌, get_or, pos, ap, ◌∙◌, arith}
use Rattle.slice_decoder.proofs.NarrowBands.{in-32-bits, four-at}
use Rattle.slice_decoder.proofs.narrow_placing.put_four.Goals as goal

pub returns-clause-inside : goal.returns-clause-inside
returns-clause-inside c j low lt =
    let values = c.args.values.now in
    let from = c.args.from in
    let n = c.requires.narrow in
    let none : from ≡ from + 0 = omega arith in
    c.put_all.ensures.inside j low lt
    ∙ four-at (λ (k : ℕ). get_or values (from + k) (pos 0)) _ _ _ _ (j - c.args.x) (omega arith)
    (in-32-bits _ (n from) ∙ ap (λ (k : ℕ). get_or values k (pos 0)) none) (in-32-bits _ (n (from + 1))) (in-32-bits _ (n (from + 2)))
    (in-32-bits _ (n (from + 3)))
