use Rattle.std.proofs.Common.{◌≡◌, ap, sym, ◌∙◌, ℕ, ◌+◌, ◌-◌, arith, inl, inr}
use Rattle.std.specs.Prelude.{slice_index_or}
use Rattle.std.proofs.lemmas.Bool.{cases_lt}
use Rattle.slice_store.proofs.copy_ends.Goals as goal

pub returns-clause-done : goal.returns-clause-done
returns-clause-done g c i lt =
    let none = g.T.Number.none in
    let n : ℕ = g.row.N in
    let back : ℕ = c.args.count - n in
    let mid = c.copy_fixed.new.out in
    let new = c.copy_fixed-2.new.out in
    let from = c.args.from.now in
    elim (cases_lt i back) as (λ _. slice_index_or new (c.args.to + i) none ≡ slice_index_or from (c.args.at + i) none) [
      | inl less ↦ c.copy_fixed-2.ensures.before (c.args.to + i) (omega (arith, less)) ∙ c.copy_fixed.ensures.done i (omega (arith, less, c.requires.few, c.requires.most))
      | inr not ↦
          let to : c.args.to + back + (i - back) ≡ c.args.to + i = omega (arith, not) in
          let at : c.args.at + back + (i - back) ≡ c.args.at + i = omega (arith, not) in
          ap (λ (k : ℕ). slice_index_or new k none) (sym to)
          ∙ c.copy_fixed-2.ensures.done (i - back) (omega (arith, not, lt, c.requires.few))
          ∙ ap (λ (k : ℕ). slice_index_or from k none) at
    ]
