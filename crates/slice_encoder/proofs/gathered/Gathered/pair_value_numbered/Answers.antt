use Rattle.std.proofs.Common.{◌∙◌, ◌-◌, sym, subst, w32}
use Rattle.std.proofs.lemmas.Int.{to_z-of_z}
use Rattle.slice_encoder.specs.Gathering.{IsGatheredSound}
use Rattle.slice_encoder.proofs.PieceByPiece.{pair_even, pair_odd}
use Rattle.slice_encoder.proofs.gathered.Gathered.pair_value_numbered.Goals as goal

pub returns-then-place-eq0 : goal.returns-then-place-eq0
returns-then-place-eq0 c = λ some.
    let a = c.args in
    let one : IsGatheredSound a.self.now = subst IsGatheredSound c.self.view_is c.self.invariant in
    let two : IsGatheredSound a.second.now = subst IsGatheredSound c.second.view_is c.second.invariant in
    to_z-of_z w32 c.value_at.result (record { sfits = c.value_at.type_inv })
    ∙ c.value_at.ensures
    ∙ sym (pair_even a.self.now a.second.now a.matrix.now a.index one two c.requires.depth c.requires.ends (a.number - 1) c.if-place-eq0.true)

pub returns : goal.returns
returns c = λ some.
    let a = c.args in
    let one : IsGatheredSound a.self.now = subst IsGatheredSound c.self.view_is c.self.invariant in
    let two : IsGatheredSound a.second.now = subst IsGatheredSound c.second.view_is c.second.invariant in
    to_z-of_z w32 c.value_at-2.result (record { sfits = c.value_at-2.type_inv })
    ∙ c.value_at-2.ensures
    ∙ sym (pair_odd a.self.now a.second.now a.matrix.now a.index one two c.requires.depth c.requires.ends (a.number - 1) c.if-place-eq0.false)
