use Rattle.std.proofs.Common.{◌∙◌, refl, sym, subst, ◌*◌}
use Rattle.planes.specs.Numbers.{Within}
use Rattle.lifting.specs.declared.PairStep.TheVariants.{OddUp}
use Rattle.lifting.specs.Steps.{step}
use Rattle.lifting.proofs.RingRows.{cut_twice, row_beside, back_inside, own_row, other_rows}
use Rattle.lifting.proofs.TwoSides.{same_step}
use Rattle.lifting.proofs.ring.raise_row.Goals as goal

pub other_row-a-requires-clause-back : goal.other_row-a-requires-clause-back
other_row-a-requires-clause-back g c =
    let s = c.split_at_mut-front in
    let t = c.split_at_mut-dst in
    let cut = cut_twice c.args.y (2 * c.args.w) s.ensures.value t.ensures.value (s.ensures.front_len ∙ c.start_of.ensures) t.ensures.front_len in
    back_inside cut c.args.a c.requires.a_inside

pub other_row-b-requires-clause-back : goal.other_row-b-requires-clause-back
other_row-b-requires-clause-back g c =
    let s = c.split_at_mut-front in
    let t = c.split_at_mut-dst in
    let cut = cut_twice c.args.y (2 * c.args.w) s.ensures.value t.ensures.value (s.ensures.front_len ∙ c.start_of.ensures) t.ensures.front_len in
    back_inside cut c.args.b c.requires.b_inside

pub raise_between-requires-clause-a_small : goal.raise_between-requires-clause-a_small
raise_between-requires-clause-a_small g c i li =
    let s = c.split_at_mut-front in
    let t = c.split_at_mut-dst in
    let cut = cut_twice c.args.y (2 * c.args.w) s.ensures.value t.ensures.value (s.ensures.front_len ∙ c.start_of.ensures) t.ensures.front_len in
    let a = c.other_row-a in
    subst (Within g.T.Number.reach) (sym (row_beside g.T.Number.value g.T.Number.none cut c.args.a c.requires.not_a a.result.now a.ensures.front a.ensures.back i li)) (c.requires.a_small i li)

pub raise_between-requires-clause-b_small : goal.raise_between-requires-clause-b_small
raise_between-requires-clause-b_small g c i li =
    let s = c.split_at_mut-front in
    let t = c.split_at_mut-dst in
    let cut = cut_twice c.args.y (2 * c.args.w) s.ensures.value t.ensures.value (s.ensures.front_len ∙ c.start_of.ensures) t.ensures.front_len in
    let b = c.other_row-b in
    subst (Within g.T.Number.reach) (sym (row_beside g.T.Number.value g.T.Number.none cut c.args.b c.requires.not_b b.result.now b.ensures.front b.ensures.back i li)) (c.requires.b_small i li)

pub returns-clause-raised : goal.returns-clause-raised
returns-clause-raised g c x lx =
    let s = c.split_at_mut-front in
    let t = c.split_at_mut-dst in
    let cut = cut_twice c.args.y (2 * c.args.w) s.ensures.value t.ensures.value (s.ensures.front_len ∙ c.start_of.ensures) t.ensures.front_len in
    let read = row_beside g.T.Number.value g.T.Number.none cut in
    let a = c.other_row-a in
    let b = c.other_row-b in
    own_row g.T.Number.value g.T.Number.none cut c.raise_between.new.dst (c.raise_between.auto.dst ∙ t.ensures.front_len) x lx
    ∙ c.raise_between.ensures x lx
    ∙ same_step (step c.args.wavelet OddUp) _ _ _ _ _ _ refl (read c.args.a c.requires.not_a a.result.now a.ensures.front a.ensures.back x lx)
    (read c.args.b c.requires.not_b b.result.now b.ensures.front b.ensures.back x lx)

pub returns-clause-others : goal.returns-clause-others
returns-clause-others g c =
    let s = c.split_at_mut-front in
    let t = c.split_at_mut-dst in
    let cut = cut_twice c.args.y (2 * c.args.w) s.ensures.value t.ensures.value (s.ensures.front_len ∙ c.start_of.ensures) t.ensures.front_len in
    other_rows g.T.Number.value g.T.Number.none cut c.raise_between.new.dst (c.raise_between.auto.dst ∙ t.ensures.front_len)
