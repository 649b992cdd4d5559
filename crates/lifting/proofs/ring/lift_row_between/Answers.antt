use Rattle.std.proofs.Common.{◌∙◌, sym, subst, ◌<◌, arith}
use Rattle.planes.specs.Numbers.{Within}
use Rattle.lifting.specs.Steps.{step}
use Rattle.lifting.proofs.RingRows.{cut_twice, row_beside, back_inside, own_row, own_before, other_rows}
use Rattle.lifting.proofs.TwoSides.{same_step}
use Rattle.lifting.proofs.ring.lift_row_between.Goals as goal

pub other_row-a-requires-clause-back : goal.other_row-a-requires-clause-back
other_row-a-requires-clause-back g c =
    let s = c.split_at_mut-front in
    let t = c.split_at_mut-dst in
    back_inside (cut_twice c.args.y c.args.n s.ensures.value t.ensures.value (s.ensures.front_len ∙ c.start_of.ensures) t.ensures.front_len) c.args.a c.requires.a_inside

pub other_row-b-requires-clause-back : goal.other_row-b-requires-clause-back
other_row-b-requires-clause-back g c =
    let s = c.split_at_mut-front in
    let t = c.split_at_mut-dst in
    back_inside (cut_twice c.args.y c.args.n s.ensures.value t.ensures.value (s.ensures.front_len ∙ c.start_of.ensures) t.ensures.front_len) c.args.b c.requires.b_inside

pub lift_between-requires : goal.lift_between-requires
lift_between-requires g c =
    let s = c.split_at_mut-front in
    let t = c.split_at_mut-dst in
    let a = c.other_row-a in
    let b = c.other_row-b in
    let cut = cut_twice c.args.y c.args.n s.ensures.value t.ensures.value (s.ensures.front_len ∙ c.start_of.ensures) t.ensures.front_len in
    let read = row_beside g.T.Number.value g.T.Number.none cut in (
      a.ensures.len ∙ sym t.ensures.front_len,
      b.ensures.len ∙ sym t.ensures.front_len,
      λ i lt. let li : i < c.args.n = omega (arith, lt, t.ensures.front_len) in subst (Within g.T.Number.reach) (sym (own_before g.T.Number.value g.T.Number.none cut i li)) (c.requires.own_small i li),
      λ i lt.
          let li : i < c.args.n = omega (arith, lt, a.ensures.len) in
          subst (Within g.T.Number.reach) (sym (read c.args.a c.requires.not_a a.result.now a.ensures.front a.ensures.back i li)) (c.requires.a_small i li),
      λ i lt.
          let li : i < c.args.n = omega (arith, lt, b.ensures.len) in
          subst (Within g.T.Number.reach) (sym (read c.args.b c.requires.not_b b.result.now b.ensures.front b.ensures.back i li)) (c.requires.b_small i li),
    )

pub returns-clause-lifted : goal.returns-clause-lifted
returns-clause-lifted g c x lx =
    let s = c.split_at_mut-front in
    let t = c.split_at_mut-dst in
    let a = c.other_row-a in
    let b = c.other_row-b in
    let cut = cut_twice c.args.y c.args.n s.ensures.value t.ensures.value (s.ensures.front_len ∙ c.start_of.ensures) t.ensures.front_len in
    let read = row_beside g.T.Number.value g.T.Number.none cut in
    own_row g.T.Number.value g.T.Number.none cut c.lift_between.new.dst (c.lift_between.auto.dst ∙ t.ensures.front_len) x lx
    ∙ c.lift_between.ensures x (omega (arith, lx, t.ensures.front_len))
    ∙ same_step (step c.args.wavelet c.args.kind) _ _ _ _ _ _ (own_before g.T.Number.value g.T.Number.none cut x lx)
    (read c.args.a c.requires.not_a a.result.now a.ensures.front a.ensures.back x lx)
    (read c.args.b c.requires.not_b b.result.now b.ensures.front b.ensures.back x lx)

pub returns-clause-others : goal.returns-clause-others
returns-clause-others g c =
    let s = c.split_at_mut-front in
    let t = c.split_at_mut-dst in
    let cut = cut_twice c.args.y c.args.n s.ensures.value t.ensures.value (s.ensures.front_len ∙ c.start_of.ensures) t.ensures.front_len in
    other_rows g.T.Number.value g.T.Number.none cut c.lift_between.new.dst (c.lift_between.auto.dst ∙ t.ensures.front_len)
