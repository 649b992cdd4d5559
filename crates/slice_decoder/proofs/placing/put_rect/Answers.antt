use Rattle.std.proofs.Common.{◌≡◌, ℕ, ◌+◌, ◌-◌, ◌*◌, List, ℤ, drop, sym, ap, ◌∙◌, arith}
use Rattle.std.proofs.lemmas.List.{get_or-drop}
use Rattle.std.proofs.lemmas.Grind.{common_steps}
use Rattle.planes.specs.Valued.{valued}
use Rattle.slice_decoder.proofs.Placed.{RowTakesOf, rows-take}
use Rattle.slice_decoder.proofs.Rects.{rows_sum}
use Rattle.slice_decoder.proofs.placing.put_rect.Goals as goal

-- the value of a place, row by row
value_is : {X : Type 0} (value : X → ℤ) (none : X) (values : List X) (at each a b x from : ℕ) (v : ℤ) → a ≡ at + each * b
    → v ≡ valued value none values (a + (each * x + from)) → v ≡ valued value none (drop at values) (each * (b + x) + from)
value_is value none values at each a b x from v is here =
    let place : a + (each * x + from) ≡ at + (each * (b + x) + from) = ap (λ n. n + (each * x + from)) is ∙ omega arith in
    here ∙ ap (valued value none values) place ∙ ap value (sym (get_or-drop at values (each * (b + x) + from) none))

pub loop-y-preserved : goal.loop-y-preserved
loop-y-preserved g c =
    let each : ℕ = g.row.EACH in
    let r = c.args.rect in
    let l = c.loop-y in
    let i = l.invariant in
    let at = c.args.at in
    let from = c.args.from in
    let w : ℕ = r.x1 - r.x0 in
    let value = g.T.Number.value in
    let none = g.T.Number.none in
    let values : ℕ → ℤ = valued g.V.Number.value g.V.Number.none (drop at c.args.values.now) in
    let taken : RowTakesOf value none each from l.y r values c.row_mut.result.now c.put_row.new.row = record {
      same_length = c.put_row.auto.row;
      inside = λ x low lt. value_is g.V.Number.value g.V.Number.none c.args.values.now at each l.place ((l.y - r.y0) * w) (x - r.x0) from
          (valued value none c.put_row.new.row x) i.place (c.put_row.ensures.inside x low lt);
      outside = c.put_row.ensures.outside;
    } in
    record {
      begun = omega (arith, i.begun);
      place = omega (arith, i.place, rows_sum each l.y r.y0 w i.begun);
      rows = rows-take value none each from l.y r values c.args.plane.now l.plane c.row_mut.result.now c.put_row.new.row i.begun c.loop-y-test.true
          (omega (arith, i.rows.same_height, c.requires.y_inside, c.loop-y-test.true)) c.row_mut.ensures.value i.rows taken;
    }

pub returns : goal.returns
returns g c = grind (arith, common_steps)
