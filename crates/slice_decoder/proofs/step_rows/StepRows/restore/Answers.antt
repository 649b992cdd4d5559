use Rattle.std.proofs.Common.{◌≡◌, ◌∙◌, ◌+◌, ◌*◌, ◌%◌, ◌<◌, ℕ, List, length, get_or, set, ap, arith, rules}
use Rattle.std.proofs.lemmas.Bool.{cases_eq}
use Rattle.std.proofs.lemmas.Grind.{common_steps}
use Rattle.std.proofs.lemmas.List.{length-set, get_or_default}
use Rattle.slice_decoder.specs.StepRows.{StepRowSeen, HaveRoom, no_row}
use Rattle.slice_decoder.proofs.step_rows.StepRows.restore.Goals.{then-ne, else-ne}
use Rattle.slice_decoder.proofs.step_rows.StepRows.restore.Goals as goal

-- what a row's number follows from
abbrev mixed : ℕ → ℕ → ℕ
mixed count qindex = (count * 37 % 18446744073709551616 + qindex) % 18446744073709551616

-- the room of a row of many
room_of : (places n : ℕ) (rows : List StepRowSeen) (row : StepRowSeen) → HaveRoom places rows → n < length rows → row ≡ get_or rows n row → row.room ≡ places
room_of places n rows row have lt is = ap (λ (r : StepRowSeen). r.room) (is ∙ get_or_default rows n row no_row lt) ∙ have.each n lt

-- rows of which one was changed
one_more : (places n : ℕ) (rows : List StepRowSeen) (row : StepRowSeen) → HaveRoom places rows → row.room ≡ places → HaveRoom places (set rows n row)
one_more places n rows row have room = record {
  some = omega (arith, length-set rows n row, have.some);
  each = λ k lt. grind (arith, common_steps, cases_eq k n, have.each k, length-set rows n row);
}

pub learn-requires-clause-room : goal.learn-requires-clause-room
learn-requires-clause-room c =
    let n : ℕ = mixed (length c.args.values.now) c.args.key.qindex % c.len.result in
    let lt : n < length c.self.inside.rows.items = omega (arith, c.self.invariant.some, c.len.ensures) in
    let room = room_of c.self.inside.places n c.self.inside.rows.items c.index_mut-row.result.now c.self.invariant lt c.index_mut-row.ensures.value in
    omega (arith, room, c.requires.count, c.requires.room, c.self.view_is)

pub restore-requires-clause-count : goal.restore-requires-clause-count
restore-requires-clause-count c =
    let same : c.if-ne.row.key ≡ c.args.key = elim c.if-ne.branch [ then-ne w ↦ ap (λ (r : StepRowSeen). r.key) w.row-is ∙ w.learn.ensures.key | else-ne w ↦ search rules ] in
    rw same c.requires.count

pub restore-requires-clause-room : goal.restore-requires-clause-room
restore-requires-clause-room c =
    let n : ℕ = mixed (length c.args.values.now) c.args.key.qindex % c.len.result in
    let lt : n < length c.self.inside.rows.items = omega (arith, c.self.invariant.some, c.len.ensures) in
    let room = room_of c.self.inside.places n c.self.inside.rows.items c.index_mut-row.result.now c.self.invariant lt c.index_mut-row.ensures.value in
    let same : c.if-ne.row.room ≡ c.self.inside.places = elim c.if-ne.branch [ then-ne w ↦ ap (λ (r : StepRowSeen). r.room) w.row-is ∙ w.learn.ensures.room ∙ room | else-ne w ↦ ap (λ (r : StepRowSeen). r.room) w.row-is ∙ room ] in
    omega (arith, same, c.requires.room, c.self.view_is)

pub invariant_of-self : goal.invariant_of-self
invariant_of-self c =
    let n : ℕ = mixed (length c.args.values.now) c.args.key.qindex % c.len.result in
    let lt : n < length c.self.inside.rows.items = omega (arith, c.self.invariant.some, c.len.ensures) in
    let room = room_of c.self.inside.places n c.self.inside.rows.items c.index_mut-row.result.now c.self.invariant lt c.index_mut-row.ensures.value in
    let same : c.if-ne.row.room ≡ c.self.inside.places = elim c.if-ne.branch [ then-ne w ↦ ap (λ (r : StepRowSeen). r.room) w.row-is ∙ w.learn.ensures.room ∙ room | else-ne w ↦ ap (λ (r : StepRowSeen). r.room) w.row-is ∙ room ] in
    one_more c.self.inside.places n c.self.inside.rows.items c.if-ne.row c.self.invariant same

pub returns : goal.returns
returns c =
    let same : c.if-ne.row.key ≡ c.args.key = elim c.if-ne.branch [ then-ne w ↦ ap (λ (r : StepRowSeen). r.key) w.row-is ∙ w.learn.ensures.key | else-ne w ↦ search rules ] in
    record {
      within = rw same at c.restore.ensures.within;
      values = rw same at c.restore.ensures.values;
      places = c.self.view_is;
    }
