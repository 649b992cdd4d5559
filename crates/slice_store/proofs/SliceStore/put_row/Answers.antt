use Rattle.std.proofs.Common.{◌≡◌, ap, sym, subst, ◌∙◌, ℕ, ◌+◌, ◌-◌, ◌*◌, arith}
use Rattle.std.specs.Prelude.{slice_index_or}
use Rattle.slice_store.specs.Store.{Store}
use Rattle.slice_store.specs.Places.{numbers_before}
use Rattle.slice_store.specs.Writing.{with_numbers}
use Rattle.slice_store.specs.Sides.{left, piece}
use Rattle.slice_store.proofs.Rows.{IsRowPut, put_more, row_shown, others_stay, wide_inside}
use Rattle.slice_store.proofs.Apart.{level_inside}
use Rattle.planes.specs.Valued.{valued}
use Rattle.slice_store.proofs.Stacked.{row_put}
use Rattle.slice_store.proofs.Even.{AreDealt, wide, wide_is, wide_fits, row_whole, pieces_there, even_put}
use Rattle.slice_store.proofs.SliceStore.put_row.Goals as goal

pub write-requires-clause-there : goal.write-requires-clause-there
write-requires-clause-there g c =
    let s = c.args.self.now in
    let P : Store g.row.T.Denot → Type 0 = λ t. c.left-left.result + c.wide-wide-in-loop-sx.result ≡ left t.slicing t.size c.args.level c.loop-sx.sx + (left t.slicing t.size c.args.level (c.loop-sx.sx + 1) - left t.slicing t.size c.args.level c.loop-sx.sx) in
    let sides = subst P c.loop-sx.invariant.same (omega (arith, c.left-left.ensures, c.wide-wide-in-loop-sx.ensures)) in
    let inside = wide_inside s c.numbers.ensures.sound c.args.level c.loop-sx.sx (omega (arith, c.loop-sx-test.true, c.across-sx-end.ensures)) in
    omega (arith, inside, sides, c.requires.whole)

pub loop-sx-preserved : goal.loop-sx-preserved
loop-sx-preserved g c =
    let s = c.args.self.now in
    let t = c.loop-sx.self in
    let none = g.T.Number.none in
    let w = c.row_with-sy.ensures in
    let same = c.loop-sx.invariant.same in
    let sx : ℕ = c.loop-sx.sx in
    let sy : ℕ = c.row_with-sy.result in
    let row = c.args.row.now in
    let new = c.write.new.self.numbers in
    let at : c.row_at-at-in-loop-sx.result ≡ piece s c.args.level c.args.orient c.args.y sx sy = c.row_at-at-in-loop-sx.ensures.value ∙ ap (λ u. piece u c.args.level c.args.orient c.args.y sx sy) same in
    let from : c.left-left.result ≡ left s.slicing s.size c.args.level sx = c.left-left.ensures ∙ ap (λ u. left u.slicing u.size c.args.level sx) same in
    let wide : c.wide-wide-in-loop-sx.result ≡ left s.slicing s.size c.args.level (sx + 1) - left s.slicing s.size c.args.level sx = c.wide-wide-in-loop-sx.ensures ∙ ap (λ u. left u.slicing u.size c.args.level (sx + 1) - left u.slicing u.size c.args.level sx) same in
    record {
      same = c.write.ensures.same ∙ ap (λ u. with_numbers u new) same;
      put = put_more s c.numbers.ensures.sound c.args.level c.args.orient c.args.y sx sy c.requires.exists (omega (arith, c.loop-sx-test.true, c.across-sx-end.ensures)) w.down w.top w.bottom none row t.numbers new c.requires.inside
          (λ i lt. ap (λ (n : ℕ). slice_index_or new (n + i) none) (sym at) ∙ c.write.ensures.done i (omega (arith, lt, wide)) ∙ ap (λ (n : ℕ). slice_index_or row (n + i) none) from)
          (λ j lt. c.write.ensures.before j (omega (arith, lt, at)))
          (λ j le. c.write.ensures.behind j (omega (arith, le, at, wide)))
          c.loop-sx.invariant.put;
    }

pub returns-clause-put : goal.returns-clause-put
returns-clause-put g c =
    let s = c.args.self.now in
    let end : c.loop-sx.sx ≡ s.slicing.slices_x = omega (arith, c.loop-sx-test.false, c.loop-sx.auto.sx-end, c.across-sx-end.ensures) in
    let P : ℕ → Type 0 = λ n. IsRowPut s g.T.Number.none c.args.level c.args.orient c.args.y c.args.row.now c.loop-sx.self.numbers n in
    row_shown s c.numbers.ensures.sound c.args.level c.args.orient c.args.y c.requires.exists c.requires.inside g.T.Number.value g.T.Number.none c.args.row.now c.loop-sx.self c.loop-sx.invariant.same
    (subst P end c.loop-sx.invariant.put)

pub returns-clause-others : goal.returns-clause-others
returns-clause-others g c =
    let s = c.args.self.now in
    let end : c.loop-sx.sx ≡ s.slicing.slices_x = omega (arith, c.loop-sx-test.false, c.loop-sx.auto.sx-end, c.across-sx-end.ensures) in
    let P : ℕ → Type 0 = λ n. IsRowPut s g.T.Number.none c.args.level c.args.orient c.args.y c.args.row.now c.loop-sx.self.numbers n in
    others_stay s c.numbers.ensures.sound c.args.level c.args.orient c.args.y c.requires.exists c.requires.inside g.T.Number.value g.T.Number.none c.args.row.now c.loop-sx.self c.loop-sx.invariant.same
    (subst P end c.loop-sx.invariant.put)

pub returns-clause-stack : goal.returns-clause-stack
returns-clause-stack g c room =
    let s = c.args.self.now in
    row_put g.T.Number.value g.T.Number.none s c.loop-sx.self c.loop-sx.invariant.same c.args.level c.args.orient c.args.y (valued g.T.Number.value g.T.Number.none c.args.row.now) c.numbers.ensures.sound c.requires.exists c.requires.inside room
    (returns-clause-put g c) (returns-clause-others g c)

pub deal_row-requires-clause-apart : goal.deal_row-requires-clause-apart
deal_row-requires-clause-apart g c =
    let s = c.args.self.now in
    let sound = c.numbers.ensures.sound in
    let even = c.is_even.ensures c.if-is_even.true in
    let level : ℕ = c.args.level in
    let sy : ℕ = c.row_with-sy.result in
    let w = c.row_with-sy.ensures in
    let le = level_inside s.slicing.depth level c.args.orient c.requires.exists in
    let wide_here : c.wide-wide.result ≡ wide s sound even level = c.wide-wide.ensures ∙ wide_is s sound even level 0 le in
    omega (arith, wide_fits s sound even level c.args.orient c.args.y sy c.requires.exists w.down w.top w.bottom, wide_here, c.numbers_before-size.ensures)

pub deal_row-requires-clause-whole : goal.deal_row-requires-clause-whole
deal_row-requires-clause-whole g c =
    let s = c.args.self.now in
    let sound = c.numbers.ensures.sound in
    let even = c.is_even.ensures c.if-is_even.true in
    let level : ℕ = c.args.level in
    let sy : ℕ = c.row_with-sy.result in
    let w = c.row_with-sy.ensures in
    let le = level_inside s.slicing.depth level c.args.orient c.requires.exists in
    let wide_here : c.wide-wide.result ≡ wide s sound even level = c.wide-wide.ensures ∙ wide_is s sound even level 0 le in
    rw (c.across-across.ensures, wide_here) (omega (arith, c.requires.whole, row_whole s sound even level le))

pub deal_row-requires-clause-there : goal.deal_row-requires-clause-there
deal_row-requires-clause-there g c sx lt =
    let s = c.args.self.now in
    let sound = c.numbers.ensures.sound in
    let even = c.is_even.ensures c.if-is_even.true in
    let level : ℕ = c.args.level in
    let sy : ℕ = c.row_with-sy.result in
    let w = c.row_with-sy.ensures in
    let le = level_inside s.slicing.depth level c.args.orient c.requires.exists in
    let wide_here : c.wide-wide.result ≡ wide s sound even level = c.wide-wide.ensures ∙ wide_is s sound even level 0 le in
    let there = pieces_there s sound even level c.args.orient c.args.y sy c.requires.exists w.down w.top w.bottom sx (omega (arith, lt, c.across-across.ensures)) in
    let step : sx * c.numbers_before-size.result ≡ sx * numbers_before s.slicing s.size 1 sy = ap (λ (n : ℕ). sx * n) c.numbers_before-size.ensures in
    omega (arith, there, step, wide_here, c.row_at-at.ensures.value)

pub returns-then-is_even-clause-put : goal.returns-then-is_even-clause-put
returns-then-is_even-clause-put g c =
    let s = c.args.self.now in
    let sound = c.numbers.ensures.sound in
    let even = c.is_even.ensures c.if-is_even.true in
    let level : ℕ = c.args.level in
    let sy : ℕ = c.row_with-sy.result in
    let w = c.row_with-sy.ensures in
    let le = level_inside s.slicing.depth level c.args.orient c.requires.exists in
    let wide_here : c.wide-wide.result ≡ wide s sound even level = c.wide-wide.ensures ∙ wide_is s sound even level 0 le in
    let none = g.T.Number.none in
    let row = c.args.row.now in
    let new = c.deal_row.new.self.numbers in
    let first : AreDealt none c.row_at-at.result c.numbers_before-size.result c.wide-wide.result row s.numbers c.across-across.result new = record { put = c.deal_row.ensures.put; rest = c.deal_row.ensures.rest } in
    let done : AreDealt none (piece s level c.args.orient c.args.y 0 sy) (numbers_before s.slicing s.size 1 sy) (wide s sound even level) row s.numbers s.slicing.slices_x new =
    subst (λ (n : ℕ). AreDealt none (piece s level c.args.orient c.args.y 0 sy) (numbers_before s.slicing s.size 1 sy) (wide s sound even level) row s.numbers n new) c.across-across.ensures
    (subst (λ (n : ℕ). AreDealt none (piece s level c.args.orient c.args.y 0 sy) (numbers_before s.slicing s.size 1 sy) n row s.numbers c.across-across.result new) wide_here
    (subst (λ (n : ℕ). AreDealt none (piece s level c.args.orient c.args.y 0 sy) n c.wide-wide.result row s.numbers c.across-across.result new) c.numbers_before-size.ensures
    (subst (λ (n : ℕ). AreDealt none n c.numbers_before-size.result c.wide-wide.result row s.numbers c.across-across.result new) c.row_at-at.ensures.value first))) in
    let put = even_put s sound even none level c.args.orient c.args.y sy row new c.requires.exists w.down w.top w.bottom done in
    row_shown s sound level c.args.orient c.args.y c.requires.exists c.requires.inside g.T.Number.value none row c.deal_row.new.self c.deal_row.ensures.same put

pub returns-then-is_even-clause-others : goal.returns-then-is_even-clause-others
returns-then-is_even-clause-others g c =
    let s = c.args.self.now in
    let sound = c.numbers.ensures.sound in
    let even = c.is_even.ensures c.if-is_even.true in
    let level : ℕ = c.args.level in
    let sy : ℕ = c.row_with-sy.result in
    let w = c.row_with-sy.ensures in
    let le = level_inside s.slicing.depth level c.args.orient c.requires.exists in
    let wide_here : c.wide-wide.result ≡ wide s sound even level = c.wide-wide.ensures ∙ wide_is s sound even level 0 le in
    let none = g.T.Number.none in
    let row = c.args.row.now in
    let new = c.deal_row.new.self.numbers in
    let first : AreDealt none c.row_at-at.result c.numbers_before-size.result c.wide-wide.result row s.numbers c.across-across.result new = record { put = c.deal_row.ensures.put; rest = c.deal_row.ensures.rest } in
    let done : AreDealt none (piece s level c.args.orient c.args.y 0 sy) (numbers_before s.slicing s.size 1 sy) (wide s sound even level) row s.numbers s.slicing.slices_x new =
    subst (λ (n : ℕ). AreDealt none (piece s level c.args.orient c.args.y 0 sy) (numbers_before s.slicing s.size 1 sy) (wide s sound even level) row s.numbers n new) c.across-across.ensures
    (subst (λ (n : ℕ). AreDealt none (piece s level c.args.orient c.args.y 0 sy) (numbers_before s.slicing s.size 1 sy) n row s.numbers c.across-across.result new) wide_here
    (subst (λ (n : ℕ). AreDealt none (piece s level c.args.orient c.args.y 0 sy) n c.wide-wide.result row s.numbers c.across-across.result new) c.numbers_before-size.ensures
    (subst (λ (n : ℕ). AreDealt none n c.numbers_before-size.result c.wide-wide.result row s.numbers c.across-across.result new) c.row_at-at.ensures.value first))) in
    let put = even_put s sound even none level c.args.orient c.args.y sy row new c.requires.exists w.down w.top w.bottom done in
    others_stay s sound level c.args.orient c.args.y c.requires.exists c.requires.inside g.T.Number.value none row c.deal_row.new.self c.deal_row.ensures.same put

pub returns-then-is_even-clause-stack : goal.returns-then-is_even-clause-stack
returns-then-is_even-clause-stack g c room =
    let s = c.args.self.now in
    row_put g.T.Number.value g.T.Number.none s c.deal_row.new.self c.deal_row.ensures.same c.args.level c.args.orient c.args.y (valued g.T.Number.value g.T.Number.none c.args.row.now) c.numbers.ensures.sound c.requires.exists c.requires.inside room
    (returns-then-is_even-clause-put g c) (returns-then-is_even-clause-others g c)
