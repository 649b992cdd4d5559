use Rattle.std.proofs.Common.{◌≡◌, ap, sym, ◌∙◌, ℕ, ◌+◌, ◌*◌, length, arith}
use Rattle.std.specs.Prelude.{slice_index_or}
use Rattle.slice_store.specs.Places.{band, numbers_before}
use Rattle.slice_store.specs.Sides.{left, piece}
use Rattle.slice_store.proofs.Rows.{collect_more, all_left, wide_inside}
use Rattle.slice_store.proofs.Apart.{level_inside}
use Rattle.slice_store.proofs.Even.{wide, wide_is, row_whole, pieces_there, even_copied}
use Rattle.slice_store.proofs.SliceStore.copy_row.Goals as goal

pub copy_part-requires-clause-room : goal.copy_part-requires-clause-room
copy_part-requires-clause-room g c =
    let s = c.args.self.now in
    let inside = wide_inside s c.numbers.ensures.sound c.args.level c.loop-sx.sx (omega (arith, c.loop-sx-test.true, c.across-sx-end.ensures)) in
    omega (arith, inside, c.left-left.ensures, c.wide.ensures, c.loop-sx.auto.out, c.requires.room)

pub loop-sx-preserved : goal.loop-sx-preserved
loop-sx-preserved g c =
    let s = c.args.self.now in
    let none = g.T.Number.none in
    let w = c.row_with-sy.ensures in
    let out = c.loop-sx.out in
    let new = c.copy_part.new.out in
    collect_more s c.numbers.ensures.sound c.args.level c.args.orient c.args.y c.loop-sx.sx c.row_with-sy.result c.requires.exists (omega (arith, c.loop-sx-test.true, c.across-sx-end.ensures)) w.down w.top w.bottom none out new
    (λ i lt. ap (λ (n : ℕ). slice_index_or new (n + i) none) (sym c.left-left.ensures)
    ∙ c.copy_part.ensures.done i (omega (arith, lt, c.wide.ensures))
    ∙ ap (λ xs. slice_index_or xs (c.row_at-at-in-loop-sx.result + i) none) c.numbers-in-loop-sx.ensures.value
    ∙ ap (λ (n : ℕ). slice_index_or s.numbers (n + i) none) c.row_at-at-in-loop-sx.ensures.value)
    (λ j lt. c.copy_part.ensures.before j (omega (arith, lt, c.left-left.ensures)))
    c.loop-sx.invariant

pub returns : goal.returns
returns g c x lt =
    let s = c.args.self.now in
    let end : c.loop-sx.sx ≡ s.slicing.slices_x = omega (arith, c.loop-sx-test.false, c.loop-sx.auto.sx-end, c.across-sx-end.ensures) in
    let whole : left s.slicing s.size c.args.level c.loop-sx.sx ≡ (band s c.args.level).w = ap (λ (n : ℕ). left s.slicing s.size c.args.level n) end ∙ all_left s c.numbers.ensures.sound c.args.level in
    ap g.T.Number.value (c.loop-sx.invariant x (omega (arith, lt, whole)))

pub collect-requires-clause-room : goal.collect-requires-clause-room
collect-requires-clause-room g c =
    let s = c.args.self.now in
    let sound = c.numbers.ensures.sound in
    let even = c.is_even.ensures c.if-is_even.true in
    let level : ℕ = c.args.level in
    let sy : ℕ = c.row_with-sy.result in
    let w = c.row_with-sy.ensures in
    let le = level_inside s.slicing.depth level c.args.orient c.requires.exists in
    let wide_here : c.wide-wide.result ≡ wide s sound even level = c.wide-wide.ensures ∙ wide_is s sound even level 0 le in
    rw (c.across-across.ensures, wide_here) (c.requires.room ∙ row_whole s sound even level le)

pub collect-requires-clause-there : goal.collect-requires-clause-there
collect-requires-clause-there g c sx lt =
    let s = c.args.self.now in
    let sound = c.numbers.ensures.sound in
    let even = c.is_even.ensures c.if-is_even.true in
    let level : ℕ = c.args.level in
    let sy : ℕ = c.row_with-sy.result in
    let w = c.row_with-sy.ensures in
    let le = level_inside s.slicing.depth level c.args.orient c.requires.exists in
    let wide_here : c.wide-wide.result ≡ wide s sound even level = c.wide-wide.ensures ∙ wide_is s sound even level 0 le in
    let there = pieces_there s sound even level c.args.orient c.args.y sy c.requires.exists w.down w.top w.bottom sx (omega (arith, lt, c.across-across.ensures)) in
    let step : sx * c.numbers_before-size.result ≡ sx * numbers_before s.slicing s.size 1 sy = ap (λ (n : ℕ). sx * n) c.numbers_before-size.ensures in
    omega (arith, there, step, wide_here, c.row_at-at.ensures.value, ap length c.numbers-then-is_even.ensures.value)

pub returns-then-is_even : goal.returns-then-is_even
returns-then-is_even g c x lt =
    let s = c.args.self.now in
    let sound = c.numbers.ensures.sound in
    let even = c.is_even.ensures c.if-is_even.true in
    let level : ℕ = c.args.level in
    let sy : ℕ = c.row_with-sy.result in
    let w = c.row_with-sy.ensures in
    let le = level_inside s.slicing.depth level c.args.orient c.requires.exists in
    let wide_here : c.wide-wide.result ≡ wide s sound even level = c.wide-wide.ensures ∙ wide_is s sound even level 0 le in
    let none = g.T.Number.none in
    let out = c.collect.new.out in
    ap g.T.Number.value (even_copied s sound even none level c.args.orient c.args.y sy out out c.requires.exists w.down w.top w.bottom out
    (λ sx i across small.
    ap (λ (n : ℕ). slice_index_or out (sx * n + i) none) (sym wide_here)
    ∙ c.collect.ensures sx i (omega (arith, across, c.across-across.ensures)) (omega (arith, small, wide_here))
    ∙ ap (λ xs. slice_index_or xs (c.row_at-at.result + sx * c.numbers_before-size.result + i) none) c.numbers-then-is_even.ensures.value
    ∙ ap (λ (n : ℕ). slice_index_or s.numbers (n + sx * c.numbers_before-size.result + i) none) c.row_at-at.ensures.value
    ∙ ap (λ (n : ℕ). slice_index_or s.numbers (piece s level c.args.orient c.args.y 0 sy + sx * n + i) none) c.numbers_before-size.ensures)
    x lt)
