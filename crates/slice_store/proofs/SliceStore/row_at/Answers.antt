use Rattle.std.proofs.Common.{◌≡◌, refl, ◌+◌, ◌-◌, ◌*◌, arith}
use Rattle.slice_store.specs.Sides.{left, top}
use Rattle.slice_store.proofs.Rows.{piece_inside}
use Rattle.slice_store.proofs.SliceStore.row_at.Goals as goal

pub overflow_add-result : goal.overflow_add-result
overflow_add-result g c =
    let r = c.requires in
    let inside = piece_inside c.args.self.now c.numbers.ensures.sound c.args.level c.args.orient c.args.y c.args.sx c.args.sy r.exists r.across r.down r.top r.bottom in
    omega (arith, c.strip_start.ensures, c.numbers_before.ensures, inside, c.numbers.ensures.sound.short)

pub overflow_add-result-2 : goal.overflow_add-result-2
overflow_add-result-2 g c =
    let r = c.requires in
    let inside = piece_inside c.args.self.now c.numbers.ensures.sound c.args.level c.args.orient c.args.y c.args.sx c.args.sy r.exists r.across r.down r.top r.bottom in
    omega (arith, c.strip_start.ensures, c.numbers_before.ensures, c.places_before.ensures, inside, c.numbers.ensures.sound.short)

pub overflow_mul-result : goal.overflow_mul-result
overflow_mul-result g c =
    let r = c.requires in
    let inside = piece_inside c.args.self.now c.numbers.ensures.sound c.args.level c.args.orient c.args.y c.args.sx c.args.sy r.exists r.across r.down r.top r.bottom in
    let rows : (c.args.y - c.top.result) * c.wide.result ≡ (c.args.y - top c.args.self.now.slicing c.args.self.now.size c.args.level c.args.sy) * (left c.args.self.now.slicing c.args.self.now.size c.args.level (c.args.sx + 1) - left c.args.self.now.slicing c.args.self.now.size c.args.level c.args.sx) = rw (c.top.ensures, c.wide.ensures) refl in
    omega (arith, rows, inside, c.numbers.ensures.sound.short)

pub overflow_add-result-3 : goal.overflow_add-result-3
overflow_add-result-3 g c =
    let r = c.requires in
    let inside = piece_inside c.args.self.now c.numbers.ensures.sound c.args.level c.args.orient c.args.y c.args.sx c.args.sy r.exists r.across r.down r.top r.bottom in
    let rows : (c.args.y - c.top.result) * c.wide.result ≡ (c.args.y - top c.args.self.now.slicing c.args.self.now.size c.args.level c.args.sy) * (left c.args.self.now.slicing c.args.self.now.size c.args.level (c.args.sx + 1) - left c.args.self.now.slicing c.args.self.now.size c.args.level c.args.sx) = rw (c.top.ensures, c.wide.ensures) refl in
    omega (arith, c.strip_start.ensures, c.numbers_before.ensures, c.places_before.ensures, rows, inside, c.numbers.ensures.sound.short)

pub returns-clause-value : goal.returns-clause-value
returns-clause-value g c =
    let rows : (c.args.y - c.top.result) * c.wide.result ≡ (c.args.y - top c.args.self.now.slicing c.args.self.now.size c.args.level c.args.sy) * (left c.args.self.now.slicing c.args.self.now.size c.args.level (c.args.sx + 1) - left c.args.self.now.slicing c.args.self.now.size c.args.level c.args.sx) = rw (c.top.ensures, c.wide.ensures) refl in
    omega (arith, c.strip_start.ensures, c.numbers_before.ensures, c.places_before.ensures, rows)

pub returns-clause-inside : goal.returns-clause-inside
returns-clause-inside g c =
    let r = c.requires in
    let inside = piece_inside c.args.self.now c.numbers.ensures.sound c.args.level c.args.orient c.args.y c.args.sx c.args.sy r.exists r.across r.down r.top r.bottom in
    let rows : (c.args.y - c.top.result) * c.wide.result ≡ (c.args.y - top c.args.self.now.slicing c.args.self.now.size c.args.level c.args.sy) * (left c.args.self.now.slicing c.args.self.now.size c.args.level (c.args.sx + 1) - left c.args.self.now.slicing c.args.self.now.size c.args.level c.args.sx) = rw (c.top.ensures, c.wide.ensures) refl in
    omega (arith, c.strip_start.ensures, c.numbers_before.ensures, c.places_before.ensures, rows, inside)
