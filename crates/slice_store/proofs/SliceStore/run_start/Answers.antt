use Rattle.std.proofs.Common.{arith}
use Rattle.slice_store.proofs.Runs.{run_there}
use Rattle.slice_store.proofs.SliceStore.run_start.Goals as goal

pub overflow_add-result : goal.overflow_add-result
overflow_add-result g c =
    let there = run_there c.args.self.now c.numbers.ensures.sound c.args.sx c.args.sy c.requires.across c.requires.down in
    omega (arith, there, c.strip_start.ensures, c.numbers_before.ensures, c.numbers.ensures.sound.short)

pub returns-clause-inside : goal.returns-clause-inside
returns-clause-inside g c =
    let there = run_there c.args.self.now c.numbers.ensures.sound c.args.sx c.args.sy c.requires.across c.requires.down in
    omega (arith, there, c.strip_start.ensures, c.numbers_before.ensures)

pub returns-clause-short : goal.returns-clause-short
returns-clause-short g c =
    let there = run_there c.args.self.now c.numbers.ensures.sound c.args.sx c.args.sy c.requires.across c.requires.down in
    omega (arith, there, c.strip_start.ensures, c.numbers_before.ensures, c.numbers.ensures.sound.short)
