use Rattle.std.proofs.Common.{ap, sym, ◌∙◌, ℕ}
use Rattle.std.specs.Prelude.{slice_index_or}
use Rattle.slice_geometry.specs.SliceOrder.{place_number}
use Rattle.slice_store.proofs.Runs.{run_place, number_inside}
use Rattle.slice_store.proofs.Stacked.{run_holds}
use Rattle.slice_store.proofs.SliceStore.run.Goals as goal

pub returns-clause-shown : goal.returns-clause-shown
returns-clause-shown g c level orient y x place column row =
    let s = c.args.self.now in
    let none = g.T.Number.none in
    let sound = c.numbers.ensures.sound in
    ap g.T.Number.value (ap (λ (n : ℕ). slice_index_or s.numbers n none) (run_place s sound c.args.sx c.args.sy c.requires.across c.requires.down level orient y x column row)
    ∙ sym (c.run_numbers.ensures.value (place_number s.slicing s.size c.args.sx c.args.sy level orient y x) (number_inside s sound c.args.sx c.args.sy c.requires.across c.requires.down level orient y x place column row)))

pub returns-clause-holds : goal.returns-clause-holds
returns-clause-holds g c =
    run_holds g.T.Number.value g.T.Number.none c.args.self.now c.numbers.ensures.sound c.args.sx c.args.sy c.run_numbers.result.now c.requires.across c.requires.down c.run_numbers.ensures.long (returns-clause-shown g c)
