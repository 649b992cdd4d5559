use Rattle.std.proofs.Common.{◌≡◌, ap, sym, ◌∙◌, ℕ, ◌+◌, arith}
use Rattle.std.specs.Prelude.{slice_index_or}
use Rattle.slice_geometry.specs.SliceOrder.{place_count}
use Rattle.slice_store.specs.Places.{run_start}
use Rattle.slice_store.proofs.Turns.{IsPutAt, run_shown, runs_stay}
use Rattle.slice_store.proofs.SlicePut.{slice_put}
use Rattle.slice_store.proofs.SliceStore.put_run.Goals as goal

no_more : (n : ℕ) → 0 + n ≡ n
no_more n = omega arith

pub write-requires-clause-room : goal.write-requires-clause-room
write-requires-clause-room g c = omega (arith, c.run_start-start.ensures.inside, c.requires.whole)

pub returns-clause-shown : goal.returns-clause-shown
returns-clause-shown g c =
    let s = c.args.self.now in
    let none = g.T.Number.none in
    let new = c.write.new.self.numbers in
    let run : ℕ → g.row.T.Denot = λ k. slice_index_or c.args.values.now k none in
    let start : c.run_start-start.result ≡ run_start s c.args.sx c.args.sy = c.run_start-start.ensures.value in
    let put : IsPutAt none (run_start s c.args.sx c.args.sy) (place_count s.slicing s.size c.args.sx c.args.sy) run s.numbers new = record {
      done = λ k lt. ap (λ (n : ℕ). slice_index_or new (n + k) none) (sym start) ∙ c.write.ensures.done k (omega (arith, lt, c.requires.whole)) ∙ ap run (no_more k);
      before = λ j lt. c.write.ensures.before j (omega (arith, lt, start));
      behind = λ j past. c.write.ensures.behind j (omega (arith, past, start, c.requires.whole));
    } in
    run_shown g.T.Number.value none s c.numbers.ensures.sound c.args.sx c.args.sy c.requires.across c.requires.down run c.write.new.self c.write.ensures.same put

pub returns-clause-others : goal.returns-clause-others
returns-clause-others g c =
    let s = c.args.self.now in
    let none = g.T.Number.none in
    let new = c.write.new.self.numbers in
    let run : ℕ → g.row.T.Denot = λ k. slice_index_or c.args.values.now k none in
    let start : c.run_start-start.result ≡ run_start s c.args.sx c.args.sy = c.run_start-start.ensures.value in
    let put : IsPutAt none (run_start s c.args.sx c.args.sy) (place_count s.slicing s.size c.args.sx c.args.sy) run s.numbers new = record {
      done = λ k lt. ap (λ (n : ℕ). slice_index_or new (n + k) none) (sym start) ∙ c.write.ensures.done k (omega (arith, lt, c.requires.whole)) ∙ ap run (no_more k);
      before = λ j lt. c.write.ensures.before j (omega (arith, lt, start));
      behind = λ j past. c.write.ensures.behind j (omega (arith, past, start, c.requires.whole));
    } in
    runs_stay g.T.Number.value none s c.numbers.ensures.sound c.args.sx c.args.sy c.requires.across c.requires.down run c.write.new.self c.write.ensures.same put

pub returns-clause-stack : goal.returns-clause-stack
returns-clause-stack g c room =
    let none = g.T.Number.none in
    slice_put g.T.Number.value none c.args.self.now c.numbers.ensures.sound c.args.sx c.args.sy c.requires.across c.requires.down room (λ k. slice_index_or c.args.values.now k none)
    c.write.new.self c.write.ensures.same (returns-clause-shown g c) (returns-clause-others g c)
