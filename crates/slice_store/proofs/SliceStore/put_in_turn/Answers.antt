use Rattle.std.proofs.Common.{◌≡◌, ap, sym, subst, ◌∙◌, ℕ, ◌+◌, ◌-◌, ◌*◌, ◌<◌, ◌≤◌, length, arith}
use Rattle.std.specs.Prelude.{slice_index_or}
use Rattle.std.specs.Vec.{with_items}
use borrow.Rule.Slice.PartMut.{put_mid}
use Rattle.slice_geometry.specs.declared.Size.{Size}
use Rattle.slice_geometry.specs.Slicing.{Slicing}
use Rattle.slice_geometry.specs.SliceOrder.{place_count}
use Rattle.slice_store.specs.Store.{Store}
use Rattle.slice_store.specs.Places.{IsStoreSound}
use Rattle.slice_store.specs.Writing.{with_numbers}
use Rattle.slice_store.proofs.Turns.{part_is, came_back, run_shown, runs_stay}
use Rattle.slice_store.proofs.SlicePut.{slice_put}
use Rattle.slice_store.proofs.SliceStore.put_in_turn.Goals as goal

pub returns-clause-shown : goal.returns-clause-shown
returns-clause-shown g c =
    let s = c.args.self.now in
    let inside = c.self.inside in
    let none = g.T.Number.none in
    let run : ℕ → g.row.T.Denot = λ k. slice_index_or c.args.values.now (2 * k) none in
    let start : ℕ = c.run_start-start.result in
    let count : ℕ = c.run_length-count.result in
    let ys = c.take_in_turn.new.first in
    let N = (with_items inside.numbers (put_mid start (start + count - start) c.deref_mut.result.now ys)).items in
    let t : Store g.row.T.Denot = record { slicing = inside.cuts.slicing; size = inside.cuts.size; strips = inside.strips; starts = inside.starts.items; numbers = N } in
    let same : t ≡ with_numbers s N = ap (λ (u : Store g.row.T.Denot). with_numbers u N) c.self.view_is in
    let sound : IsStoreSound s = subst (λ (u : Store g.row.T.Denot). IsStoreSound u) c.self.view_is c.self.invariant.2 in
    let numbers = ap (λ (u : Store g.row.T.Denot). u.numbers) c.self.view_is in
    let across = c.requires.across in
    let down = c.requires.down in
    let put = came_back none s c.args.sx c.args.sy run inside.numbers c.deref_mut.result.now ys start count c.deref_mut.ensures.value numbers c.run_start-start.ensures.value (c.run_length-count.ensures) c.run_start-start.ensures.inside inside.numbers.ok.0 c.take_in_turn.auto.first
    (λ k lt. c.take_in_turn.ensures.first k lt) in
    run_shown g.T.Number.value none s sound c.args.sx c.args.sy across down run t same put

pub returns-clause-others : goal.returns-clause-others
returns-clause-others g c =
    let s = c.args.self.now in
    let inside = c.self.inside in
    let none = g.T.Number.none in
    let run : ℕ → g.row.T.Denot = λ k. slice_index_or c.args.values.now (2 * k) none in
    let start : ℕ = c.run_start-start.result in
    let count : ℕ = c.run_length-count.result in
    let ys = c.take_in_turn.new.first in
    let N = (with_items inside.numbers (put_mid start (start + count - start) c.deref_mut.result.now ys)).items in
    let t : Store g.row.T.Denot = record { slicing = inside.cuts.slicing; size = inside.cuts.size; strips = inside.strips; starts = inside.starts.items; numbers = N } in
    let same : t ≡ with_numbers s N = ap (λ (u : Store g.row.T.Denot). with_numbers u N) c.self.view_is in
    let sound : IsStoreSound s = subst (λ (u : Store g.row.T.Denot). IsStoreSound u) c.self.view_is c.self.invariant.2 in
    let numbers = ap (λ (u : Store g.row.T.Denot). u.numbers) c.self.view_is in
    let across = c.requires.across in
    let down = c.requires.down in
    let put = came_back none s c.args.sx c.args.sy run inside.numbers c.deref_mut.result.now ys start count c.deref_mut.ensures.value numbers c.run_start-start.ensures.value (c.run_length-count.ensures) c.run_start-start.ensures.inside inside.numbers.ok.0 c.take_in_turn.auto.first
    (λ k lt. c.take_in_turn.ensures.first k lt) in
    runs_stay g.T.Number.value none s sound c.args.sx c.args.sy across down run t same put

pub returns-clause-stack : goal.returns-clause-stack
returns-clause-stack g c room =
    let s = c.args.self.now in
    let inside = c.self.inside in
    let none = g.T.Number.none in
    let run : ℕ → g.row.T.Denot = λ k. slice_index_or c.args.values.now (2 * k) none in
    let start : ℕ = c.run_start-start.result in
    let count : ℕ = c.run_length-count.result in
    let ys = c.take_in_turn.new.first in
    let N = (with_items inside.numbers (put_mid start (start + count - start) c.deref_mut.result.now ys)).items in
    let t : Store g.row.T.Denot = record { slicing = inside.cuts.slicing; size = inside.cuts.size; strips = inside.strips; starts = inside.starts.items; numbers = N } in
    let same : t ≡ with_numbers s N = ap (λ (u : Store g.row.T.Denot). with_numbers u N) c.self.view_is in
    let sound : IsStoreSound s = subst (λ (u : Store g.row.T.Denot). IsStoreSound u) c.self.view_is c.self.invariant.2 in
    let numbers = ap (λ (u : Store g.row.T.Denot). u.numbers) c.self.view_is in
    let across = c.requires.across in
    let down = c.requires.down in
    slice_put g.T.Number.value none s sound c.args.sx c.args.sy across down room run t same (returns-clause-shown g c) (returns-clause-others g c)

pub returns-clause-second_shown : goal.returns-clause-second_shown
returns-clause-second_shown g c =
    let s = c.args.second.now in
    let inside = c.second.inside in
    let none = g.T.Number.none in
    let run : ℕ → g.row.T.Denot = λ k. slice_index_or c.args.values.now (2 * k + 1) none in
    let start : ℕ = c.run_start-second_start.result in
    let count : ℕ = c.run_length-count.result in
    let ys = c.take_in_turn.new.second in
    let N = (with_items inside.numbers (put_mid start (start + count - start) c.deref_mut-2.result.now ys)).items in
    let t : Store g.row.T.Denot = record { slicing = inside.cuts.slicing; size = inside.cuts.size; strips = inside.strips; starts = inside.starts.items; numbers = N } in
    let same : t ≡ with_numbers s N = ap (λ (u : Store g.row.T.Denot). with_numbers u N) c.second.view_is in
    let sound : IsStoreSound s = subst (λ (u : Store g.row.T.Denot). IsStoreSound u) c.second.view_is c.second.invariant.2 in
    let numbers = ap (λ (u : Store g.row.T.Denot). u.numbers) c.second.view_is in
    let across : c.args.sx < s.slicing.slices_x = omega (arith, c.requires.across, ap (λ (v : Slicing). v.slices_x) c.requires.slicing) in
    let down : c.args.sy < s.slicing.slices_y = omega (arith, c.requires.down, ap (λ (v : Slicing). v.slices_y) c.requires.slicing) in
    let counts_same : place_count c.args.self.now.slicing c.args.self.now.size c.args.sx c.args.sy ≡ place_count s.slicing s.size c.args.sx c.args.sy =
    sym (ap (λ (v : Slicing). place_count v s.size c.args.sx c.args.sy) c.requires.slicing ∙ ap (λ (v : Size). place_count c.args.self.now.slicing v c.args.sx c.args.sy) c.requires.size) in
    let there : start + count ≤ length c.deref_mut-2.result.now = omega (arith, c.run_start-second_start.ensures.inside, c.run_length-count.ensures, counts_same, ap length c.deref_mut-2.ensures.value, ap length numbers) in
    let first_there : c.run_start-start.result + count ≤ length c.deref_mut.result.now =
    omega (arith, c.run_start-start.ensures.inside, c.run_length-count.ensures, ap length c.deref_mut.ensures.value, ap (λ (u : Store g.row.T.Denot). length u.numbers) c.self.view_is) in
    let alike = part_is c.deref_mut.result.now c.run_start-start.result count first_there in
    let put = came_back none s c.args.sx c.args.sy run inside.numbers c.deref_mut-2.result.now ys start count c.deref_mut-2.ensures.value numbers c.run_start-second_start.ensures.value (c.run_length-count.ensures ∙ counts_same) c.run_start-second_start.ensures.inside inside.numbers.ok.0 c.take_in_turn.auto.second
    (λ k lt. c.take_in_turn.ensures.second k (omega (arith, lt, alike, part_is c.deref_mut-2.result.now start count there))) in
    run_shown g.T.Number.value none s sound c.args.sx c.args.sy across down run t same put

pub returns-clause-second_others : goal.returns-clause-second_others
returns-clause-second_others g c =
    let s = c.args.second.now in
    let inside = c.second.inside in
    let none = g.T.Number.none in
    let run : ℕ → g.row.T.Denot = λ k. slice_index_or c.args.values.now (2 * k + 1) none in
    let start : ℕ = c.run_start-second_start.result in
    let count : ℕ = c.run_length-count.result in
    let ys = c.take_in_turn.new.second in
    let N = (with_items inside.numbers (put_mid start (start + count - start) c.deref_mut-2.result.now ys)).items in
    let t : Store g.row.T.Denot = record { slicing = inside.cuts.slicing; size = inside.cuts.size; strips = inside.strips; starts = inside.starts.items; numbers = N } in
    let same : t ≡ with_numbers s N = ap (λ (u : Store g.row.T.Denot). with_numbers u N) c.second.view_is in
    let sound : IsStoreSound s = subst (λ (u : Store g.row.T.Denot). IsStoreSound u) c.second.view_is c.second.invariant.2 in
    let numbers = ap (λ (u : Store g.row.T.Denot). u.numbers) c.second.view_is in
    let across : c.args.sx < s.slicing.slices_x = omega (arith, c.requires.across, ap (λ (v : Slicing). v.slices_x) c.requires.slicing) in
    let down : c.args.sy < s.slicing.slices_y = omega (arith, c.requires.down, ap (λ (v : Slicing). v.slices_y) c.requires.slicing) in
    let counts_same : place_count c.args.self.now.slicing c.args.self.now.size c.args.sx c.args.sy ≡ place_count s.slicing s.size c.args.sx c.args.sy =
    sym (ap (λ (v : Slicing). place_count v s.size c.args.sx c.args.sy) c.requires.slicing ∙ ap (λ (v : Size). place_count c.args.self.now.slicing v c.args.sx c.args.sy) c.requires.size) in
    let there : start + count ≤ length c.deref_mut-2.result.now = omega (arith, c.run_start-second_start.ensures.inside, c.run_length-count.ensures, counts_same, ap length c.deref_mut-2.ensures.value, ap length numbers) in
    let first_there : c.run_start-start.result + count ≤ length c.deref_mut.result.now =
    omega (arith, c.run_start-start.ensures.inside, c.run_length-count.ensures, ap length c.deref_mut.ensures.value, ap (λ (u : Store g.row.T.Denot). length u.numbers) c.self.view_is) in
    let alike = part_is c.deref_mut.result.now c.run_start-start.result count first_there in
    let put = came_back none s c.args.sx c.args.sy run inside.numbers c.deref_mut-2.result.now ys start count c.deref_mut-2.ensures.value numbers c.run_start-second_start.ensures.value (c.run_length-count.ensures ∙ counts_same) c.run_start-second_start.ensures.inside inside.numbers.ok.0 c.take_in_turn.auto.second
    (λ k lt. c.take_in_turn.ensures.second k (omega (arith, lt, alike, part_is c.deref_mut-2.result.now start count there))) in
    runs_stay g.T.Number.value none s sound c.args.sx c.args.sy across down run t same put

pub returns-clause-second_stack : goal.returns-clause-second_stack
returns-clause-second_stack g c room =
    let s = c.args.second.now in
    let inside = c.second.inside in
    let none = g.T.Number.none in
    let run : ℕ → g.row.T.Denot = λ k. slice_index_or c.args.values.now (2 * k + 1) none in
    let start : ℕ = c.run_start-second_start.result in
    let count : ℕ = c.run_length-count.result in
    let ys = c.take_in_turn.new.second in
    let N = (with_items inside.numbers (put_mid start (start + count - start) c.deref_mut-2.result.now ys)).items in
    let t : Store g.row.T.Denot = record { slicing = inside.cuts.slicing; size = inside.cuts.size; strips = inside.strips; starts = inside.starts.items; numbers = N } in
    let same : t ≡ with_numbers s N = ap (λ (u : Store g.row.T.Denot). with_numbers u N) c.second.view_is in
    let sound : IsStoreSound s = subst (λ (u : Store g.row.T.Denot). IsStoreSound u) c.second.view_is c.second.invariant.2 in
    let numbers = ap (λ (u : Store g.row.T.Denot). u.numbers) c.second.view_is in
    let across : c.args.sx < s.slicing.slices_x = omega (arith, c.requires.across, ap (λ (v : Slicing). v.slices_x) c.requires.slicing) in
    let down : c.args.sy < s.slicing.slices_y = omega (arith, c.requires.down, ap (λ (v : Slicing). v.slices_y) c.requires.slicing) in
    slice_put g.T.Number.value none s sound c.args.sx c.args.sy across down room run t same (returns-clause-second_shown g c) (returns-clause-second_others g c)
