use Rattle.std.proofs.Common.{◌≡◌, ◌∙◌, ◌+◌, ◌<◌, ◌++◌, ◌∷◌, [], ℕ, List, length, get_or, ap, arith}
use Rattle.std.proofs.lemmas.List.{length-append, get_or_append_left, get_or_push}
use borrow.Author.Count.{below_more}
use Rattle.slice_decoder.specs.StepRows.{StepRowSeen, no_row}
use Rattle.slice_decoder.proofs.step_rows.StepRows.new.Goals as goal

-- rows and one more
one_more : (places i : ℕ) (rows more : List StepRowSeen) (row : StepRowSeen) → length rows ≡ i → more ≡ rows ++ row ∷ [] → row.room ≡ places → ((k : ℕ) → k < i → (get_or rows k no_row).room ≡ places) → (k : ℕ) → k < i + 1 → (get_or more k no_row).room ≡ places
one_more places i rows more row count is room each =
    below_more (λ (k : ℕ). (get_or more k no_row).room ≡ places) i
    (λ k lt. ap (λ (rs : List StepRowSeen). (get_or rs k no_row).room) is ∙ ap (λ (r : StepRowSeen). r.room) (get_or_append_left rows (row ∷ []) no_row k (omega arith)) ∙ each k lt)
    (ap (λ (rs : List StepRowSeen). (get_or rs i no_row).room) is ∙ ap (λ (r : StepRowSeen). r.room) (get_or_push rows row no_row i count) ∙ room)

pub loop-init : goal.loop-init
loop-init c = record {
  count = ap length c.new-rows.ensures.items;
  each = λ k lt. absurd (omega arith);
}

pub loop-preserved : goal.loop-preserved
loop-preserved c =
    let l = c.loop in
    let items = c.in_ok-push.ensures.items in
    record {
      count = omega (arith, ap length items, length-append l.rows.items (c.in_ok-new.field-0 ∷ []), l.invariant.count);
      each = one_more c.args.places l.counter l.rows.items c.push.new.self.items c.in_ok-new.field-0 l.invariant.count items c.in_ok-new.ensures l.invariant.each;
    }

pub invariant_of-result : goal.invariant_of-result
invariant_of-result c = record {
  some = omega (arith, c.clamp-count.ensures, c.loop.invariant.count, c.loop-test.false);
  each = λ k lt. c.loop.invariant.each k (omega (arith, lt, c.loop.invariant.count));
}
