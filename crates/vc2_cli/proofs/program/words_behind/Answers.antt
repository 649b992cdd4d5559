use Rattle.std.proofs.Common.{◌≡◌, ◌∷◌, [], ◌++◌, drop, Option, Some, None, sym, ap, ◌∙◌, append_assoc, append-nil}
use Rattle.std.proofs.lemmas.List.{nil_from_length}
use Rattle.std.specs.Vec.Iter.{into_iter_items, into_iter_steps}
use Rattle.std.specs.declared.vec.IntoIter.{IntoIter}
use Rattle.vc2_cli.proofs.program.words_behind.Goals as goal

-- behind the first one
behind_first : {X Z : Type 0} (s t : IntoIter X Z) (r : Option X) → into_iter_steps s r t → drop 1 (into_iter_items s) ≡ into_iter_items t
behind_first s t None h = ap (drop 1) (nil_from_length (into_iter_items s) (sym s.rest.ok.0 ∙ h.0)) ∙ sym (nil_from_length (into_iter_items t) (sym t.rest.ok.0 ∙ h.1))
behind_first s t (Some x) h = ap (drop 1) h.0

pub loop-word-init : goal.loop-word-init
loop-word-init c =
    behind_first c.args.args c.next.new.self c.next.result c.next.ensures.cases
    ∙ ap into_iter_items (sym c.into_iter-word-iterator.ensures.into_iter_gives)
    ∙ ap (λ l. l ++ into_iter_items c.into_iter-word-iterator.result) (sym c.new-words.ensures.items)

pub loop-word-preserved : goal.loop-word-preserved
loop-word-preserved c =
    let words = c.loop-word.words.items in
    let rest = into_iter_items c.next-in-loop-word.new.self in
    c.loop-word.invariant
    ∙ ap (λ l. words ++ l) c.in-Some.ensures.steps.0
    ∙ sym (append_assoc words (c.in-Some.word ∷ []) rest)
    ∙ ap (λ l. l ++ rest) (sym c.in_ok-push.ensures.items)

pub returns : goal.returns
returns c =
    let at = c.loop-word in
    let empty : into_iter_items at.word-iterator ≡ [] = nil_from_length (into_iter_items at.word-iterator) (sym at.word-iterator.rest.ok.0 ∙ c.in-None.ensures.steps.0) in
    sym (at.invariant ∙ ap (λ l. at.words.items ++ l) empty ∙ append-nil at.words.items)
