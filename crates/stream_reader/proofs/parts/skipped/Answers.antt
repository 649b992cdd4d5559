use Rattle.std.proofs.Common.{◌∙◌, arith, ap, length, List, ℕ, subst, Ok, Err, true, false, refl}
use Rattle.unit_reader.specs.Asking.{Dropped}
use Rattle.stream_reader.proofs.PartTurns.{skipped_whole, skipped_short, skipped_lost}
use Rattle.stream_reader.proofs.parts.skipped.Goals as goal

pub returns-in-Ok-true-clause-unit : goal.returns-in-Ok-true-clause-unit
returns-in-Ok-true-clause-unit g c = λ held0 rest0 b.
    skipped_whole c.args.next (g.S.Source.rest c.skip.new.src) (subst (λ n. Dropped n c.args.window.now c.skip.new.self (g.S.Source.rest c.args.src.now) (g.S.Source.rest c.skip.new.src) (Ok true)) c.saturating_sub.ensures (subst (λ r. Dropped c.saturating_sub.result c.args.window.now c.skip.new.self (g.S.Source.rest c.args.src.now) (g.S.Source.rest c.skip.new.src) r) (c.in-Ok-true.is ∙ cc) c.skip.ensures.dropped)) b refl (omega arith) c.requires.place

pub returns-in-Ok-false-clause-unit : goal.returns-in-Ok-false-clause-unit
returns-in-Ok-false-clause-unit g c = λ held0 rest0 b.
    skipped_short c.args.next (g.S.Source.rest c.skip.new.src) c.refused.result (subst (λ n. Dropped n c.args.window.now c.skip.new.self (g.S.Source.rest c.args.src.now) (g.S.Source.rest c.skip.new.src) (Ok false)) c.saturating_sub.ensures (subst (λ r. Dropped c.saturating_sub.result c.args.window.now c.skip.new.self (g.S.Source.rest c.args.src.now) (g.S.Source.rest c.skip.new.src) r) (c.in-Ok-false.is ∙ cc) c.skip.ensures.dropped)) b c.requires.place (c.refused.ensures ∙ cc)

pub returns-in-Err-clause-unit : goal.returns-in-Err-clause-unit
returns-in-Err-clause-unit g c = λ held0 rest0 b.
    skipped_lost c.args.next (g.S.Source.rest c.skip.new.src) c.in-Err.halt c.stop_of.result (subst (λ n. Dropped n c.args.window.now c.skip.new.self (g.S.Source.rest c.args.src.now) (g.S.Source.rest c.skip.new.src) (Err c.in-Err.halt)) c.saturating_sub.ensures (subst (λ r. Dropped c.saturating_sub.result c.args.window.now c.skip.new.self (g.S.Source.rest c.args.src.now) (g.S.Source.rest c.skip.new.src) r) (c.in-Err.is ∙ cc) c.skip.ensures.dropped)) b c.requires.place c.stop_of.ensures

pub returns-in-Ok-false-clause-held : goal.returns-in-Ok-false-clause-held
returns-in-Ok-false-clause-held g c =
    let d : Dropped c.saturating_sub.result c.args.window.now c.skip.new.self (g.S.Source.rest c.args.src.now) (g.S.Source.rest c.skip.new.src) (Ok false) = subst (λ r. Dropped c.saturating_sub.result c.args.window.now c.skip.new.self (g.S.Source.rest c.args.src.now) (g.S.Source.rest c.skip.new.src) r) (c.in-Ok-false.is ∙ cc) c.skip.ensures.dropped in
    omega (arith, ap (λ (l : List ℕ). length l) (d.short refl).1)

pub returns-in-Err-clause-held : goal.returns-in-Err-clause-held
returns-in-Err-clause-held g c =
    let d : Dropped c.saturating_sub.result c.args.window.now c.skip.new.self (g.S.Source.rest c.args.src.now) (g.S.Source.rest c.skip.new.src) (Err c.in-Err.halt) = subst (λ r. Dropped c.saturating_sub.result c.args.window.now c.skip.new.self (g.S.Source.rest c.args.src.now) (g.S.Source.rest c.skip.new.src) r) (c.in-Err.is ∙ cc) c.skip.ensures.dropped in
    omega (arith, ap (λ (l : List ℕ). length l) d.err.1)
