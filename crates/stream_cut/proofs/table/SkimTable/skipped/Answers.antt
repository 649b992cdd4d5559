use Rattle.std.proofs.Common.{◌∙◌, arith, ap, length, List, ℕ, subst, Ok, Err, true, false, refl}
use Rattle.std.proofs.lemmas.List.{length-drop}
use Rattle.unit_reader.specs.Asking.{Dropped}
use Rattle.unit_reader.specs.declared.stop.ReadStop.TheVariants as stops
use Rattle.stream_rows.specs.declared.reason.Reason.TheVariants as reasons
use Rattle.stream_cut.specs.SkimTable.{SkimTableSeen}
use Rattle.stream_cut.proofs.SkippedTurns.{opens_skipped, skips_whole, skips_short, skips_lost}
use Rattle.stream_cut.proofs.table.SkimTable.skipped.Goals as goal

pub advance-requires : goal.advance-requires
advance-requires g c = let o = c.requires.opened in omega (arith, o.3, o.4)

pub returns-in-Ok-true-clause-unit : goal.returns-in-Ok-true-clause-unit
returns-in-Ok-true-clause-unit g c = λ held0 rest0 b.
    let o = opens_skipped c.args.next c.args.size c.requires.opened c.advance.ensures.held b in
    let less = ap (λ (l : List ℕ). length l) c.advance.ensures.held ∙ length-drop c.args.size c.args.window.now.held in
    skips_whole c.args.self.now c.args.next (g.S.Source.rest c.skip.new.src) (subst (λ n. Dropped n c.advance.new.self c.skip.new.self (g.S.Source.rest c.args.src.now) (g.S.Source.rest c.skip.new.src) (Ok true)) c.saturating_sub.ensures (subst (λ r. Dropped c.saturating_sub.result c.advance.new.self c.skip.new.self (g.S.Source.rest c.args.src.now) (g.S.Source.rest c.skip.new.src) r) (c.in-Ok-true.is ∙ cc) c.skip.ensures.dropped)) o.begun (omega (arith, o.head)) (omega arith)
    (omega (arith, c.requires.place, c.advance.ensures.room, less, o.inside))

pub returns-in-Ok-false-clause-unit : goal.returns-in-Ok-false-clause-unit
returns-in-Ok-false-clause-unit g c = λ held0 rest0 b.
    let o = opens_skipped c.args.next c.args.size c.requires.opened c.advance.ensures.held b in
    let less = ap (λ (l : List ℕ). length l) c.advance.ensures.held ∙ length-drop c.args.size c.args.window.now.held in (
      skips_short c.args.next (g.S.Source.rest c.skip.new.src) c.refused.result (subst (λ n. Dropped n c.advance.new.self c.skip.new.self (g.S.Source.rest c.args.src.now) (g.S.Source.rest c.skip.new.src) (Ok false)) c.saturating_sub.ensures (subst (λ r. Dropped c.saturating_sub.result c.advance.new.self c.skip.new.self (g.S.Source.rest c.args.src.now) (g.S.Source.rest c.skip.new.src) r) (c.in-Ok-false.is ∙ cc) c.skip.ensures.dropped)) o.begun
          (omega (arith, c.requires.place, c.advance.ensures.room, less, o.inside)) (c.refused.ensures ∙ ap (λ (n : ℕ). stops.Refused (record { place = n; reason = reasons.Truncated })) (omega (arith, c.place.ensures.value, ap (λ (v : SkimTableSeen). v.past.place) c.self.view_is, o.head))),
      record { header = refl; shape = refl; few = omega (arith, ap (λ (l : List ℕ). length l) (c.skip.ensures.dropped.short (c.in-Ok-false.is ∙ cc)).1) },
    )

pub returns-in-Err-clause-unit : goal.returns-in-Err-clause-unit
returns-in-Err-clause-unit g c = λ held0 rest0 b.
    let o = opens_skipped c.args.next c.args.size c.requires.opened c.advance.ensures.held b in
    let less = ap (λ (l : List ℕ). length l) c.advance.ensures.held ∙ length-drop c.args.size c.args.window.now.held in
    let lost : Dropped c.saturating_sub.result c.advance.new.self c.skip.new.self (g.S.Source.rest c.args.src.now) (g.S.Source.rest c.skip.new.src) (Err c.in-Err.halt) = subst (λ r. Dropped c.saturating_sub.result c.advance.new.self c.skip.new.self (g.S.Source.rest c.args.src.now) (g.S.Source.rest c.skip.new.src) r) (c.in-Err.is ∙ cc) c.skip.ensures.dropped in (
      skips_lost c.args.next (g.S.Source.rest c.skip.new.src) c.in-Err.halt c.stop_of.result (subst (λ n. Dropped n c.advance.new.self c.skip.new.self (g.S.Source.rest c.args.src.now) (g.S.Source.rest c.skip.new.src) (Err c.in-Err.halt)) c.saturating_sub.ensures lost) o.begun
          (omega (arith, c.requires.place, c.advance.ensures.room, less, o.inside)) c.stop_of.ensures,
      record { header = refl; shape = refl; few = omega (arith, ap (λ (l : List ℕ). length l) lost.err.1) },
    )
