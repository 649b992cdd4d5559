use Rattle.std.proofs.Common.{◌+◌, ◌∙◌, sym, subst, arith}
use Rattle.run_theory.specs.Begun.{Begun}
use Rattle.stream_rows.specs.Units.{First, units, first_payload}
use Rattle.stream_reader.specs.Turns.{Takes, IsFirstHeader}
use Rattle.stream_reader.proofs.HeaderTurns.{behind_due, behind_refused, behind_takes}
use Rattle.stream_reader.proofs.HeldTurns.{drop_most}
use Rattle.stream_reader.proofs.parts.first_header.Goals as goal

pub returns-in-Err-clause-unit : goal.returns-in-Err-clause-unit
returns-in-Err-clause-unit g c = λ held0 rest0 b.
    c.in-Err.ensures.unit c.args.earlier.now held0 rest0 c.args.next (omega (arith, c.place-place.ensures.value))
    (subst (λ p. Begun units c.args.earlier.now held0 rest0 (g.S.Source.rest c.args.src.now) (p + 13) c.args.window.now.held (first_payload c.args.earlier.now c.args.next)) (sym c.place-place.ensures.value) b)

pub returns-in-Err-copied-clause-unit : goal.returns-in-Err-copied-clause-unit
returns-in-Err-copied-clause-unit g c = λ held0 rest0 b.
    behind_due c.args.next c.in-Ok.read.0 c.in-Ok.read.1 c.read_header.new.window.room c.in-Err-copied.stop
    (c.in-Ok.ensures.unit c.args.earlier.now held0 rest0 c.args.next (omega (arith, c.place-place.ensures.value))
    (subst (λ p. Begun units c.args.earlier.now held0 rest0 (g.S.Source.rest c.args.src.now) (p + 13) c.args.window.now.held (first_payload c.args.earlier.now c.args.next)) (sym c.place-place.ensures.value) b))
    (omega (arith, c.in-Ok.ensures.room, c.requires.place)) c.in-Err-copied.ensures.err

pub returns-then-not-leads_behind-clause-unit : goal.returns-then-not-leads_behind-clause-unit
returns-then-not-leads_behind-clause-unit g c = λ held0 rest0 b.
    behind_refused c.args.next c.in-Ok.read.0 c.in-Ok.read.1 c.advance.new.self.held c.advance.new.self.room c.refused.result
    (c.in-Ok.ensures.unit c.args.earlier.now held0 rest0 c.args.next (omega (arith, c.place-place.ensures.value))
    (subst (λ p. Begun units c.args.earlier.now held0 rest0 (g.S.Source.rest c.args.src.now) (p + 13) c.args.window.now.held (first_payload c.args.earlier.now c.args.next)) (sym c.place-place.ensures.value) b))
    c.advance.ensures.held (sym c.leads_behind.ensures ∙ cc) (omega (arith, c.in-Ok.ensures.room, c.requires.place, c.advance.ensures.room)) (c.refused.ensures ∙ cc)

pub returns-clause-unit : goal.returns-clause-unit
returns-clause-unit g c = λ held0 rest0 b.
    subst (λ (f : First). Takes c.args.earlier.now held0 rest0 (g.S.Source.rest c.read_header.new.src) c.advance.new.self.room c.advance.new.self.held (IsFirstHeader f)) (sym c.new.ensures)
    (behind_takes c.args.next c.in-Ok.read.1 c.advance.new.self.held c.advance.new.self.room _
    (c.in-Ok.ensures.unit c.args.earlier.now held0 rest0 c.args.next (omega (arith, c.place-place.ensures.value))
    (subst (λ p. Begun units c.args.earlier.now held0 rest0 (g.S.Source.rest c.args.src.now) (p + 13) c.args.window.now.held (first_payload c.args.earlier.now c.args.next)) (sym c.place-place.ensures.value) b))
    c.advance.ensures.held (sym c.leads_behind.ensures ∙ cc) (omega (arith, c.in-Ok.ensures.room, c.requires.place, c.advance.ensures.room)) (omega (arith, c.in-Ok.ensures.inside, c.in-Ok.ensures.few)) (c.in-Ok-copied.ensures.ok ∙ c.front.ensures.value))

pub returns-then-not-leads_behind-clause-held : goal.returns-then-not-leads_behind-clause-held
returns-then-not-leads_behind-clause-held g c = drop_most c.in-Ok.read.1 8192 c.read_header.new.window.held c.advance.new.self.held c.advance.ensures.held c.read_header.ensures.few

pub returns-clause-held : goal.returns-clause-held
returns-clause-held g c = drop_most c.in-Ok.read.1 8192 c.read_header.new.window.held c.advance.new.self.held c.advance.ensures.held c.read_header.ensures.few
