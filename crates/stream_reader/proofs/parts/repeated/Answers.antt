use Rattle.std.proofs.Common.{◌≡◌, ◌+◌, ◌∙◌, sym, ap, subst, take, drop, length, [], List, ℕ, arith, refl}
use Rattle.std.proofs.lemmas.Grind.{common_steps}
use Rattle.std.specs.Prelude.{nat_eq}
use Rattle.std.specs.List.{starts_with}
use Rattle.std.proofs.lemmas.List.{length-drop}
use Rattle.field_rows.specs.Rows.{done, ◌>>=◌}
use Rattle.run_theory.specs.Begun.{Begun, Got}
use Rattle.stream_rows.specs.Units.{Repeated, units, next_checked, leads_behind}
use Rattle.unit_reader.proofs.Gets.{got_most}
use Rattle.stream_reader.proofs.HeldTurns.{drop_most}
use Rattle.stream_reader.proofs.PartTurns.{repeated_short, repeated_lost, repeated_differs, repeated_same, checked_takes, checked_refused}
use Rattle.stream_reader.proofs.parts.repeated.Goals as goal

pub returns-in-Ok-false-clause-unit : goal.returns-in-Ok-false-clause-unit
returns-in-Ok-false-clause-unit g c = λ held0 rest0 b.
    let n = ap (λ (l : List ℕ). length l) c.payload-payload.ensures.value in
    let short = c.hold.ensures.short (c.in-Ok-false.is ∙ cc) in
    repeated_short c.args.next c.args.first.now c.hold.new.self.held (g.S.Source.rest c.hold.new.src) c.hold.new.self.room c.refused.result b
    (subst (λ k. Got k c.args.window.now.held c.hold.new.self.held (g.S.Source.rest c.args.src.now) (g.S.Source.rest c.hold.new.src) []) n c.hold.ensures.got)
    (omega (arith, short.0, n)) short.1 (omega (arith, c.hold.ensures.room, c.requires.place)) (c.refused.ensures ∙ cc)

pub returns-in-Err-clause-unit : goal.returns-in-Err-clause-unit
returns-in-Err-clause-unit g c = λ held0 rest0 b.
    let n = ap (λ (l : List ℕ). length l) c.payload-payload.ensures.value in
    repeated_lost c.args.next c.args.first.now c.hold.new.self.held (g.S.Source.rest c.hold.new.src) c.hold.new.self.room c.in-Err.halt c.stop_of.result b
    (subst (λ k. Got k c.args.window.now.held c.hold.new.self.held (g.S.Source.rest c.args.src.now) (g.S.Source.rest c.hold.new.src) []) n c.hold.ensures.got)
    (omega (arith, c.in-Err.ensures.err, n)) (omega (arith, c.hold.ensures.room, c.requires.place)) c.stop_of.ensures

pub returns-then-not-starts_with-clause-unit : goal.returns-then-not-starts_with-clause-unit
returns-then-not-starts_with-clause-unit g c = λ held0 rest0 b.
    let n = ap (λ (l : List ℕ). length l) c.payload-payload.ensures.value in
    repeated_differs c.args.next c.args.first.now c.hold.new.self.held c.front.result.now (g.S.Source.rest c.hold.new.src) c.hold.new.self.room c.refused-then-not-starts_with.result b
    (subst (λ k. Got k c.args.window.now.held c.hold.new.self.held (g.S.Source.rest c.args.src.now) (g.S.Source.rest c.hold.new.src) []) n c.hold.ensures.got)
    (omega (arith, c.hold.ensures.enough (c.in-Ok-true.is ∙ cc), n)) (c.front.ensures.value ∙ ap (λ k. take k c.hold.new.self.held) n) c.front.ensures.fits
    (ap (λ (l : List ℕ). starts_with nat_eq c.front.result.now l) (sym c.payload-payload.ensures.value) ∙ sym c.starts_with.ensures.value ∙ cc)
    (omega (arith, c.hold.ensures.room, c.requires.place)) (c.refused-then-not-starts_with.ensures ∙ cc)

pub returns-then-not-leads_behind-clause-unit : goal.returns-then-not-leads_behind-clause-unit
returns-then-not-leads_behind-clause-unit g c = λ held0 rest0 b.
    let n = ap (λ (l : List ℕ). length l) c.payload-payload.ensures.value in
    let used = repeated_same c.args.next c.args.first.now c.hold.new.self.held c.front.result.now c.advance.new.self.held (g.S.Source.rest c.hold.new.src) b
    (subst (λ k. Got k c.args.window.now.held c.hold.new.self.held (g.S.Source.rest c.args.src.now) (g.S.Source.rest c.hold.new.src) []) n c.hold.ensures.got)
    (omega (arith, c.hold.ensures.enough (c.in-Ok-true.is ∙ cc), n)) (c.front.ensures.value ∙ ap (λ k. take k c.hold.new.self.held) n) (c.advance.ensures.held ∙ ap (λ k. drop k c.hold.new.self.held) n) c.front.ensures.fits
    (ap (λ (l : List ℕ). starts_with nat_eq c.front.result.now l) (sym c.payload-payload.ensures.value) ∙ sym c.starts_with.ensures.value ∙ cc) in
    checked_refused c.advance.new.self.room c.args.next (13 + length c.args.first.now.payload) Repeated c.refused-then-not-leads_behind.result
    (subst (λ p. Begun units c.args.earlier.now held0 rest0 (g.S.Source.rest c.hold.new.src) p c.advance.new.self.held (next_checked c.args.earlier.now c.args.next >>= λ length. done Repeated)) (omega arith) used)
    (ap (leads_behind c.args.next) (omega (arith, n)) ∙ sym c.leads_behind.ensures ∙ cc)
    (omega (arith, c.hold.ensures.room, c.requires.place, c.advance.ensures.room, n, c.hold.ensures.enough (c.in-Ok-true.is ∙ cc), ap (λ (l : List ℕ). length l) c.advance.ensures.held, length-drop (length c.payload-payload.result.now) c.hold.new.self.held)) (c.refused-then-not-leads_behind.ensures ∙ cc)

pub returns-clause-unit : goal.returns-clause-unit
returns-clause-unit g c = λ held0 rest0 b.
    let n = ap (λ (l : List ℕ). length l) c.payload-payload.ensures.value in
    let used = repeated_same c.args.next c.args.first.now c.hold.new.self.held c.front.result.now c.advance.new.self.held (g.S.Source.rest c.hold.new.src) b
    (subst (λ k. Got k c.args.window.now.held c.hold.new.self.held (g.S.Source.rest c.args.src.now) (g.S.Source.rest c.hold.new.src) []) n c.hold.ensures.got)
    (omega (arith, c.hold.ensures.enough (c.in-Ok-true.is ∙ cc), n)) (c.front.ensures.value ∙ ap (λ k. take k c.hold.new.self.held) n) (c.advance.ensures.held ∙ ap (λ k. drop k c.hold.new.self.held) n) c.front.ensures.fits
    (ap (λ (l : List ℕ). starts_with nat_eq c.front.result.now l) (sym c.payload-payload.ensures.value) ∙ sym c.starts_with.ensures.value ∙ cc) in
    checked_takes c.advance.new.self.room c.args.next (13 + length c.args.first.now.payload) (λ unit bytes. unit ≡ Repeated) Repeated
    (subst (λ p. Begun units c.args.earlier.now held0 rest0 (g.S.Source.rest c.hold.new.src) p c.advance.new.self.held (next_checked c.args.earlier.now c.args.next >>= λ length. done Repeated)) (omega arith) used)
    (ap (leads_behind c.args.next) (omega (arith, n)) ∙ sym c.leads_behind.ensures ∙ cc)
    (omega (arith, c.hold.ensures.room, c.requires.place, c.advance.ensures.room, n, c.hold.ensures.enough (c.in-Ok-true.is ∙ cc), ap (λ (l : List ℕ). length l) c.advance.ensures.held, length-drop (length c.payload-payload.result.now) c.hold.new.self.held))
    (omega (arith, n, c.payload-payload.ensures.most)) (λ bytes at. refl)

pub returns-in-Ok-false-clause-held : goal.returns-in-Ok-false-clause-held
returns-in-Ok-false-clause-held g c = got_most 8192 c.hold.ensures.got (omega (arith, c.requires.few)) (omega (arith, c.payload-payload.ensures.most))

pub returns-in-Err-clause-held : goal.returns-in-Err-clause-held
returns-in-Err-clause-held g c = got_most 8192 c.hold.ensures.got (omega (arith, c.requires.few)) (omega (arith, c.payload-payload.ensures.most))

pub returns-then-not-starts_with-clause-held : goal.returns-then-not-starts_with-clause-held
returns-then-not-starts_with-clause-held g c = got_most 8192 c.hold.ensures.got (omega (arith, c.requires.few)) (omega (arith, c.payload-payload.ensures.most))

pub returns-then-not-leads_behind-clause-held : goal.returns-then-not-leads_behind-clause-held
returns-then-not-leads_behind-clause-held g c = drop_most (length c.payload-payload.result.now) 8192 c.hold.new.self.held c.advance.new.self.held c.advance.ensures.held (got_most 8192 c.hold.ensures.got (omega (arith, c.requires.few)) (omega (arith, c.payload-payload.ensures.most)))

pub returns-clause-held : goal.returns-clause-held
returns-clause-held g c = drop_most (length c.payload-payload.result.now) 8192 c.hold.new.self.held c.advance.new.self.held c.advance.ensures.held (got_most 8192 c.hold.ensures.got (omega (arith, c.requires.few)) (omega (arith, c.payload-payload.ensures.most)))

pub place-place-requires : goal.place-place-requires
place-place-requires c = omega arith

pub returns-then-not-leads_behind-clause-cause : goal.returns-then-not-leads_behind-clause-cause
returns-then-not-leads_behind-clause-cause c = grind (arith, common_steps)

pub returns-then-not-starts_with-clause-cause : goal.returns-then-not-starts_with-clause-cause
returns-then-not-starts_with-clause-cause c = grind (arith, common_steps)

pub returns-in-Ok-false-clause-cause : goal.returns-in-Ok-false-clause-cause
returns-in-Ok-false-clause-cause c = grind (arith, common_steps)
