use Rattle.std.proofs.Common.{◌≡◌, ◌<◌, ◌∙◌, Bool, Result, Ok, Err, true, false, arith, subst, ap, List, [], ℕ, length}
use Rattle.std.specs.Prelude.{OnErr}
use Rattle.unit_reader.specs.declared.window.Halt.{Halt}
use Rattle.std.proofs.lemmas.Grind.{common_steps}
use Rattle.std.proofs.lemmas.List.{length-append}
use Rattle.unit_reader.specs.Asking.{Dropped}
use Rattle.stream_reader.specs.HeadUnits.{head_only_payload}
use Rattle.stream_reader.proofs.HeadOnlyTurns.{head_only_begins, payload_whole, payload_short, payload_lost}
use Rattle.stream_reader.proofs.head_units.HeadTableTable.unit.Goals as goal

pub returns-in-Err-clause-unit : goal.returns-in-Err-clause-unit
returns-in-Err-clause-unit g c = λ held0 rest0 b.
    (c.in-Err.ensures.part head_only_payload held0 rest0 (head_only_begins b), c.head.ensures.held)

pub returns-in-Ok-true-clause-unit : goal.returns-in-Ok-true-clause-unit
returns-in-Ok-true-clause-unit g c = λ held0 rest0 b.
    payload_whole c.in-Ok.info (g.S.Source.rest c.skip.new.src) (subst (λ n. Dropped n c.head.new.window c.skip.new.self (g.S.Source.rest c.head.new.src) (g.S.Source.rest c.skip.new.src) (Ok true)) c.payload_length.ensures (subst (λ r. Dropped c.payload_length.result c.head.new.window c.skip.new.self (g.S.Source.rest c.head.new.src) (g.S.Source.rest c.skip.new.src) r) (c.in-Ok-true.is ∙ cc) c.skip.ensures.dropped)) (c.in-Ok.ensures.part head_only_payload held0 rest0 (head_only_begins b)) c.in-Ok.ensures.place

pub returns-in-Ok-true-clause-room : goal.returns-in-Ok-true-clause-room
returns-in-Ok-true-clause-room g c = λ may.
    let d = c.skip.ensures.dropped in
    omega (arith, c.head.ensures.room, d.room, ap (λ (l : List ℕ). length l) d.got.parts, length-append c.head.new.window.held d.got.read, length-append d.gone c.skip.new.self.held)

pub returns-in-Ok-false-clause-unit : goal.returns-in-Ok-false-clause-unit
returns-in-Ok-false-clause-unit g c = λ held0 rest0 b.
    (payload_short c.in-Ok.info (g.S.Source.rest c.skip.new.src) c.refused.result (subst (λ n. Dropped n c.head.new.window c.skip.new.self (g.S.Source.rest c.head.new.src) (g.S.Source.rest c.skip.new.src) (Ok false)) c.payload_length.ensures (subst (λ r. Dropped c.payload_length.result c.head.new.window c.skip.new.self (g.S.Source.rest c.head.new.src) (g.S.Source.rest c.skip.new.src) r) (c.in-Ok-false.is ∙ cc) c.skip.ensures.dropped)) (c.in-Ok.ensures.part head_only_payload held0 rest0 (head_only_begins b)) c.in-Ok.ensures.place (c.refused.ensures ∙ cc), omega (arith, ap (λ (l : List ℕ). length l) (c.skip.ensures.dropped.short (c.in-Ok-false.is ∙ cc)).1))

pub returns-in-Err-skip-clause-unit : goal.returns-in-Err-skip-clause-unit
returns-in-Err-skip-clause-unit g c = λ held0 rest0 b.
    (payload_lost c.in-Ok.info (g.S.Source.rest c.skip.new.src) c.in-Err-skip.halt c.stop_of.result (subst (λ n. Dropped n c.head.new.window c.skip.new.self (g.S.Source.rest c.head.new.src) (g.S.Source.rest c.skip.new.src) (Err c.in-Err-skip.halt)) c.payload_length.ensures (subst (λ r. Dropped c.payload_length.result c.head.new.window c.skip.new.self (g.S.Source.rest c.head.new.src) (g.S.Source.rest c.skip.new.src) r) (c.in-Err-skip.is ∙ cc) c.skip.ensures.dropped)) (c.in-Ok.ensures.part head_only_payload held0 rest0 (head_only_begins b)) c.in-Ok.ensures.place c.stop_of.ensures, let none : (length c.skip.ensures.dropped.gone < c.payload_length.result) × (c.skip.new.self.held ≡ []) = subst (λ (r : Result Bool Halt). OnErr r ((length c.skip.ensures.dropped.gone < c.payload_length.result) × (c.skip.new.self.held ≡ []))) {y = Err c.in-Err-skip.halt} (c.in-Err-skip.is ∙ cc) c.skip.ensures.dropped.err in omega (arith, ap (λ (l : List ℕ). length l) none.1))

pub returns-in-Ok-false-clause-room : goal.returns-in-Ok-false-clause-room
returns-in-Ok-false-clause-room c = grind (arith, common_steps)

pub returns-in-Err-skip-clause-room : goal.returns-in-Err-skip-clause-room
returns-in-Err-skip-clause-room c = grind (arith, common_steps)

pub returns-in-Ok-false-clause-cause : goal.returns-in-Ok-false-clause-cause
returns-in-Ok-false-clause-cause c = grind (arith, common_steps)

pub returns-in-Ok-true-clause-cause : goal.returns-in-Ok-true-clause-cause
returns-in-Ok-true-clause-cause c = grind (arith, common_steps)

pub returns-in-Err-skip-clause-cause : goal.returns-in-Err-skip-clause-cause
returns-in-Err-skip-clause-cause c = grind (arith, common_steps)
