use Rattle.std.proofs.Common.{◌+◌, ◌<◌, arith, sym, subst, ◌∙◌, get_or, ℕ}
use Rattle.stream_reader.proofs.PictureTurns.{number_asked, number_at, number_broken, number_taken, field_short, field_lost}
use Rattle.unit_reader.proofs.Gets.{got_most}
use Rattle.stream_reader.proofs.HeldTurns.{drop_most}
use Rattle.stream_reader.proofs.pictures.number.Goals as goal

pub returns-in-Ok-false-clause-part : goal.returns-in-Ok-false-clause-part
returns-in-Ok-false-clause-part g c = λ others held0 rest0 b.
    let short = c.hold.ensures.short (c.in-Ok-false.is ∙ cc) in
    field_short c.hold.new.self.room (c.place-place.result + 13) c.refused.result (number_asked c.hold.new.self.held (g.S.Source.rest c.hold.new.src) others b c.hold.ensures.got) short.0 short.1
    (omega (arith, c.requires.place, c.hold.ensures.room)) (omega (arith, c.place-place.ensures.value)) c.refused.ensures

pub returns-in-Err-clause-part : goal.returns-in-Err-clause-part
returns-in-Err-clause-part g c = λ others held0 rest0 b.
    field_lost c.hold.new.self.room c.in-Err.halt c.stop_of.result (number_asked c.hold.new.self.held (g.S.Source.rest c.hold.new.src) others b c.hold.ensures.got) c.in-Err.ensures.err
    (omega (arith, c.requires.place, c.hold.ensures.room)) c.stop_of.ensures

pub returns-in-Some-broken_number-clause-part : goal.returns-in-Some-broken_number-clause-part
returns-in-Some-broken_number-clause-part g c = λ others held0 rest0 b.
    let number = number_at c.in-Some.bytes.now c.front.result.now c.hold.new.self.held c.from_be_bytes-number.result c.from_be_bytes-number.ensures c.in-Some.ensures.cases.0 c.front.ensures.value in
    number_broken others c.from_be_bytes-number.result c.hold.new.self.room (c.place-place.result + 13) c.in-Some-broken_number.reason c.refused-in-Some-broken_number.result
    (number_asked c.hold.new.self.held (g.S.Source.rest c.hold.new.src) others b c.hold.ensures.got) (c.hold.ensures.enough (c.in-Ok-true.is ∙ cc))
    (subst (λ l. (i : ℕ) → get_or l i 0 < 256) c.front.ensures.value c.front.ensures.fits) number (sym c.broken_number.ensures ∙ c.in-Some-broken_number.is)
    (omega (arith, c.requires.place, c.hold.ensures.room)) (omega (arith, c.place-place.ensures.value)) c.refused-in-Some-broken_number.ensures

pub returns-clause-part : goal.returns-clause-part
returns-clause-part g c = λ others held0 rest0 b.
    let number = number_at c.in-Some.bytes.now c.front.result.now c.hold.new.self.held c.from_be_bytes-number.result c.from_be_bytes-number.ensures c.in-Some.ensures.cases.0 c.front.ensures.value in
    number_taken others c.from_be_bytes-number.result c.advance.new.self.held
    (number_asked c.hold.new.self.held (g.S.Source.rest c.hold.new.src) others b c.hold.ensures.got) (c.hold.ensures.enough (c.in-Ok-true.is ∙ cc))
    (subst (λ l. (i : ℕ) → get_or l i 0 < 256) c.front.ensures.value c.front.ensures.fits) number (sym c.broken_number.ensures ∙ c.in_default-broken_number.is) c.advance.ensures.held

pub returns-in-Ok-false-clause-held : goal.returns-in-Ok-false-clause-held
returns-in-Ok-false-clause-held g c = got_most 8192 c.hold.ensures.got (omega (arith, c.requires.few)) (omega arith)

pub returns-in-Err-clause-held : goal.returns-in-Err-clause-held
returns-in-Err-clause-held g c = got_most 8192 c.hold.ensures.got (omega (arith, c.requires.few)) (omega arith)

pub returns-in-Some-broken_number-clause-held : goal.returns-in-Some-broken_number-clause-held
returns-in-Some-broken_number-clause-held g c = got_most 8192 c.hold.ensures.got (omega (arith, c.requires.few)) (omega arith)

pub returns-clause-held : goal.returns-clause-held
returns-clause-held g c = drop_most 4 8192 c.hold.new.self.held c.advance.new.self.held c.advance.ensures.held (got_most 8192 c.hold.ensures.got (omega (arith, c.requires.few)) (omega arith))
