use Rattle.std.proofs.Common.{◌≡◌, ◌∙◌, true, false, None, Ok, Err, sym, ap, subst}
use Rattle.std.specs.Prelude.{IfSome}
use Rattle.stream_reader.specs.declared.stop.Item.TheVariants as items
use Rattle.unit_reader.specs.Stops.{StopCause}
use Rattle.stream_reader.specs.Reader.{StreamReaderSeen, NextItemOver, GreatestOver}
use Rattle.stream_reader.specs.ReaderInside.{stream_seen, answer_of, is_shown, IsReaderSound}
use Rattle.stream_reader.proofs.StreamReads.{next_told, greatest_told, cause_told, kept_told, ended_told, sound_behind}
use Rattle.stream_reader.proofs.reader.StreamReader.next.Goals as goal

pub invariant_of-self : goal.invariant_of-self
invariant_of-self g c =
    let i = c.self.inside in
    let rest = g.S.Source.rest in
    let faults = g.S.Source.faults in
    subst (IsReaderSound c.next.new.self) (sym (c.is_shown-self-inside.ensures ∙ ap is_shown c.answer_of-answer.ensures))
    (sound_behind i.reader c.next.new.self i.shows (rest c.args.src.now) (rest c.next.new.src) (faults c.args.src.now) (faults c.next.new.src) c.next.result c.self.invariant c.next.ensures.next c.next.ensures.few c.next.ensures.kept c.next.ensures.ended)

pub returns-clause-next : goal.returns-clause-next
returns-clause-next g c =
    let i = c.self.inside in
    let rest = g.S.Source.rest in
    let shows = c.is_shown-self-inside.ensures ∙ ap is_shown c.answer_of-answer.ensures in
    subst (λ (o : StreamReaderSeen). o.stop ≡ None → o.ended ≡ false → NextItemOver o (stream_seen c.next.new.self c.is_shown-self-inside.result) (rest c.args.src.now) (rest c.next.new.src) c.answer_of-answer.result) c.self.view_is
    (λ stop ended. subst (λ b. NextItemOver (stream_seen i.reader i.shows) (stream_seen c.next.new.self b) (rest c.args.src.now) (rest c.next.new.src) c.answer_of-answer.result) (sym shows)
    (subst (NextItemOver (stream_seen i.reader i.shows) (stream_seen c.next.new.self (is_shown (answer_of c.next.result))) (rest c.args.src.now) (rest c.next.new.src)) (sym c.answer_of-answer.ensures)
    (next_told i.reader c.next.new.self i.shows (rest c.args.src.now) (rest c.next.new.src) c.next.result c.self.invariant.makes (c.next.ensures.next stop ended))))

pub returns-clause-held : goal.returns-clause-held
returns-clause-held g c =
    let i = c.self.inside in
    let rest = g.S.Source.rest in
    let faults = g.S.Source.faults in
    (sound_behind i.reader c.next.new.self i.shows (rest c.args.src.now) (rest c.next.new.src) (faults c.args.src.now) (faults c.next.new.src) c.next.result c.self.invariant c.next.ensures.next c.next.ensures.few c.next.ensures.kept c.next.ensures.ended).held

pub returns-clause-greatest : goal.returns-clause-greatest
returns-clause-greatest g c =
    let i = c.self.inside in
    let rest = g.S.Source.rest in
    subst (λ (o : StreamReaderSeen). o.stop ≡ None → o.ended ≡ false → GreatestOver o (stream_seen c.next.new.self c.is_shown-self-inside.result) (rest c.args.src.now) c.answer_of-answer.result) c.self.view_is
    (λ stop ended. subst (GreatestOver (stream_seen i.reader i.shows) (stream_seen c.next.new.self c.is_shown-self-inside.result) (rest c.args.src.now)) (sym c.answer_of-answer.ensures)
    (greatest_told i.reader c.next.new.self i.shows c.is_shown-self-inside.result (rest c.args.src.now) (rest c.next.new.src) c.next.result (c.next.ensures.next stop ended)))

pub returns-clause-cause : goal.returns-clause-cause
returns-clause-cause g c =
    let i = c.self.inside in
    let faults = g.S.Source.faults in
    subst (λ (o : StreamReaderSeen). o.stop ≡ None → StopCause (faults c.args.src.now) (faults c.next.new.src) c.answer_of-answer.result) c.self.view_is
    (λ stop. subst (StopCause (faults c.args.src.now) (faults c.next.new.src)) (sym c.answer_of-answer.ensures) (cause_told (faults c.args.src.now) (faults c.next.new.src) c.next.result (c.next.ensures.cause stop)))

pub returns-clause-kept : goal.returns-clause-kept
returns-clause-kept g c =
    let i = c.self.inside in
    let rest = g.S.Source.rest in
    let faults = g.S.Source.faults in
    let shows = c.is_shown-self-inside.ensures ∙ ap is_shown c.answer_of-answer.ensures in
    subst (λ (o : StreamReaderSeen). IfSome o.stop (λ stop. (c.answer_of-answer.result ≡ Err stop) × (stream_seen c.next.new.self c.is_shown-self-inside.result ≡ o) × (rest c.next.new.src ≡ rest c.args.src.now) × (faults c.next.new.src ≡ faults c.args.src.now))) c.self.view_is
    (subst (λ b. IfSome (stream_seen i.reader i.shows).stop (λ stop. (c.answer_of-answer.result ≡ Err stop) × (stream_seen c.next.new.self b ≡ stream_seen i.reader i.shows) × (rest c.next.new.src ≡ rest c.args.src.now) × (faults c.next.new.src ≡ faults c.args.src.now))) (sym shows)
    (subst (λ r. IfSome (stream_seen i.reader i.shows).stop (λ stop. (r ≡ Err stop) × (stream_seen c.next.new.self (is_shown (answer_of c.next.result)) ≡ stream_seen i.reader i.shows) × (rest c.next.new.src ≡ rest c.args.src.now) × (faults c.next.new.src ≡ faults c.args.src.now))) (sym c.answer_of-answer.ensures)
    (kept_told i.reader c.next.new.self i.shows (rest c.args.src.now) (rest c.next.new.src) (faults c.args.src.now) (faults c.next.new.src) c.next.result c.self.invariant c.next.ensures.kept)))

pub returns-clause-ended : goal.returns-clause-ended
returns-clause-ended g c =
    let i = c.self.inside in
    let rest = g.S.Source.rest in
    let faults = g.S.Source.faults in
    let shows = c.is_shown-self-inside.ensures ∙ ap is_shown c.answer_of-answer.ensures in
    subst (λ (o : StreamReaderSeen). o.stop ≡ None → o.ended ≡ true → (c.answer_of-answer.result ≡ Ok items.End) × (stream_seen c.next.new.self c.is_shown-self-inside.result ≡ o) × (rest c.next.new.src ≡ rest c.args.src.now) × (faults c.next.new.src ≡ faults c.args.src.now)) c.self.view_is
    (λ stop ended.
    let h = ended_told i.reader c.next.new.self i.shows (rest c.args.src.now) (rest c.next.new.src) (faults c.args.src.now) (faults c.next.new.src) c.next.result c.self.invariant ended (c.next.ensures.ended stop ended) in
    (c.answer_of-answer.ensures ∙ h.0, ap (stream_seen c.next.new.self) shows ∙ h.1, h.2, h.3))
