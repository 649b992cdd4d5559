use Rattle.std.proofs.Common.{◌≡◌, ◌∙◌, true, false, None, Ok, Err, sym, ap, subst}
use Rattle.std.specs.Prelude.{IfSome}
use Rattle.unit_reader.specs.Stops.{StopCause}
use Rattle.stream_reader.specs.HeadReader.{HeadReaderSeen, NextHeadOver, heads_seen, answer_of}
use Rattle.stream_reader.proofs.HeadReads.{next_told, cause_told, kept_told, few_behind}
use Rattle.stream_reader.proofs.head_reader.HeadReader.next.Goals as goal

pub returns-clause-next : goal.returns-clause-next
returns-clause-next g c =
    let i = c.self.inside.reader in
    let rest = g.S.Source.rest in
    subst (λ (o : HeadReaderSeen). o.stop ≡ None → o.ended ≡ false → NextHeadOver o (heads_seen c.next.new.self) (rest c.args.src.now) (rest c.next.new.src) c.answer_of.result) c.self.view_is
    (λ stop ended. subst (NextHeadOver (heads_seen i) (heads_seen c.next.new.self) (rest c.args.src.now) (rest c.next.new.src)) (sym c.answer_of.ensures)
    (next_told i c.next.new.self (rest c.args.src.now) (rest c.next.new.src) c.next.result (c.next.ensures.next stop ended)))

pub returns-clause-cause : goal.returns-clause-cause
returns-clause-cause g c =
    let i = c.self.inside.reader in
    let faults = g.S.Source.faults in
    subst (λ (o : HeadReaderSeen). o.stop ≡ None → StopCause (faults c.args.src.now) (faults c.next.new.src) c.answer_of.result) c.self.view_is
    (λ stop. subst (StopCause (faults c.args.src.now) (faults c.next.new.src)) (sym c.answer_of.ensures) (cause_told (faults c.args.src.now) (faults c.next.new.src) c.next.result (c.next.ensures.cause stop)))

pub returns-clause-kept : goal.returns-clause-kept
returns-clause-kept g c =
    let i = c.self.inside.reader in
    let rest = g.S.Source.rest in
    let faults = g.S.Source.faults in
    subst (λ (o : HeadReaderSeen). IfSome o.stop (λ stop. (c.answer_of.result ≡ Err stop) × (heads_seen c.next.new.self ≡ o) × (rest c.next.new.src ≡ rest c.args.src.now) × (faults c.next.new.src ≡ faults c.args.src.now))) c.self.view_is
    (kept_told i c.next.new.self (rest c.args.src.now) (rest c.next.new.src) (faults c.args.src.now) (faults c.next.new.src) c.next.result c.answer_of.result i.stop c.answer_of.ensures c.next.ensures.kept)

pub returns-clause-ended : goal.returns-clause-ended
returns-clause-ended g c =
    let i = c.self.inside.reader in
    let rest = g.S.Source.rest in
    let faults = g.S.Source.faults in
    subst (λ (o : HeadReaderSeen). o.stop ≡ None → o.ended ≡ true → (c.answer_of.result ≡ Ok None) × (heads_seen c.next.new.self ≡ o) × (rest c.next.new.src ≡ rest c.args.src.now) × (faults c.next.new.src ≡ faults c.args.src.now)) c.self.view_is
    (λ stop ended. let h = c.next.ensures.ended stop ended in (c.answer_of.ensures ∙ ap answer_of h.0, ap heads_seen h.1, h.2, h.3))

pub invariant_of-self : goal.invariant_of-self
invariant_of-self g c =
    let rest = g.S.Source.rest in
    let faults = g.S.Source.faults in
    few_behind c.self.inside.reader c.next.new.self (rest c.args.src.now) (rest c.next.new.src) (faults c.args.src.now) (faults c.next.new.src) c.next.result c.self.invariant c.next.ensures.next c.next.ensures.few c.next.ensures.kept c.next.ensures.ended

pub returns-clause-held : goal.returns-clause-held
returns-clause-held g c =
    let rest = g.S.Source.rest in
    let faults = g.S.Source.faults in
    few_behind c.self.inside.reader c.next.new.self (rest c.args.src.now) (rest c.next.new.src) (faults c.args.src.now) (faults c.next.new.src) c.next.result c.self.invariant c.next.ensures.next c.next.ensures.few c.next.ensures.kept c.next.ensures.ended
