use Rattle.std.proofs.Common.{◌≡◌, false, None, sym, subst}
use Rattle.stream_cut.specs.SkimReader.{SkimReaderSeen, NextSkimmed, skim_seen}
use Rattle.stream_cut.proofs.SkimReads.{next_told, few_behind}
use Rattle.stream_cut.proofs.skim_reader.SkimReader.next.Goals as goal

pub returns-clause-next : goal.returns-clause-next
returns-clause-next g c =
    let i = c.self.inside in
    let rest = g.S.Source.rest in
    subst (λ (o : SkimReaderSeen). o.stop ≡ None → o.ended ≡ false → NextSkimmed o (skim_seen c.next.new.self) (rest c.args.src.now) (rest c.next.new.src) c.answer_of.result) c.self.view_is
    (λ stop ended. subst (NextSkimmed (skim_seen i.reader) (skim_seen c.next.new.self) (rest c.args.src.now) (rest c.next.new.src)) (sym c.answer_of.ensures)
    (next_told i.reader c.next.new.self (rest c.args.src.now) (rest c.next.new.src) c.next.result (c.next.ensures.next stop ended)))

pub invariant_of-self : goal.invariant_of-self
invariant_of-self g c =
    let rest = g.S.Source.rest in
    let faults = g.S.Source.faults in
    few_behind c.self.inside.reader c.next.new.self (rest c.args.src.now) (rest c.next.new.src) (faults c.args.src.now) (faults c.next.new.src) c.next.result c.self.invariant c.next.ensures.next c.next.ensures.few c.next.ensures.kept c.next.ensures.ended

pub returns-clause-held : goal.returns-clause-held
returns-clause-held g c =
    let rest = g.S.Source.rest in
    let faults = g.S.Source.faults in
    few_behind c.self.inside.reader c.next.new.self (rest c.args.src.now) (rest c.next.new.src) (faults c.args.src.now) (faults c.next.new.src) c.next.result c.self.invariant c.next.ensures.next c.next.ensures.few c.next.ensures.kept c.next.ensures.ended
