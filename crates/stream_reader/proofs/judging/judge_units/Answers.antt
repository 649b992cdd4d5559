use Rattle.std.proofs.Common.{sym, ◌∙◌, Some, List, ℕ, subst}
use Rattle.run_theory.proofs.Fields.{all_fit}
use Rattle.stream_reader.specs.Reader.{StreamReaderSeen}
use Rattle.stream_reader.proofs.Judges.{GoesOn, goes_first, takes_by, ends_by, goes_more, judged_stream, judged_stop, told}
use Rattle.stream_reader.proofs.judging.judge_units.Goals as goal

pub loop-item-init : goal.loop-item-init
loop-item-init c = record { goes = subst (λ (l : List ℕ). GoesOn (Some c.args.bytes.now) (Some l) c.args.reader.now) (sym c.new-src.ensures) (goes_first (Some c.args.bytes.now) c.args.reader.now c.requires.new) }

pub loop-item-preserved : goal.loop-item-preserved
loop-item-preserved c =
    let b = c.loop-item.invariant.goes in
    let u = c.in-Ok.ensures.next b.no_stop b.no_end in
    let shown : StreamReaderSeen = record c.next.new.self { picture = u.1 } in
    let goes = goes_more (Some c.args.bytes.now) (Some c.loop-item.src) (Some c.next.new.src) c.loop-item.reader shown c.in-Ok.item b
    (takes_by c.loop-item.reader shown (Some c.loop-item.src) (Some c.next.new.src) c.in-Ok.item u.2 (sym c.is_end.ensures ∙ cc)) in
    record { goes = record { holds = goes.holds; no_stop = goes.no_stop; no_end = goes.no_end } }

pub returns-in-Err : goal.returns-in-Err
returns-in-Err c =
    let b = c.loop-item.invariant.goes in
    told c.stopped.result (λ verdict e. judged_stop c.args.bytes.now c.next.new.src (Some c.loop-item.src) c.loop-item.reader c.in-Err.stop verdict (all_fit c.args.bytes.now c.requires.bytes) b (c.in-Err.ensures.next b.no_stop b.no_end).2.0 e) c.stopped.ensures

pub returns-then-is_end : goal.returns-then-is_end
returns-then-is_end c =
    let b = c.loop-item.invariant.goes in
    let u = c.in-Ok.ensures.next b.no_stop b.no_end in
    let shown : StreamReaderSeen = record c.next.new.self { picture = u.1 } in
    judged_stream c.args.bytes.now c.next.new.src (Some c.loop-item.src) c.loop-item.reader shown (all_fit c.args.bytes.now c.requires.bytes) b
    (ends_by c.loop-item.reader shown (Some c.loop-item.src) (Some c.next.new.src) c.in-Ok.item u.2 (sym c.is_end.ensures ∙ cc))
