use Rattle.std.proofs.Common.{◌∙◌, sym, ap, refl, arith}
use Rattle.std.proofs.lemmas.Grind.{common_steps}
use Rattle.stream_cut.specs.Cut.{frames_so_far}
use Rattle.stream_cut.proofs.CutUnits.{sequence_turn, sequence_keeps, picture_turn, picture_passed, stands_under}
use Rattle.stream_cut.proofs.cutter.CutRunUnitCommandSkimTable.turn.Goals as goal

pub returns-in-Sequence-clause-wrote : goal.returns-in-Sequence-clause-wrote
returns-in-Sequence-clause-wrote g c = λ before p k.
    let old = record c.args.self.now { so_far = c.frames_so_far-self.result } in
    sequence_turn before.past c.args.table.now.past p.unit p.bytes old c.keep_first.new.self (g.K.Sink.written c.args.out.now) c.keep_first.result (sym c.in-Sequence.is ∙ p.tells.is_item) p.past c.keep_first.ensures.ok c.keep_first.ensures.err

pub returns-in-Sequence-clause-keeps : goal.returns-in-Sequence-clause-keeps
returns-in-Sequence-clause-keeps g c = λ before p k.
    let old = record c.args.self.now { so_far = c.frames_so_far-self.result } in
    sequence_keeps before c.args.table.now p.unit p.bytes c.args.self.now.so_far old c.keep_first.new.self c.keep_first.result (sym c.in-Sequence.is ∙ p.tells.is_item) p.past p.tells.long c.keep_first.ensures.ok (c.frames_so_far-self.ensures ∙ ap frames_so_far c.earlier.ensures) k

pub returns-then-is_chosen-clause-wrote : goal.returns-then-is_chosen-clause-wrote
returns-then-is_chosen-clause-wrote g c = λ before p k.
    let old = record c.args.self.now { so_far = c.frames_so_far-self.result } in
    let t = p.tells in
    picture_turn before.past p.unit p.bytes before.unit before.shape old c.picture.new.self c.args.self.now.so_far c.args.table.now (g.K.Sink.written c.args.out.now) (g.K.Sink.written c.picture.new.out) c.picture.result (sym c.in-Picture.is ∙ t.is_item) k.counted (sym c.is_chosen.ensures ∙ c.if-is_chosen.true) p.past t.kept t.shape
    (stands_under before.past p.unit p.bytes (sym c.in-Picture.is ∙ t.is_item) t.holds) t.long c.picture.ensures.wrote c.picture.ensures.units c.picture.ensures.total c.picture.ensures.others

pub returns-else-is_chosen-clause-wrote : goal.returns-else-is_chosen-clause-wrote
returns-else-is_chosen-clause-wrote g c = λ before p k.
    let old = record c.args.self.now { so_far = c.frames_so_far-self.result } in
    picture_passed before.past p.unit p.bytes old old c.args.self.now.so_far (g.K.Sink.written c.args.out.now) (sym c.in-Picture.is ∙ p.tells.is_item) k.counted (sym c.is_chosen.ensures ∙ c.if-is_chosen.false) refl

pub overflow_add-frame : goal.overflow_add-frame
overflow_add-frame g c = grind (arith, common_steps)
