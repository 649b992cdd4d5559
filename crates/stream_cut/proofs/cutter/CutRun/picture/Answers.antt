use Rattle.std.proofs.Common.{◌≡◌, ◌∙◌, ◌++◌, ℕ, length, drop, ap, sym, subst, arith, Err, Option, List}
use Rattle.std.proofs.lemmas.List.{take_rest}
use Rattle.std.proofs.lemmas.Result.{err_from_is_err_and}
use Rattle.std.proofs.lemmas.Grind.{common_steps}
use Rattle.vc2_io.proofs.Known.{Appends-then, Appends-along}
use Rattle.vc2_io.proofs.Short.{GrewShort-second, GrewShort-along}
use Rattle.run_theory.specs.Runs.{WritesText}
use Rattle.stream_cut.specs.Cut.{CutSoFar, header_due, length_ahead, cut_picture_unit}
use Rattle.stream_cut.proofs.CutTurns.{writes_first, picture_is}
use Rattle.stream_cut.proofs.cutter.CutRun.picture.Goals as goal

pub returns-in_err-previous-clause-wrote : goal.returns-in_err-previous-clause-wrote
returns-in_err-previous-clause-wrote g c =
    let p = err_from_is_err_and c.from_residual-in_err-previous.result c.from_residual-in_err-previous.ensures.1 in
    let written = g.K.Sink.written in
    let z = c.args.table.now.past in
    let same : c.reserve.new.self.previous ≡ c.args.self.now.previous = ap (λ (o : CutSoFar). o.cut.previous) c.in_ok-reserve.ensures.own in
    let text = cut_picture_unit (length_ahead z c.args.self.now.previous) (drop 13 c.args.table.now.unit) in
    subst (WritesText {X = Unit {0}} (header_due z c.args.self.now.previous ++ text) (written c.args.out.now) (written c.begin.new.out)) (sym (p.1 ∙ ap Err p.2))
    (subst (λ (o : Option ℕ). WritesText {X = Unit {0}} (header_due z o ++ text) (written c.args.out.now) (written c.begin.new.out) (Err c.in_err-previous.field-0.0)) same
    (writes_first ℕ (Unit {0}) c.in_err-previous.field-0.0 _ _ (header_due z c.reserve.new.self.previous) text c.in_err-previous.ensures.wrote))

pub returns-in-Err-clause-wrote : goal.returns-in-Err-clause-wrote
returns-in-Err-clause-wrote g c =
    let z = c.args.table.now.past in
    let unit = c.args.table.now.unit in
    let same : c.reserve.new.self.previous ≡ c.args.self.now.previous = ap (λ (o : CutSoFar). o.cut.previous) c.in_ok-reserve.ensures.own in
    let rest = take_rest c.unit-unit.result.now 13 ∙ ap (drop 13) c.unit-unit.ensures in
    let is = picture_is unit _ _ c.in_ok-previous.previous (length_ahead z c.args.self.now.previous) rest (omega (arith, c.requires.short, ap (λ (l : List ℕ). length l) c.unit-unit.ensures)) c.requires.long (c.in_ok-previous.ensures.previous ∙ ap (length_ahead z) same) in
    GrewShort-second _ _ _ (header_due z c.args.self.now.previous) (cut_picture_unit (length_ahead z c.args.self.now.previous) (drop 13 unit))
    (Appends-along _ _ _ _ (ap (header_due z) same) c.in_ok-previous.ensures.wrote) (GrewShort-along _ _ _ _ is c.in-Err.ensures.err)

pub returns-clause-wrote : goal.returns-clause-wrote
returns-clause-wrote g c =
    let z = c.args.table.now.past in
    let unit = c.args.table.now.unit in
    let same : c.reserve.new.self.previous ≡ c.args.self.now.previous = ap (λ (o : CutSoFar). o.cut.previous) c.in_ok-reserve.ensures.own in
    let rest = take_rest c.unit-unit.result.now 13 ∙ ap (drop 13) c.unit-unit.ensures in
    let is = picture_is unit _ _ c.in_ok-previous.previous (length_ahead z c.args.self.now.previous) rest (omega (arith, c.requires.short, ap (λ (l : List ℕ). length l) c.unit-unit.ensures)) c.requires.long (c.in_ok-previous.ensures.previous ∙ ap (length_ahead z) same) in
    Appends-then _ _ _ (header_due z c.args.self.now.previous) (cut_picture_unit (length_ahead z c.args.self.now.previous) (drop 13 unit))
    (Appends-along _ _ _ _ (ap (header_due z) same) c.in_ok-previous.ensures.wrote) (Appends-along _ _ _ _ is c.in-Ok.ensures.ok)

pub begin-requires-clause-most : goal.begin-requires-clause-most
begin-requires-clause-most g c = grind (arith, common_steps)

pub overflow_cast-length : goal.overflow_cast-length
overflow_cast-length g c = grind (arith, common_steps)

pub returns-clause-units : goal.returns-clause-units
returns-clause-units g c = grind (arith, common_steps)

pub returns-clause-total : goal.returns-clause-total
returns-clause-total g c = grind (arith, common_steps)
