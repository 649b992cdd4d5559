use Rattle.std.proofs.Common.{◌∙◌, ◌+◌, length, ap, sym, arith}
use Rattle.std.proofs.lemmas.Grind.{common_steps}
use Rattle.vc2_io.proofs.Known.{Appends-then, Appends-along}
use Rattle.vc2_io.proofs.Short.{GrewShort-first, GrewShort-second, GrewShort-along}
use Rattle.stream_writer.specs.EncodedStream.{end_unit}
use Rattle.stream_cut.specs.Cut.{CutSoFar, cut_header_unit}
use Rattle.stream_cut.specs.Cutter.{own_of}
use Rattle.stream_cut.proofs.CutTurns.{closing_empty}
use Rattle.stream_cut.proofs.cutter.CutRun.empty.Goals as goal

pub returns-in-Err-clause-wrote : goal.returns-in-Err-clause-wrote
returns-in-Err-clause-wrote g c =
    let first = c.in-Some.first in
    let is = closing_empty (own_of c.args.self.now).cut first c.requires.none c.requires.total (sym (ap (λ (o : CutSoFar). o.cut.first) c.in_ok-reserve.ensures.own) ∙ c.in-Some.is) in
    GrewShort-along _ _ _ _ (sym is) (GrewShort-first _ _ (cut_header_unit first.payload) (end_unit (13 + length first.payload)) (GrewShort-along _ _ _ _ (ap cut_header_unit c.payload.ensures.value) c.in-Err.ensures.err))

pub returns-in-Err-put_end-clause-wrote : goal.returns-in-Err-put_end-clause-wrote
returns-in-Err-put_end-clause-wrote g c =
    let first = c.in-Some.first in
    let is = closing_empty (own_of c.args.self.now).cut first c.requires.none c.requires.total (sym (ap (λ (o : CutSoFar). o.cut.first) c.in_ok-reserve.ensures.own) ∙ c.in-Some.is) in
    let size = c.in-Ok.ensures.length ∙ ap (λ l. 13 + length l) c.payload.ensures.value in
    GrewShort-along _ _ _ _ (sym is) (GrewShort-second _ _ _ (cut_header_unit first.payload) (end_unit (13 + length first.payload)) (Appends-along _ _ _ _ (ap cut_header_unit c.payload.ensures.value) c.in-Ok.ensures.ok)
    (GrewShort-along _ _ _ _ (ap end_unit size) c.in-Err-put_end.ensures.err))

pub returns-clause-wrote : goal.returns-clause-wrote
returns-clause-wrote g c =
    let first = c.in-Some.first in
    let is = closing_empty (own_of c.args.self.now).cut first c.requires.none c.requires.total (sym (ap (λ (o : CutSoFar). o.cut.first) c.in_ok-reserve.ensures.own) ∙ c.in-Some.is) in
    let size = c.in-Ok.ensures.length ∙ ap (λ l. 13 + length l) c.payload.ensures.value in
    Appends-along _ _ _ _ (sym is) (Appends-then _ _ _ (cut_header_unit first.payload) (end_unit (13 + length first.payload)) (Appends-along _ _ _ _ (ap cut_header_unit c.payload.ensures.value) c.in-Ok.ensures.ok)
    (Appends-along _ _ _ _ (ap end_unit size) c.in-Ok-put_end.ensures.ok))

pub returns-clause-units : goal.returns-clause-units
returns-clause-units g c = grind (arith, common_steps)

pub returns-clause-total : goal.returns-clause-total
returns-clause-total g c = grind (arith, common_steps)
