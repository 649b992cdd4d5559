use Rattle.std.proofs.Common.{◌∙◌, ◌++◌, ap, sym, subst, Err}
use Rattle.std.specs.Prelude.{OnErr}
use Rattle.std.proofs.lemmas.Result.{err_from_is_err_and}
use Rattle.vc2_io.specs.Outside.{GrewShort}
use Rattle.vc2_io.proofs.Known.{Appends-then, Appends-along}
use Rattle.vc2_io.proofs.Short.{GrewShort-first, GrewShort-second, GrewShort-along}
use Rattle.parse_info.specs.declared.ParseInfo.{ParseInfo}
use Rattle.parse_info.specs.Head.{head_bytes}
use Rattle.stream_cut.proofs.CutTurns.{on_ok, on_err}
use Rattle.stream_cut.proofs.cutter.put.Goals as goal

pub returns-in_err-write_whole-clause-err : goal.returns-in_err-write_whole-clause-err
returns-in_err-write_whole-clause-err g c =
    let p = err_from_is_err_and c.from_residual.result c.from_residual.ensures.1 in
    let written = g.K.Sink.written in
    let info : ParseInfo = record { code = c.args.code; next = c.args.next; previous = c.args.previous } in
    subst (λ r. OnErr r (GrewShort (written c.args.out.now) (written c.write_whole.new.sink) (head_bytes info ++ c.args.payload.now))) (sym (p.1 ∙ ap Err p.2))
    (GrewShort-first _ _ (head_bytes info) c.args.payload.now (GrewShort-along _ _ _ _ c.write.ensures.written c.in_err-write_whole.ensures.err))

pub returns-clause-ok : goal.returns-clause-ok
returns-clause-ok g c =
    on_ok c.write_whole-2.result (λ more. Appends-then _ _ _ _ _ (Appends-along _ _ _ _ c.write.ensures.written c.in_ok-write_whole.ensures.ok) more) c.write_whole-2.ensures.ok

pub returns-clause-err : goal.returns-clause-err
returns-clause-err g c =
    on_err c.write_whole-2.result (λ more. GrewShort-second _ _ _ _ _ (Appends-along _ _ _ _ c.write.ensures.written c.in_ok-write_whole.ensures.ok) more) c.write_whole-2.ensures.err
