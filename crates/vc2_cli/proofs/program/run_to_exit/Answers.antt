use Rattle.std.proofs.Common.{◌≡◌, ◌∙◌, ℕ, List, Result, Ok, IfOk, map, string_bytes, drop, ap, sym, subst, inl}
use Rattle.std.specs.Vec.Iter.{into_iter_items}
use Rattle.vc2_cli.specs.declared.status.Status.{Status}
use Rattle.vc2_cli.specs.Exit.{exit_code_of}
use Rattle.run_theory.specs.Runs.{Change, change}
use Rattle.vc2_cli.specs.Program.{ProgramRan, Exits}
use Rattle.vc2_cli.proofs.program.run_to_exit.Goals as goal

-- the same words
exits_by : (words other : List (List ℕ)) (src out note : Change) (told : Status) (code : ℕ) → other ≡ words → ProgramRan other src out note told → code ≡ exit_code_of told → Exits words src out note code
exits_by words other src out note told code same ran is = inl (told, subst (λ l. ProgramRan l src out note told) same ran, is)

if_ok : {T E : Type 0} (P : T → Type 0) (r : Result T E) (x : T) → r ≡ Ok x → P x → IfOk r P
if_ok {T} {E} P r x is p = subst (λ (y : Result T E). IfOk y P) (sym is) p

pub returns-in-Ok-words_behind-clause-runs : goal.returns-in-Ok-words_behind-clause-runs
returns-in-Ok-words_behind-clause-runs g c =
    let e = c.run.ensures in
    let src = change g.S.Source.rest g.S.Source.faults c.args.src.now c.run.new.src in
    let out = change g.K.Sink.written g.K.Sink.faults c.args.out.now c.run.new.out in
    let note = change g.N.Sink.written g.N.Sink.faults c.args.note.now c.run.new.note in
    if_ok _ c.args.args c.in-Ok.args c.in-Ok.is
    (exits_by (map string_bytes (drop 1 (into_iter_items c.in-Ok.args))) (map string_bytes c.deref.result.now) src out note c.run.result c.exit_code.result
    (ap (map string_bytes) (c.deref.ensures.value ∙ c.in-Ok-words_behind.ensures))
    e c.exit_code.ensures)
