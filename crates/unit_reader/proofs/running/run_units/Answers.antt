use Rattle.std.proofs.Common.{◌≤◌, ◌∙◌, Ok, Err, refl, sym, ap, subst, arith}
use Rattle.vc2_io.specs.Outside.{Rose}
use Rattle.run_theory.proofs.Closing.{takes_none, cause_then, cause_halt, closed_is, closes_no_read, writes_no_read}
use Rattle.run_theory.proofs.FrontLaws.{machine_laws}
use Rattle.unit_reader.specs.Stops.{limit, past_limit, LimitStops, StopCause}
use Rattle.unit_reader.specs.Reading.{NextOver}
use Rattle.unit_reader.specs.Running.{command_from, machine_over}
use Rattle.unit_reader.proofs.Opens.{opens_machine}
use Rattle.unit_reader.proofs.Exits.{goes_first, holds_first, ran_unopened_by, goes_more, place_more, passes_item, passes_last, holds_turn, ran_unwritten, ran_finished, ran_refused, ran_rested, ran_lost, ran_no_memory, takes_at_most, begun_opens, unrefused_begun, unrefused_turn, turned_soon, lost_soon, none_soon}
use Rattle.unit_reader.proofs.Told.{err_no_ok, memory_no_fault}
use Rattle.unit_reader.proofs.running.run_units.Goals as goal

pub returns-in-Err : goal.returns-in-Err
returns-in-Err g c =
    let cmd = command_from g.C.UnitCommand.command (g.C.UnitCommand.start c.args.command.now) in
    let rest = g.S.Source.rest in
    let written = g.K.Sink.written in
    let G = g.T.Units.grammar in
    let L = g.T.Units.beyond in
    let laws = g.met.T.Units.laws in
    let first = g.C.UnitCommand.first in
    let opens = begun_opens g.C.UnitCommand.command (g.C.UnitCommand.start c.args.command.now) g.met.C.UnitCommand.opens in
    let machine = machine_over G L first cmd in
    record {
      runs = record {
        ran = ran_unopened_by (Unit {0}) g.T.Units.grammar g.T.Units.beyond g.C.UnitCommand.first cmd (rest c.args.src.now) (written c.args.out.now) (written c.open.new.out) c.in-Err.halt c.in-Err.ensures.wrote;
        limit = takes_none (rest c.args.src.now);
        cause = cause_halt (Unit {0}) g.row.C-Ending.Denot (g.S.Source.faults c.args.src.now) (g.S.Source.faults c.args.src.now) (g.K.Sink.faults c.args.out.now) (g.K.Sink.faults c.args.out.now) (g.K.Sink.faults c.open.new.out) c.in-Err.halt refl refl c.in-Err.ensures.cause;
        end = λ ending e done. err_no_ok e;
      };
      soon = none_soon g.C.UnitCommand.may_go_on machine (machine_laws limit (past_limit G L) G first cmd laws) (opens_machine g.C.UnitCommand.may_go_on G L laws first cmd opens) (g.S.Source.rest c.args.src.now) _;
    }

pub loop-turn-init : goal.loop-turn-init
loop-turn-init g c =
    let G = g.T.Units.grammar in
    let L = g.T.Units.beyond in
    let laws = g.met.T.Units.laws in
    let first = g.C.UnitCommand.first in
    let cmd = command_from g.C.UnitCommand.command (g.C.UnitCommand.start c.args.command.now) in
    let opens = begun_opens g.C.UnitCommand.command (g.C.UnitCommand.start c.args.command.now) g.met.C.UnitCommand.opens in
    let own = g.C.UnitCommand.own in
    let rest = g.S.Source.rest in
    let written = g.K.Sink.written in
    let r = c.args.reader.now in
    let start = ap (λ s. own s r.table) c.open.ensures.own ∙ c.requires.start in
    record {
      goes = goes_first G g.T.Units.past (rest c.args.src.now) r.table r c.requires.new (ap G.place c.requires.first ∙ g.met.C.UnitCommand.begins);
      holds = holds_first G L g.T.Units.past laws first cmd (rest c.args.src.now) (written c.args.out.now) (written c.open.new.out) r.table r (own c.open.new.self r.table) c.requires.new c.requires.first start c.in-Ok.ensures.wrote;
      unrefused = unrefused_begun g.C.UnitCommand.may_go_on G L g.T.Units.past laws first cmd opens (rest c.args.src.now) r.table r (own c.open.new.self r.table) c.requires.new c.requires.first start;
      keeps = subst (λ s. g.C.UnitCommand.keeps s r.table) (sym c.open.ensures.own) c.requires.keeps;
      steady = refl;
      steady_out = c.in-Ok.ensures.cause.1;
    }

pub returns-in-ReadFault : goal.returns-in-ReadFault
returns-in-ReadFault g c =
    let G = g.T.Units.grammar in
    let L = g.T.Units.beyond in
    let cmd = command_from g.C.UnitCommand.command (g.C.UnitCommand.start c.args.command.now) in
    let rest = g.S.Source.rest in
    let written = g.K.Sink.written in
    let i = c.loop-turn.invariant in
    let old = c.loop-turn.reader in
    let r0 = rest c.args.src.now in
    let r1 = rest c.loop-turn.src in
    let r2 = rest c.next.new.src in
    let o0 = written c.args.out.now in
    let o1 = written c.loop-turn.out in
    let n = c.in-Err-next.ensures.next i.goes.no_stop i.goes.no_end in
    let k = c.in-Err-next.ensures.cause i.goes.no_stop in
    let at = subst (λ s. LimitStops G L (g.T.Units.past old.table) old.held r1 r2 s) c.in-ReadFault.is n.0 in
    let why = subst (λ s. StopCause {X = Unit {0}} (g.S.Source.faults c.loop-turn.src) (g.S.Source.faults c.next.new.src) (Err s)) c.in-ReadFault.is k in
    let opens = begun_opens g.C.UnitCommand.command (g.C.UnitCommand.start c.args.command.now) g.met.C.UnitCommand.opens in
    record {
      runs = record {
        ran = ran_lost L g.met.T.Units.laws g.C.UnitCommand.first cmd r0 o0 o1 i.holds at.2;
        limit = takes_at_most G L g.T.Units.past g.T.Table.tells g.T.Table.stopped old c.next.new.self r0 r1 r2 (Err c.in-Err-next.stop) i.goes n;
        cause = (subst (λ m. m ≤ (g.S.Source.faults c.next.new.src)) i.steady why.0, subst (λ m. Rose m (g.S.Source.faults c.next.new.src)) i.steady why.1, i.steady_out);
        end = λ ending e done. err_no_ok e;
      };
      soon = lost_soon L r0 r1 r2 g.met.T.Units.laws g.C.UnitCommand.first cmd opens _ i.unrefused at.1 at.2;
    }

pub returns-in-NoMemory : goal.returns-in-NoMemory
returns-in-NoMemory g c =
    let G = g.T.Units.grammar in
    let L = g.T.Units.beyond in
    let cmd = command_from g.C.UnitCommand.command (g.C.UnitCommand.start c.args.command.now) in
    let rest = g.S.Source.rest in
    let written = g.K.Sink.written in
    let i = c.loop-turn.invariant in
    let old = c.loop-turn.reader in
    let r0 = rest c.args.src.now in
    let r1 = rest c.loop-turn.src in
    let r2 = rest c.next.new.src in
    let o0 = written c.args.out.now in
    let o1 = written c.loop-turn.out in
    let n = c.in-Err-next.ensures.next i.goes.no_stop i.goes.no_end in
    let k = c.in-Err-next.ensures.cause i.goes.no_stop in
    let at = subst (λ s. LimitStops G L (g.T.Units.past old.table) old.held r1 r2 s) c.in-NoMemory.is n.0 in
    let why = subst (λ s. StopCause {X = Unit {0}} (g.S.Source.faults c.loop-turn.src) (g.S.Source.faults c.next.new.src) (Err s)) c.in-NoMemory.is k in
    let opens = begun_opens g.C.UnitCommand.command (g.C.UnitCommand.start c.args.command.now) g.met.C.UnitCommand.opens in
    record {
      runs = record {
        ran = ran_no_memory L g.met.T.Units.laws g.C.UnitCommand.first cmd r0 o0 o1 i.holds at.2;
        limit = takes_at_most G L g.T.Units.past g.T.Table.tells g.T.Table.stopped old c.next.new.self r0 r1 r2 (Err c.in-Err-next.stop) i.goes n;
        cause = (why ∙ i.steady, i.steady_out);
        end = λ ending e done. err_no_ok e;
      };
      soon = turned_soon g.T.Units.beyond g.T.Units.past g.T.Table.tells g.T.Table.stopped c.loop-turn.reader c.next.new.self r0 r1 r2 (Err c.in-Err-next.stop) g.met.T.Units.laws g.C.UnitCommand.first cmd opens _ i.goes.most i.unrefused n (memory_no_fault refl);
    }

pub returns-in-Err-next : goal.returns-in-Err-next
returns-in-Err-next g c =
    let G = g.T.Units.grammar in
    let L = g.T.Units.beyond in
    let Stopped = g.T.Table.stopped in
    let cmd = command_from g.C.UnitCommand.command (g.C.UnitCommand.start c.args.command.now) in
    let rest = g.S.Source.rest in
    let written = g.K.Sink.written in
    let i = c.loop-turn.invariant in
    let old = c.loop-turn.reader in
    let new = c.next.new.self in
    let w = g.C.UnitCommand.own c.loop-turn.command old.table in
    let r0 = rest c.args.src.now in
    let r1 = rest c.loop-turn.src in
    let r2 = rest c.next.new.src in
    let o0 = written c.args.out.now in
    let o1 = written c.loop-turn.out in
    let stop = c.in-Err-next.stop in
    let n = c.in-Err-next.ensures.next i.goes.no_stop i.goes.no_end in
    let k = c.in-Err-next.ensures.cause i.goes.no_stop in
    let at = subst (λ s. LimitStops G L (g.T.Units.past old.table) old.held r1 r2 s) c.in-Refused.is n.0 in
    let why = subst (λ s. StopCause {X = Unit {0}} (g.S.Source.faults c.loop-turn.src) (g.S.Source.faults c.next.new.src) (Err s)) c.in-Refused.is k in
    let is = c.table.ensures.table in
    let stopped = subst (λ s. Stopped old.table c.table.result.now old.held r1 new.held s) c.in-Refused.is (subst (λ t. Stopped old.table t old.held r1 new.held stop) (sym is) n.2) in
    let closes = c.refuse.ensures.wrote old.table old.held new.held r1 at.fault (ap (λ r. r.place) at.there) (ap (λ r. r.reason) at.there) stopped (ap g.T.Units.past is ∙ n.1) i.keeps in
    let o2 = written c.refuse.new.out in
    let steady = why ∙ i.steady in
    let opens = begun_opens g.C.UnitCommand.command (g.C.UnitCommand.start c.args.command.now) g.met.C.UnitCommand.opens in
    record {
      runs = record {
        ran = ran_refused L g.met.T.Units.laws g.C.UnitCommand.first cmd r0 o0 o1 o2 at.fault c.refuse.result i.holds at.meets closes;
        limit = takes_at_most G L g.T.Units.past g.T.Table.tells Stopped old new r0 r1 r2 (Err stop) i.goes n;
        cause = cause_then (g.S.Source.faults c.args.src.now) (g.S.Source.faults c.next.new.src) (g.K.Sink.faults c.args.out.now) (g.K.Sink.faults c.loop-turn.out) (g.K.Sink.faults c.refuse.new.out) c.refuse.result steady i.steady_out c.refuse.ensures.cause;
        end = λ ending e done. absurd (g.C.UnitCommand.refused_is_no_end (g.T.Units.past old.table) w at.fault (subst g.C.UnitCommand.is_done (closed_is (cmd.refused (g.T.Units.past old.table) w at.fault).ending ending (cmd.refused (g.T.Units.past old.table) w at.fault).last o1 o2 c.refuse.result closes e) done));
      };
      soon = turned_soon L g.T.Units.past g.T.Table.tells Stopped old new r0 r1 r2 (Err stop) g.met.T.Units.laws g.C.UnitCommand.first cmd opens c.refuse.result i.goes.most i.unrefused n (closes_no_read _ _ o1 (written c.refuse.new.out) c.refuse.result closes);
    }

pub returns-in-Last : goal.returns-in-Last
returns-in-Last g c =
    let G = g.T.Units.grammar in
    let L = g.T.Units.beyond in
    let Tells = g.T.Table.tells in
    let Stopped = g.T.Table.stopped in
    let cmd = command_from g.C.UnitCommand.command (g.C.UnitCommand.start c.args.command.now) in
    let rest = g.S.Source.rest in
    let written = g.K.Sink.written in
    let i = c.loop-turn.invariant in
    let old = c.loop-turn.reader in
    let new = c.next.new.self in
    let w = g.C.UnitCommand.own c.loop-turn.command old.table in
    let r0 = rest c.args.src.now in
    let r1 = rest c.loop-turn.src in
    let r2 = rest c.next.new.src in
    let o0 = written c.args.out.now in
    let o1 = written c.loop-turn.out in
    let a = c.in-Ok-next.ensures.next i.goes.no_stop i.goes.no_end in
    let steady = c.in-Ok-next.ensures.cause i.goes.no_stop ∙ i.steady in
    let n = subst (λ t. NextOver G L g.T.Units.past Tells Stopped old new r1 r2 (Ok t)) c.in-Last.is a in
    let t = c.table-in-Last in
    let p = passes_last t.result.now t.ensures.table g.met.T.Units.along t.ensures.most n in
    let closes = c.finish.ensures.wrote old.table p i.keeps n.final in
    let opens = begun_opens g.C.UnitCommand.command (g.C.UnitCommand.start c.args.command.now) g.met.C.UnitCommand.opens in
    record {
      runs = record {
        ran = ran_finished g.met.T.Units.laws g.C.UnitCommand.first cmd r0 o0 o1 (written c.finish.new.out) w c.finish.result i.holds n closes;
        limit = takes_at_most G L g.T.Units.past Tells Stopped old new r0 r1 r2 (Ok c.in-Ok-next.turn) i.goes a;
        cause = cause_then (g.S.Source.faults c.args.src.now) (g.S.Source.faults c.next.new.src) (g.K.Sink.faults c.args.out.now) (g.K.Sink.faults c.loop-turn.out) (g.K.Sink.faults c.finish.new.out) c.finish.result steady i.steady_out c.finish.ensures.cause;
        end = λ ending e done. n.last;
      };
      soon = turned_soon L g.T.Units.past Tells Stopped old new r0 r1 r2 (Ok c.in-Ok-next.turn) g.met.T.Units.laws g.C.UnitCommand.first cmd opens c.finish.result i.goes.most i.unrefused a (closes_no_read _ _ o1 (written c.finish.new.out) c.finish.result closes);
    }

pub returns-in-Rest : goal.returns-in-Rest
returns-in-Rest g c =
    let G = g.T.Units.grammar in
    let L = g.T.Units.beyond in
    let Tells = g.T.Table.tells in
    let Stopped = g.T.Table.stopped in
    let cmd = command_from g.C.UnitCommand.command (g.C.UnitCommand.start c.args.command.now) in
    let rest = g.S.Source.rest in
    let written = g.K.Sink.written in
    let i = c.loop-turn.invariant in
    let old = c.loop-turn.reader in
    let new = c.next.new.self in
    let r0 = rest c.args.src.now in
    let r1 = rest c.loop-turn.src in
    let r2 = rest c.next.new.src in
    let o0 = written c.args.out.now in
    let o1 = written c.loop-turn.out in
    let a = c.in-Ok-next.ensures.next i.goes.no_stop i.goes.no_end in
    let steady = c.in-Ok-next.ensures.cause i.goes.no_stop ∙ i.steady in
    let n = subst (λ t. NextOver G L g.T.Units.past Tells Stopped old new r1 r2 (Ok t)) c.in-Rest.is a in
    let closes = c.rest.ensures.wrote old.table (ap g.T.Units.past c.table-in-Rest.ensures.table ∙ n.past) n.rests.may i.keeps in
    let opens = begun_opens g.C.UnitCommand.command (g.C.UnitCommand.start c.args.command.now) g.met.C.UnitCommand.opens in
    record {
      runs = record {
        ran = ran_rested L g.met.T.Units.laws g.C.UnitCommand.first cmd r0 o0 o1 (written c.rest.new.out) c.rest.result i.holds n.rests closes;
        limit = takes_at_most G L g.T.Units.past Tells Stopped old new r0 r1 r2 (Ok c.in-Ok-next.turn) i.goes a;
        cause = cause_then (g.S.Source.faults c.args.src.now) (g.S.Source.faults c.next.new.src) (g.K.Sink.faults c.args.out.now) (g.K.Sink.faults c.loop-turn.out) (g.K.Sink.faults c.rest.new.out) c.rest.result steady i.steady_out c.rest.ensures.cause;
        end = λ ending e done. n.rests.at_end;
      };
      soon = turned_soon L g.T.Units.past Tells Stopped old new r0 r1 r2 (Ok c.in-Ok-next.turn) g.met.T.Units.laws g.C.UnitCommand.first cmd opens c.rest.result i.goes.most i.unrefused a (closes_no_read _ _ o1 (written c.rest.new.out) c.rest.result closes);
    }

pub finish-requires : goal.finish-requires
finish-requires g c =
    let rest = g.S.Source.rest in
    let i = c.loop-turn.invariant in
    let old = c.loop-turn.reader in
    let r1 = rest c.loop-turn.src in
    let r2 = rest c.next.new.src in
    let a = c.in-Ok-next.ensures.next i.goes.no_stop i.goes.no_end in
    let n = subst (λ t. NextOver g.T.Units.grammar g.T.Units.beyond g.T.Units.past g.T.Table.tells g.T.Table.stopped old c.next.new.self r1 r2 (Ok t)) c.in-Last.is a in
    let t = c.table-in-Last in
    let p = passes_last t.result.now t.ensures.table g.met.T.Units.along t.ensures.most n in
    (old.table, p, i.keeps)

pub turn-requires : goal.turn-requires
turn-requires g c =
    let rest = g.S.Source.rest in
    let i = c.loop-turn.invariant in
    let old = c.loop-turn.reader in
    let r1 = rest c.loop-turn.src in
    let r2 = rest c.next.new.src in
    let a = c.in-Ok-next.ensures.next i.goes.no_stop i.goes.no_end in
    let n = subst (λ t. NextOver g.T.Units.grammar g.T.Units.beyond g.T.Units.past g.T.Table.tells g.T.Table.stopped old c.next.new.self r1 r2 (Ok t)) c.in-Unit.is a in
    let t = c.table-in-loop-turn in
    let p = passes_item t.result.now t.ensures.table n in
    (old.table, p, i.keeps)

pub loop-turn-smaller : goal.loop-turn-smaller
loop-turn-smaller g c =
    let rest = g.S.Source.rest in
    let i = c.loop-turn.invariant in
    let r1 = rest c.loop-turn.src in
    let r2 = rest c.next.new.src in
    let a = c.in-Ok-next.ensures.next i.goes.no_stop i.goes.no_end in
    let n = subst (λ t. NextOver g.T.Units.grammar g.T.Units.beyond g.T.Units.past g.T.Table.tells g.T.Table.stopped c.loop-turn.reader c.next.new.self r1 r2 (Ok t)) c.in-Unit.is a in
    let p = place_more g.met.T.Units.along n in
    omega (arith, p.0, p.1)

pub loop-turn-preserved : goal.loop-turn-preserved
loop-turn-preserved g c =
    let laws = g.met.T.Units.laws in
    let first = g.C.UnitCommand.first in
    let cmd = command_from g.C.UnitCommand.command (g.C.UnitCommand.start c.args.command.now) in
    let opens = begun_opens g.C.UnitCommand.command (g.C.UnitCommand.start c.args.command.now) g.met.C.UnitCommand.opens in
    let own = g.C.UnitCommand.own in
    let rest = g.S.Source.rest in
    let written = g.K.Sink.written in
    let i = c.loop-turn.invariant in
    let old = c.loop-turn.reader in
    let new = c.next.new.self in
    let w = own c.loop-turn.command old.table in
    let r0 = rest c.args.src.now in
    let r1 = rest c.loop-turn.src in
    let r2 = rest c.next.new.src in
    let o0 = written c.args.out.now in
    let o1 = written c.loop-turn.out in
    let a = c.in-Ok-next.ensures.next i.goes.no_stop i.goes.no_end in
    let steady = c.in-Ok-next.ensures.cause i.goes.no_stop ∙ i.steady in
    let n = subst (λ t. NextOver g.T.Units.grammar g.T.Units.beyond g.T.Units.past g.T.Table.tells g.T.Table.stopped old new r1 r2 (Ok t)) c.in-Unit.is a in
    let t = c.table-in-loop-turn in
    let p = passes_item t.result.now t.ensures.table n in
    let wrote = c.in-Ok-turn.ensures.wrote old.table p i.keeps in
    let owned = sym (ap (λ x. own c.turn.new.self x) t.ensures.table) ∙ wrote.1 in
    let w' = own c.turn.new.self new.table in
    record {
      goes = goes_more g.met.T.Units.along i.goes n;
      holds = holds_turn laws first cmd r0 o0 o1 (written c.turn.new.out) w w' i.holds n (wrote.0, owned);
      unrefused = unrefused_turn laws first cmd opens r0 w w' i.unrefused n owned;
      keeps = subst (λ x. g.C.UnitCommand.keeps c.turn.new.self x) t.ensures.table (c.in-Ok-turn.ensures.keeps old.table p i.keeps);
      steady = steady;
      steady_out = c.in-Ok-turn.ensures.cause.1 ∙ i.steady_out;
    }

pub returns-in-Err-turn : goal.returns-in-Err-turn
returns-in-Err-turn g c =
    let G = g.T.Units.grammar in
    let L = g.T.Units.beyond in
    let Tells = g.T.Table.tells in
    let Stopped = g.T.Table.stopped in
    let cmd = command_from g.C.UnitCommand.command (g.C.UnitCommand.start c.args.command.now) in
    let rest = g.S.Source.rest in
    let written = g.K.Sink.written in
    let i = c.loop-turn.invariant in
    let old = c.loop-turn.reader in
    let new = c.next.new.self in
    let w = g.C.UnitCommand.own c.loop-turn.command old.table in
    let r0 = rest c.args.src.now in
    let r1 = rest c.loop-turn.src in
    let r2 = rest c.next.new.src in
    let o0 = written c.args.out.now in
    let o1 = written c.loop-turn.out in
    let a = c.in-Ok-next.ensures.next i.goes.no_stop i.goes.no_end in
    let steady = c.in-Ok-next.ensures.cause i.goes.no_stop ∙ i.steady in
    let n = subst (λ t. NextOver G L g.T.Units.past Tells Stopped old new r1 r2 (Ok t)) c.in-Unit.is a in
    let t = c.table-in-loop-turn in
    let p = passes_item t.result.now t.ensures.table n in
    let opens = begun_opens g.C.UnitCommand.command (g.C.UnitCommand.start c.args.command.now) g.met.C.UnitCommand.opens in
    record {
      runs = record {
        ran = ran_unwritten (Unit {0}) g.met.T.Units.laws g.C.UnitCommand.first cmd r0 o0 o1 (written c.turn.new.out) w c.in-Err-turn.halt i.holds n (c.in-Err-turn.ensures.wrote old.table p i.keeps);
        limit = takes_at_most G L g.T.Units.past Tells Stopped old new r0 r1 r2 (Ok c.in-Ok-next.turn) i.goes a;
        cause = cause_halt (Unit {0}) g.row.C-Ending.Denot (g.S.Source.faults c.args.src.now) (g.S.Source.faults c.next.new.src) (g.K.Sink.faults c.args.out.now) (g.K.Sink.faults c.loop-turn.out) (g.K.Sink.faults c.turn.new.out) c.in-Err-turn.halt steady i.steady_out c.in-Err-turn.ensures.cause;
        end = λ ending e done. err_no_ok e;
      };
      soon = turned_soon L g.T.Units.past Tells Stopped old new r0 r1 r2 (Ok c.in-Ok-next.turn) g.met.T.Units.laws g.C.UnitCommand.first cmd opens _ i.goes.most i.unrefused a (writes_no_read (Unit {0}) _ _ o1 (written c.turn.new.out) c.in-Err-turn.halt _ refl (c.in-Err-turn.ensures.wrote old.table p i.keeps));
    }
