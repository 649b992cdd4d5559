use Rattle.std.proofs.Common.{◌≡◌, ℕ, List, [], ◌++◌, length, ap, ◌∙◌, arith, append_assoc}
use Rattle.std.proofs.lemmas.List.{length-append, take_all, drop_all}
use Rattle.std.proofs.lemmas.Grind.{common_steps}
use Rattle.unit_reader.proofs.Gets.{got_most}
use Rattle.stream_cut.proofs.Keeps.{keep_step}
use Rattle.stream_cut.proofs.table.keep.Goals as goal

pub loop-left-preserved : goal.loop-left-preserved
loop-left-preserved g c =
    let inv = c.loop-left.invariant.got in
    let held = c.loop-left.window.held in
    let all : c.front.result.now ≡ held = c.front.ensures.value ∙ take_all c.len-piece.result held (omega (arith, c.len-piece.ensures)) in
    let none : c.advance.new.self.held ≡ [] = c.advance.ensures.held ∙ drop_all c.len-piece.result held (omega (arith, c.len-piece.ensures)) in
    let joined = length-append inv.0 held in
    record {
      got = (
        inv.0 ++ held,
        keep_step held c.advance.new.self.held _ inv.1 none c.hold.ensures.got (omega (arith, inv.2, c.loop-left-test.true, c.len.ensures)),
        omega (arith, joined, inv.2, c.loop-left-test.true, c.len.ensures, c.len-piece.ensures),
        omega (arith, joined, inv.3, c.hold.ensures.room, c.advance.ensures.room, ap (λ (l : List ℕ). length l) none),
        c.in-Ok.ensures.items ∙ ap (λ l. c.loop-left.kept.items ++ l) all ∙ ap (λ l. l ++ held) inv.4 ∙ append_assoc c.args.kept.now.items inv.0 held,
      );
      few = λ few. got_most 8192 c.hold.ensures.got (omega (arith, ap (λ (l : List ℕ). length l) none)) (omega arith);
      steady = cc (c.in-Ok-true.ensures.cause, c.loop-left.invariant.steady);
    }

pub returns-in-Ok-false-clause-moved : goal.returns-in-Ok-false-clause-moved
returns-in-Ok-false-clause-moved g c = grind (arith, common_steps)

pub returns-in-Err-hold-clause-moved : goal.returns-in-Err-hold-clause-moved
returns-in-Err-hold-clause-moved g c = grind (arith, common_steps)

pub returns-clause-moved : goal.returns-clause-moved
returns-clause-moved g c = grind (arith, common_steps)
