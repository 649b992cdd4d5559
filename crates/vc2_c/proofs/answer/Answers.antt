use Rattle.std.proofs.Common.{◌≡◌, ℕ, List, length, map, take, string_bytes, sym, subst, ◌∙◌}
use Rattle.vc2_cli.specs.Program.{ProgramRan}
use Rattle.vc2_cli.specs.Reply.{reply_to}
use Rattle.vc2_c.specs.Call.{IsAnswer}
use Rattle.vc2_c.proofs.Rooms.{seen, changed, read, filled, answered}
use Rattle.vc2_c.proofs.answer.Goals as goal

pub returns : goal.returns
returns c =
    let words = map string_bytes c.args.words.now in
    let out0 = seen c.args.out.now in
    let out = seen c.run-status.new.out in
    let note0 = seen c.args.note.now in
    let note = seen c.run-status.new.note in
    let ran = subst (λ (input : List ℕ). ProgramRan words (read input c.run-status.new.src) (changed out0 out) (changed note0 note) c.run-status.result) c.new-src.ensures c.run-status.ensures in
    let a = answered words c.args.input.now c.run-status.new.src out0 out note0 note c.run-status.result (c.requires.empty.0, c.requires.sound.0) (c.requires.empty.1, c.requires.sound.1) c.run-status.new.out.fails_full c.run-status.new.note.fails_full ran in
    record {
      loans = (a.same_out.0, a.same_note.0);
      sizes = (a.same_out.1, a.same_note.1);
      answer = subst (λ (code : ℕ). IsAnswer (reply_to words c.args.input.now) (filled out0 out) (filled note0 note) code) (sym (c.from.ensures ∙ c.exit_code.ensures)) a.answer;
    }
