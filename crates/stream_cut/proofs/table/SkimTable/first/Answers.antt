use Rattle.std.proofs.Common.{◌∙◌, ◌+◌, ◌-◌, ◌++◌, ℕ, List, Err, length, drop, refl, sym, ap, arith}
use Rattle.std.proofs.lemmas.List.{length-take, length-drop, take_all}
use Rattle.std.proofs.lemmas.Result.{err_from_is_err_and}
use Rattle.unit_reader.proofs.Stopping.{stops_due}
use Rattle.stream_rows.specs.Units.{First, Sequence}
use Rattle.stream_cut.specs.declared.opening.Opening.TheVariants as openings
use Rattle.stream_cut.proofs.PictureTurns.{not_kept, opens_whole, sequence_whole}
use Rattle.stream_cut.proofs.table.SkimTable.first.Goals as goal

pub returns-in-Err-clause-unit : goal.returns-in-Err-clause-unit
returns-in-Err-clause-unit c = λ held0 rest0 rest1 b. (stops_due c.args.window.now.room b c.requires.place, record { header = refl; shape = refl; few = c.requires.few })

pub returns-in_err-keep_front-clause-unit : goal.returns-in_err-keep_front-clause-unit
returns-in_err-keep_front-clause-unit c = λ held0 rest0 rest1 b.
    let p = err_from_is_err_and c.from_residual.result c.from_residual.ensures.1 in
    not_kept c.args.self.now c.keep_front.new.self c.keep_front.new.window c.in_err-keep_front.field-0.0 c.from_residual.result b c.in_err-keep_front.ensures.err (omega (arith, c.requires.place, c.in_err-keep_front.ensures.room)) c.requires.few c.in_err-keep_front.ensures.header c.in_err-keep_front.ensures.shape (c.in_err-keep_front.ensures.stop c.in_err-keep_front.field-0.0 refl) (p.1 ∙ ap Err p.2)

pub returns-clause-unit : goal.returns-clause-unit
returns-clause-unit c = λ held0 rest0 rest1 b.
    let z = c.args.self.now.past in
    let o = c.requires.opened in
    let front = c.in_ok-keep_front.ensures in
    let w = opens_whole (openings.Sequence c.args.header) (Sequence c.args.header) c.args.size o (sequence_whole z o.0 c.args.header o.2) front.ok.1 b in
    record {
      unit = Sequence c.args.header;
      at = z.place + c.args.size;
      begun = w.begun;
      such = record {
        past = front.past;
        header = front.header;
        shape = front.shape;
        is_found = (ap (λ (f : First). Sequence f.parts) (sym c.new.ensures), ap (λ (f : First). f.payload) c.new.ensures ∙ c.in-Ok.ensures.items ∙ ap (λ l. c.new-payload.result.items ++ l) (take_all (length c.front.result.now - 13) (drop 13 c.front.result.now) (omega (arith, length-drop 13 c.front.result.now))) ∙ ap (λ l. l ++ drop 13 c.front.result.now) c.new-payload.ensures.items ∙ ap (drop 13) (c.front.ensures.value ∙ sym w.gone));
        kept = front.ok.0 ∙ sym w.gone;
        long = omega (arith, ap (λ (l : List ℕ). length l) w.gone, length-take c.args.size c.args.window.now.held, c.requires.inside, c.requires.least);
        short = omega (arith, ap (λ (l : List ℕ). length l) w.gone, length-take c.args.size c.args.window.now.held, c.requires.most);
      };
      total = omega (arith, c.requires.place, front.room, c.requires.inside, ap (λ (l : List ℕ). length l) front.ok.1, length-drop c.args.size c.args.window.now.held);
    }
