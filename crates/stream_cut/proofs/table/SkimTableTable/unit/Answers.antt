use Rattle.std.proofs.Common.{◌≡◌, ◌∙◌, ◌+◌, ℕ, List, Ok, Err, length, refl, sym, ap, subst, arith}
use Rattle.std.proofs.lemmas.List.{length-take, length-drop}
use Rattle.std.proofs.lemmas.Result.{err_from_is_err_and}
use Rattle.std.proofs.lemmas.Grind.{common_steps}
use Rattle.run_theory.specs.Begun.{Begun}
use Rattle.unit_reader.specs.Stops.{StopsOver}
use Rattle.stream_rows.specs.Units.{Past, Repeated, End}
use Rattle.stream_cut.specs.Skim.{skim_grammar, skim_rows}
use Rattle.stream_cut.specs.SkimTable.{SkimTableSeen}
use Rattle.stream_cut.specs.Opening.{Opens, OpenOver}
use Rattle.stream_cut.specs.declared.opening.Opening.TheVariants as openings
use Rattle.stream_cut.proofs.PictureTurns.{stopped, not_kept, opens_whole, repeated_whole, end_whole}
use Rattle.stream_cut.proofs.table.SkimTableTable.unit.Goals as goal

pub returns-in_err-opening-clause-unit : goal.returns-in_err-opening-clause-unit
returns-in_err-opening-clause-unit g c = λ held0 rest0 b.
    let p = err_from_is_err_and c.from_residual.result c.from_residual.ensures.1 in
    let same : c.self.inside.earlier ≡ c.args.self.now.past = ap (λ (v : SkimTableSeen). v.past) c.self.view_is in
    let begins = subst (λ (x : Past). Begun skim_grammar x held0 rest0 (g.S.Source.rest c.args.src.now) x.place c.args.window.now.held (skim_rows x)) (sym same) b in
    let over = subst (λ (x : Past). StopsOver skim_grammar x held0 rest0 (g.S.Source.rest c.open.new.src) c.open.new.window.room c.in_err-opening.field-0.0) same (c.in_err-opening.ensures.unit held0 rest0 begins) in
    stopped c.args.self.now c.args.self.now held0 rest0 (g.S.Source.rest c.open.new.src) c.open.new.window c.in_err-opening.field-0.0 c.from_residual.result over refl refl c.open.ensures.few (p.1 ∙ ap Err p.2)

pub first-requires-clause-opened : goal.first-requires-clause-opened
first-requires-clause-opened g c = subst (λ x. Opens x c.open.new.window.held (openings.Sequence c.in-Sequence.header) c.in_ok-opening.size) (ap (λ (v : SkimTableSeen). v.past) c.self.view_is) (subst (λ x. Opens c.self.inside.earlier c.open.new.window.held x c.in_ok-opening.size) c.in-Sequence.is c.in_ok-opening.ensures.opened)

pub picture-requires-clause-opened : goal.picture-requires-clause-opened
picture-requires-clause-opened g c = subst (λ x. Opens x c.open.new.window.held (openings.Picture c.in-Picture.picture) c.in_ok-opening.size) (ap (λ (v : SkimTableSeen). v.past) c.self.view_is) (subst (λ x. Opens c.self.inside.earlier c.open.new.window.held x c.in_ok-opening.size) c.in-Picture.is c.in_ok-opening.ensures.opened)

pub keep_front-requires : goal.keep_front-requires
keep_front-requires g c = let o = c.in_ok-opening.ensures.opened in omega (arith, o.3, o.4)

pub skipped-requires-clause-opened : goal.skipped-requires-clause-opened
skipped-requires-clause-opened g c = subst (λ x. Opens x c.open.new.window.held (openings.Skipped c.in-Skipped.next) c.in_ok-opening.size) (ap (λ (v : SkimTableSeen). v.past) c.self.view_is) (subst (λ x. Opens c.self.inside.earlier c.open.new.window.held x c.in_ok-opening.size) c.in-Skipped.is c.in_ok-opening.ensures.opened)

pub returns-in-Skipped-clause-unit : goal.returns-in-Skipped-clause-unit
returns-in-Skipped-clause-unit g c = λ held0 rest0 b.
    let same : c.self.inside.earlier ≡ c.args.self.now.past = ap (λ (v : SkimTableSeen). v.past) c.self.view_is in
    let begins = subst (λ (x : Past). Begun skim_grammar x held0 rest0 (g.S.Source.rest c.args.src.now) x.place c.args.window.now.held (skim_rows x)) (sym same) b in
    let over = subst (λ (x : Past). OpenOver x held0 rest0 (g.S.Source.rest c.open.new.src) c.open.new.window (Ok (c.in_ok-opening.opening, c.in_ok-opening.size))) same (c.in_ok-opening.ensures.unit held0 rest0 begins) in
    c.skipped.ensures.unit held0 rest0 over.0

pub advance-requires : goal.advance-requires
advance-requires g c = let o = c.in_ok-opening.ensures.opened in omega (arith, o.3, o.4)

pub returns-in-Sequence-clause-unit : goal.returns-in-Sequence-clause-unit
returns-in-Sequence-clause-unit g c = λ held0 rest0 b.
    let same : c.self.inside.earlier ≡ c.args.self.now.past = ap (λ (v : SkimTableSeen). v.past) c.self.view_is in
    let begins = subst (λ (x : Past). Begun skim_grammar x held0 rest0 (g.S.Source.rest c.args.src.now) x.place c.args.window.now.held (skim_rows x)) (sym same) b in
    let over = subst (λ (x : Past). OpenOver x held0 rest0 (g.S.Source.rest c.open.new.src) c.open.new.window (Ok (c.in_ok-opening.opening, c.in_ok-opening.size))) same (c.in_ok-opening.ensures.unit held0 rest0 begins) in
    c.first.ensures.unit held0 rest0 (g.S.Source.rest c.open.new.src) over.0

pub returns-in-End-clause-unit : goal.returns-in-End-clause-unit
returns-in-End-clause-unit g c = λ held0 rest0 b.
    let z = c.args.self.now.past in
    let same : c.self.inside.earlier ≡ z = ap (λ (v : SkimTableSeen). v.past) c.self.view_is in
    let begins = subst (λ (x : Past). Begun skim_grammar x held0 rest0 (g.S.Source.rest c.args.src.now) x.place c.args.window.now.held (skim_rows x)) (sym same) b in
    let over = subst (λ (x : Past). OpenOver x held0 rest0 (g.S.Source.rest c.open.new.src) c.open.new.window (Ok (c.in_ok-opening.opening, c.in_ok-opening.size))) same (c.in_ok-opening.ensures.unit held0 rest0 begins) in
    let o = subst (λ x. Opens z c.open.new.window.held x c.in_ok-opening.size) c.in-End.is over.1 in
    let w = opens_whole openings.End End c.in_ok-opening.size o (end_whole z o.0 o.2) c.advance.ensures.held over.0 in
    record {
      unit = End;
      at = z.place + c.in_ok-opening.size;
      begun = w.begun;
      such = record {
        past = refl;
        header = refl;
        shape = refl;
        is_found = refl;
        kept = refl;
        long = omega (arith, ap (λ (l : List ℕ). length l) w.gone, length-take c.in_ok-opening.size c.open.new.window.held, o.3, o.4, o.5.0);
        short = omega (arith, ap (λ (l : List ℕ). length l) w.gone, length-take c.in_ok-opening.size c.open.new.window.held, o.3, o.5.1);
      };
      total = omega (arith, c.requires.place, c.open.ensures.room, c.advance.ensures.room, ap (λ (l : List ℕ). length l) c.advance.ensures.held, length-drop c.in_ok-opening.size c.open.new.window.held, o.3, o.4);
    }

pub returns-in_err-keep_front-in-Repeated-clause-unit : goal.returns-in_err-keep_front-in-Repeated-clause-unit
returns-in_err-keep_front-in-Repeated-clause-unit g c = λ held0 rest0 b.
    let z = c.args.self.now.past in
    let same : c.self.inside.earlier ≡ z = ap (λ (v : SkimTableSeen). v.past) c.self.view_is in
    let begins = subst (λ (x : Past). Begun skim_grammar x held0 rest0 (g.S.Source.rest c.args.src.now) x.place c.args.window.now.held (skim_rows x)) (sym same) b in
    let over = subst (λ (x : Past). OpenOver x held0 rest0 (g.S.Source.rest c.open.new.src) c.open.new.window (Ok (c.in_ok-opening.opening, c.in_ok-opening.size))) same (c.in_ok-opening.ensures.unit held0 rest0 begins) in
    let front = c.in_err-keep_front-in-Repeated.ensures in
    let p = err_from_is_err_and c.from_residual-in_err-keep_front-in-Repeated.result c.from_residual-in_err-keep_front-in-Repeated.ensures.1 in
    not_kept c.args.self.now c.keep_front.new.self c.keep_front.new.window c.in_err-keep_front-in-Repeated.field-0.0 c.from_residual-in_err-keep_front-in-Repeated.result over.0 front.err (omega (arith, c.requires.place, c.open.ensures.room, front.room)) c.open.ensures.few front.header front.shape
    (front.stop c.in_err-keep_front-in-Repeated.field-0.0 refl) (p.1 ∙ ap Err p.2)

pub returns-in_ok-keep_front-in-Repeated-clause-unit : goal.returns-in_ok-keep_front-in-Repeated-clause-unit
returns-in_ok-keep_front-in-Repeated-clause-unit g c = λ held0 rest0 b.
    let z = c.args.self.now.past in
    let same : c.self.inside.earlier ≡ z = ap (λ (v : SkimTableSeen). v.past) c.self.view_is in
    let begins = subst (λ (x : Past). Begun skim_grammar x held0 rest0 (g.S.Source.rest c.args.src.now) x.place c.args.window.now.held (skim_rows x)) (sym same) b in
    let over = subst (λ (x : Past). OpenOver x held0 rest0 (g.S.Source.rest c.open.new.src) c.open.new.window (Ok (c.in_ok-opening.opening, c.in_ok-opening.size))) same (c.in_ok-opening.ensures.unit held0 rest0 begins) in
    let o = subst (λ x. Opens z c.open.new.window.held x c.in_ok-opening.size) c.in-Repeated.is over.1 in
    let front = c.in_ok-keep_front-in-Repeated.ensures in
    let w = opens_whole openings.Repeated Repeated c.in_ok-opening.size o (repeated_whole z o.0 o.2) front.ok.1 over.0 in
    record {
      unit = Repeated;
      at = z.place + c.in_ok-opening.size;
      begun = w.begun;
      such = record {
        past = front.past;
        header = front.header;
        shape = front.shape;
        is_found = refl;
        kept = front.ok.0 ∙ sym w.gone;
        long = omega (arith, ap (λ (l : List ℕ). length l) w.gone, length-take c.in_ok-opening.size c.open.new.window.held, o.3, o.4, o.5.0);
        short = omega (arith, ap (λ (l : List ℕ). length l) w.gone, length-take c.in_ok-opening.size c.open.new.window.held, o.3, o.5.1);
      };
      total = omega (arith, c.requires.place, c.open.ensures.room, front.room, ap (λ (l : List ℕ). length l) front.ok.1, length-drop c.in_ok-opening.size c.open.new.window.held, o.3, o.4);
    }

pub open-requires-clause-place : goal.open-requires-clause-place
open-requires-clause-place g c = grind (arith, common_steps)

pub returns-in_err-opening-clause-room : goal.returns-in_err-opening-clause-room
returns-in_err-opening-clause-room g c = grind (arith, common_steps)

pub first-requires-clause-most : goal.first-requires-clause-most
first-requires-clause-most g c = grind (arith, common_steps)

pub first-requires-clause-inside : goal.first-requires-clause-inside
first-requires-clause-inside g c = grind (arith, common_steps)

pub returns-in-Sequence-clause-room : goal.returns-in-Sequence-clause-room
returns-in-Sequence-clause-room g c = grind (arith, common_steps)

pub returns-in-Picture-clause-room : goal.returns-in-Picture-clause-room
returns-in-Picture-clause-room g c = grind (arith, common_steps)

pub returns-in-Skipped-clause-room : goal.returns-in-Skipped-clause-room
returns-in-Skipped-clause-room g c = grind (arith, common_steps)

pub returns-in-Skipped-clause-cause : goal.returns-in-Skipped-clause-cause
returns-in-Skipped-clause-cause g c = grind (arith, common_steps)

pub returns-in-End-clause-room : goal.returns-in-End-clause-room
returns-in-End-clause-room g c = grind (arith, common_steps)
