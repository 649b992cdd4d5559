use Rattle.std.proofs.Common.{◌≡◌, ◌∙◌, ◌+◌, ◌-◌, ◌++◌, ℕ, List, Err, length, take, refl, sym, ap, subst, arith}
use Rattle.std.proofs.lemmas.List.{length-append, length-take, length-drop}
use Rattle.std.proofs.lemmas.Result.{err_from_is_err_and}
use Rattle.std.proofs.lemmas.Grind.{common_steps}
use Rattle.slice_geometry.specs.Slicing.{total_bytes}
use Rattle.stream_rows.specs.Units.{Past, Picture}
use Rattle.transform_params.specs.Views.{params_of}
use Rattle.run_theory.specs.Begun.{Begun, Got}
use Rattle.stream_cut.specs.Keeping.{IsCutSlice}
use Rattle.stream_cut.specs.Skim.{skim_grammar}
use Rattle.stream_cut.specs.SkimTable.{SkimTableSeen}
use Rattle.stream_cut.proofs.PictureTurns.{checked, opens_picture, slices_ended, slices_halted, slices_passed, offset_refused, not_kept, picture_found}
use Rattle.stream_cut.proofs.table.SkimTable.picture.Goals as goal

pub returns-in_err-keep_front-clause-unit : goal.returns-in_err-keep_front-clause-unit
returns-in_err-keep_front-clause-unit g c = λ held0 rest0 b.
    let p = err_from_is_err_and c.from_residual.result c.from_residual.ensures.1 in
    not_kept c.args.self.now c.keep_front.new.self c.keep_front.new.window c.in_err-keep_front.field-0.0 c.from_residual.result b c.in_err-keep_front.ensures.err (omega (arith, c.requires.place, c.in_err-keep_front.ensures.room)) c.requires.few c.in_err-keep_front.ensures.header c.in_err-keep_front.ensures.shape (c.in_err-keep_front.ensures.stop c.in_err-keep_front.field-0.0 refl) (p.1 ∙ ap Err p.2)

pub returns-in-Ok-false-clause-unit : goal.returns-in-Ok-false-clause-unit
returns-in-Ok-false-clause-unit g c = λ held0 rest0 b.
    let z = c.args.self.now.past in
    let rest1 = g.S.Source.rest c.args.src.now in
    let rest2 = g.S.Source.rest c.keep.new.src in
    let held1 = c.keep_front.new.window.held in
    let held2 = c.keep.new.window.held in
    let total = total_bytes c.args.picture.params.layout in
    let front = c.in_ok-keep_front.ensures in
    let o = opens_picture c.args.picture c.args.size c.requires.opened front.ok.1 b in
    let moved = c.in-Ok-false.ensures.moved in
    let count : c.from.result ≡ total = c.from.ensures ∙ c.total_bytes-total.ensures in
    let got : Got total held1 held2 rest1 rest2 moved.gone = subst (λ n. Got n held1 held2 rest1 rest2 moved.gone) count moved.got in
    let some = c.count-slices.ensures.allowed.share.some in
    let place : c.place-place.result ≡ z.place = c.place-place.ensures.value ∙ ap (λ (v : SkimTableSeen). v.past.place) c.self.view_is ∙ ap (λ (x : Past). x.place) front.past in
    let header = ap (λ (v : SkimTableSeen). v.header) c.self.view_is ∙ front.header in
    let kept : c.self.inside.unit.items ≡ take c.args.size c.args.window.now.held = ap (λ (v : SkimTableSeen). v.unit) c.self.view_is ∙ front.ok.0 in
    let less = ap (λ (l : List ℕ). length l) front.ok.1 ∙ length-drop c.args.size c.args.window.now.held in
    let short = moved.short cc in
    let there : c.len.result - c.args.size ≡ length moved.gone = omega (arith, c.len.ensures, ap (λ (l : List ℕ). length l) moved.all, length-append c.self.inside.unit.items moved.gone, ap (λ (l : List ℕ). length l) kept, length-take c.args.size c.args.window.now.held, o.inside) in (
      slices_ended o.first.parts c.args.picture rest2 c.keep.new.window.room c.cut_slice.result _ c.refused.result some o.begun got short.1 (omega (arith, short.0, count)) short.2
          (omega (arith, moved.room, c.requires.place, front.room, o.inside, less, ap (λ (l : List ℕ). length l) short.1))
          (subst (λ n. IsCutSlice c.args.picture.params.layout n c.cut_slice.result) there c.cut_slice.ensures) (omega (arith, place)) c.refused.ensures,
      record { header = header; shape = ap (λ (v : SkimTableSeen). v.shape) c.self.view_is ∙ front.shape; few = c.keep.ensures.few (omega (arith, less, c.requires.few)) },
    )

pub returns-in-Err-clause-unit : goal.returns-in-Err-clause-unit
returns-in-Err-clause-unit g c = λ held0 rest0 b.
    let z = c.args.self.now.past in
    let rest1 = g.S.Source.rest c.args.src.now in
    let rest2 = g.S.Source.rest c.keep.new.src in
    let held1 = c.keep_front.new.window.held in
    let held2 = c.keep.new.window.held in
    let total = total_bytes c.args.picture.params.layout in
    let front = c.in_ok-keep_front.ensures in
    let o = opens_picture c.args.picture c.args.size c.requires.opened front.ok.1 b in
    let moved = c.in-Err.ensures.moved in
    let count : c.from.result ≡ total = c.from.ensures ∙ c.total_bytes-total.ensures in
    let got : Got total held1 held2 rest1 rest2 moved.gone = subst (λ n. Got n held1 held2 rest1 rest2 moved.gone) count moved.got in
    let some = c.count-slices.ensures.allowed.share.some in
    let place : c.place-place.result ≡ z.place = c.place-place.ensures.value ∙ ap (λ (v : SkimTableSeen). v.past.place) c.self.view_is ∙ ap (λ (x : Past). x.place) front.past in
    let header = ap (λ (v : SkimTableSeen). v.header) c.self.view_is ∙ front.header in
    let kept : c.self.inside.unit.items ≡ take c.args.size c.args.window.now.held = ap (λ (v : SkimTableSeen). v.unit) c.self.view_is ∙ front.ok.0 in
    let less = ap (λ (l : List ℕ). length l) front.ok.1 ∙ length-drop c.args.size c.args.window.now.held in (
      slices_halted o.first.parts c.args.picture rest2 c.keep.new.window.room c.in-Err.halt c.stop_of.result some o.begun got
          (λ h. let lost = moved.lost (ap Err h) in (omega (arith, lost.0, count), lost.1))
          (omega (arith, moved.room, c.requires.place, front.room, o.inside, less)) c.stop_of.ensures,
      record { header = header; shape = ap (λ (v : SkimTableSeen). v.shape) c.self.view_is ∙ front.shape; few = c.keep.ensures.few (omega (arith, less, c.requires.few)) },
    )

pub returns-then-not-leads_behind-clause-unit : goal.returns-then-not-leads_behind-clause-unit
returns-then-not-leads_behind-clause-unit g c = λ held0 rest0 b.
    let z = c.args.self.now.past in
    let rest1 = g.S.Source.rest c.args.src.now in
    let rest2 = g.S.Source.rest c.keep.new.src in
    let held1 = c.keep_front.new.window.held in
    let held2 = c.keep.new.window.held in
    let total = total_bytes c.args.picture.params.layout in
    let front = c.in_ok-keep_front.ensures in
    let o = opens_picture c.args.picture c.args.size c.requires.opened front.ok.1 b in
    let moved = c.in-Ok-true.ensures.moved in
    let count : c.from.result ≡ total = c.from.ensures ∙ c.total_bytes-total.ensures in
    let got : Got total held1 held2 rest1 rest2 moved.gone = subst (λ n. Got n held1 held2 rest1 rest2 moved.gone) count moved.got in
    let some = c.count-slices.ensures.allowed.share.some in
    let place : c.place-place.result ≡ z.place = c.place-place.ensures.value ∙ ap (λ (v : SkimTableSeen). v.past.place) c.self.view_is ∙ ap (λ (x : Past). x.place) front.past in
    let header = ap (λ (v : SkimTableSeen). v.header) c.self.view_is ∙ front.header in
    let kept : c.self.inside.unit.items ≡ take c.args.size c.args.window.now.held = ap (λ (v : SkimTableSeen). v.unit) c.self.view_is ∙ front.ok.0 in
    let less = ap (λ (l : List ℕ). length l) front.ok.1 ∙ length-drop c.args.size c.args.window.now.held in
    let enough : length moved.gone ≡ total = moved.enough (cc) ∙ count in
    let sliced = slices_passed o.first.parts c.args.picture rest2 some o.begun got enough in
    let unit = Picture o.first.parts c.args.picture.number (params_of c.args.picture.params) sliced.slices in
    let n = c.args.size + c.from-2.result in
    let begun = subst (λ k. Begun skim_grammar z held0 rest0 rest2 k held2 (checked z c.args.picture.next unit)) (omega (arith, enough, c.from-2.ensures, c.total_bytes-total.ensures)) sliced.begun in (
      offset_refused c.keep.new.window.room c.args.picture.next n _ unit c.refused-then-not-leads_behind.result begun (sym c.leads_behind.ensures ∙ c.if-not-leads_behind.true)
          (omega (arith, moved.room, c.requires.place, front.room, o.inside, less, enough, c.from-2.ensures, c.total_bytes-total.ensures)) (omega (arith, place)) c.refused-then-not-leads_behind.ensures,
      record { header = header; shape = ap (λ (v : SkimTableSeen). v.shape) c.self.view_is ∙ front.shape; few = c.keep.ensures.few (omega (arith, less, c.requires.few)) },
    )

pub returns-clause-unit : goal.returns-clause-unit
returns-clause-unit g c = λ held0 rest0 b.
    let z = c.args.self.now.past in
    let rest1 = g.S.Source.rest c.args.src.now in
    let rest2 = g.S.Source.rest c.keep.new.src in
    let held1 = c.keep_front.new.window.held in
    let held2 = c.keep.new.window.held in
    let total = total_bytes c.args.picture.params.layout in
    let front = c.in_ok-keep_front.ensures in
    let o = opens_picture c.args.picture c.args.size c.requires.opened front.ok.1 b in
    let moved = c.in-Ok-true.ensures.moved in
    let count : c.from.result ≡ total = c.from.ensures ∙ c.total_bytes-total.ensures in
    let got : Got total held1 held2 rest1 rest2 moved.gone = subst (λ n. Got n held1 held2 rest1 rest2 moved.gone) count moved.got in
    let some = c.count-slices.ensures.allowed.share.some in
    let place : c.place-place.result ≡ z.place = c.place-place.ensures.value ∙ ap (λ (v : SkimTableSeen). v.past.place) c.self.view_is ∙ ap (λ (x : Past). x.place) front.past in
    let header = ap (λ (v : SkimTableSeen). v.header) c.self.view_is ∙ front.header in
    let kept : c.self.inside.unit.items ≡ take c.args.size c.args.window.now.held = ap (λ (v : SkimTableSeen). v.unit) c.self.view_is ∙ front.ok.0 in
    let less = ap (λ (l : List ℕ). length l) front.ok.1 ∙ length-drop c.args.size c.args.window.now.held in
    let enough : length moved.gone ≡ total = moved.enough (cc) ∙ count in
    let sliced = slices_passed o.first.parts c.args.picture rest2 some o.begun got enough in
    let unit = Picture o.first.parts c.args.picture.number (params_of c.args.picture.params) sliced.slices in
    let n = c.args.size + c.from-2.result in
    let all = take c.args.size c.args.window.now.held in
    let both = subst (λ k. (u : Begun skim_grammar z held0 rest0 rest2 k held2 (checked z c.args.picture.next unit)) × (u.gone ≡ all ++ moved.gone)) (omega (arith, enough, c.from-2.ensures, c.total_bytes-total.ensures)) (sliced.begun, sliced.all ∙ ap (λ l. l ++ moved.gone) o.gone) in
    picture_found c.args.self.now _ o.first c.args.picture n c.args.size all moved.gone sliced.slices c.keep.new.window _ _ both.0 both.1 o.some (omega (arith, length-take c.args.size c.args.window.now.held, o.inside)) o.least o.most enough (omega (arith, c.from-2.ensures, c.total_bytes-total.ensures))
    (sym c.leads_behind.ensures ∙ c.if-not-leads_behind.false) c.count-slices.ensures.allowed (ap (λ (v : SkimTableSeen). v.past) c.self.view_is ∙ front.past) header (ap (λ (v : SkimTableSeen). v.shape) c.self.view_is ∙ front.shape) (moved.all ∙ ap (λ l. l ++ moved.gone) kept)
    refl refl c.count-slices.ensures.value c.a.ensures.value c.b.ensures.value (omega (arith, moved.room, c.requires.place, front.room, o.inside, less, enough, c.from-2.ensures, c.total_bytes-total.ensures)) refl

pub cut_slice-requires : goal.cut_slice-requires
cut_slice-requires g c = grind (arith, common_steps)

pub overflow_sub-there : goal.overflow_sub-there
overflow_sub-there g c = grind (arith, common_steps)
