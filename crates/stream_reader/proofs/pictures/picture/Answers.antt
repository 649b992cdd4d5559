use Rattle.std.specs.Prelude.{IfErr}
use Rattle.std.proofs.Common.{Result, ◌≡◌, ◌+◌, ◌≤◌, ◌^◌, Err, length, arith, sym, ap, subst, ◌∙◌, refl}
use Rattle.std.proofs.lemmas.Grind.{common_steps}
use Rattle.std.proofs.lemmas.Result.{err_from_is_err_and}
use Rattle.slice_geometry.specs.Slicing.{total_bytes}
use Rattle.transform_params.specs.Params.{Params}
use Rattle.slice_geometry.specs.Frames.{frame_of}
use Rattle.field_rows.specs.Rows.{done}
use Rattle.stream_rows.specs.declared.reason.Reason.{Reason}
use Rattle.stream_rows.specs.Units.{Picture}
use Rattle.stream_reader.specs.Turns.{PictureOver, IsTaker}
use Rattle.unit_reader.proofs.Stopping.{stops_due}
use Rattle.stream_reader.proofs.PictureTurns.{behind_slices, behind_params, behind_number, payload_begun, begun_at, slices_begun, ready_frame, next_wrong, next_right, picture_taken}
use Rattle.unit_reader.specs.declared.stop.ReadStop.{ReadStop}
use Rattle.stream_reader.specs.declared.pictures.Shown.{Shown}
use Rattle.stream_reader.specs.Held.{greatest_share, StopsHeld, BeforeSlices, InSlices, NoDecoder}
use Rattle.stream_reader.proofs.HeldTurns.{if_err, reads_params}
use Rattle.stream_reader.proofs.pictures.picture.Goals as goal

pub returns-in_err-number-clause-unit : goal.returns-in_err-number-clause-unit
returns-in_err-number-clause-unit g c = λ held0 rest0 b.
    let z = c.args.earlier.now in
    let next = c.args.next in
    let parts = c.args.first.now.parts in
    let e = err_from_is_err_and c.from_residual.result c.from_residual.ensures.1 in
    subst (PictureOver z held0 rest0 (g.S.Source.rest c.number.new.src) c.number.new.window parts) (sym (e.1 ∙ ap Err e.2))
    (c.in_err-number.ensures.part (behind_number z next parts) held0 rest0 (payload_begun next parts b))

pub returns-in_err-params-clause-unit : goal.returns-in_err-params-clause-unit
returns-in_err-params-clause-unit g c = λ held0 rest0 b.
    let z = c.args.earlier.now in
    let next = c.args.next in
    let parts = c.args.first.now.parts in
    let number = c.in_ok-number.number in
    let b1 = begun_at (c.place-place.result + 17) (c.in_ok-number.ensures.part (behind_number z next parts) held0 rest0 (payload_begun next parts b)) (omega (arith, c.place-place.ensures.value)) in
    let e = err_from_is_err_and c.from_residual-in_err-params.result c.from_residual-in_err-params.ensures.1 in
    subst (PictureOver z held0 rest0 (g.S.Source.rest c.params.new.src) c.params.new.window parts) (sym (e.1 ∙ ap Err e.2))
    (c.in_err-params.ensures.part z (behind_params z next parts number) held0 rest0 b1)

pub returns-in_err-decoder-clause-unit : goal.returns-in_err-decoder-clause-unit
returns-in_err-decoder-clause-unit g c = λ held0 rest0 b.
    let z = c.args.earlier.now in
    let next = c.args.next in
    let parts = c.args.first.now.parts in
    let number = c.in_ok-number.number in
    let b1 = begun_at (c.place-place.result + 17) (c.in_ok-number.ensures.part (behind_number z next parts) held0 rest0 (payload_begun next parts b)) (omega (arith, c.place-place.ensures.value)) in
    let p : Params = record { wavelet = c.in_ok-params.params.wavelet; slicing = c.in_ok-params.params.layout; matrix = c.in_ok-params.params.matrix } in
    let b2 = c.in_ok-params.ensures.part z (behind_params z next parts number) held0 rest0 b1 in
    let e = err_from_is_err_and c.from_residual-in_err-decoder.result c.from_residual-in_err-decoder.ensures.1 in
    subst (PictureOver z held0 rest0 (g.S.Source.rest c.params.new.src) c.params.new.window parts) (sym (e.1 ∙ ap Err (e.2 ∙ c.in_err-decoder.ensures.ready)))
    (stops_due c.params.new.window.room b2 c.in_ok-params.ensures.place)

pub returns-in-Err-clause-unit : goal.returns-in-Err-clause-unit
returns-in-Err-clause-unit g c = λ held0 rest0 b.
    let z = c.args.earlier.now in
    let next = c.args.next in
    let parts = c.args.first.now.parts in
    let number = c.in_ok-number.number in
    let b1 = begun_at (c.place-place.result + 17) (c.in_ok-number.ensures.part (behind_number z next parts) held0 rest0 (payload_begun next parts b)) (omega (arith, c.place-place.ensures.value)) in
    let p : Params = record { wavelet = c.in_ok-params.params.wavelet; slicing = c.in_ok-params.params.layout; matrix = c.in_ok-params.params.matrix } in
    let b2 = c.in_ok-params.ensures.part z (behind_params z next parts number) held0 rest0 b1 in
    let ready = c.in_ok-decoder.ensures.ready in
    let frame = ready_frame parts c.header.result.now c.picture_shape.result p c.in_ok-decoder.decoder ready c.picture_shape.ensures c.header.ensures in
    let b3 = slices_begun parts p c.in_ok-decoder.decoder.params (behind_slices z next parts number p) (begun_at (c.place-place.result + (17 + c.in_ok-params.size)) b2 (omega arith)) ready.params_are in
    c.in-Err.ensures.part parts z frame (behind_slices z next parts number p) held0 rest0 b3

pub returns-then-not-leads_behind-clause-unit : goal.returns-then-not-leads_behind-clause-unit
returns-then-not-leads_behind-clause-unit g c = λ held0 rest0 b.
    let z = c.args.earlier.now in
    let next = c.args.next in
    let parts = c.args.first.now.parts in
    let number = c.in_ok-number.number in
    let b1 = begun_at (c.place-place.result + 17) (c.in_ok-number.ensures.part (behind_number z next parts) held0 rest0 (payload_begun next parts b)) (omega (arith, c.place-place.ensures.value)) in
    let p : Params = record { wavelet = c.in_ok-params.params.wavelet; slicing = c.in_ok-params.params.layout; matrix = c.in_ok-params.params.matrix } in
    let b2 = c.in_ok-params.ensures.part z (behind_params z next parts number) held0 rest0 b1 in
    let ready = c.in_ok-decoder.ensures.ready in
    let frame = ready_frame parts c.header.result.now c.picture_shape.result p c.in_ok-decoder.decoder ready c.picture_shape.ensures c.header.ensures in
    let b3 = slices_begun parts p c.in_ok-decoder.decoder.params (behind_slices z next parts number p) (begun_at (c.place-place.result + (17 + c.in_ok-params.size)) b2 (omega arith)) ready.params_are in
    let t = c.in-Ok.ensures.part parts z frame (behind_slices z next parts number p) held0 rest0 b3 in
    let size : total_bytes c.in_ok-decoder.decoder.params.slicing ≡ total_bytes p.slicing = ap (λ q. total_bytes q.slicing) ready.params_are in
    let span = 17 + c.in_ok-params.size + c.from.result in
    let there : c.place-place.result + (17 + c.in_ok-params.size) + total_bytes c.in_ok-decoder.decoder.params.slicing ≡ z.place + span = omega (arith, c.place-place.ensures.value, c.from.ensures, c.total_bytes.ensures, size) in
    next_wrong (λ length. done (Picture parts number p t.slices)) next span c.slices.new.window.room (c.place-place.result + 5) c.refused.result t.begun there (sym c.leads_behind.ensures ∙ c.if-not-leads_behind.true) c.in-Ok.ensures.place (omega (arith, c.place-place.ensures.value)) c.refused.ensures

pub returns-clause-unit : goal.returns-clause-unit
returns-clause-unit g c = λ held0 rest0 b.
    let z = c.args.earlier.now in
    let next = c.args.next in
    let parts = c.args.first.now.parts in
    let number = c.in_ok-number.number in
    let b1 = begun_at (c.place-place.result + 17) (c.in_ok-number.ensures.part (behind_number z next parts) held0 rest0 (payload_begun next parts b)) (omega (arith, c.place-place.ensures.value)) in
    let p : Params = record { wavelet = c.in_ok-params.params.wavelet; slicing = c.in_ok-params.params.layout; matrix = c.in_ok-params.params.matrix } in
    let b2 = c.in_ok-params.ensures.part z (behind_params z next parts number) held0 rest0 b1 in
    let ready = c.in_ok-decoder.ensures.ready in
    let frame = ready_frame parts c.header.result.now c.picture_shape.result p c.in_ok-decoder.decoder ready c.picture_shape.ensures c.header.ensures in
    let b3 = slices_begun parts p c.in_ok-decoder.decoder.params (behind_slices z next parts number p) (begun_at (c.place-place.result + (17 + c.in_ok-params.size)) b2 (omega arith)) ready.params_are in
    let t = c.in-Ok.ensures.part parts z frame (behind_slices z next parts number p) held0 rest0 b3 in
    let size : total_bytes c.in_ok-decoder.decoder.params.slicing ≡ total_bytes p.slicing = ap (λ q. total_bytes q.slicing) ready.params_are in
    let span = 17 + c.in_ok-params.size + c.from.result in
    let there : c.place-place.result + (17 + c.in_ok-params.size) + total_bytes c.in_ok-decoder.decoder.params.slicing ≡ z.place + span = omega (arith, c.place-place.ensures.value, c.from.ensures, c.total_bytes.ensures, size) in
    let right = next_right (λ length. done (Picture parts number p t.slices)) next span t.begun there (sym c.leads_behind.ensures ∙ c.if-not-leads_behind.false) in
    let few : total_bytes p.slicing ≤ 2 ^ 28 = subst (λ q. total_bytes q.slicing ≤ 2 ^ 28) ready.params_are c.in-Ok.ensures.allowed.share.total in
    let taker : IsTaker parts p t.slices c.slices.new.decoder = record {
      frame = ap frame_of c.in-Ok.ensures.shape ∙ frame;
      params_are = c.in-Ok.ensures.params ∙ ready.params_are;
      taken = t.has;
      whole = record { none_refused = c.in-Ok.ensures.unrefused; none_wanted = c.in-Ok.ensures.whole };
    } in
    picture_taken parts (record { number = number; layout = c.in_ok-params.params.layout; head = 17 + c.in_ok-params.size; decoder = c.slices.new.decoder }) p t.slices c.slices.new.window.room right
    (omega (arith, c.place-place.ensures.value, size)) (omega (arith, few, c.in_ok-params.ensures.most)) c.in-Ok.ensures.place refl taker

pub returns-in_err-number-clause-held : goal.returns-in_err-number-clause-held
returns-in_err-number-clause-held g c = λ held0 rest0 b. if_err _ _ (λ stop. BeforeSlices refl c.number.ensures.held)

pub returns-in_err-params-clause-held : goal.returns-in_err-params-clause-held
returns-in_err-params-clause-held g c = λ held0 rest0 b. if_err _ _ (λ stop. BeforeSlices refl c.params.ensures.held)

pub returns-in_err-decoder-clause-held : goal.returns-in_err-decoder-clause-held
returns-in_err-decoder-clause-held g c = λ held0 rest0 b.
    let e = err_from_is_err_and c.from_residual-in_err-decoder.result c.from_residual-in_err-decoder.ensures.1 in
    subst (λ (r : Result Shown (ReadStop Reason)). IfErr r (StopsHeld c.args.earlier.now held0 rest0 c.args.kept.now c.ready.new.kept c.params.new.window.held)) (sym (e.1 ∙ ap Err (e.2 ∙ c.in_err-decoder.ensures.ready)))
    (NoDecoder refl c.in_err-decoder.ensures.none c.params.ensures.held)

pub returns-in-Err-clause-held : goal.returns-in-Err-clause-held
returns-in-Err-clause-held g c = λ held0 rest0 b.
    let z = c.args.earlier.now in
    let next = c.args.next in
    let parts = c.args.first.now.parts in
    let number = c.in_ok-number.number in
    let b1 = begun_at (c.place-place.result + 17) (c.in_ok-number.ensures.part (behind_number z next parts) held0 rest0 (payload_begun next parts b)) (omega (arith, c.place-place.ensures.value)) in
    let p : Params = record { wavelet = c.in_ok-params.params.wavelet; slicing = c.in_ok-params.params.layout; matrix = c.in_ok-params.params.matrix } in
    let b2 = c.in_ok-params.ensures.part z (behind_params z next parts number) held0 rest0 b1 in
    let same = c.in_ok-decoder.ensures.ready.params_are in
    InSlices p (reads_params next parts number p b2) c.slices.new.decoder c.replace.ensures.after (c.slices.ensures.params ∙ same) (subst (λ (q : Params). length c.slices.new.window.held ≤ 8192 + greatest_share q.slicing) same c.slices.ensures.held)

pub returns-then-not-leads_behind-clause-held : goal.returns-then-not-leads_behind-clause-held
returns-then-not-leads_behind-clause-held g c = λ held0 rest0 b.
    let z = c.args.earlier.now in
    let next = c.args.next in
    let parts = c.args.first.now.parts in
    let number = c.in_ok-number.number in
    let b1 = begun_at (c.place-place.result + 17) (c.in_ok-number.ensures.part (behind_number z next parts) held0 rest0 (payload_begun next parts b)) (omega (arith, c.place-place.ensures.value)) in
    let p : Params = record { wavelet = c.in_ok-params.params.wavelet; slicing = c.in_ok-params.params.layout; matrix = c.in_ok-params.params.matrix } in
    let b2 = c.in_ok-params.ensures.part z (behind_params z next parts number) held0 rest0 b1 in
    let same = c.in_ok-decoder.ensures.ready.params_are in
    InSlices p (reads_params next parts number p b2) c.slices.new.decoder c.replace-then-not-leads_behind.ensures.after (c.slices.ensures.params ∙ same) (subst (λ (q : Params). length c.slices.new.window.held ≤ 8192 + greatest_share q.slicing) same c.slices.ensures.held)

pub returns-then-not-leads_behind-clause-cause : goal.returns-then-not-leads_behind-clause-cause
returns-then-not-leads_behind-clause-cause c = grind (arith, common_steps)

pub returns-clause-cause : goal.returns-clause-cause
returns-clause-cause c = grind (arith, common_steps)

pub overflow_add-head-2 : goal.overflow_add-head-2
overflow_add-head-2 c = grind (arith, common_steps)

pub overflow_add-place-2 : goal.overflow_add-place-2
overflow_add-place-2 c = grind (arith, common_steps)

pub returns-in_err-decoder-clause-cause : goal.returns-in_err-decoder-clause-cause
returns-in_err-decoder-clause-cause c = grind (arith, common_steps)

pub overflow_add-head : goal.overflow_add-head
overflow_add-head c = grind (arith, common_steps)
