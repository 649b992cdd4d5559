use Rattle.std.proofs.Common.{◌≡◌, ◌+◌, ℕ, List, true, length, arith, sym, ap, subst, refl, ◌∙◌}
use Rattle.std.proofs.lemmas.List.{take_all}
use Rattle.std.proofs.lemmas.Grind.{common_steps}
use Rattle.transform_params.specs.Params as params
use Rattle.stream_reader.proofs.PictureTurns.{params_then, params_taken, params_short, params_refused}
use Rattle.unit_reader.proofs.Stopping.{told_at}
use Rattle.stream_rows.proofs.LongestParams.{params_cut, params_most}
use Rattle.run_theory.specs.Begun.{Begun}
use Rattle.stream_rows.specs.Units.{units, is_truncated, transform_reason}
use Rattle.unit_reader.proofs.Gets.{got_most}
use Rattle.stream_reader.proofs.HeldTurns.{drop_most}
use Rattle.stream_reader.proofs.pictures.params.Goals as goal

pub returns-in-Ok-clause-part : goal.returns-in-Ok-clause-part
returns-in-Ok-clause-part g c = λ z others held0 rest0 b.
    subst (λ l. Begun units z held0 rest0 (g.S.Source.rest c.loop-params.src) (c.args.place + c.in-Ok.size) l (others (record { wavelet = c.in-Ok.params.wavelet; slicing = c.in-Ok.params.layout; matrix = c.in-Ok.params.matrix }))) (sym c.advance.ensures.held)
    (params_taken others c.len-held.result c.in-Ok.size c.front.result.now (record { wavelet = c.in-Ok.params.wavelet; slicing = c.in-Ok.params.layout; matrix = c.in-Ok.params.matrix })
    (c.loop-params.invariant.begun z others held0 rest0 b) c.front.ensures.value c.in-Ok.ensures.exact.0 c.in-Ok.ensures.exact.1)

pub returns-then-not-is_truncated-clause-part : goal.returns-then-not-is_truncated-clause-part
returns-then-not-is_truncated-clause-part g c = λ z others held0 rest0 b.
    params_refused others c.len-held.result c.front.result.now (params.params_fault c.in-Err.fault) c.loop-params.window.room c.transform_reason.result _
    (c.loop-params.invariant.begun z others held0 rest0 b) c.front.ensures.value c.in-Err.ensures.exact (sym c.is_truncated.ensures ∙ c.if-not-is_truncated.true) c.loop-params.invariant.total c.transform_reason.ensures refl

pub loop-params-preserved : goal.loop-params-preserved
loop-params-preserved g c =
    let all = c.len-held.ensures in
    let fault = params.params_fault c.in-Err.fault in
    let cut : is_truncated (transform_reason fault.reason) ≡ true = ap is_truncated (sym c.transform_reason.ensures) ∙ sym c.is_truncated.ensures ∙ c.if-not-is_truncated.false in
    let whole = c.front.ensures.value ∙ take_all c.len-held.result c.loop-params.window.held (omega (arith, c.len-held.ensures)) in
    record {
      begun = λ z others held0 rest0 b.
          c.in-Ok-read_on.ensures.more z held0 rest0 c.args.place (params_then others) _ (c.loop-params.invariant.begun z others held0 rest0 b)
          (params_short c.loop-params.window.held c.args.place others c.len-held.result c.front.result.now fault c.front.ensures.value all c.in-Err.ensures.exact) cut (told_at c.args.place fault.place c.transform_reason.ensures) c.loop-params.invariant.total;
      total = omega (arith, c.loop-params.invariant.total, c.read_on.ensures.room);
      few = got_most 8192 c.read_on.ensures.got c.loop-params.invariant.few (omega (arith, params_cut c.front.result.now fault c.in-Err.ensures.exact cut, ap (λ (l : List ℕ). length l) whole));
      steady = cc (c.in-Ok-read_on.ensures.cause, c.loop-params.invariant.steady);
    }

pub returns-in-Err-read_on-clause-part : goal.returns-in-Err-read_on-clause-part
returns-in-Err-read_on-clause-part g c = λ z others held0 rest0 b.
    let all = c.len-held.ensures in
    let fault = params.params_fault c.in-Err.fault in
    let cut : is_truncated (transform_reason fault.reason) ≡ true = ap is_truncated (sym c.transform_reason.ensures) ∙ sym c.is_truncated.ensures ∙ c.if-not-is_truncated.false in
    c.in-Err-read_on.ensures.more z held0 rest0 c.args.place (params_then others) _ (c.loop-params.invariant.begun z others held0 rest0 b)
    (params_short c.loop-params.window.held c.args.place others c.len-held.result c.front.result.now fault c.front.ensures.value all c.in-Err.ensures.exact) cut (told_at c.args.place fault.place c.transform_reason.ensures) c.loop-params.invariant.total

pub returns-in-Ok-clause-held : goal.returns-in-Ok-clause-held
returns-in-Ok-clause-held g c = drop_most c.in-Ok.size 8192 c.loop-params.window.held c.advance.new.self.held c.advance.ensures.held c.loop-params.invariant.few

pub returns-in-Err-read_on-clause-held : goal.returns-in-Err-read_on-clause-held
returns-in-Err-read_on-clause-held g c =
    let fault = params.params_fault c.in-Err.fault in
    let cut : is_truncated (transform_reason fault.reason) ≡ true = ap is_truncated (sym c.transform_reason.ensures) ∙ sym c.is_truncated.ensures ∙ c.if-not-is_truncated.false in
    let whole = c.front.ensures.value ∙ take_all c.len-held.result c.loop-params.window.held (omega (arith, c.len-held.ensures)) in
    got_most 8192 c.read_on.ensures.got c.loop-params.invariant.few (omega (arith, params_cut c.front.result.now fault c.in-Err.ensures.exact cut, ap (λ (l : List ℕ). length l) whole))

pub loop-params-smaller : goal.loop-params-smaller
loop-params-smaller g c =
    let fault = params.params_fault c.in-Err.fault in
    let cut : is_truncated (transform_reason fault.reason) ≡ true = ap is_truncated (sym c.transform_reason.ensures) ∙ sym c.is_truncated.ensures ∙ c.if-not-is_truncated.false in
    let whole = c.front.ensures.value ∙ take_all c.len-held.result c.loop-params.window.held (omega (arith, c.len-held.ensures)) in
    omega (arith, params_cut c.front.result.now fault c.in-Err.ensures.exact cut, ap (λ (l : List ℕ). length l) whole, c.in-Ok-read_on.ensures.longer)

pub returns-in-Ok-clause-most : goal.returns-in-Ok-clause-most
returns-in-Ok-clause-most g c =
    omega (arith, params_most c.front.result.now (record { wavelet = c.in-Ok.params.wavelet; slicing = c.in-Ok.params.layout; matrix = c.in-Ok.params.matrix }) c.in-Ok.size c.in-Ok.ensures.exact.0 c.in-Ok.ensures.exact.1)

pub advance-requires : goal.advance-requires
advance-requires g c = grind (arith, common_steps)

pub returns-in-Ok-clause-place : goal.returns-in-Ok-clause-place
returns-in-Ok-clause-place g c = grind (arith, common_steps)
