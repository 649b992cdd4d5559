use Rattle.std.proofs.Common.{◌≡◌, ◌∙◌, ℕ, true, List, length, sym, ap, arith, refl}
use Rattle.std.proofs.lemmas.List.{take_all}
use Rattle.std.proofs.lemmas.Grind.{common_steps}
use Rattle.stream_rows.specs.Units.{is_truncated, header_reason, first_payload}
use Rattle.unit_reader.proofs.Gets.{got_most}
use Rattle.unit_reader.proofs.Stopping.{told_at}
use Rattle.stream_rows.proofs.LongestHeader.{header_cut, header_most}
use Rattle.stream_reader.proofs.HeaderTurns.{header_reads, header_refused, fault_there}
use Rattle.stream_reader.proofs.parts.read_header.Goals as goal

pub returns-in-Ok-clause-unit : goal.returns-in-Ok-clause-unit
returns-in-Ok-clause-unit g c = λ z held0 rest0 next at b.
    header_reads next c.front.result.now c.in-Ok.read.0 c.in-Ok.read.1 (c.loop-read.invariant.begun z held0 rest0 next b) at (c.front.ensures.value ∙ take_all c.len-held.result c.loop-read.window.held (omega (arith, c.len-held.ensures))) c.in-Ok.ensures.exact.0 c.in-Ok.ensures.exact.1

pub returns-then-not-is_truncated-clause-unit : goal.returns-then-not-is_truncated-clause-unit
returns-then-not-is_truncated-clause-unit g c = λ z held0 rest0 next at b.
    header_refused next c.front.result.now c.in-Err.fault.bit c.in-Err.fault.reason c.header_reason.result c.loop-read.window.room _ (c.loop-read.invariant.begun z held0 rest0 next b) (c.front.ensures.value ∙ take_all c.len-held.result c.loop-read.window.held (omega (arith, c.len-held.ensures)))
    c.in-Err.ensures.exact c.header_reason.ensures (sym c.is_truncated.ensures ∙ cc) (omega (arith, c.loop-read.invariant.room, c.requires.place)) refl

pub loop-read-preserved : goal.loop-read-preserved
loop-read-preserved g c =
    let cut : is_truncated (header_reason c.in-Err.fault.reason) ≡ true = ap is_truncated (sym c.header_reason.ensures) ∙ sym c.is_truncated.ensures ∙ c.if-not-is_truncated.false in
    let all = c.front.ensures.value ∙ take_all c.len-held.result c.loop-read.window.held (omega (arith, c.len-held.ensures)) in
    record {
      begun = λ z held0 rest0 next b.
          let now = c.loop-read.invariant.begun z held0 rest0 next b in
          c.in-Ok-read_on.ensures.more z held0 rest0 c.args.place (first_payload z next) _ now (fault_there next c.front.result.now c.in-Err.fault.bit c.in-Err.fault.reason now all c.in-Err.ensures.exact) cut
          (told_at c.args.place c.in-Err.fault.bit c.header_reason.ensures) (omega (arith, c.loop-read.invariant.room, c.requires.place));
      room = omega (arith, c.loop-read.invariant.room, c.read_on.ensures.room);
      few = got_most 8192 c.read_on.ensures.got c.loop-read.invariant.few (omega (arith, header_cut c.front.result.now c.in-Err.fault.bit c.in-Err.fault.reason c.in-Err.ensures.exact cut, ap (λ (l : List ℕ). length l) all));
      steady = cc (c.in-Ok-read_on.ensures.cause, c.loop-read.invariant.steady);
    }

pub returns-in-Err-read_on-clause-unit : goal.returns-in-Err-read_on-clause-unit
returns-in-Err-read_on-clause-unit g c = λ z held0 rest0 next at b.
    let cut : is_truncated (header_reason c.in-Err.fault.reason) ≡ true = ap is_truncated (sym c.header_reason.ensures) ∙ sym c.is_truncated.ensures ∙ c.if-not-is_truncated.false in
    let all = c.front.ensures.value ∙ take_all c.len-held.result c.loop-read.window.held (omega (arith, c.len-held.ensures)) in
    let now = c.loop-read.invariant.begun z held0 rest0 next b in
    c.in-Err-read_on.ensures.more z held0 rest0 c.args.place (first_payload z next) _ now (fault_there next c.front.result.now c.in-Err.fault.bit c.in-Err.fault.reason now all c.in-Err.ensures.exact) cut
    (told_at c.args.place c.in-Err.fault.bit c.header_reason.ensures) (omega (arith, c.loop-read.invariant.room, c.requires.place))

pub loop-read-smaller : goal.loop-read-smaller
loop-read-smaller g c =
    let cut : is_truncated (header_reason c.in-Err.fault.reason) ≡ true = ap is_truncated (sym c.header_reason.ensures) ∙ sym c.is_truncated.ensures ∙ c.if-not-is_truncated.false in
    let all = c.front.ensures.value ∙ take_all c.len-held.result c.loop-read.window.held (omega (arith, c.len-held.ensures)) in
    omega (arith, header_cut c.front.result.now c.in-Err.fault.bit c.in-Err.fault.reason c.in-Err.ensures.exact cut, ap (λ (l : List ℕ). length l) all, c.in-Ok-read_on.ensures.longer)

pub returns-in-Err-read_on-clause-few : goal.returns-in-Err-read_on-clause-few
returns-in-Err-read_on-clause-few g c =
    let cut : is_truncated (header_reason c.in-Err.fault.reason) ≡ true = ap is_truncated (sym c.header_reason.ensures) ∙ sym c.is_truncated.ensures ∙ c.if-not-is_truncated.false in
    let all = c.front.ensures.value ∙ take_all c.len-held.result c.loop-read.window.held (omega (arith, c.len-held.ensures)) in
    got_most 8192 c.read_on.ensures.got c.loop-read.invariant.few (omega (arith, header_cut c.front.result.now c.in-Err.fault.bit c.in-Err.fault.reason c.in-Err.ensures.exact cut, ap (λ (l : List ℕ). length l) all))

pub returns-in-Ok-clause-most : goal.returns-in-Ok-clause-most
returns-in-Ok-clause-most g c = omega (arith, header_most c.front.result.now c.in-Ok.read.0 c.in-Ok.read.1 c.in-Ok.ensures.exact.0 c.in-Ok.ensures.exact.1)

pub loop-read-init : goal.loop-read-init
loop-read-init g c = grind (arith, common_steps)
