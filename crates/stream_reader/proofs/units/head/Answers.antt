use Rattle.std.proofs.Common.{◌≡◌, ◌∙◌, ℕ, List, ap, sym, length, take, min, true, arith}
use Rattle.std.proofs.lemmas.List.{length-drop, length-take}
use Rattle.std.proofs.lemmas.Grind.{common_steps}
use Rattle.field_rows.specs.Rows.{◌>>=◌}
use Rattle.stream_rows.specs.Refusals.{Refusal}
use Rattle.stream_rows.specs.Units.{is_truncated, unit_head}
use Rattle.unit_reader.proofs.Gets.{got_most}
use Rattle.stream_reader.proofs.Reasons.{units_table}
use Rattle.unit_reader.proofs.Stopping.{stops_told}
use Rattle.stream_rows.proofs.UnitsLaws.{units_laws}
use Rattle.stream_reader.proofs.HeadTurns.{head_stands, head_fault, head_few}
use Rattle.stream_reader.proofs.HeldTurns.{drop_most}
use Rattle.stream_reader.proofs.units.head.Goals as goal

pub returns-in-Ok-clause-part : goal.returns-in-Ok-clause-part
returns-in-Ok-clause-part g c = λ others held0 rest0 b.
    let held = c.loop-info.window.held in
    let front : c.front.result.now ≡ take (min (length held) 13) held = c.front.ensures.value ∙ ap (λ n. take n held) (c.min-count.ensures ∙ ap (λ n. min n 13) c.len.ensures) in
    head_stands units_table (unit_head c.args.earlier.now) others c.front.result.now c.advance.new.self.held c.in-Ok.info (c.loop-info.invariant.begun others held0 rest0 b) front c.in-Ok.ensures c.advance.ensures.held

pub returns-in-Ok-clause-place : goal.returns-in-Ok-clause-place
returns-in-Ok-clause-place g c =
    let held = c.loop-info.window.held in
    omega (arith, c.in-Ok.ensures.0, c.loop-info.invariant.total, c.advance.ensures.room, ap (λ (l : List ℕ). length l) c.front.ensures.value, length-take c.min-count.result held, ap (λ (l : List ℕ). length l) c.advance.ensures.held, length-drop 13 held)

pub returns-in-Ok-clause-few : goal.returns-in-Ok-clause-few
returns-in-Ok-clause-few g c =
    omega (arith, c.loop-info.invariant.few, c.in-Ok.ensures.0, ap (λ (l : List ℕ). length l) c.advance.ensures.held, length-drop 13 c.loop-info.window.held)

pub returns-then-not-is_truncated-clause-part : goal.returns-then-not-is_truncated-clause-part
returns-then-not-is_truncated-clause-part g c = λ others held0 rest0 b.
    let held = c.loop-info.window.held in
    let front : c.front.result.now ≡ take (min (length held) 13) held = c.front.ensures.value ∙ ap (λ n. take n held) (c.min-count.ensures ∙ ap (λ n. min n 13) c.len.ensures) in
    let f = head_fault units_table c.args.earlier.now.place held (unit_head c.args.earlier.now) others c.front.result.now c.in-Err.refusal front c.in-Err.ensures in
    stops_told units_laws f.0 c.loop-info.window.room c.in-Err.refusal (c.loop-info.invariant.begun others held0 rest0 b) f.2 (ap (λ (r : Refusal). is_truncated r.reason) (sym f.1) ∙ sym c.is_truncated.ensures ∙ c.if-not-is_truncated.true) f.1 c.loop-info.invariant.total

pub loop-info-preserved : goal.loop-info-preserved
loop-info-preserved g c =
    let held = c.loop-info.window.held in
    let front : c.front.result.now ≡ take (min (length held) 13) held = c.front.ensures.value ∙ ap (λ n. take n held) (c.min-count.ensures ∙ ap (λ n. min n 13) c.len.ensures) in
    let cut : is_truncated c.in-Err.refusal.reason ≡ true = sym c.is_truncated.ensures ∙ c.if-not-is_truncated.false in
    let short = head_few c.args.earlier.now.place held (unit_head c.args.earlier.now) c.front.result.now c.in-Err.refusal front c.in-Err.ensures cut in
    record {
      begun = λ others held0 rest0 b.
          let f = head_fault units_table c.args.earlier.now.place held (unit_head c.args.earlier.now) others c.front.result.now c.in-Err.refusal front c.in-Err.ensures in
          c.in-Ok-read_on.ensures.more c.args.earlier.now held0 rest0 c.args.earlier.now.place ((unit_head c.args.earlier.now) >>= others) f.0 (c.loop-info.invariant.begun others held0 rest0 b) f.2 (ap (λ (r : Refusal). is_truncated r.reason) (sym f.1) ∙ cut) f.1 c.loop-info.invariant.total;
      total = omega (arith, c.loop-info.invariant.total, c.read_on.ensures.room);
      few = got_most 4108 c.read_on.ensures.got c.loop-info.invariant.few (omega (arith, short));
      steady = cc (c.in-Ok-read_on.ensures.cause, c.loop-info.invariant.steady);
    }

pub loop-info-smaller : goal.loop-info-smaller
loop-info-smaller g c =
    let held = c.loop-info.window.held in
    let front : c.front.result.now ≡ take (min (length held) 13) held = c.front.ensures.value ∙ ap (λ n. take n held) (c.min-count.ensures ∙ ap (λ n. min n 13) c.len.ensures) in
    omega (arith, c.in-Ok-read_on.ensures.longer, head_few c.args.earlier.now.place held (unit_head c.args.earlier.now) c.front.result.now c.in-Err.refusal front c.in-Err.ensures (sym c.is_truncated.ensures ∙ c.if-not-is_truncated.false))

pub returns-in-Err-read_on-clause-part : goal.returns-in-Err-read_on-clause-part
returns-in-Err-read_on-clause-part g c = λ others held0 rest0 b.
    let held = c.loop-info.window.held in
    let front : c.front.result.now ≡ take (min (length held) 13) held = c.front.ensures.value ∙ ap (λ n. take n held) (c.min-count.ensures ∙ ap (λ n. min n 13) c.len.ensures) in
    let f = head_fault units_table c.args.earlier.now.place held (unit_head c.args.earlier.now) others c.front.result.now c.in-Err.refusal front c.in-Err.ensures in
    c.in-Err-read_on.ensures.more c.args.earlier.now held0 rest0 c.args.earlier.now.place ((unit_head c.args.earlier.now) >>= others) f.0 (c.loop-info.invariant.begun others held0 rest0 b) f.2 (ap (λ (r : Refusal). is_truncated r.reason) (sym f.1) ∙ sym c.is_truncated.ensures ∙ c.if-not-is_truncated.false) f.1 c.loop-info.invariant.total

pub returns-in-Ok-clause-held : goal.returns-in-Ok-clause-held
returns-in-Ok-clause-held g c = drop_most 13 8192 c.loop-info.window.held c.advance.new.self.held c.advance.ensures.held (omega (arith, c.loop-info.invariant.few))

pub returns-in-Err-read_on-clause-held : goal.returns-in-Err-read_on-clause-held
returns-in-Err-read_on-clause-held g c =
    let held = c.loop-info.window.held in
    let front : c.front.result.now ≡ take (min (length held) 13) held = c.front.ensures.value ∙ ap (λ n. take n held) (c.min-count.ensures ∙ ap (λ n. min n 13) c.len.ensures) in
    let short = head_few c.args.earlier.now.place held (unit_head c.args.earlier.now) c.front.result.now c.in-Err.refusal front c.in-Err.ensures (sym c.is_truncated.ensures ∙ c.if-not-is_truncated.false) in
    got_most 8192 c.read_on.ensures.got (omega (arith, c.loop-info.invariant.few)) (omega (arith, short))

pub loop-info-init : goal.loop-info-init
loop-info-init g c = grind (arith, common_steps)

pub advance-requires : goal.advance-requires
advance-requires g c = grind (arith, common_steps)

pub returns-in-Err-read_on-clause-cause : goal.returns-in-Err-read_on-clause-cause
returns-in-Err-read_on-clause-cause g c = grind (arith, common_steps)
