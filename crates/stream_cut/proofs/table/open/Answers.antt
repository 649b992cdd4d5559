use Rattle.std.proofs.Common.{◌≡◌, ◌∙◌, true, false, sym, ap, arith}
use Rattle.std.proofs.lemmas.List.{take_all}
use Rattle.std.proofs.lemmas.Grind.{common_steps}
use Rattle.stream_rows.specs.Units.{is_truncated}
use Rattle.unit_reader.proofs.Gets.{got_most}
use Rattle.unit_reader.proofs.Stopping.{stops_told}
use Rattle.stream_cut.specs.SkimGrammar.{skimmed_laws}
use Rattle.stream_cut.proofs.OpenTurns.{unit_refused, short_few}
use Rattle.stream_cut.proofs.table.open.Goals as goal

pub returns-then-not-is_truncated-clause-unit : goal.returns-then-not-is_truncated-clause-unit
returns-then-not-is_truncated-clause-unit g c = λ held0 rest0 b.
    let f = c.in-Err.ensures in
    let all = c.front.ensures.value ∙ take_all c.len-held.result c.loop-read.window.held (omega (arith, c.len-held.ensures)) in
    let told = f.1 in
    let other : is_truncated c.in-Err.refusal.reason ≡ false = sym c.is_truncated.ensures ∙ cc in
    stops_told skimmed_laws f.0 c.loop-read.window.room c.in-Err.refusal (c.loop-read.invariant.begun held0 rest0 b) (unit_refused c.args.earlier.now c.loop-read.window.held c.front.result.now f.0 all f.2)
    (ap (λ r. is_truncated r.reason) (sym told) ∙ other) told (omega (arith, c.loop-read.invariant.room, c.requires.place))

pub loop-read-preserved : goal.loop-read-preserved
loop-read-preserved g c =
    let f = c.in-Err.ensures in
    let all = c.front.ensures.value ∙ take_all c.len-held.result c.loop-read.window.held (omega (arith, c.len-held.ensures)) in
    let told = f.1 in
    let cut : is_truncated f.0.reason ≡ true = ap (λ r. is_truncated r.reason) (sym told) ∙ sym c.is_truncated.ensures ∙ c.if-not-is_truncated.false in
    record {
      begun = λ held0 rest0 b.
          c.in-Ok-read_on.ensures.more c.args.earlier.now held0 rest0 c.args.earlier.now.place _ f.0 (c.loop-read.invariant.begun held0 rest0 b) (unit_refused c.args.earlier.now c.loop-read.window.held c.front.result.now f.0 all f.2) cut told
          (omega (arith, c.loop-read.invariant.room, c.requires.place));
      room = omega (arith, c.loop-read.invariant.room, c.read_on.ensures.room);
      few = got_most 8192 c.read_on.ensures.got c.loop-read.invariant.few (omega (arith, short_few f.0.reason c.loop-read.window.held c.front.result.now 620 cut all f.3));
      steady = cc (c.in-Ok-read_on.ensures.cause, c.loop-read.invariant.steady);
    }

pub returns-in-Err-read_on-clause-unit : goal.returns-in-Err-read_on-clause-unit
returns-in-Err-read_on-clause-unit g c = λ held0 rest0 b.
    let f = c.in-Err.ensures in
    let all = c.front.ensures.value ∙ take_all c.len-held.result c.loop-read.window.held (omega (arith, c.len-held.ensures)) in
    let told = f.1 in
    let cut : is_truncated f.0.reason ≡ true = ap (λ r. is_truncated r.reason) (sym told) ∙ sym c.is_truncated.ensures ∙ c.if-not-is_truncated.false in
    c.in-Err-read_on.ensures.more c.args.earlier.now held0 rest0 c.args.earlier.now.place _ f.0 (c.loop-read.invariant.begun held0 rest0 b) (unit_refused c.args.earlier.now c.loop-read.window.held c.front.result.now f.0 all f.2) cut told
    (omega (arith, c.loop-read.invariant.room, c.requires.place))

pub loop-read-smaller : goal.loop-read-smaller
loop-read-smaller g c =
    let f = c.in-Err.ensures in
    let all = c.front.ensures.value ∙ take_all c.len-held.result c.loop-read.window.held (omega (arith, c.len-held.ensures)) in
    let told = f.1 in
    let cut : is_truncated f.0.reason ≡ true = ap (λ r. is_truncated r.reason) (sym told) ∙ sym c.is_truncated.ensures ∙ c.if-not-is_truncated.false in
    omega (arith, short_few f.0.reason c.loop-read.window.held c.front.result.now 620 cut all f.3, c.in-Ok-read_on.ensures.longer)

pub returns-in-Ok-clause-unit : goal.returns-in-Ok-clause-unit
returns-in-Ok-clause-unit g c = grind (arith, common_steps)

pub returns-in-Ok-clause-opened : goal.returns-in-Ok-clause-opened
returns-in-Ok-clause-opened g c = grind (arith, common_steps)
