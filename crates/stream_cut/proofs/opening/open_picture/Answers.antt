use Rattle.std.proofs.Common.{◌≡◌, ◌/◌, ◌+◌, Some, None, sym, ap, ◌∙◌, arith}
use Rattle.std.specs.Int.{w32, from_be_bytes}
use Rattle.field_rows.specs.Rows.{first_broken}
use Rattle.run_theory.proofs.Fields.{all_fit}
use Rattle.stream_rows.specs.declared.reason.Reason.TheVariants as reasons
use Rattle.stream_rows.specs.Units.{number_rules}
use Rattle.transform_params.specs.Views.{params_of}
use Rattle.stream_cut.specs.Opening.{OpensPicture}
use Rattle.stream_cut.proofs.OpeningReads.{at_place, number_short, number_broken, params_refused, params_stand}
use Rattle.stream_cut.proofs.opening.open_picture.Goals as goal

pub returns-in_default : goal.returns-in_default
returns-in_default c = number_short c.args.earlier.now c.args.next c.args.first.now.parts c.args.bytes.now c.refused.result c.in_default.ensures.cases (at_place (λ p. p + 13) c.place-place.result c.args.earlier.now.place reasons.Truncated c.refused.result c.place-place.ensures.value c.refused.ensures)

pub returns-in-Some-broken_number : goal.returns-in-Some-broken_number
returns-in-Some-broken_number c =
    let word = c.in-Some.word.now in
    let n : c.from_be_bytes-number.result ≡ from_be_bytes w32 word = c.from_be_bytes-number.ensures in
    let broken : first_broken (number_rules c.args.earlier.now (from_be_bytes w32 word)) ≡ Some c.in-Some-broken_number.reason = ap (λ m. first_broken (number_rules c.args.earlier.now m)) (sym n) ∙ sym c.broken_number.ensures ∙ c.in-Some-broken_number.is in
    number_broken c.args.earlier.now c.args.next c.args.first.now.parts c.args.bytes.now word c.in-Some-broken_number.reason c.refused-in-Some-broken_number.result (all_fit c.args.bytes.now (λ i. omega (arith, c.type_inv.bytes i)))
    (omega (arith, c.in-Some.ensures.cases.2)) c.in-Some.ensures.cases.0 broken
    (at_place (λ p. p + 13) c.place-place.result c.args.earlier.now.place c.in-Some-broken_number.reason c.refused-in-Some-broken_number.result c.place-place.ensures.value c.refused-in-Some-broken_number.ensures)

pub returns-in-Err : goal.returns-in-Err
returns-in-Err c =
    let word = c.in-Some.word.now in
    let n : c.from_be_bytes-number.result ≡ from_be_bytes w32 word = c.from_be_bytes-number.ensures in
    let holds : first_broken (number_rules c.args.earlier.now (from_be_bytes w32 word)) ≡ None = ap (λ m. first_broken (number_rules c.args.earlier.now m)) (sym n) ∙ sym c.broken_number.ensures ∙ c.in_default-broken_number.is in
    params_refused c.args.earlier.now c.args.next c.args.first.now.parts c.args.bytes.now word c.in-Some.behind.now (all_fit c.args.bytes.now (λ i. omega (arith, c.type_inv.bytes i))) (omega (arith, c.in-Some.ensures.cases.2)) c.in-Some.ensures.cases.0 c.in-Some.ensures.cases.1 holds
    c.in-Err.fault.bit c.in-Err.fault.reason c.transform_reason.result c.refused-in-Err.result c.in-Err.ensures.exact c.transform_reason.ensures
    (at_place (λ p. p + 17 + c.in-Err.fault.bit / 8) c.place-place.result c.args.earlier.now.place c.transform_reason.result c.refused-in-Err.result c.place-place.ensures.value c.refused-in-Err.ensures)

pub returns : goal.returns
returns c =
    let word = c.in-Some.word.now in
    let n : c.from_be_bytes-number.result ≡ from_be_bytes w32 word = c.from_be_bytes-number.ensures in
    let holds : first_broken (number_rules c.args.earlier.now (from_be_bytes w32 word)) ≡ None = ap (λ m. first_broken (number_rules c.args.earlier.now m)) (sym n) ∙ sym c.broken_number.ensures ∙ c.in_default-broken_number.is in
    let s = params_stand c.args.earlier.now c.args.next c.args.first.now.parts c.args.bytes.now word c.in-Some.behind.now (all_fit c.args.bytes.now (λ i. omega (arith, c.type_inv.bytes i))) (omega (arith, c.in-Some.ensures.cases.2)) c.in-Some.ensures.cases.0 c.in-Some.ensures.cases.1 holds
    (params_of c.in-Ok.read.0) c.in-Ok.read.1 c.in-Ok.ensures.exact.0 c.in-Ok.ensures.exact.1 in
    (OpensPicture c.args.first.now.parts (from_be_bytes w32 word) (params_of c.in-Ok.read.0) c.args.next, s.0, (c.args.first.now, c.requires.first, ap (λ m. OpensPicture c.args.first.now.parts m (params_of c.in-Ok.read.0) c.args.next) (sym n)), s.1, s.2, s.3, s.4)
