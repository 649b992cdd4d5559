use Rattle.std.proofs.lemmas.Result.{err_from_is_err_and}
use Rattle.field_rows.proofs.Reading.{then_ok, then_err, read-done}
use Rattle.sequence_header.specs.Header.{header_fields}
use Rattle.sequence_header.proofs.reading.header.Goals as goal

pub returns-in_err-version-clause-read : goal.returns-in_err-version-clause-read
unfolding header_fields
returns-in_err-version-clause-read c =
    let p = err_from_is_err_and c.from_residual.result c.from_residual.ensures.1 in
    rw (p.1, p.2) (then_err _ _ _ _ _ c.in_err-version.ensures.read)

pub returns-in_err-version-clause-passes : goal.returns-in_err-version-clause-passes
returns-in_err-version-clause-passes c =
    let p = err_from_is_err_and c.from_residual.result c.from_residual.ensures.1 in
    rw p.1 tt

pub returns-in_err-size-clause-read : goal.returns-in_err-size-clause-read
unfolding header_fields
returns-in_err-size-clause-read c =
    let p = err_from_is_err_and c.from_residual-in_err-size.result c.from_residual-in_err-size.ensures.1 in
    rw (p.1, p.2) (then_ok _ _ _ _ _ _ _ c.in_ok-version.ensures.read (then_err _ _ _ _ _ c.in_err-size.ensures.read))

pub returns-in_err-size-clause-passes : goal.returns-in_err-size-clause-passes
returns-in_err-size-clause-passes c =
    let p = err_from_is_err_and c.from_residual-in_err-size.result c.from_residual-in_err-size.ensures.1 in
    rw p.1 tt

pub returns-in_err-sampling-clause-read : goal.returns-in_err-sampling-clause-read
unfolding header_fields
returns-in_err-sampling-clause-read c =
    let p = err_from_is_err_and c.from_residual-in_err-sampling.result c.from_residual-in_err-sampling.ensures.1 in
    rw (p.1, p.2) (then_ok _ _ _ _ _ _ _ c.in_ok-version.ensures.read (then_ok _ _ _ _ _ _ _ c.in_ok-size.ensures.read (then_err _ _ _ _ _ c.in_err-sampling.ensures.read)))

pub returns-in_err-sampling-clause-passes : goal.returns-in_err-sampling-clause-passes
returns-in_err-sampling-clause-passes c =
    let p = err_from_is_err_and c.from_residual-in_err-sampling.result c.from_residual-in_err-sampling.ensures.1 in
    rw p.1 tt

pub returns-in_err-scan-clause-read : goal.returns-in_err-scan-clause-read
unfolding header_fields
returns-in_err-scan-clause-read c =
    let p = err_from_is_err_and c.from_residual-in_err-scan.result c.from_residual-in_err-scan.ensures.1 in
    rw (p.1, p.2) (then_ok _ _ _ _ _ _ _ c.in_ok-version.ensures.read (then_ok _ _ _ _ _ _ _ c.in_ok-size.ensures.read (then_ok _ _ _ _ _ _ _ c.in_ok-sampling.ensures.read (then_err _ _ _ _ _ c.in_err-scan.ensures.read))))

pub returns-in_err-scan-clause-passes : goal.returns-in_err-scan-clause-passes
returns-in_err-scan-clause-passes c =
    let p = err_from_is_err_and c.from_residual-in_err-scan.result c.from_residual-in_err-scan.ensures.1 in
    rw p.1 tt

pub returns-in_err-rate-clause-read : goal.returns-in_err-rate-clause-read
unfolding header_fields
returns-in_err-rate-clause-read c =
    let p = err_from_is_err_and c.from_residual-in_err-rate.result c.from_residual-in_err-rate.ensures.1 in
    rw (p.1, p.2) (then_ok _ _ _ _ _ _ _ c.in_ok-version.ensures.read (then_ok _ _ _ _ _ _ _ c.in_ok-size.ensures.read (then_ok _ _ _ _ _ _ _ c.in_ok-sampling.ensures.read (then_ok _ _ _ _ _ _ _ c.in_ok-scan.ensures.read (then_err _ _ _ _ _ c.in_err-rate.ensures.read)))))

pub returns-in_err-rate-clause-passes : goal.returns-in_err-rate-clause-passes
returns-in_err-rate-clause-passes c =
    let p = err_from_is_err_and c.from_residual-in_err-rate.result c.from_residual-in_err-rate.ensures.1 in
    rw p.1 tt

pub returns-in_err-aspect-clause-read : goal.returns-in_err-aspect-clause-read
unfolding header_fields
returns-in_err-aspect-clause-read c =
    let p = err_from_is_err_and c.from_residual-in_err-aspect.result c.from_residual-in_err-aspect.ensures.1 in
    rw (p.1, p.2) (then_ok _ _ _ _ _ _ _ c.in_ok-version.ensures.read (then_ok _ _ _ _ _ _ _ c.in_ok-size.ensures.read (then_ok _ _ _ _ _ _ _ c.in_ok-sampling.ensures.read (then_ok _ _ _ _ _ _ _ c.in_ok-scan.ensures.read (then_ok _ _ _ _ _ _ _ c.in_ok-rate.ensures.read (then_err _ _ _ _ _ c.in_err-aspect.ensures.read))))))

pub returns-in_err-aspect-clause-passes : goal.returns-in_err-aspect-clause-passes
returns-in_err-aspect-clause-passes c =
    let p = err_from_is_err_and c.from_residual-in_err-aspect.result c.from_residual-in_err-aspect.ensures.1 in
    rw p.1 tt

pub returns-in_err-clean-clause-read : goal.returns-in_err-clean-clause-read
unfolding header_fields
returns-in_err-clean-clause-read c =
    let p = err_from_is_err_and c.from_residual-in_err-clean.result c.from_residual-in_err-clean.ensures.1 in
    rw (p.1, p.2) (then_ok _ _ _ _ _ _ _ c.in_ok-version.ensures.read (then_ok _ _ _ _ _ _ _ c.in_ok-size.ensures.read (then_ok _ _ _ _ _ _ _ c.in_ok-sampling.ensures.read (then_ok _ _ _ _ _ _ _ c.in_ok-scan.ensures.read (then_ok _ _ _ _ _ _ _ c.in_ok-rate.ensures.read (then_ok _ _ _ _ _ _ _ c.in_ok-aspect.ensures.read (then_err _ _ _ _ _ c.in_err-clean.ensures.read)))))))

pub returns-in_err-clean-clause-passes : goal.returns-in_err-clean-clause-passes
returns-in_err-clean-clause-passes c =
    let p = err_from_is_err_and c.from_residual-in_err-clean.result c.from_residual-in_err-clean.ensures.1 in
    rw p.1 tt

pub returns-in_err-signal-clause-read : goal.returns-in_err-signal-clause-read
unfolding header_fields
returns-in_err-signal-clause-read c =
    let p = err_from_is_err_and c.from_residual-in_err-signal.result c.from_residual-in_err-signal.ensures.1 in
    rw (p.1, p.2) (then_ok _ _ _ _ _ _ _ c.in_ok-version.ensures.read (then_ok _ _ _ _ _ _ _ c.in_ok-size.ensures.read (then_ok _ _ _ _ _ _ _ c.in_ok-sampling.ensures.read (then_ok _ _ _ _ _ _ _ c.in_ok-scan.ensures.read (then_ok _ _ _ _ _ _ _ c.in_ok-rate.ensures.read (then_ok _ _ _ _ _ _ _ c.in_ok-aspect.ensures.read (then_ok _ _ _ _ _ _ _ c.in_ok-clean.ensures.read (then_err _ _ _ _ _ c.in_err-signal.ensures.read))))))))

pub returns-in_err-signal-clause-passes : goal.returns-in_err-signal-clause-passes
returns-in_err-signal-clause-passes c =
    let p = err_from_is_err_and c.from_residual-in_err-signal.result c.from_residual-in_err-signal.ensures.1 in
    rw p.1 tt

pub returns-in_err-colour-clause-read : goal.returns-in_err-colour-clause-read
unfolding header_fields
returns-in_err-colour-clause-read c =
    let p = err_from_is_err_and c.from_residual-in_err-colour.result c.from_residual-in_err-colour.ensures.1 in
    rw (p.1, p.2) (then_ok _ _ _ _ _ _ _ c.in_ok-version.ensures.read (then_ok _ _ _ _ _ _ _ c.in_ok-size.ensures.read (then_ok _ _ _ _ _ _ _ c.in_ok-sampling.ensures.read (then_ok _ _ _ _ _ _ _ c.in_ok-scan.ensures.read (then_ok _ _ _ _ _ _ _ c.in_ok-rate.ensures.read (then_ok _ _ _ _ _ _ _ c.in_ok-aspect.ensures.read (then_ok _ _ _ _ _ _ _ c.in_ok-clean.ensures.read (then_ok _ _ _ _ _ _ _ c.in_ok-signal.ensures.read (then_err _ _ _ _ _ c.in_err-colour.ensures.read)))))))))

pub returns-in_err-colour-clause-passes : goal.returns-in_err-colour-clause-passes
returns-in_err-colour-clause-passes c =
    let p = err_from_is_err_and c.from_residual-in_err-colour.result c.from_residual-in_err-colour.ensures.1 in
    rw p.1 tt

pub returns-in_err-coding-clause-read : goal.returns-in_err-coding-clause-read
unfolding header_fields
returns-in_err-coding-clause-read c =
    let p = err_from_is_err_and c.from_residual-in_err-coding.result c.from_residual-in_err-coding.ensures.1 in
    rw (p.1, p.2) (then_ok _ _ _ _ _ _ _ c.in_ok-version.ensures.read (then_ok _ _ _ _ _ _ _ c.in_ok-size.ensures.read (then_ok _ _ _ _ _ _ _ c.in_ok-sampling.ensures.read (then_ok _ _ _ _ _ _ _ c.in_ok-scan.ensures.read (then_ok _ _ _ _ _ _ _ c.in_ok-rate.ensures.read (then_ok _ _ _ _ _ _ _ c.in_ok-aspect.ensures.read (then_ok _ _ _ _ _ _ _ c.in_ok-clean.ensures.read (then_ok _ _ _ _ _ _ _ c.in_ok-signal.ensures.read (then_ok _ _ _ _ _ _ _ c.in_ok-colour.ensures.read (then_err _ _ _ _ _ c.in_err-coding.ensures.read))))))))))

pub returns-in_err-coding-clause-passes : goal.returns-in_err-coding-clause-passes
returns-in_err-coding-clause-passes c =
    let p = err_from_is_err_and c.from_residual-in_err-coding.result c.from_residual-in_err-coding.ensures.1 in
    rw p.1 tt

pub returns-clause-read : goal.returns-clause-read
unfolding header_fields
returns-clause-read c = then_ok _ _ _ _ _ _ _ c.in_ok-version.ensures.read (then_ok _ _ _ _ _ _ _ c.in_ok-size.ensures.read (then_ok _ _ _ _ _ _ _ c.in_ok-sampling.ensures.read (then_ok _ _ _ _ _ _ _ c.in_ok-scan.ensures.read (then_ok _ _ _ _ _ _ _ c.in_ok-rate.ensures.read (then_ok _ _ _ _ _ _ _ c.in_ok-aspect.ensures.read (then_ok _ _ _ _ _ _ _ c.in_ok-clean.ensures.read (then_ok _ _ _ _ _ _ _ c.in_ok-signal.ensures.read (then_ok _ _ _ _ _ _ _ c.in_ok-colour.ensures.read (then_ok _ _ _ _ _ _ _ c.in_ok-coding.ensures.read (read-done _ _ _))))))))))

pub returns-clause-passes : goal.returns-clause-passes
returns-clause-passes c = record {
  version = c.in_ok-version.ensures.passes;
  size = c.in_ok-size.ensures.passes;
  sampling = c.in_ok-sampling.ensures.passes;
  scan = c.in_ok-scan.ensures.passes;
  rate = c.in_ok-rate.ensures.passes;
  aspect = c.in_ok-aspect.ensures.passes;
  clean = c.in_ok-clean.ensures.passes;
  signal = c.in_ok-signal.ensures.passes;
  colour = c.in_ok-colour.ensures.passes;
  coding = c.in_ok-coding.ensures.passes;
}
