use Rattle.std.proofs.Common.{refl}
use Rattle.std.proofs.lemmas.Result.{err_from_is_err_and}
use Rattle.sequence_header.proofs.Whole.{passed_whole, version_fails, size_fails, sampling_fails, scan_fails, rate_fails, signal_fails, coding_fails}
use Rattle.sequence_header.proofs.Groups.{aspect_passing, clean_passing, colour_passing}
use Rattle.sequence_header.proofs.header.SequenceHeader.check.Goals as goal

pub returns-in_err-check_version : goal.returns-in_err-check_version
returns-in_err-check_version c =
    let p = err_from_is_err_and c.from_residual.result c.from_residual.ensures.1 in
    rw (p.1, p.2) (version_fails c.args.parts _ c.in_err-check_version.ensures)

pub returns-in_err-check_size : goal.returns-in_err-check_size
returns-in_err-check_size c =
    let p = err_from_is_err_and c.from_residual-in_err-check_size.result c.from_residual-in_err-check_size.ensures.1 in
    rw (p.1, p.2) (size_fails c.args.parts _ c.in_ok-check_version.ensures c.in_err-check_size.ensures)

pub returns-in_err-check_sampling : goal.returns-in_err-check_sampling
returns-in_err-check_sampling c =
    let p = err_from_is_err_and c.from_residual-in_err-check_sampling.result c.from_residual-in_err-check_sampling.ensures.1 in
    rw (p.1, p.2) (sampling_fails c.args.parts _ c.in_ok-check_version.ensures c.in_ok-check_size.ensures c.in_err-check_sampling.ensures)

pub returns-in_err-check_scan : goal.returns-in_err-check_scan
returns-in_err-check_scan c =
    let p = err_from_is_err_and c.from_residual-in_err-check_scan.result c.from_residual-in_err-check_scan.ensures.1 in
    rw (p.1, p.2) (scan_fails c.args.parts _ c.in_ok-check_version.ensures c.in_ok-check_size.ensures c.in_ok-check_sampling.ensures c.in_err-check_scan.ensures)

pub returns-in_err-check_rate : goal.returns-in_err-check_rate
returns-in_err-check_rate c =
    let p = err_from_is_err_and c.from_residual-in_err-check_rate.result c.from_residual-in_err-check_rate.ensures.1 in
    rw (p.1, p.2) (rate_fails c.args.parts _ c.in_ok-check_version.ensures c.in_ok-check_size.ensures c.in_ok-check_sampling.ensures c.in_ok-check_scan.ensures c.in_err-check_rate.ensures)

pub returns-in_err-check_signal : goal.returns-in_err-check_signal
returns-in_err-check_signal c =
    let p = err_from_is_err_and c.from_residual-in_err-check_signal.result c.from_residual-in_err-check_signal.ensures.1 in
    rw (p.1, p.2) (signal_fails c.args.parts _ c.in_ok-check_version.ensures c.in_ok-check_size.ensures c.in_ok-check_sampling.ensures c.in_ok-check_scan.ensures c.in_ok-check_rate.ensures
    (aspect_passing c.args.parts.aspect c.requires.aspect) (clean_passing c.args.parts.clean) c.in_err-check_signal.ensures)

pub returns-in_err-check_coding : goal.returns-in_err-check_coding
returns-in_err-check_coding c =
    let p = err_from_is_err_and c.from_residual-in_err-check_coding.result c.from_residual-in_err-check_coding.ensures.1 in
    rw (p.1, p.2) (coding_fails c.args.parts _ c.in_ok-check_version.ensures c.in_ok-check_size.ensures c.in_ok-check_sampling.ensures c.in_ok-check_scan.ensures c.in_ok-check_rate.ensures
    (aspect_passing c.args.parts.aspect c.requires.aspect) (clean_passing c.args.parts.clean) c.in_ok-check_signal.ensures (colour_passing c.args.parts.colour c.requires.colour) c.in_err-check_coding.ensures)

pub invariant_of-result : goal.invariant_of-result
invariant_of-result c = record {
  version = c.in_ok-check_version.ensures;
  size = c.in_ok-check_size.ensures;
  sampling = c.in_ok-check_sampling.ensures;
  scan = c.in_ok-check_scan.ensures;
  rate = c.in_ok-check_rate.ensures;
  aspect = aspect_passing c.args.parts.aspect c.requires.aspect;
  clean = clean_passing c.args.parts.clean;
  signal = c.in_ok-check_signal.ensures;
  colour = colour_passing c.args.parts.colour c.requires.colour;
  coding = c.in_ok-check_coding.ensures;
}

pub returns : goal.returns
returns c = (refl, passed_whole c.args.parts (invariant_of-result c))
