use Rattle.std.proofs.Common.{◌∙◌, inl, inr, Ok, Err, drop, refl, sym, ap}
use Rattle.std.proofs.lemmas.List.{take_rest}
use Rattle.std.proofs.lemmas.Result.{err_from_is_err_and}
use Rattle.parse_info.specs.declared.Code.TheVariants.{SequenceHeader, EndOfSequence, Auxiliary, Padding, LowDelayPicture}
use Rattle.stream_cut.specs.declared.opening.Opening.TheVariants as openings
use Rattle.stream_cut.specs.Opening.{OpensSkipped, OpensEnd, open_payload_of}
use Rattle.stream_cut.proofs.OpeningReads.{behind_head, head_refused, of_none, of_code, told_alone}
use Rattle.stream_cut.proofs.opening.read_opening.Goals as goal

pub returns-in_err-info : goal.returns-in_err-info
returns-in_err-info c =
    let p = err_from_is_err_and c.from_residual.result c.from_residual.ensures.1 in
    head_refused c.args.earlier.now c.args.bytes.now c.in_err-info.field-0.0 c.from_residual.result c.in_err-info.ensures (p.1 ∙ ap Err p.2)

pub returns-in_default : goal.returns-in_default
returns-in_default c =
    behind_head c.args.earlier.now c.in_ok-info.info c.args.bytes.now _ _ c.open_first.result c.in_ok-info.ensures.0 (take_rest c.args.bytes.now 13) c.in_ok-info.ensures.1 (of_none c.args.earlier.now c.in_ok-info.info (c.in_default.ensures.none.0 refl))
    (c.open_first.ensures c.args.earlier.now (sym c.place-place.ensures.value))

pub returns-in-SequenceHeader : goal.returns-in-SequenceHeader
unfolding open_payload_of
returns-in-SequenceHeader c =
    behind_head c.args.earlier.now c.in_ok-info.info c.args.bytes.now _ _ c.open_repeated.result c.in_ok-info.ensures.0 (take_rest c.args.bytes.now 13) c.in_ok-info.ensures.1 (of_code c.args.earlier.now c.in-Some.first.now c.in_ok-info.info SequenceHeader c.in-Some.ensures.some c.in-SequenceHeader.is)
    (c.open_repeated.ensures c.args.earlier.now (sym c.place-place.ensures.value))

pub returns-in-LowDelayPicture : goal.returns-in-LowDelayPicture
unfolding open_payload_of
returns-in-LowDelayPicture c =
    behind_head c.args.earlier.now c.in_ok-info.info c.args.bytes.now _ _ c.open_picture.result c.in_ok-info.ensures.0 (take_rest c.args.bytes.now 13) c.in_ok-info.ensures.1 (of_code c.args.earlier.now c.in-Some.first.now c.in_ok-info.info LowDelayPicture c.in-Some.ensures.some c.in-LowDelayPicture.is)
    c.open_picture.ensures

pub returns-in-Auxiliary : goal.returns-in-Auxiliary
unfolding open_payload_of
returns-in-Auxiliary c = elim c.in-Auxiliary.is [
  | inl e ↦ behind_head c.args.earlier.now c.in_ok-info.info c.args.bytes.now (drop 13 c.args.bytes.now) _ (Ok (openings.Skipped c.in_ok-info.info.next, 13)) c.in_ok-info.ensures.0 refl c.in_ok-info.ensures.1 (of_code c.args.earlier.now c.in-Some.first.now c.in_ok-info.info Auxiliary c.in-Some.ensures.some e) (told_alone c.args.earlier.now (OpensSkipped c.in_ok-info.info.next) (openings.Skipped c.in_ok-info.info.next) (drop 13 c.args.bytes.now) (refl, refl))
  | inr e ↦ behind_head c.args.earlier.now c.in_ok-info.info c.args.bytes.now (drop 13 c.args.bytes.now) _ (Ok (openings.Skipped c.in_ok-info.info.next, 13)) c.in_ok-info.ensures.0 refl c.in_ok-info.ensures.1 (of_code c.args.earlier.now c.in-Some.first.now c.in_ok-info.info Padding c.in-Some.ensures.some e) (told_alone c.args.earlier.now (OpensSkipped c.in_ok-info.info.next) (openings.Skipped c.in_ok-info.info.next) (drop 13 c.args.bytes.now) (refl, refl))
]

pub returns-in-EndOfSequence : goal.returns-in-EndOfSequence
unfolding open_payload_of
returns-in-EndOfSequence c =
    behind_head c.args.earlier.now c.in_ok-info.info c.args.bytes.now (drop 13 c.args.bytes.now) _ (Ok (openings.End, 13)) c.in_ok-info.ensures.0 refl c.in_ok-info.ensures.1 (of_code c.args.earlier.now c.in-Some.first.now c.in_ok-info.info EndOfSequence c.in-Some.ensures.some c.in-EndOfSequence.is)
    (told_alone c.args.earlier.now OpensEnd openings.End (drop 13 c.args.bytes.now) refl)
