-- The replies of `cut`.
use Rattle.std.proofs.Common.{◌≡◌, ℕ, List, [], ◌++◌, Ok, sym, ap, subst, ◌∙◌, append-nil}
use Rattle.run_theory.specs.Walk.{Answer}
use Rattle.stream_rows.specs.Refusals.{Refusal}
use Rattle.stream_rows.specs.Units.{Past, nothing_yet}
use Rattle.stream_rows.specs.Streams.{refusal_of}
use Rattle.stream_cut.specs.Cut.{CutEnd, Piece, cut_front}
use Rattle.stream_cut.specs.Cut as cutter
use Rattle.stream_cut.specs.CutLaws.{StandWithin, piece_bytes}
use Rattle.channel_schedule.proofs.Unique.{plan_found}
use Rattle.stream_cut.proofs.CutStreams.{cuts_to_streams}
use Rattle.stream_cut.proofs.Running.{cuts_by_running}
use Rattle.stream_cut.proofs.Bridge.{pieces_stand_within, has_pieces_before}
use Rattle.vc2_words.specs.declared.settings.CutSettings.{CutSettings}
use Rattle.vc2_cli.specs.Cut.{ending_of, frames_asked}
use Rattle.vc2_cli.specs.Mapped.{answer_told}
use Rattle.vc2_words.specs.Commands.{cut}
use Rattle.vc2_cli.specs.Reply.{reply_of, command_reply}
use Rattle.vc2_cli.specs.StreamReplies.{AreBytes, refused_reply}
use Rattle.vc2_cli.specs.CutReplies.{HasCutReply, IsCutWhole, IsCutRefused, cut_reply}
use Rattle.vc2_cli.specs.CutLines.{shapes_cut, CutLinesAreLeast}
use Rattle.vc2_cli.proofs.Mapped.{told_answer}

pub are_cut : (c : CutSettings) (pieces : List Piece) (tail : List ℕ) (left : Past) → StandWithin nothing_yet pieces tail left → HasCutReply c pieces tail left
are_cut c pieces tail left stand =
    let frames = frames_asked c in
    let runs = cuts_by_running frames pieces tail left stand in
    let bytes = piece_bytes pieces ++ tail in
    let told = ap (reply_of []) (told_answer (ending_of c.rate c.idle) (cutter.cut_machine frames) bytes) in
    let reply = λ (a : Answer CutEnd). reply_of [] (answer_told (ending_of c.rate c.idle) a) in
    record {
      stream = λ unit front. told ∙ ap reply (runs.whole unit front);
      refusal = λ fault front. told ∙ ap reply (runs.refused fault front)
          ∙ ap (λ l. refused_reply l (refusal_of fault)) (append-nil (cut_front frames pieces));
    }

pub is_cut_whole : (c : CutSettings) (bytes : List ℕ) → IsCutWhole c bytes
is_cut_whole c bytes es last s units =
    let w = units.stream in
    let stand = pieces_stand_within bytes es last s units in
    subst (λ (l : List ℕ). command_reply (Ok (cut c)) l ≡ cut_reply c units.pieces) (sym w.parts)
    ((are_cut c units.pieces units.last_piece.bytes w.left stand.0).stream units.last_piece.unit stand.1)

pub is_cut_refused : (c : CutSettings) (bytes : List ℕ) → AreBytes bytes → IsCutRefused c bytes
is_cut_refused c bytes fits refusal r =
    let h = has_pieces_before bytes r.units r.fault fits r.is in
    let front = λ (x : Refusal). refused_reply (cut_front (frames_asked c) h.pieces) x in (
      h,
      subst (λ (l : List ℕ). command_reply (Ok (cut c)) l ≡ front (refusal_of r.fault)) (sym h.parts) ((are_cut c h.pieces h.tail h.left h.units).refusal r.fault h.refused) ∙ ap front (sym r.there),
    )

pub cut_lines_are_least : (c : CutSettings) (bytes : List ℕ) → CutLinesAreLeast c bytes
cut_lines_are_least c bytes es last fits rate s =
    let k = cuts_to_streams (frames_asked c) bytes es last fits s in
    record {
      units = k.units;
      reply = is_cut_whole c bytes es last s k.units;
      plan = plan_found (shapes_cut c k.units.pieces) c.rate c.idle rate k.in_turn;
    }
