-- The replies of `frames` to streams and refusals.
use Rattle.std.proofs.Common.{◌≡◌, ℕ, ◌+◌, Bool, true, false, Option, Some, None, List, [], ◌∷◌, ◌++◌, length, map, refl, sym, ap, subst, ◌∙◌, arith, append-nil}
use Rattle.slice_geometry.specs.Frames.{Frame}
use Rattle.sequence_header.specs.declared.parts.HeaderParts.{HeaderParts}
use Rattle.picture_codec.specs.Samples.{PictureSamples, picture_of}
use Rattle.raw_video.specs.RawText.{raw_text}
use Rattle.run_theory.specs.Walk.{answer_to}
use Rattle.stream_rows.specs.Refusals.{Refusal}
use Rattle.stream_rows.specs.Units.{Past, First, nothing_yet, DataUnit, Sequence, Repeated, Picture, Skipped, End, unit_rows, after}
use Rattle.stream_rows.specs.Streams.{Entry, IsStream, IsRefusal, frame_under}
use Rattle.stream_rows.proofs.Tables.{stream_table}
use Rattle.stream_rows.proofs.Answering.{IsPlain, texts, own_behind, answer_stream, answer_refusal}
use Rattle.stream_rows.proofs.Made.{AreSuch}
use Rattle.field_weave.specs.declared.Order.{Order}
use Rattle.field_weave.specs.Weaving.{frame_of_two, woven_frame}
use Rattle.vc2_cli.specs.declared.status.Note.TheVariants.{Framed}
use Rattle.vc2_cli.specs.declared.status.Ending.TheVariants.{Done, Refused}
use Rattle.vc2_cli.specs.Frames.{FramesSoFar, are_fields, no_frames, frames_more, frame_text, frames_after, frames_text, framing, frames_machine}
use Rattle.vc2_cli.specs.Reply.{reply_of}
use Rattle.vc2_cli.specs.StreamReplies.{AreBytes, raw_texts_of, refused_reply}
use Rattle.vc2_cli.specs.Weave.{order_of}
use Rattle.vc2_cli.specs.FrameReplies.{sequence_pictures, frames_in, stream_frames, frames_between, framed_reply, IsFramed}
use Rattle.vc2_cli.proofs.PicturesUnder.{IsUnder, stream_under, refusal_under}

abbrev units_of : List Entry → List DataUnit
units_of es = map (λ e. e.unit) es

module _ (order : Order) where
  abbrev plain : IsPlain (framing order)
  plain = record { text = frames_text; is_text = λ z own unit bytes. refl; step = frames_after; is_step = λ z own unit bytes. refl }

  abbrev left_of : ℕ → Option PictureSamples → FramesSoFar
  left_of n first = record { order = order; frames = n; first = first }

  -- ---- the frames that are due behind what units leave

  -- the field that waits for its second one
  abbrev waiting : Option PictureSamples → (fields : Bool) → List PictureSamples
  waiting None fields = []
  waiting (Some p) true = p ∷ []
  waiting (Some p) false = []

  -- those of the sequence that isn't over, of which these pictures follow
  abbrev going : Option First → Option PictureSamples → List PictureSamples → List (Frame × PictureSamples)
  going None first pictures = []
  going (Some s) first pictures =
      let fields = are_fields s.parts in
      frames_in order (frame_under s.parts) fields (waiting first fields ++ pictures)

  abbrev due : Option First → Option PictureSamples → List DataUnit → List (Frame × PictureSamples)
  due sequence first us = going sequence first (sequence_pictures us) ++ stream_frames order us

  -- a sequence that ends leaves half a frame out
  half_left : (f : Frame) (first : Option PictureSamples) (fields : Bool) → frames_in order f fields (waiting first fields ++ []) ≡ []
  half_left f None true = refl
  half_left f None false = refl
  half_left f (Some p) true = refl
  half_left f (Some p) false = refl

  ended : (sequence : Option First) (first : Option PictureSamples) → going sequence first [] ≡ []
  ended None first = refl
  ended (Some s) first = half_left (frame_under s.parts) first (are_fields s.parts)

  -- ---- what units write

  -- the units write this text and then these frames, and so many are counted behind them
  abbrev Write : (text : List ℕ) → FramesSoFar → List Entry → ℕ → List (Frame × PictureSamples) → Type 0
  Write text own es n fs = (text ++ texts frames_text frames_after own es ≡ raw_texts_of fs) × ((own_behind frames_after own es).frames ≡ n + length fs)

  -- a picture of a sequence whose pictures have this frame
  picture_writes : (f : Frame) (p : PictureSamples) (es : List Entry) (pictures : List PictureSamples) (others : List (Frame × PictureSamples)) (n : ℕ) (first : Option PictureSamples) (fields : Bool)
      → ((m : ℕ) (left : Option PictureSamples) → Write [] (left_of m left) es m (frames_in order f fields (waiting left fields ++ pictures) ++ others))
      → Write (frame_text order f fields p first) (frames_more (left_of n first) fields p first) es n (frames_in order f fields (waiting first fields ++ p ∷ pictures) ++ others)
  picture_writes f p es pictures others n None false go = (ap (λ l. raw_text f p ++ l) (go (n + 1) None).0, (go (n + 1) None).1 ∙ omega arith)
  picture_writes f p es pictures others n (Some q) false go = (ap (λ l. raw_text f p ++ l) (go (n + 1) (Some q)).0, (go (n + 1) (Some q)).1 ∙ omega arith)
  picture_writes f p es pictures others n None true go = go n (Some p)
  picture_writes f p es pictures others n (Some q) true go = (ap (λ l. raw_text (frame_of_two f) (woven_frame order f q p) ++ l) (go (n + 1) None).0, (go (n + 1) None).1 ∙ omega arith)

  -- a unit, where the others write what is due behind it
  unit_writes : (z : Past) (unit : DataUnit) (bytes : List ℕ) (es : List Entry) (n : ℕ) (first : Option PictureSamples) → IsUnder z unit
      → ((m : ℕ) (left : Option PictureSamples) → Write [] (left_of m left) es m (due (after z unit bytes).first left (units_of es)))
      → Write (frames_text (left_of n first) unit) (frames_after (left_of n first) unit) es n (due z.first first (unit ∷ units_of es))
  unit_writes z (Sequence parts) bytes es n first u go =
      subst (λ (l : List (Frame × PictureSamples)). Write [] (left_of n None) es n (l ++ stream_frames order (Sequence parts ∷ units_of es))) (sym (ended z.first first)) (go n None)
  unit_writes z Repeated bytes es n first u go = go n first
  unit_writes z Skipped bytes es n first u go = go n first
  unit_writes z End bytes es n first u go =
      subst (λ (l : List (Frame × PictureSamples)). Write [] (left_of n first) es n (l ++ stream_frames order (units_of es))) (sym (ended z.first first)) (go n first)
  unit_writes z (Picture parts number params slices) bytes es n first u go =
      let pictures = sequence_pictures (units_of es) in
      let others = stream_frames order (units_of es) in
      let s = u.0 in
      let here = picture_writes (frame_under s.parts) (picture_of (frame_under s.parts) params slices) es pictures others n first (are_fields s.parts)
      (λ m left. subst (λ (x : Option First). Write [] (left_of m left) es m (going x left pictures ++ others)) u.1 (go m left)) in
      subst (λ (x : HeaderParts). let unit = Picture x number params slices in
      Write (frames_text (left_of n first) unit) (frames_after (left_of n first) unit) es n (going z.first first (picture_of (frame_under x) params slices ∷ pictures) ++ others)) (sym u.2)
      (subst (λ (x : Option First). let unit = Picture s.parts number params slices in
      Write (frames_text (left_of n first) unit) (frames_after (left_of n first) unit) es n (going x first (picture_of (frame_under s.parts) params slices ∷ pictures) ++ others)) (sym u.1) here)

  -- units one after another, each picture under its sequence's header
  write : (es : List Entry) (z : Past) → AreSuch IsUnder z es → (n : ℕ) (first : Option PictureSamples) → Write [] (left_of n first) es n (due z.first first (units_of es))
  write [] z u n first = subst (λ (l : List (Frame × PictureSamples)). Write [] (left_of n first) [] n (l ++ [])) (sym (ended z.first first)) (refl, omega arith)
  write (e ∷ es) z u n first = unit_writes z e.unit u.0 es n first u.1 (write es (after z e.unit u.0) u.2)

  -- ---- the replies

  abbrev written : List Entry → List ℕ
  written es = texts frames_text frames_after (no_frames order) es

  framed : (bytes : List ℕ) (es : List Entry) (last : Entry) → AreBytes bytes → IsStream bytes es last → reply_of [] (answer_to (frames_machine order) bytes) ≡ framed_reply order bytes es
  framed bytes es last fits s =
      let left = s.stream.left in
      let a = answer_stream unit_rows stream_table (framing order) plain bytes es last fits s in
      let own = own_behind frames_after (no_frames order) es in
      let w = write es nothing_yet (stream_under bytes es last s) 0 None in
      let n = length (frames_between order es) in
      let counted : own.frames ≡ n = w.1 ∙ omega arith in
      let ending : Done (Framed own.frames (left.place + length a.0)) ≡ Done (Framed n (length bytes)) = ap (λ m. Done (Framed m (left.place + length a.0))) counted ∙ ap (λ k. Done (Framed n k)) a.1 in
      ap (reply_of []) a.2
      ∙ ap (λ e. reply_of [] (record { ending = e; text = written es; last = [] })) ending
      ∙ ap (λ l. reply_of [] (record { ending = Done (Framed n (length bytes)); text = l; last = [] })) w.0
      ∙ ap (λ l. record (framed_reply order bytes es) { out = l }) (append-nil (raw_texts_of (frames_between order es)))

  frames_refused : (bytes : List ℕ) (refusal : Refusal) → AreBytes bytes → (r : IsRefusal bytes refusal) → reply_of [] (answer_to (frames_machine order) bytes) ≡ refused_reply (raw_texts_of (frames_between order r.units)) refusal
  frames_refused bytes refusal fits r =
      let text = raw_texts_of (frames_between order r.units) in
      ap (reply_of []) (answer_refusal unit_rows stream_table (framing order) plain bytes refusal fits r).1
      ∙ ap (λ x. reply_of [] (record { ending = Refused x; text = written r.units; last = [] })) (sym r.there)
      ∙ ap (λ l. reply_of [] (record { ending = Refused refusal; text = l; last = [] })) (write r.units nothing_yet (refusal_under bytes refusal r) 0 None).0
      ∙ ap (λ l. record (refused_reply text refusal) { out = l }) (append-nil text)

pub is_framed : (top : Bool) (bytes : List ℕ) → AreBytes bytes → IsFramed top bytes
is_framed top bytes fits = record {
  stream = λ es last s. framed (order_of top) bytes es last fits s;
  refusal = λ refusal r. frames_refused (order_of top) bytes refusal fits r;
}
