-- The replies of `encode` to raw inputs.
use Rattle.std.proofs.Common.{◌≡◌, ℕ, zero, suc, ◌+◌, ◌-◌, ◌*◌, ◌^◌, ◌<◌, cond, eqb, Bool, true, false, List, [], ◌∷◌, ◌++◌, length, take, drop, Some, None, Result, refl, sym, ap, ◌∙◌, arith, append-nil, ne_eqb, eq-eqb, eqb-true}
use Rattle.std.proofs.lemmas.Bool.{false≢true}
use Rattle.std.proofs.lemmas.List.{length-append, length-drop, take_at}
use Rattle.slice_geometry.specs.Frames.{Frame}
use Rattle.sequence_header.specs.Checking.{PassesRules}
use Rattle.picture_codec.specs.Samples.{PictureSamples}
use Rattle.picture_codec.specs.Encoding.{slices_of}
use Rattle.raw_video.specs.RawParse.{RawFront, Shown, Over, LargeAt, CutAt, TooLong, raw_front, ahead, parse_from, raw_parse}
use Rattle.raw_video.specs.PictureRuns.{BehindPictures, step_shown, step_by}
use Rattle.raw_video.proofs.ShownFronts.{shown_length}
use Rattle.run_theory.specs.Walk.{Answer, answer_from, answer_to, after_step, before}
use Rattle.run_theory.proofs.Walks.{answer_step}
use Rattle.stream_rows.specs.declared.reason.Reason.TheVariants.{HalfFrame, StreamTooLong}
use Rattle.stream_rows.specs.Refusals.{Refusal}
use Rattle.stream_rows.specs.Streams.{frame_under}
use Rattle.stream_writer.specs.EncodedStream.{header_unit, end_unit}
use Rattle.stream_writer.proofs.EncodedUnits.{length-end_unit}
use Rattle.vc2_words.specs.Settings.{Asked}
use Rattle.vc2_words.specs.Commands.{AskedCommand}
use Rattle.vc2_words.specs.declared.keys.WordFault.{WordFault}
use Rattle.vc2_cli.specs.declared.status.Ending.{Ending}
use Rattle.vc2_cli.specs.Encode.{raw_size, shapes_at, stream_place, previous_at, units_at, has_room, ended_plan, is_half, refused_at, ended_at, last_text, told_of_front, encoding, encode_machine}
use Rattle.vc2_cli.specs.WholePictures.{stream_of}
use Rattle.vc2_cli.specs.Reply.{reply_of, command_reply}
use Rattle.vc2_cli.specs.StreamReplies.{refused_reply}
use Rattle.vc2_cli.specs.EncodeReply.{encoded_reply}
use Rattle.vc2_cli.specs.RawReplies.{written_from, open_stream, refused_behind, behind_reply, raw_reply, IsRawReply, IsOfWhole, IsRawReplyBy}
use Rattle.vc2_cli.proofs.EncodeTurns.{encode_laws}
use Rattle.vc2_cli.proofs.EncodeReplies.{some_size, texts, out_is, are_encoded}
use Rattle.vc2_cli.proofs.EncodedWords.{give_settings}

sums : (place n size : ℕ) → (place + size) + n * size ≡ place + suc n * size
sums place n size = grind arith

eqb_suc : (a b : ℕ) → eqb a b ≡ eqb (suc a) (suc b)
eqb_suc a b = by (eqb a b) refl
  where
    by : (same : Bool) → eqb a b ≡ same → same ≡ eqb (suc a) (suc b)
    by true t = let e : suc a ≡ suc b = omega (arith, eqb-true a b t) in sym (eq-eqb (suc a) (suc b) e)
    by false t = sym (ne_eqb (suc a) (suc b) (λ e. false≢true (sym t ∙ eq-eqb a b (omega (arith, e)))))

module _ (s : Asked) (q : PassesRules s.parts) where
  abbrev frame : Frame
  frame = frame_under s.parts

  abbrev at : (place n : ℕ) → BehindPictures ℕ
  at place n = record { place = place; own = n }

  abbrev unit_of : ℕ → PictureSamples → List ℕ
  unit_of n p = units_at s n (slices_of frame s.params p)

  -- ---- behind n pictures

  abbrev ended : ℕ → ℕ → RawFront → Ending
  ended place n Over = ended_at (is_half s.parts.coding n) place (ended_plan s (shapes_at s n) (stream_place s n))
  ended place n other = told_of_front other

  abbrev last_of : ℕ → RawFront → List ℕ
  last_of n Over = last_text (is_half s.parts.coding n) (previous_at s n)
  last_of n other = []

  abbrev full : ℕ → Answer Ending
  full place = record { ending = refused_at place StreamTooLong; text = []; last = [] }

  -- what pictures and what stands behind them come to
  abbrev made : ℕ → ℕ → List PictureSamples → RawFront → Answer Ending
  made place n [] front = record { ending = ended place n front; text = []; last = last_of n front }
  made place n (p ∷ pictures) front = cond (has_room s n) (before (unit_of n p) (made (place + raw_size s) (suc n) pictures front)) (full place)

  shown : (room : Bool) (place n : ℕ) (p : PictureSamples) (go_on : ℕ → BehindPictures ℕ → Answer Ending)
      → after_step (step_shown frame (encoding s) (at place n) p (cond room None (Some (refused_at place StreamTooLong)))) go_on
      ≡ cond room (before (unit_of n p) (go_on (raw_size s) (at (place + raw_size s) (n + 1)))) (full place)
  shown true place n p go_on = refl
  shown false place n p go_on = refl

  answer_over : (turns place n : ℕ) (bytes : List ℕ) → length bytes < turns
      → answer_from (encode_machine s) (at place n) bytes ≡ made place n (parse_from frame turns place bytes).pictures (parse_from frame turns place bytes).ending
  answer_over zero place n bytes few = absurd (omega (arith, few))
  answer_over (suc turns) place n bytes few =
      answer_step (encode_machine s) (encode_laws s (some_size s q)) (at place n) bytes
      ∙ by (λ p is. answer_over turns (place + raw_size s) (suc n) (drop (raw_size s) bytes) (omega (arith, few, some_size s q, length-drop (raw_size s) bytes, shown_length frame place bytes p is))) (raw_front frame place bytes) refl
    where
      others : Type 0
      others = answer_from (encode_machine s) (at (place + raw_size s) (suc n)) (drop (raw_size s) bytes)
          ≡ made (place + raw_size s) (suc n) (parse_from frame turns (place + raw_size s) (drop (raw_size s) bytes)).pictures (parse_from frame turns (place + raw_size s) (drop (raw_size s) bytes)).ending

      by : ((p : PictureSamples) → raw_front frame place bytes ≡ Shown p → others) → (front : RawFront) → raw_front frame place bytes ≡ front
          → after_step (step_by frame (encoding s) (at place n) front) (λ size left. answer_from (encode_machine s) left (drop size bytes))
          ≡ made place n (ahead front (parse_from frame turns (place + raw_size s) (drop (raw_size s) bytes))).pictures (ahead front (parse_from frame turns (place + raw_size s) (drop (raw_size s) bytes))).ending
      by more (Shown p) is =
          let next : n + 1 ≡ suc n = omega arith in
          shown (has_room s n) place n p (λ size left. answer_from (encode_machine s) left (drop size bytes))
          ∙ ap (λ (k : ℕ). cond (has_room s n) (before (unit_of n p) (answer_from (encode_machine s) (at (place + raw_size s) k) (drop (raw_size s) bytes))) (full place)) next
          ∙ ap (λ (a : Answer Ending). cond (has_room s n) (before (unit_of n p) a) (full place)) (more p is)
      by more Over is = refl
      by more (LargeAt k) is = refl
      by more (CutAt k) is = refl
      by more TooLong is = refl

  -- ---- the same by the pictures that are written

  abbrev fin_by : Bool → ℕ → ℕ → List ℕ → RawFront → Answer Ending
  fin_by true place n text front = record { ending = ended place n front; text = text; last = last_of n front }
  fin_by false place n text front = record { ending = refused_at place StreamTooLong; text = text; last = [] }

  -- behind these pictures of so many
  abbrev fin : ℕ → ℕ → List PictureSamples → ℕ → RawFront → Answer Ending
  fin place n written count front = fin_by (eqb (length written) count) (place + length written * raw_size s) (n + length written) (texts s q n written) front

  before_by : (all : Bool) (text : List ℕ) (place n : ℕ) (more : List ℕ) (front : RawFront) → before text (fin_by all place n more front) ≡ fin_by all place n (text ++ more) front
  before_by true text place n more front = refl
  before_by false text place n more front = refl

  fin_none : (place n : ℕ) (front : RawFront) → made place n [] front ≡ fin place n [] 0 front
  fin_none place n front =
      let here : place ≡ place + 0 * raw_size s = omega arith in
      let same : n ≡ n + 0 = omega arith in
      ap (λ (k : ℕ). fin_by true k n [] front) here ∙ ap (λ (k : ℕ). fin_by true (place + 0 * raw_size s) k [] front) same

  fin_full : (place n count : ℕ) (front : RawFront) → full place ≡ fin place n [] (suc count) front
  fin_full place n count front =
      let here : place ≡ place + 0 * raw_size s = omega arith in
      ap full here ∙ ap (λ (b : Bool). fin_by b (place + 0 * raw_size s) (n + 0) [] front) (sym (ne_eqb 0 (suc count) (λ e. omega (arith, e))))

  fin_more : (place n count : ℕ) (p : PictureSamples) (written : List PictureSamples) (front : RawFront)
      → before (unit_of n p) (fin (place + raw_size s) (suc n) written count front) ≡ fin place n (p ∷ written) (suc count) front
  fin_more place n count p written front =
      let k = length written in
      let text = unit_of n p ++ texts s q (suc n) written in
      let next : suc n + k ≡ n + suc k = omega arith in
      before_by (eqb k count) (unit_of n p) ((place + raw_size s) + k * raw_size s) (suc n + k) (texts s q (suc n) written) front
      ∙ ap (λ (b : Bool). fin_by b ((place + raw_size s) + k * raw_size s) (suc n + k) text front) (eqb_suc k count)
      ∙ ap (λ (m : ℕ). fin_by (eqb (suc k) (suc count)) m (suc n + k) text front) (sums place k (raw_size s))
      ∙ ap (λ (m : ℕ). fin_by (eqb (suc k) (suc count)) (place + suc k * raw_size s) m text front) next

  made_is : (place n : ℕ) (pictures : List PictureSamples) (front : RawFront) → made place n pictures front ≡ fin place n (written_from s n pictures) (length pictures) front
  made_is place n [] front = fin_none place n front
  made_is place n (p ∷ pictures) front = by (made_is (place + raw_size s) (suc n) pictures front) (has_room s n)
    where
      by : made (place + raw_size s) (suc n) pictures front ≡ fin (place + raw_size s) (suc n) (written_from s (suc n) pictures) (length pictures) front
          → (room : Bool) → cond room (before (unit_of n p) (made (place + raw_size s) (suc n) pictures front)) (full place)
          ≡ fin place n (cond room (p ∷ written_from s (suc n) pictures) []) (suc (length pictures)) front
      by others true = ap (before (unit_of n p)) others ∙ fin_more place n (length pictures) p (written_from s (suc n) pictures) front
      by others false = fin_full place n (length pictures) front

  -- ---- the reply

  module _ (fits : s.first < 2 ^ 32) where
    abbrev front_text : List PictureSamples → List ℕ
    front_text written = header_unit s.parts ++ texts s q 0 written

    open_is : (written : List PictureSamples) → front_text written ≡ open_stream s written
    open_is written =
        let end = end_unit (previous_at s (length written)) in
        let all = out_is s q written fits in
        let long : length (stream_of s written) - 13 ≡ length (front_text written) = omega (arith, ap (λ (l : List ℕ). length l) all, length-append (front_text written) end, length-end_unit (previous_at s (length written))) in
        sym (ap (λ (k : ℕ). take k (stream_of s written)) long ∙ ap (take (length (front_text written))) (sym all) ∙ take_at (front_text written) end (length (front_text written)) refl)

    refused_is : (written : List PictureSamples) (refusal : Refusal) → refused_reply (front_text written ++ []) refusal ≡ refused_reply (open_stream s written) refusal
    refused_is written refusal = ap (λ (l : List ℕ). refused_reply l refusal) (append-nil (front_text written) ∙ open_is written)

    over_is : (half : Bool) (written : List PictureSamples) (place : ℕ)
        → (let n = length written in let a : Answer Ending = record { ending = ended_at half place (ended_plan s (shapes_at s n) (stream_place s n)); text = front_text written; last = last_text half (previous_at s n) } in reply_of [] a)
        ≡ cond half (refused_behind s written place HalfFrame) (encoded_reply s written)
    over_is true written place = refused_is written (record { place = place; reason = HalfFrame })
    over_is false written place = ap (λ (l : List ℕ). record (encoded_reply s written) { out = l }) (out_is s q written fits)

    replied : (all : Bool) (written : List PictureSamples) (front : RawFront)
        → reply_of [] (before (header_unit s.parts) (fin_by all (length written * raw_size s) (length written) (texts s q 0 written) front))
        ≡ cond all (behind_reply s written front) (refused_behind s written (length written * raw_size s) StreamTooLong)
    replied false written front = refused_is written (record { place = length written * raw_size s; reason = StreamTooLong })
    replied true written Over = over_is (is_half s.parts.coding (length written)) written (length written * raw_size s)
    replied true written (LargeAt place) = refused_is written _
    replied true written (CutAt place) = refused_is written _
    replied true written (Shown p) = refused_is written _
    replied true written TooLong = refused_is written _

    pub raw_replied : (bytes : List ℕ) → reply_of [] (answer_to (encode_machine s) bytes) ≡ raw_reply s bytes
    raw_replied bytes =
        let video = raw_parse frame bytes in
        let written = written_from s 0 video.pictures in
        let all = eqb (length written) (length video.pictures) in
        let reply = λ (a : Answer Ending). reply_of [] (before (header_unit s.parts) a) in
        let place : 0 + length written * raw_size s ≡ length written * raw_size s = omega arith in
        let n : 0 + length written ≡ length written = omega arith in
        ap reply (answer_over (length bytes + 1) 0 0 bytes (omega arith) ∙ made_is 0 0 video.pictures video.ending)
        ∙ ap (λ (k : ℕ). reply (fin_by all k (0 + length written) (texts s q 0 written) video.ending)) place
        ∙ ap (λ (k : ℕ). reply (fin_by all (length written * raw_size s) k (texts s q 0 written) video.ending)) n
        ∙ replied all written video.ending

pub is_raw_reply : (s : Asked) (bytes : List ℕ) → IsRawReply s bytes
is_raw_reply s bytes settings = raw_replied s settings.lawful.header.passes settings.lawful.first bytes

pub is_of_whole : (s : Asked) (pictures : List PictureSamples) → IsOfWhole s pictures
is_of_whole s pictures settings may = sym (is_raw_reply s _ settings) ∙ are_encoded s pictures settings may

pub is_raw_reply_by : (words : List (List ℕ)) (bytes : List ℕ) → IsRawReplyBy words bytes
is_raw_reply_by words bytes s asks =
    ap (λ (c : Result AskedCommand WordFault). command_reply c bytes) asks ∙ is_raw_reply s bytes (give_settings words s asks)
