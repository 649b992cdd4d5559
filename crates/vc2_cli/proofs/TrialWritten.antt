-- The stream of a trial's video, unit by unit.
use Rattle.std.proofs.Common.{◌≡◌, ℕ, suc, ◌+◌, ◌-◌, ◌*◌, ◌%◌, ◌^◌, ◌<◌, ◌≤◌, Bool, true, false, Option, Some, None, List, [], ◌∷◌, ◌++◌, length, map, Ok, sym, ap, subst, ◌∙◌, arith, append_assoc}
use Rattle.std.specs.List.{AllByRecursion}
use Rattle.std.specs.Io.KnownBytes.{Appends}
use Rattle.std.proofs.Math.Nat.{zero-mul}
use Rattle.std.proofs.lemmas.List.{length-append}
use Rattle.std.proofs.lemmas.List.FromFn.{length-map-range_with_len}
use Rattle.vc2_io.specs.Memory.{MemSinkSeen}
use Rattle.slice_geometry.specs.declared.PictureShape.{PictureShape}
use Rattle.slice_geometry.specs.Frames.{Frame, frame_of}
use Rattle.slice_geometry.specs.UnitLengths.{UnitShapesSeen}
use Rattle.transform_params.specs.ParameterFields.{unit_length}
use Rattle.picture_codec.specs.Samples.{PictureSamples}
use Rattle.picture_codec.specs.Encoding.{slices_of}
use Rattle.raw_video.specs.RawText.{is_wide, raw_text}
use Rattle.raw_video.specs.RawParse.{luma_count, colour_count, sample_size, raw_length, IsOfFrame, raw_texts}
use Rattle.raw_video.proofs.ReadBack.{length_raw}
use Rattle.raw_video.proofs.ComponentTurns.{luma_few, colour_few}
use Rattle.trial_video.specs.Video.{TrialVideoSeen, video, video_picture}
use Rattle.trial_video.proofs.Fits.{pictures_fit}
use Rattle.channel_schedule.specs.Plans.{plan_of}
use Rattle.stream_rows.specs.Streams.{limit, frame_under}
use Rattle.stream_writer.specs.EncodedStream.{begins_at, header_length, header_unit, end_unit, number_after, units_with, units_behind, IsGroup}
use Rattle.stream_writer.specs.Writer.{StreamWriterSeen, total_length, next_place, next_previous, plain_shape, writer_begun, HasRoom, WritesPicture, WritesEnd, IsSteepOkUnder}
use Rattle.stream_writer.proofs.WrittenShapes.{plain_length}
use Rattle.stream_rows.proofs.Frames.{frame_is}
use Rattle.vc2_words.specs.declared.words.TrialPart.{TrialPart}
use Rattle.vc2_words.specs.Settings.{Asked, asked_length}
use Rattle.vc2_words.specs.Lawful as words
use Rattle.vc2_words.specs.Lawful.{AreLawfulWords, IsTrial}
use Rattle.vc2_cli.specs.Encode.{written_under, stream_place, previous_at, number_of_next, shapes_at, ended_plan}
use Rattle.vc2_cli.specs.EncodeReply.{AreSettings, MayBeWritten}
use Rattle.vc2_cli.specs.WholePictures.{stream_of, plan_for}
use Rattle.vc2_cli.specs.Trial.{trial_pictures}
use Rattle.vc2_cli.specs.TrialTurn.{told_of_sink, units_from, pictures_from, HasWritten}
use Rattle.vc2_cli.proofs.EncodeReplies.{header_shape, header_has, some_slices}
use Rattle.vc2_cli.proofs.Behind.{previous_next, number_next, place_within, length_behind, behind_next, room_of}
use Rattle.vc2_cli.proofs.EncodeChecked.{length_is}
use Rattle.vc2_cli.proofs.EncodeTurns as turns
use Rattle.vc2_cli.proofs.EncodeTurns.{units_of, units_of_next, planned, with_end}
use Rattle.vc2_cli.proofs.StreamSinks.{grew_rest}

-- ---- what may be written

group_of : (coding : ℕ) (group : Option ℕ) → words.IsAskedGroup coding group → IsGroup coding group
group_of coding None g = tt
group_of coding (Some n) g = (g.0, g.2)

pub trial_settings : (s : Asked) → AreLawfulWords s → IsSteepOkUnder (written_under s) → AreSettings s
trial_settings s l steep = record {
  lawful = record { header = l.header; params = l.params; first = l.first; even = l.even; group = group_of s.parts.coding s.group l.group };
  rate = l.rate;
  bytes = l.bytes;
  slots = l.slots;
  idle = l.idle;
  steep = steep;
}

pub trial_count : (s : Asked) (part : TrialPart) → length (trial_pictures s part) ≡ part.pictures
trial_count s part = length-map-range_with_len (λ (p : ℕ). video_picture (frame_under s.parts) part.seed p) 0 part.pictures

one_more : (k w : ℕ) → w + k * w ≡ suc k * w
one_more k w = grind arith

raw_total : (f : Frame) (pictures : List PictureSamples) → AllByRecursion (IsOfFrame f) pictures → length (raw_texts f pictures) ≡ length pictures * raw_length f
raw_total f [] each = sym (zero-mul (raw_length f))
raw_total f (p ∷ pictures) each = length-append (raw_text f p) (raw_texts f pictures) ∙ ap (λ (k : ℕ). k + length (raw_texts f pictures)) (length_raw f p each.0) ∙ ap (λ (k : ℕ). raw_length f + k) (raw_total f pictures each.1) ∙ one_more (length pictures) (raw_length f)

raw_few : (shape : PictureShape) → raw_length (frame_of shape) ≤ 2 ^ 27
raw_few shape = by (is_wide (frame_of shape)) (luma_few shape) (colour_few shape)
  where
    by : (wide : Bool) → luma_count (frame_of shape) ≤ 2 ^ 24 → colour_count (frame_of shape) ≤ 2 ^ 24 → sample_size wide * (luma_count (frame_of shape) + 2 * colour_count (frame_of shape)) ≤ 2 ^ 27
    by true a b = omega (arith, a, b)
    by false a b = omega (arith, a, b)

many_raw : (n size : ℕ) → n ≤ 1000 → size ≤ 2 ^ 27 → n * size ≤ 2 ^ 40
many_raw n size few small = grind arith

module _ (s : Asked) (part : TrialPart) (t : IsTrial s part) where
  raw_here : raw_length (frame_under s.parts) ≤ 2 ^ 27
  raw_here = subst (λ (f : Frame). raw_length f ≤ 2 ^ 27) (frame_is s.parts (header_shape s.parts t.settings.header.passes) (header_has s.parts t.settings.header.passes)) (raw_few (header_shape s.parts t.settings.header.passes))

  pub trial_may : MayBeWritten s (trial_pictures s part)
  trial_may =
      let many = trial_count s part in
      let each = pictures_fit (frame_under s.parts) part.seed 0 part.pictures in
      record {
        each = each;
        even = λ c. ap (λ (k : ℕ). k % 2) many ∙ t.even c;
        raw = subst (λ (k : ℕ). k ≤ 2 ^ 40) (sym (raw_total (frame_under s.parts) (trial_pictures s part) each ∙ ap (λ (k : ℕ). k * raw_length (frame_under s.parts)) many)) (many_raw part.pictures (raw_length (frame_under s.parts)) t.few raw_here);
        stream = subst (λ (k : ℕ). stream_place s k + 13 ≤ limit) (sym many) (omega (arith, t.short, length_behind s part.pictures));
      }

  -- the stream's length
  pub trial_length : IsSteepOkUnder (written_under s) → length (stream_of s (trial_pictures s part)) ≡ asked_length s.parts s.params s.group part.pictures
  trial_length steep = length_is s (trial_pictures s part) (trial_settings s t.settings steep) trial_may ∙ ap (λ (k : ℕ). stream_place s k + 13) (trial_count s part) ∙ length_behind s part.pictures

-- ---- the units from a picture on

pub units_are : (s : Asked) (n previous : ℕ) (pictures : List PictureSamples) → previous_at s n ≡ previous → units_from s n pictures ≡ units_behind (written_under s) n previous (number_of_next s n) (map (slices_of (frame_under s.parts) s.params) pictures)
units_are s n previous [] is = ap end_unit is
units_are s n previous (p ∷ pictures) is =
    let slices = slices_of (frame_under s.parts) s.params p in
    let next : suc n ≡ n + 1 = omega arith in
    let rest = units_are s (suc n) (unit_length s.params) pictures (previous_next s n) in
    ap (λ (k : ℕ). units_with s.parts s.params (begins_at s.group n) k (number_of_next s n) slices ++ units_from s (suc n) pictures) is
    ∙ ap (λ (l : List ℕ). units_with s.parts s.params (begins_at s.group n) previous (number_of_next s n) slices ++ l)
    (rest ∙ ap (λ (k : ℕ). units_behind (written_under s) (suc n) (unit_length s.params) k (map (slices_of (frame_under s.parts) s.params) pictures)) (sym (number_next s n))
    ∙ ap (λ (k : ℕ). units_behind (written_under s) k (unit_length s.params) (number_after (number_of_next s n)) (map (slices_of (frame_under s.parts) s.params) pictures)) next)

pub begins : (s : Asked) (part : TrialPart) (t : IsTrial s part) (steep : IsSteepOkUnder (written_under s)) (video : TrialVideoSeen) (w : StreamWriterSeen) (sink sink' : MemSinkSeen) → frame_of video.shape ≡ frame_under s.parts → video.seed ≡ part.seed → video.pictures ≡ 0
    → w ≡ writer_begun (written_under s) → sink.bytes ≡ [] → sink.room ≡ asked_length s.parts s.params s.group part.pictures → Appends (told_of_sink sink) (told_of_sink sink') (header_unit s.parts) → HasWritten s part 0 video w sink'
begins s part t steep video w sink sink' frame seed given new empty room grew =
    let grown = grew_rest sink sink' (header_unit s.parts) grew in
    let all : part.pictures - 0 ≡ part.pictures = omega arith in
    let number : number_of_next s 0 ≡ s.first = omega (arith, t.settings.first) in
    let slices = map (slices_of (frame_under s.parts) s.params) (trial_pictures s part) in
    record {
      frame = frame;
      seed = seed;
      given = given;
      stands = new;
      room = grown.0 ∙ room ∙ sym (trial_length s part t steep);
      bytes =
          ap (λ (k : ℕ). sink'.bytes ++ units_from s 0 (pictures_from (frame_under s.parts) part.seed 0 k)) all
          ∙ ap (λ (l : List ℕ). l ++ units_from s 0 (trial_pictures s part)) (grown.1 ∙ ap (λ (l : List ℕ). l ++ header_unit s.parts) empty)
          ∙ ap (λ (l : List ℕ). header_unit s.parts ++ l) (units_are s 0 (header_length s.parts) (trial_pictures s part) (plain_length 0 (header_length s.parts)) ∙ ap (λ (k : ℕ). units_behind (written_under s) 0 (header_length s.parts) k slices) number);
    }

module _ (s : Asked) (part : TrialPart) (t : IsTrial s part) (n : ℕ) (video : TrialVideoSeen) (w : StreamWriterSeen) (sink : MemSinkSeen) (b : HasWritten s part n video w sink) where
  -- ---- one picture more

  module _ (lt : n < part.pictures) (p : PictureSamples) (is : p ≡ video_picture (frame_of video.shape) video.seed video.pictures) where
    next_is : p ≡ video_picture (frame_under s.parts) part.seed n
    next_is = is ∙ ap (λ (f : Frame). video_picture f video.seed video.pictures) b.frame ∙ ap (λ (k : ℕ). video_picture (frame_under s.parts) k video.pictures) b.seed ∙ ap (λ (k : ℕ). video_picture (frame_under s.parts) part.seed k) b.given

    abbrev more : List ℕ
    more = units_from s (n + 1) (pictures_from (frame_under s.parts) part.seed (n + 1) (part.pictures - (n + 1)))

    units_next : units_from s n (pictures_from (frame_under s.parts) part.seed n (part.pictures - n)) ≡ units_of w p ++ more
    units_next =
        let left : part.pictures - n ≡ suc (part.pictures - (n + 1)) = omega (arith, lt) in
        let next : suc n ≡ n + 1 = omega arith in
        let f = frame_under s.parts in
        let rest = pictures_from f part.seed (n + 1) (part.pictures - (n + 1)) in
        ap (λ (k : ℕ). units_from s n (pictures_from f part.seed n k)) left
        ∙ ap (λ (x : PictureSamples). units_of_next s n x ++ units_from s (suc n) rest) (sym next_is)
        ∙ ap (λ (k : ℕ). units_of_next s n p ++ units_from s k rest) next
        ∙ ap (λ (l : List ℕ). l ++ more) (sym (turns.units_are s n w p (some_slices s t.settings.params) b.stands))

    all_is : sink.bytes ++ (units_of w p ++ more) ≡ stream_of s (trial_pictures s part)
    all_is = ap (λ (l : List ℕ). sink.bytes ++ l) (sym units_next) ∙ b.bytes

    pub picture_fits : length sink.bytes + length (units_of w p) ≤ sink.room
    picture_fits = omega (arith, b.room, ap (λ (l : List ℕ). length l) all_is, length-append sink.bytes (units_of w p ++ more), length-append (units_of w p) more)

    pub has_room : HasRoom w
    has_room = room_of s (some_slices s t.settings.params) n w b.stands (omega (arith, t.short, length_behind s part.pictures, place_within s n part.pictures (omega (arith, lt))))

    pub written_more : (video' : TrialVideoSeen) (w' : StreamWriterSeen) (sink' : MemSinkSeen) → video' ≡ record video { pictures = video.pictures + 1 }
        → WritesPicture w w' (slices_of (frame_under w.settings.parts) w.settings.params p) (told_of_sink sink) (told_of_sink sink') (Ok tt) → HasWritten s part (n + 1) video' w' sink'
    written_more video' w' sink' after wrote =
        let grown = grew_rest sink sink' (units_of w p) wrote.wrote in
        record {
          frame = ap (λ (v : TrialVideoSeen). frame_of v.shape) after ∙ b.frame;
          seed = ap (λ (v : TrialVideoSeen). v.seed) after ∙ b.seed;
          given = ap (λ (v : TrialVideoSeen). v.pictures) after ∙ ap (λ (k : ℕ). k + 1) b.given;
          stands = behind_next s (some_slices s t.settings.params) n w w' b.stands wrote.after;
          room = grown.0 ∙ b.room;
          bytes = ap (λ (l : List ℕ). l ++ more) grown.1 ∙ append_assoc sink.bytes (units_of w p) more ∙ all_is;
        }

  -- ---- the end

  module _ (over : n ≡ part.pictures) where
    end_is : sink.bytes ++ end_unit (next_previous w) ≡ stream_of s (trial_pictures s part)
    end_is =
        let none : part.pictures - n ≡ 0 = omega (arith, over) in
        ap (λ (x : StreamWriterSeen). sink.bytes ++ end_unit (next_previous x)) b.stands
        ∙ sym (ap (λ (k : ℕ). sink.bytes ++ units_from s n (pictures_from (frame_under s.parts) part.seed n k)) none) ∙ b.bytes

    pub end_fits : length sink.bytes + length (end_unit (next_previous w)) ≤ sink.room
    end_fits = omega (arith, b.room, ap (λ (l : List ℕ). length l) end_is, length-append sink.bytes (end_unit (next_previous w)))

    pub written_all : (w' : StreamWriterSeen) (sink' : MemSinkSeen) → WritesEnd w w' (told_of_sink sink) (told_of_sink sink') (Ok tt) → sink'.bytes ≡ stream_of s (trial_pictures s part)
    written_all w' sink' wrote = (grew_rest sink sink' (end_unit (next_previous w)) wrote.wrote).1 ∙ end_is

    pub planned_all : (w' : StreamWriterSeen) (list : UnitShapesSeen) (out0 out1 : Option (List ℕ)) → WritesEnd w w' out0 out1 (Ok tt) → list.units ≡ w'.shapes → list.total ≡ total_length w'.shapes → plan_of list s.rate s.idle ≡ plan_for s (trial_pictures s part)
    planned_all w' list out0 out1 wrote units total =
        planned list s.rate s.idle (w.shapes ++ plain_shape (next_place w) 13 ∷ []) (next_place w + 13) (units ∙ ap (λ (x : StreamWriterSeen). x.shapes) wrote.after) (total ∙ ap (λ (x : StreamWriterSeen). total_length x.shapes) wrote.after ∙ with_end w)
        ∙ ap (λ (x : StreamWriterSeen). ended_plan s x.shapes (next_place x)) b.stands
        ∙ ap (λ (k : ℕ). ended_plan s (shapes_at s k) (stream_place s k)) (over ∙ sym (trial_count s part))
