-- What `frames` makes of a unit that was read.
use Rattle.std.proofs.Common.{◌≡◌, ℕ, ◌+◌, ◌≤◌, cond, not, Bool, true, false, List, length, drop, Option, Some, None, refl, sym, ap, subst, ◌∙◌, arith}
use Rattle.std.proofs.lemmas.Bool.{false≢true}
use Rattle.slice_geometry.specs.Frames.{Frame, frame_of}
use Rattle.slice_geometry.specs.declared.Component.TheVariants.{Luma, C1, C2}
use Rattle.sequence_header.specs.declared.parts.HeaderParts.{HeaderParts}
use Rattle.transform_params.specs.Params.{Params}
use Rattle.picture_codec.specs.Pictures.{sample}
use Rattle.picture_codec.specs.Samples.{PictureSamples, PictureSeen, picture_of}
use Rattle.picture_codec.specs.Decoding.{PictureDecoderSeen}
use Rattle.raw_video.specs.RawText.{raw_text}
use Rattle.run_theory.specs.Walk.{IsMachine}
use Rattle.stream_rows.specs.Units.{Past, First, DataUnit, Sequence, Repeated, Picture, Skipped, End, after}
use Rattle.stream_rows.specs.Streams.{frame_under}
use Rattle.stream_reader.specs.declared.stop.Item.{Item}
use Rattle.stream_reader.specs.StreamTable.{StreamTableSeen}
use Rattle.stream_reader.specs.Reader.{IsPictureOf, header_behind}
use Rattle.field_weave.specs.declared.Order.{Order}
use Rattle.field_weave.specs.Weaving.{frame_of_two, split, frame_with_field}
use Rattle.field_weave.specs.WeaveRuns.{field_text, first_of}
use Rattle.field_weave.proofs.WeaveLaws.{split_of_placed_table}
use Rattle.vc2_words.proofs.Plainness.{some_same, none_some}
use Rattle.unit_reader.proofs.Opens.{IsOpenMachine}
use Rattle.vc2_cli.specs.Endings.{MayEndOtherwise}
use Rattle.vc2_cli.specs.Telling.{tells_sequence, tells_picture}
use Rattle.vc2_cli.proofs.Decoding.{begins, stream_laws, stream_opens, item_tells}
use Rattle.vc2_cli.proofs.Passing.{PassesUnit, place_is, picture_is, shown_is}
use Rattle.vc2_cli.proofs.PicturesUnder.{IsUnder, passed_under}
use Rattle.vc2_cli.specs.Frames.{FramesSoFar, are_fields, frames_more, frame_text, frames_after, frames_text, framing, frames_machine, first_in, IsFrameFor, KeepsFrame}

abbrev some_parts : HeaderParts → Option HeaderParts
some_parts parts = Some parts

abbrev pub left_of : Order → ℕ → Option PictureSamples → FramesSoFar
left_of order frames first = record { order = order; frames = frames; first = first }

pub frames_laws : (order : Order) → IsMachine (frames_machine order)
frames_laws order = stream_laws (framing order)

pub frames_opens : (order : Order) → IsOpenMachine MayEndOtherwise (frames_machine order)
frames_opens order = stream_opens (framing order) (record { finished = λ z w unit bytes. tt; rested = λ z w. tt; refused = λ z w fault short. short })

-- ---- what a unit leaves to the reader

-- the sequence behind a unit that begins none is the one before it
first_kept : (z : Past) (unit : DataUnit) (bytes : List ℕ) (first : First) → begins unit ≡ false → (after z unit bytes).first ≡ Some first → z.first ≡ Some first
first_kept z (Sequence parts) bytes first b e = absurd (false≢true (sym b))
first_kept z Repeated bytes first b e = e
first_kept z (Picture parts number params slices) bytes first b e = e
first_kept z Skipped bytes first b e = e
first_kept z End bytes first b e = absurd cc

header_kept : (unit : DataUnit) (header : Option HeaderParts) → begins unit ≡ false → header_behind unit header ≡ header
header_kept (Sequence parts) header b = absurd (false≢true (sym b))
header_kept Repeated header b = refl
header_kept (Picture parts number params slices) header b = refl
header_kept Skipped header b = refl
header_kept End header b = refl

module _ (before now : StreamTableSeen) (item : Item) (p : PassesUnit before now item) where
  pub sequence_is : tells_sequence item ≡ begins p.unit
  sequence_is = ap tells_sequence p.tells.is_item ∙ item_tells p.unit

  -- no sequence begins
  pub keeps_along : (written written' : ℕ) (held held' : Option PictureSeen) → begins p.unit ≡ false → KeepsFrame written held before → written' ≤ written + length p.bytes
      → ((parts : HeaderParts) → IsFrameFor parts held → IsFrameFor parts held') → KeepsFrame written' held' now
  keeps_along written written' held held' none k few carry =
      let was : (first : First) → now.past.first ≡ Some first → before.past.first ≡ Some first = λ first is.
      first_kept before.past p.unit p.bytes first none (ap (λ (x : Past). x.first) (sym p.past) ∙ is) in
      record {
        few = omega (arith, few, k.few, place_is before now item p);
        makes = p.tells.makes ∙ k.makes;
        header = λ first is. p.tells.header ∙ header_kept p.unit before.header none ∙ k.header first (was first is);
        frame = λ first is. carry first.parts (k.frame first (was first is));
      }

  -- a sequence begins
  pub keeps_begun : (written : ℕ) (held held' : Option PictureSeen) → begins p.unit ≡ true → KeepsFrame written held before → ((parts : HeaderParts) → now.header ≡ Some parts → IsFrameFor parts held') → KeepsFrame written held' now
  keeps_begun written held held' begun k made =
      let is : (first : First) → now.past.first ≡ Some first → now.header ≡ Some first.parts = λ first e. p.tells.header ∙ by p.unit begun first (ap (λ (x : Past). x.first) (sym p.past) ∙ e) in
      record {
        few = omega (arith, k.few, place_is before now item p);
        makes = p.tells.makes ∙ k.makes;
        header = is;
        frame = λ first e. made first.parts (is first e);
      }
    where
      by : (unit : DataUnit) → begins unit ≡ true → (first : First) → (after before.past unit p.bytes).first ≡ Some first → header_behind unit before.header ≡ Some first.parts
      by (Sequence parts) b first e = let one : First = record { parts = parts; payload = drop 13 p.bytes } in let is : one ≡ first = some_same e in ap (λ (f : First). Some f.parts) is
      by Repeated b first e = absurd (false≢true b)
      by (Picture parts number params slices) b first e = absurd (false≢true b)
      by Skipped b first e = absurd (false≢true b)
      by End b first e = absurd (false≢true b)

  -- ---- a picture that is shown

  -- its unit, and the header before it
  pub record IsShown (pic : PictureSeen) : Type 0 where
    pub parts : HeaderParts
    pub number : ℕ
    pub params : Params
    pub slices : List (List ℕ)
    pub is : p.unit ≡ Picture parts number params slices
    pub frame : frame_of pic.shape ≡ frame_under parts
    pub samples : pic.samples ≡ picture_of (frame_under parts) params slices
    pub was : before.header ≡ Some parts
    pub now_is : now.header ≡ Some parts
    pub first : First
    pub there : before.past.first ≡ Some first
    pub of : parts ≡ first.parts

  pub is_shown : (pic : PictureSeen) (written : ℕ) (held : Option PictureSeen) → IsPictureOf p.unit (Some pic) → KeepsFrame written held before → IsShown pic
  is_shown pic written held shown k = by p.unit refl shown (passed_under before.past p.bytes p.unit p.stands) p.tells.header
    where
      none : {P : Type 0} → (let one : Option PictureSeen = Some pic in one) ≡ None → P
      none e = none_some (sym e)

      by : (u : DataUnit) → p.unit ≡ u → IsPictureOf u (Some pic) → IsUnder before.past u → now.header ≡ header_behind u before.header → IsShown pic
      by (Sequence parts) is of under head = none of
      by Repeated is of under head = none of
      by Skipped is of under head = none of
      by End is of under head = none of
      by (Picture parts number params slices) is of under head =
          let same_pic : of.0 ≡ pic = some_same (sym of.1) in
          let was : before.header ≡ Some parts = k.header under.0 under.1 ∙ ap (λ (q : HeaderParts). some_parts q) (sym under.2) in
          record {
            parts = parts;
            number = number;
            params = params;
            slices = slices;
            is = is;
            frame = ap (λ (q : PictureSeen). frame_of q.shape) (sym same_pic) ∙ of.2;
            samples = ap (λ (q : PictureSeen). q.samples) (sym same_pic) ∙ of.3;
            was = was;
            now_is = head ∙ was;
            first = under.0;
            there = under.1;
            of = under.2;
          }

  -- the same of the picture that the unit's decoder lends
  pub shown_by : tells_picture item ≡ true → (d : PictureDecoderSeen) → now.decoder ≡ Some d → (pic : PictureSeen) → pic.shape ≡ d.shape → Some pic.samples ≡ d.picture → (written : ℕ) (held : Option PictureSeen) → KeepsFrame written held before → IsShown pic
  shown_by told d there pic shape samples written held k =
      is_shown pic written held (subst (λ (o : Option PictureSeen). IsPictureOf p.unit o) (sym (shown_is d pic shape samples)) (picture_is before now item p told d there k.makes)) k

  -- the frame that a field is put into
  pub record HeldFor (pic : PictureSeen) (held : Option PictureSeen) : Type 0 where
    pub seen : PictureSeen
    pub is : held ≡ Some seen
    pub frame : frame_of seen.shape ≡ frame_of_two (frame_of pic.shape)

  pub frame_held : tells_picture item ≡ true → (d : PictureDecoderSeen) → now.decoder ≡ Some d → (pic : PictureSeen) → pic.shape ≡ d.shape → Some pic.samples ≡ d.picture → (written : ℕ) (held : Option PictureSeen) → KeepsFrame written held before
      → (fields : Bool) → ((parts : HeaderParts) → now.header ≡ Some parts → fields ≡ are_fields parts) → fields ≡ true → HeldFor pic held
  frame_held told d there pic shape samples written held k fields same is =
      let s = shown_by told d there pic shape samples written held k in
      let coded : are_fields (s.first).parts ≡ true = ap are_fields (sym s.of) ∙ sym (same s.parts s.now_is) ∙ is in
      let one = k.frame s.first s.there coded in
      record { seen = one.0; is = one.1; frame = one.2 ∙ ap (λ (q : HeaderParts). frame_of_two (frame_under q)) (sym s.of) ∙ ap frame_of_two (sym s.frame) }

-- ---- a frame that is a picture of its own

pub frame_is : (own : FramesSoFar) (unit : DataUnit) (parts : HeaderParts) (number : ℕ) (params : Params) (slices : List (List ℕ)) (pic : PictureSeen)
    → unit ≡ Picture parts number params slices → frame_of pic.shape ≡ frame_under parts → pic.samples ≡ picture_of (frame_under parts) params slices → are_fields parts ≡ false
    → raw_text (frame_of pic.shape) pic.samples ≡ frames_text own unit
frame_is own unit parts number params slices pic is frame samples whole =
    ap (λ (h : Frame). raw_text h pic.samples) frame ∙ ap (raw_text (frame_under parts)) samples
    ∙ ap (λ (b : Bool). frame_text own.order (frame_under parts) b (picture_of (frame_under parts) params slices) own.first) (sym whole)
    ∙ ap (λ (u : DataUnit). frames_text own u) (sym is)

pub frame_leaves : (order : Order) (frames : ℕ) (unit : DataUnit) (parts : HeaderParts) (number : ℕ) (params : Params) (slices : List (List ℕ)) (begun : Bool) (held : Option PictureSeen) (header header' : Option HeaderParts)
    → unit ≡ Picture parts number params slices → are_fields parts ≡ false → header' ≡ header
    → left_of order (frames + 1) (first_in order begun held header') ≡ frames_after (left_of order frames (first_in order begun held header)) unit
frame_leaves order frames unit parts number params slices begun held header header' is whole same =
    let p = picture_of (frame_under parts) params slices in
    let own = left_of order frames (first_in order begun held header) in
    ap (λ (h : Option HeaderParts). left_of order (frames + 1) (first_in order begun held h)) same
    ∙ ap (λ (b : Bool). frames_more own b p own.first) (sym whole)
    ∙ ap (λ (u : DataUnit). frames_after own u) (sym is)

-- ---- a field

first_same : (order : Order) (begun : Bool) (seen : PictureSeen) (parts : HeaderParts) → first_in order begun (Some seen) (Some parts) ≡ first_of order (frame_under parts) begun seen.samples
first_same order true seen parts = refl
first_same order false seen parts = refl

-- the text of the field that was put is its unit's
pub field_is : (own : FramesSoFar) (unit : DataUnit) (parts : HeaderParts) (number : ℕ) (params : Params) (slices : List (List ℕ)) (begun : Bool) (pic seen : PictureSeen) (held : Option PictureSeen) (header : Option HeaderParts)
    → unit ≡ Picture parts number params slices → frame_of pic.shape ≡ frame_under parts → pic.samples ≡ picture_of (frame_under parts) params slices → are_fields parts ≡ true → held ≡ Some seen → header ≡ Some parts
    → own.first ≡ first_in own.order begun held header
    → field_text own.order (frame_of pic.shape) pic.samples (first_of own.order (frame_of pic.shape) begun seen.samples) ≡ frames_text own unit
field_is own unit parts number params slices begun pic seen held header is frame samples fields one head first =
    let f = frame_under parts in
    let p = picture_of f params slices in
    let order = own.order in
    ap (λ (h : Frame). field_text order h pic.samples (first_of order h begun seen.samples)) frame
    ∙ ap (λ (s : PictureSamples). field_text order f s (first_of order f begun seen.samples)) samples
    ∙ ap (λ (o : Option PictureSamples). field_text order f p o)
    (sym (first_same order begun seen parts) ∙ ap (λ (h : Option PictureSeen). first_in order begun h (Some parts)) (sym one) ∙ ap (λ (h : Option HeaderParts). first_in order begun held h) (sym head) ∙ sym first)
    ∙ ap (λ (b : Bool). frame_text order f b p own.first) (sym fields)
    ∙ ap (λ (u : DataUnit). frames_text own u) (sym is)

-- what it leaves
pub field_leaves : (order : Order) (frames : ℕ) (unit : DataUnit) (parts : HeaderParts) (number : ℕ) (params : Params) (slices : List (List ℕ)) (begun : Bool) (seen seen' : PictureSeen)
    → unit ≡ Picture parts number params slices → are_fields parts ≡ true → seen'.samples ≡ frame_with_field order (frame_under parts) begun (picture_of (frame_under parts) params slices) seen.samples
    → left_of order (cond begun (frames + 1) frames) (first_in order (not begun) (Some seen') (Some parts)) ≡ frames_after (left_of order frames (first_in order begun (Some seen) (Some parts))) unit
field_leaves order frames unit parts number params slices begun seen seen' is fields put =
    let p = picture_of (frame_under parts) params slices in
    let own = left_of order frames (first_in order begun (Some seen) (Some parts)) in
    by begun put ∙ ap (λ (b : Bool). frames_more own b p own.first) (sym fields) ∙ ap (λ (u : DataUnit). frames_after own u) (sym is)
  where
    by : (b : Bool) → seen'.samples ≡ frame_with_field order (frame_under parts) b (picture_of (frame_under parts) params slices) seen.samples
        → left_of order (cond b (frames + 1) frames) (first_in order (not b) (Some seen') (Some parts))
        ≡ frames_more (left_of order frames (first_in order b (Some seen) (Some parts))) true (picture_of (frame_under parts) params slices) (first_in order b (Some seen) (Some parts))
    by true put = refl
    by false put =
        let f = frame_under parts in
        let p = picture_of f params slices in
        let again : split order f false seen'.samples ≡ p =
        ap (λ (s : PictureSamples). split order f false s) put ∙ split_of_placed_table order f false (sample f params slices Luma) (sample f params slices C1) (sample f params slices C2) seen.samples in
        ap (λ (s : PictureSamples). left_of order frames (Some s)) again
