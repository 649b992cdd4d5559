use Rattle.std.proofs.Common.{◌≡◌, ℕ, ◌+◌, ◌≤◌, cond, not, Bool, true, false, Option, Some, None, refl, sym, ap, ◌∙◌, arith}
use Rattle.vc2_io.proofs.Known.{Appends-along}
use Rattle.vc2_io.proofs.Short.{GrewShort-along}
use Rattle.slice_geometry.specs.Frames.{Frame, frame_of}
use Rattle.picture_codec.specs.Samples.{PictureSeen, PictureSamples, picture_of}
use Rattle.sequence_header.specs.declared.parts.HeaderParts.{HeaderParts}
use Rattle.stream_rows.specs.Streams.{frame_under}
use Rattle.stream_rows.specs.Units.{DataUnit}
use Rattle.field_weave.specs.declared.Order.{Order}
use Rattle.field_weave.specs.Weaving.{frame_with_field}
use Rattle.vc2_words.proofs.Plainness.{some_same}
use Rattle.vc2_cli.specs.Decode.{unit_pictures}
use Rattle.vc2_cli.specs.declared.frames.Framing.{Framing}
use Rattle.vc2_cli.specs.Frames.{are_fields, first_in, frames_after}
use Rattle.vc2_cli.proofs.Passing.{byte}
use Rattle.vc2_cli.proofs.Framing.{keeps_along, keeps_begun, sequence_is, shown_by, frame_held, frame_is, frame_leaves, field_is, field_leaves, left_of}
use Rattle.vc2_cli.proofs.frames.FramingUnitCommandStreamTable.turn.Goals.{then-self, else-self}
use Rattle.vc2_cli.proofs.frames.FramingUnitCommandStreamTable.turn.Goals as goal

pub returns-then-tells_sequence-clause-keeps : goal.returns-then-tells_sequence-clause-keeps
returns-then-tells_sequence-clause-keeps g c = λ before p k.
    keeps_begun before c.args.table.now c.args.item p c.args.self.now.frames c.args.self.now.frame c.in-Ok.frame (sym (sequence_is before c.args.table.now c.args.item p) ∙ sym c.tells_sequence.ensures ∙ c.if-tells_sequence.true) k c.in-Ok.ensures

pub returns-in-None-clause-keeps : goal.returns-in-None-clause-keeps
returns-in-None-clause-keeps g c = λ before p k.
    keeps_along before c.args.table.now c.args.item p c.args.self.now.frames c.args.self.now.frames c.args.self.now.frame c.args.self.now.frame (sym (sequence_is before c.args.table.now c.args.item p) ∙ sym c.tells_sequence.ensures ∙ c.if-tells_sequence.false) k (omega arith) (λ parts is. is)

-- a frame that is written as it is
pub returns-in-Err-write_picture-clause-wrote : goal.returns-in-Err-write_picture-clause-wrote
returns-in-Err-write_picture-clause-wrote g c = λ before p k.
    let self = c.args.self.now in
    let s = shown_by before c.args.table.now c.args.item p c.in-Some.ensures.some.0 c.in-Some.decoder.now c.in-Some.ensures.some.1 c.picture-picture.result.now c.picture-picture.ensures.shape c.picture-picture.ensures.samples self.frames self.frame k in
    let frames : are_fields s.parts ≡ false = sym (c.are_fields.ensures s.parts s.now_is) ∙ c.if-not-are_fields.true in
    let own = left_of self.order self.frames (first_in self.order self.begun self.frame before.header) in
    GrewShort-along _ _ _ _ (frame_is own p.unit s.parts s.number s.params s.slices c.picture-picture.result.now s.is s.frame s.samples frames) c.in-Err-write_picture.ensures.err

pub returns-then-not-are_fields-clause-wrote : goal.returns-then-not-are_fields-clause-wrote
returns-then-not-are_fields-clause-wrote g c = λ before p k.
    let self = c.args.self.now in
    let s = shown_by before c.args.table.now c.args.item p c.in-Some.ensures.some.0 c.in-Some.decoder.now c.in-Some.ensures.some.1 c.picture-picture.result.now c.picture-picture.ensures.shape c.picture-picture.ensures.samples self.frames self.frame k in
    let frames : are_fields s.parts ≡ false = sym (c.are_fields.ensures s.parts s.now_is) ∙ c.if-not-are_fields.true in
    let own = left_of self.order self.frames (first_in self.order self.begun self.frame before.header) in (
      Appends-along _ _ _ _ (frame_is own p.unit s.parts s.number s.params s.slices c.picture-picture.result.now s.is s.frame s.samples frames) c.in-Ok-write_picture.ensures.ok,
      frame_leaves self.order self.frames p.unit s.parts s.number s.params s.slices self.begun self.frame before.header c.args.table.now.header s.is frames (s.now_is ∙ sym s.was),
    )

-- the frame of fields
pub unreachable-requires : goal.unreachable-requires
unreachable-requires g c =
    let self = c.args.self.now in
    let r = c.requires in
    let held = frame_held r.0 c.args.table.now c.args.item r.1 c.in-Some.ensures.some.0 c.in-Some.decoder.now c.in-Some.ensures.some.1 c.picture-picture.result.now c.picture-picture.ensures.shape c.picture-picture.ensures.samples self.frames self.frame r.2 c.are_fields.result c.are_fields.ensures c.if-not-are_fields.false in
    let clash : Some held.seen ≡ None = sym held.is ∙ c.in-None-frame.is in
    cc

pub take_field-requires : goal.take_field-requires
take_field-requires g c =
    let self = c.args.self.now in
    let r = c.requires in
    let held = frame_held r.0 c.args.table.now c.args.item r.1 c.in-Some.ensures.some.0 c.in-Some.decoder.now c.in-Some.ensures.some.1 c.picture-picture.result.now c.picture-picture.ensures.shape c.picture-picture.ensures.samples self.frames self.frame r.2 c.are_fields.result c.are_fields.ensures c.if-not-are_fields.false in
    ap (λ (q : PictureSeen). frame_of q.shape) (some_same (sym c.in-Some-frame.is ∙ held.is)) ∙ held.frame

pub returns-in-Err-take_field-clause-wrote : goal.returns-in-Err-take_field-clause-wrote
returns-in-Err-take_field-clause-wrote g c = λ before p k.
    let self = c.args.self.now in
    let pic = c.picture-picture.result.now in
    let s = shown_by before c.args.table.now c.args.item p c.in-Some.ensures.some.0 c.in-Some.decoder.now c.in-Some.ensures.some.1 pic c.picture-picture.ensures.shape c.picture-picture.ensures.samples self.frames self.frame k in
    let fields : are_fields s.parts ≡ true = sym (c.are_fields.ensures s.parts s.now_is) ∙ c.if-not-are_fields.false in
    let own = left_of self.order self.frames (first_in self.order self.begun self.frame before.header) in
    let text = field_is own p.unit s.parts s.number s.params s.slices self.begun pic c.in-Some-frame.frame self.frame before.header s.is s.frame s.samples fields c.in-Some-frame.is s.was refl in
    GrewShort-along _ _ _ _ text c.in-Err-take_field.ensures.err

pub returns-clause-wrote : goal.returns-clause-wrote
returns-clause-wrote g c = λ before p k.
    let self = c.args.self.now in
    let new = c.if-self.self in
    let header = c.args.table.now.header in
    let pic = c.picture-picture.result.now in
    let seen = c.in-Some-frame.frame in
    let seen' = c.take_field.new.frame in
    let s = shown_by before c.args.table.now c.args.item p c.in-Some.ensures.some.0 c.in-Some.decoder.now c.in-Some.ensures.some.1 pic c.picture-picture.ensures.shape c.picture-picture.ensures.samples self.frames self.frame k in
    let fields : are_fields s.parts ≡ true = sym (c.are_fields.ensures s.parts s.now_is) ∙ c.if-not-are_fields.false in
    let own = left_of self.order self.frames (first_in self.order self.begun self.frame before.header) in
    let text = field_is own p.unit s.parts s.number s.params s.slices self.begun pic seen self.frame before.header s.is s.frame s.samples fields c.in-Some-frame.is s.was refl in
    let order : new.order ≡ self.order = elim c.if-self.branch [
      | then-self w ↦ ap (λ (f : Framing). f.order) w.self-is
      | else-self w ↦ ap (λ (f : Framing). f.order) w.self-is
    ] in
    let begun : new.begun ≡ self.begun = elim c.if-self.branch [
      | then-self w ↦ ap (λ (f : Framing). f.begun) w.self-is
      | else-self w ↦ ap (λ (f : Framing). f.begun) w.self-is
    ] in
    let frames : new.frames ≡ cond self.begun (self.frames + 1) self.frames = elim c.if-self.branch [
      | then-self w ↦ ap (λ (f : Framing). f.frames) w.self-is ∙ sym (ap (λ (b : Bool). cond b (self.frames + 1) self.frames) w.if-self.true)
      | else-self w ↦ ap (λ (f : Framing). f.frames) w.self-is ∙ sym (ap (λ (b : Bool). cond b (self.frames + 1) self.frames) w.if-self.false)
    ] in
    let frame : new.frame ≡ Some seen' = elim c.if-self.branch [
      | then-self w ↦ ap (λ (f : Framing). f.frame) w.self-is
      | else-self w ↦ ap (λ (f : Framing). f.frame) w.self-is
    ] in
    let put : seen'.samples ≡ frame_with_field self.order (frame_under s.parts) self.begun (picture_of (frame_under s.parts) s.params s.slices) seen.samples =
    ap (λ (q : PictureSeen). q.samples) c.in-Ok-take_field.ensures.frame
    ∙ ap (λ (h : Frame). frame_with_field self.order h self.begun pic.samples seen.samples) s.frame
    ∙ ap (λ (p : PictureSamples). frame_with_field self.order (frame_under s.parts) self.begun p seen.samples) s.samples in (
      Appends-along _ _ _ _ text c.in-Ok-take_field.ensures.ok,
      ap (λ (o : Order). left_of o new.frames (first_in o (not new.begun) new.frame header)) order
          ∙ ap (λ (n : ℕ). left_of self.order n (first_in self.order (not new.begun) new.frame header)) frames
          ∙ ap (λ (b : Bool). left_of self.order (cond self.begun (self.frames + 1) self.frames) (first_in self.order (not b) new.frame header)) begun
          ∙ ap (λ (f : Option PictureSeen). left_of self.order (cond self.begun (self.frames + 1) self.frames) (first_in self.order (not self.begun) f header)) frame
          ∙ ap (λ (h : Option HeaderParts). left_of self.order (cond self.begun (self.frames + 1) self.frames) (first_in self.order (not self.begun) (Some seen') h)) s.now_is
          ∙ field_leaves self.order self.frames p.unit s.parts s.number s.params s.slices self.begun seen seen' s.is fields put
          ∙ ap (λ (f : Option PictureSeen). frames_after (left_of self.order self.frames (first_in self.order self.begun f (Some s.parts))) p.unit) (sym c.in-Some-frame.is)
          ∙ ap (λ (h : Option HeaderParts). frames_after (left_of self.order self.frames (first_in self.order self.begun self.frame h)) p.unit) (sym s.was),
    )

pub returns-clause-keeps : goal.returns-clause-keeps
returns-clause-keeps g c = λ before p k.
    let self = c.args.self.now in
    let new = c.if-self.self in
    let seen = c.in-Some-frame.frame in
    let seen' = c.take_field.new.frame in
    let s = shown_by before c.args.table.now c.args.item p c.in-Some.ensures.some.0 c.in-Some.decoder.now c.in-Some.ensures.some.1 c.picture-picture.result.now c.picture-picture.ensures.shape c.picture-picture.ensures.samples self.frames self.frame k in
    let one : unit_pictures p.unit ≡ 1 = ap (λ (u : DataUnit). unit_pictures u) s.is in
    let frames : new.frames ≤ self.frames + 1 = elim c.if-self.branch [
      | then-self w ↦ omega (arith, ap (λ (f : Framing). f.frames) w.self-is)
      | else-self w ↦ omega (arith, ap (λ (f : Framing). f.frames) w.self-is)
    ] in
    let frame : new.frame ≡ Some seen' = elim c.if-self.branch [
      | then-self w ↦ ap (λ (f : Framing). f.frame) w.self-is
      | else-self w ↦ ap (λ (f : Framing). f.frame) w.self-is
    ] in
    let shape : frame_of seen'.shape ≡ frame_of seen.shape = ap (λ (q : PictureSeen). frame_of q.shape) c.in-Ok-take_field.ensures.frame in
    keeps_along before c.args.table.now c.args.item p self.frames new.frames self.frame new.frame (sym (sequence_is before c.args.table.now c.args.item p) ∙ sym c.tells_sequence.ensures ∙ c.if-tells_sequence.false) k
    (omega (arith, frames, one, byte before c.args.table.now c.args.item p))
    (λ parts is fields.
    let old = is fields in
    let held : old.0 ≡ seen = some_same (sym old.1 ∙ c.in-Some-frame.is) in
    (seen', frame, shape ∙ ap (λ (q : PictureSeen). frame_of q.shape) (sym held) ∙ old.2))
