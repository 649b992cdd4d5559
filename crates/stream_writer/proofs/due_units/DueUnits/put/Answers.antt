use Rattle.std.proofs.Common.{◌≡◌, ℕ, ◌+◌, ◌-◌, true, List, ◌++◌, length, take, drop, sym, ap, subst, ◌∙◌, arith}
use borrow.Rule.Slice.PartMut.{put_mid}
use Rattle.std.proofs.lemmas.List.{length-take, length-take-le, length-drop, take_at}
use Rattle.slice_geometry.specs.Frames.{frame_of}
use Rattle.sequence_header.specs.Coding.{IsShapeOf}
use Rattle.transform_params.specs.Views.{params_of}
use Rattle.transform_params.specs.ParameterFields.{unit_length}
use Rattle.picture_codec.specs.Encoding.{slices_of}
use Rattle.stream_rows.specs.Streams.{frame_under}
use Rattle.stream_writer.specs.EncodedStream.{header_length, header_unit, picture_unit, end_unit, units_with}
use Rattle.stream_writer.specs.WriterInside.{DueSeen, HoldsHeader, Encodes}
use Rattle.stream_rows.proofs.Frames.{frame_is}
use Rattle.stream_writer.proofs.SameShapes.{one_shape}
use Rattle.stream_writer.proofs.DueBytes.{end_holds, put_all, put_holds, put_last, front_is}
use Rattle.stream_writer.proofs.due_units.DueUnits.put.Goals as goal

pub copy_from_slice-requires : goal.copy_from_slice-requires
copy_from_slice-requires c =
    let b0 = c.as_mut_slice-units.result.now in
    let h0 = subst (λ l. HoldsHeader c.self.inside.header (params_of c.self.inside.params) l c.self.inside.from) (sym c.as_mut_slice-units.ensures.value) c.self.invariant.0 in
    length-take-le 13 b0 (omega (arith, h0.long)) ∙ sym (ap (λ (l : List ℕ). length l) c.end_unit.ensures)

pub write_picture_unit-requires-clause-shape : goal.write_picture_unit-requires-clause-shape
write_picture_unit-requires-clause-shape c =
    sym (one_shape c.self.inside.header c.self.inside.encoder.shape c.args.picture.now.shape c.self.invariant.1.shape (subst (λ (w : DueSeen). IsShapeOf c.args.picture.now.shape w.parts) (sym c.self.view_is) c.requires.shape))

pub write_picture_unit-requires-2-clause-shape : goal.write_picture_unit-requires-2-clause-shape
write_picture_unit-requires-2-clause-shape c =
    sym (one_shape c.self.inside.header c.self.inside.encoder.shape c.args.picture.now.shape c.self.invariant.1.shape (subst (λ (w : DueSeen). IsShapeOf c.args.picture.now.shape w.parts) (sym c.self.view_is) c.requires.shape))

pub invariant_of-self : goal.invariant_of-self
invariant_of-self c =
    let parts = c.self.inside.header in
    let p = params_of c.self.inside.params in
    let n = c.header_len-header_len.result in
    let from = c.self.inside.from in
    let b0 = c.as_mut_slice-units.result.now in
    let end = c.copy_from_slice.new.self in
    let b = end ++ drop 13 b0 in
    let unit = c.write_picture_unit.new.unit in
    let n_is : n ≡ header_length parts = c.header_len-header_len.ensures.value ∙ ap (λ (w : DueSeen). header_length w.parts) (sym c.self.view_is) in
    let h0 : HoldsHeader parts p b0 from = subst (λ l. HoldsHeader parts p l from) (sym c.as_mut_slice-units.ensures.value) c.self.invariant.0 in
    let h : HoldsHeader parts p b from = end_holds parts p b0 end from h0 (c.copy_from_slice.ensures.len ∙ length-take-le 13 b0 (omega (arith, h0.long))) in
    let many : length unit ≡ unit_length p = omega (arith, c.write_picture_unit.auto.unit, length-take (length b - (13 + n)) (drop (13 + n) b), length-drop (13 + n) b, h.long, n_is) in
    let room : length b ≡ c.self.inside.buffer.len = omega (arith, h.long, c.self.invariant.0.long, c.self.inside.buffer.ok.0) in (
      subst (λ l. HoldsHeader parts p l 0) (sym (put_all parts p n n_is b unit from h many c.self.inside.buffer.items c.self.inside.buffer.len room)) (put_holds parts p n n_is b unit from h many 0 (omega arith)),
      subst (λ e. Encodes parts p e) (sym c.write_picture_unit.ensures.same_encoder) c.self.invariant.1,
    )

pub returns-then-begins : goal.returns-then-begins
returns-then-begins c =
    let parts = c.self.inside.header in
    let p = params_of c.self.inside.params in
    let n = c.header_len-header_len.result in
    let from = c.self.inside.from in
    let b0 = c.as_mut_slice-units.result.now in
    let end = c.copy_from_slice.new.self in
    let b = end ++ drop 13 b0 in
    let unit = c.write_picture_unit.new.unit in
    let slices = slices_of (frame_under parts) p c.args.picture.now.samples in
    let n_is : n ≡ header_length parts = c.header_len-header_len.ensures.value ∙ ap (λ (w : DueSeen). header_length w.parts) (sym c.self.view_is) in
    let h0 : HoldsHeader parts p b0 from = subst (λ l. HoldsHeader parts p l from) (sym c.as_mut_slice-units.ensures.value) c.self.invariant.0 in
    let thirteen : length end ≡ 13 = c.copy_from_slice.ensures.len ∙ length-take-le 13 b0 (omega (arith, h0.long)) in
    let h : HoldsHeader parts p b from = end_holds parts p b0 end from h0 thirteen in
    let many : length unit ≡ unit_length p = omega (arith, c.write_picture_unit.auto.unit, length-take (length b - (13 + n)) (drop (13 + n) b), length-drop (13 + n) b, h.long, n_is) in
    let room : length b ≡ c.self.inside.buffer.len = omega (arith, h.long, c.self.invariant.0.long, c.self.inside.buffer.ok.0) in
    let is_unit : unit ≡ picture_unit p (header_length parts) c.args.number slices =
    c.write_picture_unit.ensures.unit ∙ ap (λ q. picture_unit q n c.args.number (slices_of (frame_of c.self.inside.encoder.shape) q c.args.picture.now.samples)) c.self.invariant.1.params
    ∙ ap (λ z. picture_unit p n c.args.number (slices_of z p c.args.picture.now.samples)) (frame_is parts c.self.inside.encoder.shape c.self.invariant.1.shape)
    ∙ ap (λ k. picture_unit p k c.args.number slices) n_is in
    let is_end : end ≡ end_unit c.args.previous = c.copy_from_slice.ensures.after ∙ c.end_unit.ensures in
    let due : take (13 + n) b ++ unit ≡ units_with parts p true c.args.previous c.args.number slices =
    ap (λ l. l ++ unit) (front_is parts p n n_is b unit from h many ∙ ap (λ l. l ++ header_unit parts) (take_at end (drop 13 b0) 13 thirteen ∙ is_end)) ∙ ap (λ l. (end_unit c.args.previous ++ header_unit parts) ++ l) is_unit in
    let all = put_all parts p n n_is b unit from h many c.self.inside.buffer.items c.self.inside.buffer.len room ∙ due ∙ ap (λ k. units_with parts p k c.args.previous c.args.number slices) (sym c.if-begins.true) in
    let made : List ℕ → DueSeen = λ l. record { parts = parts; params = p; due = l } in
    subst (λ (w : DueSeen). made (drop 0 (take c.self.inside.buffer.len (let x = put_mid (13 + n) (length b - (13 + n)) b unit in x ++ drop (length x) c.self.inside.buffer.items)))
    ≡ record { parts = w.parts; params = w.params; due = units_with w.parts w.params c.args.begins c.args.previous c.args.number (slices_of (frame_under w.parts) w.params c.args.picture.now.samples) }) c.self.view_is (ap made all)

pub invariant_of-self-2 : goal.invariant_of-self-2
invariant_of-self-2 c =
    let parts = c.self.inside.header in
    let p = params_of c.self.inside.params in
    let n = c.header_len-header_len.result in
    let from = c.self.inside.from in
    let b = c.as_mut_slice-units.result.now in
    let unit = c.write_picture_unit-2.new.unit in
    let n_is : n ≡ header_length parts = c.header_len-header_len.ensures.value ∙ ap (λ (w : DueSeen). header_length w.parts) (sym c.self.view_is) in
    let h : HoldsHeader parts p b from = subst (λ l. HoldsHeader parts p l from) (sym c.as_mut_slice-units.ensures.value) c.self.invariant.0 in
    let many : length unit ≡ unit_length p = omega (arith, c.write_picture_unit-2.auto.unit, length-take (length b - (13 + n)) (drop (13 + n) b), length-drop (13 + n) b, h.long, n_is) in
    let room : length b ≡ c.self.inside.buffer.len = omega (arith, h.long, c.self.invariant.0.long, c.self.inside.buffer.ok.0) in (
      subst (λ l. HoldsHeader parts p l (13 + n)) (sym (put_all parts p n n_is b unit from h many c.self.inside.buffer.items c.self.inside.buffer.len room)) (put_holds parts p n n_is b unit from h many (13 + n) (omega arith)),
      subst (λ e. Encodes parts p e) (sym c.write_picture_unit-2.ensures.same_encoder) c.self.invariant.1,
    )

pub returns : goal.returns
returns c =
    let parts = c.self.inside.header in
    let p = params_of c.self.inside.params in
    let n = c.header_len-header_len.result in
    let from = c.self.inside.from in
    let b = c.as_mut_slice-units.result.now in
    let unit = c.write_picture_unit-2.new.unit in
    let slices = slices_of (frame_under parts) p c.args.picture.now.samples in
    let n_is : n ≡ header_length parts = c.header_len-header_len.ensures.value ∙ ap (λ (w : DueSeen). header_length w.parts) (sym c.self.view_is) in
    let h : HoldsHeader parts p b from = subst (λ l. HoldsHeader parts p l from) (sym c.as_mut_slice-units.ensures.value) c.self.invariant.0 in
    let many : length unit ≡ unit_length p = omega (arith, c.write_picture_unit-2.auto.unit, length-take (length b - (13 + n)) (drop (13 + n) b), length-drop (13 + n) b, h.long, n_is) in
    let room : length b ≡ c.self.inside.buffer.len = omega (arith, h.long, c.self.invariant.0.long, c.self.inside.buffer.ok.0) in
    let is_unit : unit ≡ picture_unit p c.args.previous c.args.number slices =
    c.write_picture_unit-2.ensures.unit ∙ ap (λ q. picture_unit q c.args.previous c.args.number (slices_of (frame_of c.self.inside.encoder.shape) q c.args.picture.now.samples)) c.self.invariant.1.params
    ∙ ap (λ z. picture_unit p c.args.previous c.args.number (slices_of z p c.args.picture.now.samples)) (frame_is parts c.self.inside.encoder.shape c.self.invariant.1.shape) in
    let due = ap (drop (13 + n)) (put_all parts p n n_is b unit from h many c.self.inside.buffer.items c.self.inside.buffer.len room) ∙ put_last parts p n n_is b unit from h many ∙ is_unit
    ∙ ap (λ k. units_with parts p k c.args.previous c.args.number slices) (sym c.if-begins.false) in
    let made : List ℕ → DueSeen = λ l. record { parts = parts; params = p; due = l } in
    subst (λ (w : DueSeen). made (drop (13 + n) (take c.self.inside.buffer.len (let x = put_mid (13 + n) (length b - (13 + n)) b unit in x ++ drop (length x) c.self.inside.buffer.items)))
    ≡ record { parts = w.parts; params = w.params; due = units_with w.parts w.params c.args.begins c.args.previous c.args.number (slices_of (frame_under w.parts) w.params c.args.picture.now.samples) }) c.self.view_is (ap made due)
