use Rattle.std.proofs.Common.{◌∷◌, ◌++◌, [], Bool, List, Option, sym, ap, subst, ◌∙◌, arith}
use Rattle.std.proofs.lemmas.Grind.{common_steps}
use Rattle.slice_geometry.specs.declared.unit_list.UnitShape.{UnitShape}
use Rattle.std.specs.Prelude.{IfSome}
use Rattle.picture_codec.specs.Decoding.{PictureDecoderSeen}
use Rattle.stream_rows.specs.Units.{Past, DataUnit, Sequence, Repeated, Picture, Skipped, End}
use Rattle.stream_reader.specs.Turns.{IsFound, HasAllSlices}
use Rattle.stream_reader.specs.Reader.{IsTakerOf, header_behind}
use Rattle.stream_reader.specs.StreamTable.{StreamTableSeen, IsFoundBy, DecoderBehind}
use Rattle.stream_reader.proofs.ReaderTurns.{found_now, decoder_behind, kept_behind, slices_few}
use Rattle.stream_reader.proofs.table.StreamTableTable.step.Goals as goal

pub step-item-requires-clause-found : goal.step-item-requires-clause-found
step-item-requires-clause-found c =
    let f = c.requires.found in
    (f.1, f.2, f.3, subst (λ (t : StreamTableSeen). IsFound t.past c.args.found f.1 f.2) (sym c.self.view_is) (found_now f.0 c.args.self.now c.args.found f.1 f.2 f.4))

-- a decoder that took a picture's slices has all of them
taken_whole : (unit : DataUnit) (took : Option PictureDecoderSeen) → IsTakerOf unit took → IfSome took HasAllSlices
taken_whole (Picture parts number params slices) took t = subst (λ (d : Option PictureDecoderSeen). IfSome d HasAllSlices) (sym t.1) t.2.whole
taken_whole (Sequence parts) took t = subst (λ (d : Option PictureDecoderSeen). IfSome d HasAllSlices) (sym t) tt
taken_whole Repeated took t = subst (λ (d : Option PictureDecoderSeen). IfSome d HasAllSlices) (sym t) tt
taken_whole Skipped took t = subst (λ (d : Option PictureDecoderSeen). IfSome d HasAllSlices) (sym t) tt
taken_whole End took t = subst (λ (d : Option PictureDecoderSeen). IfSome d HasAllSlices) (sym t) tt

pub keep-requires : goal.keep-requires
keep-requires c =
    let q = c.requires.found in
    taken_whole q.1 c.step-item.result.1 (c.step-item.ensures q.1 q.2 q.3 (subst (λ (t : StreamTableSeen). IsFound t.past c.args.found q.1 q.2) (sym c.self.view_is) (found_now q.0 c.args.self.now c.args.found q.1 q.2 q.4))).decoder

pub returns-clause-tells : goal.returns-clause-tells
returns-clause-tells c = λ before unit bytes long found.
    let i = c.self.inside in
    let now : StreamTableSeen = record { makes_pictures = i.makes_pictures; past = i.earlier; header = i.header; shapes = i.shapes; decoder = i.decoder } in
    let f = subst (λ (t : StreamTableSeen). IsFoundBy before t c.args.found unit bytes) (sym c.self.view_is) found in
    let is_found = found_now before now c.args.found unit bytes f in
    let s = c.step-item.ensures unit bytes long is_found in
    let shape = c.shape_of.ensures.shape before.past unit bytes (ap (λ (z : Past). z.place) (sym f.past) ∙ sym c.place.ensures.value) long f.is_read.0 in
    record {
      is_item = s.is_item;
      makes = f.makes;
      header = c.header_behind-self-inside.ensures i.earlier unit bytes is_found ∙ ap (header_behind unit) f.header;
      shapes = c.push.ensures.units ∙ ap (λ (l : List UnitShape). l ++ c.shape_of.result ∷ []) f.shapes ∙ ap (λ (u : UnitShape). before.shapes.units ++ u ∷ []) shape;
      few = omega (arith, slices_few c.shape_of.result c.shape_of.ensures.allowed, c.shape_of.ensures.size before.past unit bytes long f.is_read.0, long, ap (λ (u : UnitShape). u.slices) shape);
      decoder = subst (λ (b : Bool). DecoderBehind b unit before.decoder c.keep.new.kept) f.makes
          (kept_behind i.makes_pictures before.past c.args.found unit bytes before.decoder i.decoder c.keep.new.kept f.is_read.0 f.kept (decoder_behind i.makes_pictures unit c.step-item.result.1 i.decoder c.keep.new.kept s.decoder c.keep.ensures));
    }

pub overflow_cast-size : goal.overflow_cast-size
overflow_cast-size c = grind (arith, common_steps)
