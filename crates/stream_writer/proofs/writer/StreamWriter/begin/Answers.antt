use Rattle.std.proofs.Common.{◌≡◌, ◌+◌, List, [], ◌∷◌, ◌++◌, ap, subst, ◌∙◌, arith}
use Rattle.std.proofs.lemmas.Grind.{common_steps}
use Rattle.slice_geometry.specs.declared.unit_list.UnitShape.{UnitShape}
use Rattle.slice_geometry.specs.UnitLengths as shapes
use Rattle.stream_writer.specs.EncodedStream.{header_length}
use Rattle.stream_writer.specs.Writer.{StreamWriterSeen, plain_shape, total_length}
use Rattle.stream_writer.proofs.WrittenShapes.{sound_plain, sound_kept}
use Rattle.stream_writer.proofs.writer.StreamWriter.begin.Goals as goal

pub push-requires-clause-most : goal.push-requires-clause-most
push-requires-clause-most g c =
    let none : c.self.inside.shapes.units ≡ [] = ap (λ w. w.shapes) c.self.view_is ∙ c.requires.nothing in
    let empty : c.self.inside.shapes.total ≡ 0 = c.self.invariant.total ∙ ap total_length none in
    omega (arith, empty, c.reserve.ensures.total, c.header_len-size.ensures.most, c.from.ensures, ap (λ u. shapes.shape_length u) c.plain_shape.ensures)

pub step-requires : goal.step-requires
step-requires g c =
    let none : c.self.inside.shapes.units ≡ [] = ap (λ w. w.shapes) c.self.view_is ∙ c.requires.nothing in
    let empty : c.self.inside.shapes.total ≡ 0 = c.self.invariant.total ∙ ap total_length none in
    omega (arith, empty, c.self.invariant.place, c.header_len-size.ensures.most)

pub invariant_of-self : goal.invariant_of-self
invariant_of-self g c =
    sound_kept c.self.inside.first c.self.inside.number c.self.inside.position c.self.inside.chain c.self.inside.shapes c.reserve.new.self c.self.inside.stop c.self.inside.stop c.self.inside.ended c.self.invariant c.reserve.ensures.units c.reserve.ensures.total

pub invariant_of-self-in-Err : goal.invariant_of-self-in-Err
invariant_of-self-in-Err g c =
    sound_kept c.self.inside.first c.self.inside.number c.self.inside.position c.self.inside.chain c.self.inside.shapes c.reserve.new.self c.self.inside.stop c.self.inside.stop c.self.inside.ended c.self.invariant c.reserve.ensures.units c.reserve.ensures.total

pub invariant_of-self-2 : goal.invariant_of-self-2
invariant_of-self-2 g c =
    let units = c.self.inside.shapes.units in
    let none : units ≡ [] = ap (λ w. w.shapes) c.self.view_is ∙ c.requires.nothing in
    let empty : c.self.inside.shapes.total ≡ 0 = c.self.invariant.total ∙ ap total_length none in
    let total : c.push.new.self.total ≡ c.self.inside.shapes.total + c.header_len-size.result = omega (arith, c.push.ensures.total, c.reserve.ensures.total, c.from.ensures, ap (λ u. shapes.shape_length u) c.plain_shape.ensures) in
    sound_plain c.self.inside.first c.self.inside.number c.self.inside.position c.header_len-size.result c.self.inside.chain c.step.new.self c.self.inside.shapes c.push.new.self c.self.inside.stop c.self.inside.ended c.self.inside.ended c.self.invariant
    (c.push.ensures.units ∙ ap (λ l. l ++ c.plain_shape.result ∷ []) c.reserve.ensures.units ∙ ap (λ u. units ++ u ∷ []) c.plain_shape.ensures ∙ ap (λ n. units ++ plain_shape n c.from.result ∷ []) (c.place.ensures.value ∙ c.self.invariant.place)
    ∙ ap (λ n. units ++ plain_shape c.self.inside.shapes.total n ∷ []) c.from.ensures) total c.step.ensures (λ _. omega (arith, total, empty, c.header_len-size.ensures.most))

pub returns-clause-after : goal.returns-clause-after
returns-clause-after g c =
    let i = c.self.inside in
    let none : i.shapes.units ≡ [] = ap (λ w. w.shapes) c.self.view_is ∙ c.requires.nothing in
    let empty : i.shapes.total ≡ 0 = c.self.invariant.total ∙ ap total_length none in
    let list : c.push.new.self.units ≡ plain_shape 0 (header_length i.due.parts) ∷ [] =
    c.push.ensures.units ∙ ap (λ l. l ++ c.plain_shape.result ∷ []) (c.reserve.ensures.units ∙ none)
    ∙ ap (λ u. u ∷ []) (c.plain_shape.ensures ∙ ap (λ n. plain_shape n c.from.result) (c.place.ensures.value ∙ c.self.invariant.place ∙ empty) ∙ ap (plain_shape 0) (c.from.ensures ∙ c.header_len-size.ensures.value)) in
    let left : List UnitShape → StreamWriterSeen = λ l. record { settings = record { parts = i.due.parts; params = i.due.params; first = i.first; group = i.group }; shapes = l; ended = i.ended; stop = i.stop } in
    subst (λ (w : StreamWriterSeen). left c.push.new.self.units ≡ record w { shapes = plain_shape 0 (header_length w.settings.parts) ∷ [] }) c.self.view_is (ap left list)

pub returns-clause-cause : goal.returns-clause-cause
returns-clause-cause g c = grind (arith, common_steps)
