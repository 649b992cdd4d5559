use Rattle.std.proofs.Common.{◌≡◌, ◌+◌, ◌-◌, ◌^◌, ◌<◌, List, ℕ, ◌++◌, length, take, drop, sym, ap, subst, ◌∙◌, arith}
use borrow.Rule.Slice.PartMut.{post_of}
use Rattle.std.proofs.lemmas.List.{length-drop}
use Rattle.transform_params.specs.Views.{params_of}
use Rattle.transform_params.specs.ParameterFields.{unit_length}
use Rattle.stream_writer.specs.EncodedStream.{header_length}
use Rattle.stream_writer.specs.WriterInside.{HoldsHeader}
use Rattle.stream_writer.proofs.EncodedUnits.{length-header_unit}
use Rattle.stream_writer.proofs.DueBytes.{same_room, first_holds}
use Rattle.stream_writer.proofs.due_units.DueUnits.new.Goals as goal

pub invariant_of-result : goal.invariant_of-result
invariant_of-result c =
    let parts = c.args.header.now in
    let p = params_of c.args.params.now in
    let b = c.as_mut_slice.result.now in
    let front = 26 + c.byte_len-front.result in
    let unit = c.write_header_unit.new.unit in
    let behind = post_of 13 (front - 13) b in
    let x : List ℕ = take 13 b ++ (unit ++ behind) in
    let many : length unit ≡ header_length parts = ap (λ (l : List ℕ). length l) c.write_header_unit.ensures ∙ length-header_unit parts in
    let all : length b ≡ front + unit_length p = omega (arith, c.as_mut_slice.ensures.len, c.in-Ok.ensures.len, c.unit_len.ensures.value) in
    let others : length behind ≡ unit_length p = omega (arith, length-drop (front - 13) (drop 13 b), length-drop 13 b, all) in
    let small : unit_length p < 2 ^ 32 = omega (arith, c.unit_len.ensures.value, c.unit_len.type_inv) in
    let holds = first_holds parts p b unit behind front many others small (omega (arith, all)) (omega (arith, c.byte_len-front.ensures.length)) c.write_header_unit.ensures in
    let room : length x ≡ c.in-Ok.made.len = omega (arith, holds.long, all, c.as_mut_slice.ensures.len, c.in-Ok.ensures.len, c.byte_len-front.ensures.length) in
    (subst (λ l. HoldsHeader parts p l front) (sym (same_room x c.in-Ok.made.items c.in-Ok.made.len room)) holds, c.requires)
