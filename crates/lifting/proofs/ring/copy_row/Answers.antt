use Rattle.std.proofs.Common.{◌∙◌, sym, arith}
use Rattle.std.proofs.lemmas.List.{length-take-le, take-append-drop}
use Rattle.lifting.proofs.RingRows.{cut_twice, other_rows}
use Rattle.lifting.proofs.ring.copy_row.Goals as goal

pub returns-clause-others : goal.returns-clause-others
returns-clause-others g c =
    let s = c.split_at_mut-front in
    let n = c.args.n in
    let long = length-take-le n s.result.1.now (omega (arith, s.ensures.back_len, c.start_of.ensures, c.requires.inside)) in
    other_rows g.T.Number.value g.T.Number.none (cut_twice c.args.y n s.ensures.value (sym (take-append-drop n s.result.1.now)) (s.ensures.front_len ∙ c.start_of.ensures) long) c.copy_from_slice.new.self
    (c.copy_from_slice.auto.self ∙ long)
