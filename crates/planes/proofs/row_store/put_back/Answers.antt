use Rattle.std.proofs.Common.{◌*◌, ap, ◌∙◌}
use Rattle.planes.specs.LendingParts.{with_part}
use Rattle.planes.proofs.row_store.put_back.Goals as goal

pub returns : goal.returns
returns g c =
    ap (λ i. with_part c.args.numbers.now i c.args.w c.copy_from_slice.new.self) c.start_of.ensures
    ∙ ap (with_part c.args.numbers.now (c.args.lent * c.args.w) c.args.w) c.copy_from_slice.ensures.after
