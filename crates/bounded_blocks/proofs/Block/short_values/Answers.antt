use Rattle.std.proofs.Common.{take, Bool, List, sym, ap, ◌∙◌}
use Rattle.std.proofs.lemmas.List.{map-id}
use Rattle.bounded_blocks.specs.Reading.{values}
use Rattle.bounded_blocks.proofs.Block.short_values.Goals as goal

pub returns-clause-read : goal.returns-clause-read
returns-clause-read c good =
    ap (take c.args.count) (sym (map-id c.fill_from.new.out)) ∙ c.fill_from.ensures.read good
    ∙ ap (λ (b : List Bool). values c.args.count b) c.self.view_is
