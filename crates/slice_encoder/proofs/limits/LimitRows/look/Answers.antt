use Rattle.std.proofs.Common.{◌≡◌, ◌∙◌, map, take, ap, sym, subst, rules}
use Rattle.slice_encoder.specs.declared.limits.RowKey.{RowKey}
use Rattle.slice_encoder.specs.Limits.{LimitRowSeen, AreSizesTo, places_in}
use Rattle.slice_encoder.proofs.limits.LimitRows.look.Goals.{then-not-is_for, else-not-is_for}
use Rattle.slice_encoder.proofs.limits.LimitRows.look.Goals as goal

pub look-requires-clause-top : goal.look-requires-clause-top
look-requires-clause-top g c =
    let same : c.if-not-is_for.row.key ≡ c.args.key.now = elim c.if-not-is_for.branch [ then-not-is_for w ↦ ap (λ (r : LimitRowSeen). r.key) w.row-is ∙ w.learn.ensures.key | else-not-is_for w ↦ search rules ] in
    subst (λ (k : RowKey). AreSizesTo c.args.top (take (places_in k) (map g.T.Number.value c.args.sizes.now))) (sym same) c.requires.top
