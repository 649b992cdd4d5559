use Rattle.std.proofs.Common.{◌∙◌, sym, arith}
use Rattle.vc2_words.proofs.settings.number.Goals as goal

pub unreachable-requires : goal.unreachable-requires
unreachable-requires c =
    let low = c.args.given.now.fit.fits c.args.key c.in-Some.numbers c.args.i (sym c.get.ensures ∙ c.in-Some.is) in
    c.in-Err.ensures (omega (arith, low, c.requires, c.get-in-Some.ensures))
