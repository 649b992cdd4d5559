use Rattle.std.proofs.Common.{◌≤◌, ◌∙◌, ◌^◌, sym, arith}
use Rattle.std.specs.Prelude.{slice_index}
use Rattle.vc2_words.specs.declared.keys.Key.TheVariants as of_key
use Rattle.vc2_words.proofs.settings.given_buffer.Goals as goal

pub unreachable-requires : goal.unreachable-requires
unreachable-requires c =
    let low : slice_index c.in-Some.numbers 0 ≤ 2 ^ 40 = c.args.given.now.fit.fits of_key.Buffer c.in-Some.numbers 0 (sym c.get.ensures ∙ c.in-Some.is) in
    c.in-Err.ensures (omega (arith, low, c.get-in-Some.ensures))
