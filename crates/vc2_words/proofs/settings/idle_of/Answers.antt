use Rattle.std.proofs.Common.{◌≤◌, ◌^◌, arith}
use Rattle.vc2_words.specs.declared.keys.Key.TheVariants as of_key
use Rattle.vc2_words.specs.Settings.{given_number}
use Rattle.vc2_words.proofs.Small.{number_fit}
use Rattle.vc2_words.proofs.settings.idle_of.Goals as goal

pub returns-clause-few : goal.returns-clause-few
returns-clause-few c =
    let few : given_number c.args.given.now.values of_key.Idle 0 ≤ 2 ^ 20 = number_fit c.args.given.now.values of_key.Idle 0 c.args.given.now.fit in
    omega (arith, few, c.number.ensures)
