use Rattle.std.proofs.Common.{◌≡◌, ℕ, ◌+◌, ◌*◌, ◌/◌, ◌%◌, get_or, subst, arith}
use Rattle.slice_encoder.specs.CodeTables.{IsPairEntry}
use Rattle.slice_encoder.proofs.code_tables.pair_entry.Goals as goal

pub returns : goal.returns
returns c =
    let a = c.args in
    let p : ℕ = 64 * c.from.result + c.from-2.result in
    let row : p / 64 ≡ a.first = omega (arith, c.from.ensures, c.from-2.ensures, c.requires.second) in
    let column : p % 64 ≡ a.second = omega (arith, c.from.ensures, c.from-2.ensures, c.requires.second) in
    let entry = get_or a.pairs.now p 0 in
    subst (λ (n : ℕ). IsPairEntry entry n a.second) row
    (subst (λ (n : ℕ). IsPairEntry entry (p / 64) n) column
    (c.requires.pairs.each p (omega (arith, c.from.ensures, c.from-2.ensures, c.requires.first, c.requires.second))))
