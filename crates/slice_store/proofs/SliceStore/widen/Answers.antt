use Rattle.std.proofs.Common.{◌≡◌, ap, ◌∙◌, ℕ, length, get_or, pos, arith}
use Rattle.slice_store.specs.Store.{Store}
use Rattle.slice_store.specs.Places.{place_of}
use Rattle.slice_store.proofs.Apart.{in_run}
use Rattle.slice_store.proofs.Widened.{same_place, same_length}
use Rattle.slice_store.proofs.SliceStore.widen.Goals as goal

pub take_all-requires : goal.take_all-requires
take_all-requires g c = ap length c.numbers-2.ensures.value ∙ same_length c.args.narrow.now c.args.self.now c.requires c.numbers-2.ensures.sound c.numbers.ensures.sound

pub returns-clause-widened : goal.returns-clause-widened
returns-clause-widened g c level orient y x place =
    let s = c.args.narrow.now in
    let new = c.take_all.new.self.numbers in
    let p : ℕ = place_of s level orient y x in
    let at : place_of c.take_all.new.self level orient y x ≡ p =
    ap (λ (u : Store g.row.T.Denot). place_of u level orient y x) c.take_all.ensures.same ∙ same_place s c.args.self.now c.requires level orient y x in
    let inside = (in_run s c.numbers-2.ensures.sound level orient y x place).inside in
    ap g.T.Number.value (ap (λ (n : ℕ). get_or new n g.T.Number.none) at)
    ∙ c.take_all.ensures.done p (omega (arith, inside, ap length c.numbers-2.ensures.value))
    ∙ ap (λ xs. get_or xs p (pos 0)) c.numbers-2.ensures.value
