use Rattle.std.proofs.Common.{◌≡◌, ◌+◌, ◌*◌, ◌/◌, [], ◌∷◌, ◌++◌, arith, ap, sym, ◌∙◌, vec_len}
use Rattle.slice_geometry.proofs.UnitLemmas.{in_turn-push}
use Rattle.slice_geometry.proofs.unit_list.UnitShapes.push.Goals as goal

pub invariant_of-self : goal.invariant_of-self
invariant_of-self c =
    let items : c.push.new.self.items ≡ c.self.inside.units.items ++ c.args.unit ∷ [] = rw c.unwrap.ensures at c.push.ensures.items in
    let longer : vec_len c.push.new.self ≡ vec_len c.self.inside.units + 1 = rw c.unwrap.ensures at c.push.ensures.len in
    let total = ap (λ u. u.total) c.self.view_is in
    let spare = ap (λ u. u.spare) c.self.view_is in
    let slices : c.from.result * c.from-2.result / c.from-3.result ≡ c.args.unit.slices * c.args.unit.a / c.args.unit.b = rw (c.from.ensures, c.from-2.ensures, c.from-3.ensures) in
    record {
      in_turn = rw (items, slices) (in_turn-push 0 c.self.inside.units.items c.self.inside.total c.args.unit c.self.invariant.in_turn (c.requires.start ∙ sym total) c.requires.allowed);
      most = rw slices (omega (arith, c.requires.most, total));
      room = omega (arith, c.self.invariant.room, longer, spare, c.push.ensures.capacity, c.requires.room);
    }
