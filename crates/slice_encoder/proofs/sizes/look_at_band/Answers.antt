use Rattle.std.proofs.Common.{◌≡◌, ◌∙◌, ℕ, ◌+◌, ◌-◌, ◌*◌, ◌<◌, List, length, map, take, drop, ap, subst, arith, ℤ}
use Rattle.std.proofs.lemmas.List.{length-map, length-take, length-drop}
use Rattle.std.proofs.lemmas.Grind.{div_ceil_times}
use Rattle.std.proofs.Math.Nat.{mul-le-mul_right}
use Rattle.slice_encoder.specs.Gathering.{quantised}
use Rattle.slice_encoder.specs.Looks.{IsLook}
use Rattle.slice_encoder.proofs.Gathers.{length_quantised}
use Rattle.slice_encoder.proofs.PieceLooks.{one_piece, pieces_more, lower_sizes, part_sizes, front_sizes}
use Rattle.slice_encoder.proofs.sizes.look_at_band.Goals as goal

pub look-requires-clause-top : goal.look-requires-clause-top
look-requires-clause-top g c =
    let from : ℕ = c.loop-n.n * c.room-room.result in
    let m : ℕ = c.min-to.result - from in
    front_sizes c.args.top m (map g.T.Number.value (take m (drop from c.args.sizes.now))) (part_sizes g.T.Number.value g.T.Number.none c.args.top from m c.args.sizes.now c.requires.top)

pub look-requires-clause-all : goal.look-requires-clause-all
look-requires-clause-all g c =
    let from : ℕ = c.loop-n.n * c.room-room.result in
    let m : ℕ = c.min-to.result - from in
    lower_sizes c.args.top g.T.Magnitude.greatest (map g.T.Number.value (take m (drop from c.args.sizes.now))) (omega (arith, c.requires.small, g.met.T.Magnitude.room_law)) (part_sizes g.T.Number.value g.T.Number.none c.args.top from m c.args.sizes.now c.requires.top)

one_more : (k r : ℕ) → (k + 1) * r ≡ k * r + r
one_more k r = grind arith

pub loop-n-preserved : goal.loop-n-preserved
loop-n-preserved g c =
    let l = c.loop-n in
    let i = l.invariant in
    let value = g.T.Number.value in
    let xs = c.args.sizes.now in
    let room : ℕ = c.room-room.result in
    let n : ℕ = l.n in
    let from : ℕ = n * room in
    let to : ℕ = (n + 1) * room in
    let to_is : to ≡ from + room = one_more n room in
    let m : ℕ = c.min-to.result - from in
    let times = div_ceil_times (length xs) room (omega (arith, c.room-room.ensures.some)) in
    let count : c.div_ceil-n-end.result * room < length xs + room = omega (arith, times.1, ap (λ (k : ℕ). k * room) c.div_ceil-n-end.ensures) in
    let inside : from < length xs = omega (arith, count, to_is, mul-le-mul_right {m = n + 1} {n = c.div_ceil-n-end.result} room (omega (arith, c.loop-n-test.true, l.auto.n-end))) in
    let part = take m (drop from xs) in
    let long : length (map value part) ≡ m = omega (arith, inside, c.min-to.ensures, length-map part value, length-take m (drop from xs), length-drop from xs) in
    let front = take from (map value xs) in
    let front_long : length (quantised c.args.index front) ≡ from = omega (arith, inside, length_quantised c.args.index front, length-take from (map value xs), length-map xs value) in
    let piece : IsLook c.look.result (quantised c.args.index (map value part)) = subst (λ (t : List ℤ). IsLook c.look.result t) (one_piece c.args.index m (map value part) long) c.look.ensures.look in
    record {
      room_is = i.room_is;
      limits_same = c.look.ensures.room ∙ i.limits_same;
      look = subst (λ (t : List ℤ). IsLook c.then-look.result t)
          (pieces_more value c.args.index from m to xs (omega (arith, inside)) (omega (arith, c.min-to.ensures, to_is)) (omega (arith, to_is)))
          (c.then-look.ensures.look (quantised c.args.index front) (quantised c.args.index (map value part)) front_long i.look piece);
      some = omega (arith, c.then-look.ensures.some, i.some, c.look.ensures.some);
      more = omega (arith, c.then-look.ensures.more, i.more, c.look.ensures.more);
    }
