use Rattle.std.proofs.Common.{◌≡◌, ◌∙◌, ℕ, ◌+◌, ◌-◌, ◌*◌, ◌<◌, ◌≤◌, ◌++◌, length, take, drop, ap, sym, subst, arith, inl, inr}
use borrow.Rule.Slice.PartMut.{put_mid}
use Rattle.std.proofs.Math.Nat.{mul-le-mul_right}
use Rattle.std.proofs.lemmas.Bool.{cases_eq}
use Rattle.planes.specs.Valued.{valued}
use Rattle.slice_encoder.specs.Limits.{LimitRowSeen, IsLimitPart, limits_in}
use Rattle.slice_encoder.proofs.Cuts.{part_same, part_length, put_length, written_back, back_inside, back_before}
use Rattle.slice_encoder.proofs.limits.LimitRow.learn.Goals as goal

-- a row of one limit lies before those of later ones
below : (j k room p : ℕ) → j < k → p < room → j * room + p < k * room
below j k room p lt inside = omega (arith, inside, mul-le-mul_right {m = j + 1} {n = k} room (omega (arith, lt)), one_more j room)
  where
    one_more : (a b : ℕ) → (a + 1) * b ≡ a * b + b
    one_more a b = grind arith

pub loop-k-preserved : goal.loop-k-preserved
loop-k-preserved g c =
    let l = c.loop-k in
    let i = l.invariant in
    let a = c.args in
    let key = a.key.now in
    let value = g.T.Number.value in
    let none = g.T.Number.none in
    let room : ℕ = c.self.inside.room in
    let xs = l.self-inside.limits.items in
    let ys = c.fill_part.new.limits in
    let from : ℕ = l.k * room in
    let n : ℕ = from + room - from in
    let n_is : n ≡ room = omega arith in
    let few : l.k + 1 ≤ g.T.Magnitude.LIMITS = omega (arith, c.loop-k-test.true, l.auto.k-end, c.LIMITS-k-end.ensures) in
    let fit : from + n ≤ length xs = omega (arith, i.count, n_is, mul-le-mul_right {m = l.k + 1} {n = g.T.Magnitude.LIMITS} room few, one_row l.k room) in
    let long : length ys ≡ n = c.fill_part.auto.limits ∙ part_length from n c.deref_mut.result.now (omega (arith, fit, ap length c.deref_mut.ensures.value)) in
    let lent = c.deref_mut.result.now in
    let len : ℕ = l.self-inside.limits.len in
    let len_is : len ≡ length xs = omega (arith, c.deref_mut.ensures.len, ap length c.deref_mut.ensures.value) in
    let new = take len (put_mid from n lent ys ++ drop (length (put_mid from n lent ys)) xs) in
    let seen_room : room ≡ a.self.now.room = ap (λ (r : LimitRowSeen). r.room) c.self.view_is in
    record {
      key_is = i.key_is;
      index_is = i.index_is;
      room_is = i.room_is;
      room_same = i.room_same;
      low = i.low;
      least = i.least;
      count = ap length (written_back from n xs ys none fit long lent len c.deref_mut.ensures.value len_is) ∙ put_length from n xs ys none fit long ∙ i.count;
      done = λ j lt. elim (cases_eq j l.k) [
        | inl same ↦
            subst (λ (t : ℕ). IsLimitPart (limits_in value none new room t) g.T.Magnitude.greatest key a.index t) (sym same)
            (part_same key a.index g.T.Magnitude.greatest l.k (valued value none ys) (limits_in value none new room l.k) c.requires.cut
            (λ p inside. ap value (back_inside from n xs ys none fit long lent len c.deref_mut.ensures.value len_is p (omega (arith, inside, n_is, seen_room, c.requires.room))))
            c.fill_part.ensures)
        | inr other ↦
            part_same key a.index g.T.Magnitude.greatest j (limits_in value none xs room j) (limits_in value none new room j) c.requires.cut
            (λ p inside. ap value (back_before from n xs ys none fit long lent len c.deref_mut.ensures.value len_is (j * room + p) (below j l.k room p (omega (arith, lt, other)) (omega (arith, inside, seen_room, c.requires.room)))))
            (i.done j (omega (arith, lt, other)))
      ];
    }
  where
    one_row : (k r : ℕ) → (k + 1) * r ≡ k * r + r
    one_row k r = grind arith
