use Rattle.std.proofs.Common.{◌≡◌, ◌∙◌, ℕ, suc, ◌+◌, ◌-◌, ◌*◌, ◌^◌, ◌≤◌, List, length, map, take, ap, sym, subst, refl, arith, ℤ, pos}
use Rattle.std.proofs.Math.Nat.{mul-le-mul_right}
use Rattle.std.proofs.lemmas.List.{length-map, get_or-map}
use Rattle.planes.specs.Valued.{valued}
use Rattle.slice_encoder.specs.Limits.{LimitRowSeen, limits_in, padded_count, places_in, key_values, AreSizesTo}
use Rattle.slice_encoder.specs.Looks.{above, all_above, Counts, IsLook}
use Rattle.slice_encoder.proofs.PlaceLooks.{above_most, last_most}
use Rattle.slice_encoder.proofs.RowLooks.{row_look, part_above, front_above, front_last}
use Rattle.slice_encoder.proofs.limits.LimitRow.look.Goals as goal

one_row : (k r : ℕ) → (k + 1) * r ≡ k * r + r
one_row k r = grind arith

pub loop-k-init : goal.loop-k-init
loop-k-init g c =
    let value = g.T.Number.value in
    let none = g.T.Number.none in
    let zs = c.args.sizes.now in
    let n : ℕ = length zs in
    let sizes = valued value none zs in
    let limits = c.deref.result.now in
    let room : ℕ = c.self.inside.room in
    let first = front_above value none limits room n sizes in
    let second = part_above value none limits room n sizes 1 room (room + n - room) (omega arith) (omega arith) in
    let third = part_above value none limits room n sizes 2 (2 * room) (2 * room + n - 2 * room) (omega arith) (omega arith) in
    let fourth = part_above value none limits room n sizes 3 (3 * room) (3 * room + n - 3 * room) (omega arith) (omega arith) in
    let i = c.look_four-look.ensures in
    let a = λ (k : ℕ). above_most (limits_in value none limits room k) sizes n in
    record {
      counts = record {
        some = i.some ∙ first;
        all = omega (arith, i.some, i.more, first, second, third, fourth);
        last = i.last ∙ front_last value none limits room n sizes;
      };
      some = omega (arith, i.some, first, a 0);
      more = omega (arith, i.some, i.more, first, second, third, fourth, a 0, a 1, a 2, a 3);
    }

pub overflow_add-look : goal.overflow_add-look
overflow_add-look g c =
    let l = c.loop-k in
    let value = g.T.Number.value in
    let none = g.T.Number.none in
    let zs = c.args.sizes.now in
    let n : ℕ = length zs in
    let sizes = valued value none zs in
    let room : ℕ = c.self.inside.room in
    let k : ℕ = l.k in
    let part = part_above value none c.deref.result.now room n sizes k (k * room) (k * room + n - k * room) refl (omega arith) in
    let most = above_most (limits_in value none c.deref.result.now room k) sizes n in
    let seen_room : room ≡ c.args.self.now.room = ap (λ (r : LimitRowSeen). r.room) c.self.view_is in
    let short : n ≤ 1024 = omega (arith, c.requires.most, c.requires.room, seen_room, c.self.invariant.few) in
    let few : k ≤ 27 = omega (arith, c.loop-k-test.true, l.auto.k-end, c.limits_asked-k-end.ensures.few g.T.Magnitude.LIMITS (g.met.T.Magnitude.some_law) (omega (arith, c.requires.small, g.met.T.Magnitude.top_law)), g.met.T.Magnitude.few_law) in
    record { fits = omega (arith, l.invariant.more, c.count_above.ensures, part, most, short, mul-le-mul_right {m = k} {n = 27} n few) }

pub loop-k-preserved : goal.loop-k-preserved
loop-k-preserved g c =
    let l = c.loop-k in
    let value = g.T.Number.value in
    let none = g.T.Number.none in
    let zs = c.args.sizes.now in
    let n : ℕ = length zs in
    let sizes = valued value none zs in
    let limits = c.deref.result.now in
    let room : ℕ = c.self.inside.room in
    let k : ℕ = l.k in
    let part = part_above value none limits room n sizes k (k * room) (k * room + n - k * room) refl (omega arith) in
    let most = above_most (limits_in value none limits room k) sizes n in
    let next : k + 1 ≡ suc k = omega arith in
    let more : c.count_above.result ≡ above (limits_in value none limits room k) sizes n = c.count_above.ensures ∙ part in
    record {
      counts = record {
        some = l.invariant.counts.some;
        all = omega (arith, l.invariant.counts.all, more, ap (all_above (limits_in value none limits room) sizes n) next);
        last = l.invariant.counts.last;
      };
      some = l.invariant.some;
      more = omega (arith, l.invariant.more, more, most, one_row k n);
    }

pub returns-clause-look : goal.returns-clause-look
returns-clause-look g c =
    let l = c.loop-k in
    let i = c.self.inside in
    let value = g.T.Number.value in
    let none = g.T.Number.none in
    let xs = c.args.sizes.now in
    let zs : List ℤ = map value xs in
    let sizes = valued value none xs in
    let k : ℕ = l.k in
    let few : c.limits_asked-k-end.result ≤ g.T.Magnitude.LIMITS = c.limits_asked-k-end.ensures.few g.T.Magnitude.LIMITS g.met.T.Magnitude.some_law (omega (arith, c.requires.small, g.met.T.Magnitude.top_law)) in
    let end : k ≡ c.limits_asked-k-end.result = omega (arith, c.loop-k-test.false, l.auto.k-end, c.limits_asked-k-end.ensures.some) in
    let long : length zs ≡ length xs = length-map xs value in
    let places = ap (λ (r : LimitRowSeen). places_in r.key) c.self.view_is in
    let limits_are = c.deref.ensures.value in
    subst (λ (r : LimitRowSeen). IsLook l.look (key_values r.key r.index zs)) c.self.view_is
    (row_look i.key i.index k g.T.Magnitude.greatest c.args.top i.finest (limits_in value none c.deref.result.now i.room) sizes zs c.self.invariant.cut c.self.invariant.index_few (omega (arith, end, c.limits_asked-k-end.ensures.some)) (omega (arith, end, few, g.met.T.Magnitude.few_law))
    (λ j lt. rw limits_are (c.self.invariant.parts j (omega (arith, lt, end, few))))
    (omega (arith, c.requires.small, g.met.T.Magnitude.room_law))
    c.self.invariant.least
    (omega (arith, c.limits_asked-k-end.ensures.all, ap (λ (j : ℕ). 2 ^ j) end))
    (omega (arith, places, long, c.requires.some))
    (λ p lt. sym (get_or-map value xs p none (pos 0) (omega (arith, lt, long))))
    (subst (λ (n : ℕ). AreSizesTo c.args.top (take n zs)) (sym places) c.requires.top)
    l.look (omega (arith, long, c.requires.most, ap padded_count places)) c.requires.all
    (subst (λ (n : ℕ). Counts l.look (limits_in value none c.deref.result.now i.room) sizes n k) (sym long) l.invariant.counts))

pub returns-clause-last : goal.returns-clause-last
returns-clause-last g c =
    let l = c.loop-k in
    let last = last_most (limits_in g.T.Number.value g.T.Number.none c.deref.result.now c.self.inside.room 0) (valued g.T.Number.value g.T.Number.none c.args.sizes.now) (length c.args.sizes.now) in
    omega (arith, l.invariant.counts.last, last, c.requires.most, c.requires.room, ap (λ (r : LimitRowSeen). r.room) c.self.view_is, c.self.invariant.few)
