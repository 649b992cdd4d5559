use Rattle.std.proofs.Common.{◌≡◌, ◌∙◌, ap, sym, subst, ℕ, ◌*◌, ◌≤◌, ◌++◌, Bool, true, false, List, length, take, drop, get_or, arith, ℤ, pos}
use Rattle.std.specs.Prelude.{unsigned_abs, nat_le}
use Rattle.std.proofs.lemmas.Bool.{leb-true}
use Rattle.slice_encoder.specs.Sizes.{SizesSeen, HoldsSizes, shown}
use Rattle.slice_encoder.proofs.SizeLists.{shown_count}
use Rattle.slice_encoder.proofs.HeldSizes.{put_back, held}
use Rattle.slice_encoder.proofs.TakenSizes.{one_taken, ends_least}
use Rattle.slice_encoder.proofs.sizes.Sizes.take_one.Goals as goal

pub invariant_of-self : goal.invariant_of-self
invariant_of-self c =
    let g = c.args.gathered.now in
    let sound = c.depth-self-inside.ensures.sound in
    let v = c.outside-values.result.now in
    let n : ℕ = length v in
    let m : ℕ → ℕ = λ p. unsigned_abs (get_or v p (pos 0)) in
    let count = c.outside-values.ensures.count in
    let inside = c.self.inside in
    let was = c.self.invariant in
    let one = c.put_sizes-self-inside in
    let short = put_back inside.short.len n 32767 m inside.short.items c.deref_mut.result.now one.new.out c.deref_mut.ensures.value one.auto.out c.deref_mut.ensures.len one.ensures.sizes one.ensures.rest in
    let room : n ≤ length inside.short.items = omega (arith, count, c.requires.room, sound.whole 0 (omega arith), ap (λ (s : SizesSeen). length s.values) c.self.view_is, shown_count inside.is_short inside.short.items inside.long.items was.same) in
    let two = c.put_sizes-self-inside-then-not-self in
    let lent = c.deref_mut-then-not-self in
    let long = put_back inside.long.len n 2147483647 m inside.long.items lent.result.now two.new.out lent.ensures.value two.auto.out lent.ensures.len two.ensures.sizes two.ensures.rest in
    let depth = c.depth-self-inside.ensures.value in
    let key = c.key_of-self-inside in
    let front : key.result.front ≤ 3 * c.depth-self-inside.result = omega (arith, key.ensures.front, c.requires.depth, depth) in
    let holds = held (λ n. 1 * n) (λ a b le. omega (arith, le)) (omega arith) c.depth-self-inside.result n g sound depth c.ends_of-self-inside.result c.ends_of-self-inside.ensures.ends (omega (arith, count)) key.result in
    subst (λ (b : Bool). HoldsSizes c.depth-self-inside.result c.ends_of-self-inside.result key.result two.result b (take inside.short.len (one.new.out ++ drop (length one.new.out) inside.short.items)) (take inside.long.len (two.new.out ++ drop (length two.new.out) inside.long.items))) (sym c.if-not-self.true)
    (holds two.result false (take inside.short.len (one.new.out ++ drop (length one.new.out) inside.short.items)) (take inside.long.len (two.new.out ++ drop (length two.new.out) inside.long.items)) key.ensures.cut front key.ensures.ends (omega (arith, room, short.count)) (omega (arith, short.count, long.count, was.same)) (omega (arith, short.count, was.few))
    (long.top two.result (omega (arith, two.ensures.most)) two.ensures.top) two.ensures.most (λ is. absurd cc) (short.all was.short_all) (long.all was.long_all))

pub invariant_of-self-else-not-self : goal.invariant_of-self-else-not-self
invariant_of-self-else-not-self c =
    let g = c.args.gathered.now in
    let sound = c.depth-self-inside.ensures.sound in
    let v = c.outside-values.result.now in
    let n : ℕ = length v in
    let m : ℕ → ℕ = λ p. unsigned_abs (get_or v p (pos 0)) in
    let count = c.outside-values.ensures.count in
    let inside = c.self.inside in
    let was = c.self.invariant in
    let one = c.put_sizes-self-inside in
    let short = put_back inside.short.len n 32767 m inside.short.items c.deref_mut.result.now one.new.out c.deref_mut.ensures.value one.auto.out c.deref_mut.ensures.len one.ensures.sizes one.ensures.rest in
    let room : n ≤ length inside.short.items = omega (arith, count, c.requires.room, sound.whole 0 (omega arith), ap (λ (s : SizesSeen). length s.values) c.self.view_is, shown_count inside.is_short inside.short.items inside.long.items was.same) in
    let test : nat_le one.result 16383 ≡ true = c.if-not-self.false in
    let few : one.result ≤ 16383 = leb-true one.result 16383 test in
    let depth = c.depth-self-inside.ensures.value in
    let key = c.key_of-self-inside in
    let front : key.result.front ≤ 3 * c.depth-self-inside.result = omega (arith, key.ensures.front, c.requires.depth, depth) in
    let holds = held (λ n. 1 * n) (λ a b le. omega (arith, le)) (omega arith) c.depth-self-inside.result n g sound depth c.ends_of-self-inside.result c.ends_of-self-inside.ensures.ends (omega (arith, count)) key.result in
    subst (λ (b : Bool). HoldsSizes c.depth-self-inside.result c.ends_of-self-inside.result key.result one.result b (take inside.short.len (one.new.out ++ drop (length one.new.out) inside.short.items)) inside.long.items) (sym c.if-not-self.false)
    (holds one.result true (take inside.short.len (one.new.out ++ drop (length one.new.out) inside.short.items)) inside.long.items key.ensures.cut front key.ensures.ends (omega (arith, room, short.count)) (omega (arith, short.count, was.same)) (omega (arith, short.count, was.few))
    (short.top one.result (omega (arith, few)) one.ensures.top) one.ensures.most (λ _. few) (short.all was.short_all) was.long_all)

pub returns-then-not-self-clause-sizes : goal.returns-then-not-self-clause-sizes
returns-then-not-self-clause-sizes c =
    let g = c.args.gathered.now in
    let sound = c.depth-self-inside.ensures.sound in
    let v = c.outside-values.result.now in
    let n : ℕ = length v in
    let m : ℕ → ℕ = λ p. unsigned_abs (get_or v p (pos 0)) in
    let count = c.outside-values.ensures.count in
    let inside = c.self.inside in
    let was = c.self.invariant in
    let one = c.put_sizes-self-inside in
    let short = put_back inside.short.len n 32767 m inside.short.items c.deref_mut.result.now one.new.out c.deref_mut.ensures.value one.auto.out c.deref_mut.ensures.len one.ensures.sizes one.ensures.rest in
    let room : n ≤ length inside.short.items = omega (arith, count, c.requires.room, sound.whole 0 (omega arith), ap (λ (s : SizesSeen). length s.values) c.self.view_is, shown_count inside.is_short inside.short.items inside.long.items was.same) in
    let two = c.put_sizes-self-inside-then-not-self in
    let lent = c.deref_mut-then-not-self in
    let long = put_back inside.long.len n 2147483647 m inside.long.items lent.result.now two.new.out lent.ensures.value two.auto.out lent.ensures.len two.ensures.sizes two.ensures.rest in
    let key = c.key_of-self-inside in
    let view : SizesSeen = record { depth = c.depth-self-inside.result; ends = c.ends_of-self-inside.result; entries = key.result.entries; values = shown (nat_le one.result 16383) (take inside.short.len (one.new.out ++ drop (length one.new.out) inside.short.items)) (take inside.long.len (two.new.out ++ drop (length two.new.out) inside.long.items)) } in
    let shows = λ (p : ℕ). ap (λ (b : Bool). get_or (shown b (take inside.short.len (one.new.out ++ drop (length one.new.out) inside.short.items)) (take inside.long.len (two.new.out ++ drop (length two.new.out) inside.long.items))) p (pos 0)) c.if-not-self.true in
    let wide : n ≤ length view.values = omega (arith, room, short.count, long.count, was.same, ap (λ (b : Bool). length (shown b (take inside.short.len (one.new.out ++ drop (length one.new.out) inside.short.items)) (take inside.long.len (two.new.out ++ drop (length two.new.out) inside.long.items)))) c.if-not-self.true) in
    let seen = long.seen two.result (omega (arith, two.ensures.most)) two.ensures.top in
    one_taken view g c.args.matrix.now c.depth-self-inside.ensures.value (λ k one le. key.ensures.entries k one (omega (arith, le, c.requires.depth))) sound.rise (λ k le. ends_least g sound k le) sound.whole (sound.inside (3 * g.depth) (omega arith))
    c.ends_of-self-inside.ensures.ends (omega (arith, wide, count)) (λ p lt. ap unsigned_abs (shows p) ∙ seen p (omega (arith, lt, count)) ∙ ap (λ (x : List ℤ). unsigned_abs (get_or x p (pos 0))) c.outside-values.ensures.value)

pub returns-else-not-self-clause-sizes : goal.returns-else-not-self-clause-sizes
returns-else-not-self-clause-sizes c =
    let g = c.args.gathered.now in
    let sound = c.depth-self-inside.ensures.sound in
    let v = c.outside-values.result.now in
    let n : ℕ = length v in
    let m : ℕ → ℕ = λ p. unsigned_abs (get_or v p (pos 0)) in
    let count = c.outside-values.ensures.count in
    let inside = c.self.inside in
    let was = c.self.invariant in
    let one = c.put_sizes-self-inside in
    let short = put_back inside.short.len n 32767 m inside.short.items c.deref_mut.result.now one.new.out c.deref_mut.ensures.value one.auto.out c.deref_mut.ensures.len one.ensures.sizes one.ensures.rest in
    let room : n ≤ length inside.short.items = omega (arith, count, c.requires.room, sound.whole 0 (omega arith), ap (λ (s : SizesSeen). length s.values) c.self.view_is, shown_count inside.is_short inside.short.items inside.long.items was.same) in
    let test : nat_le one.result 16383 ≡ true = c.if-not-self.false in
    let few : one.result ≤ 16383 = leb-true one.result 16383 test in
    let key = c.key_of-self-inside in
    let view : SizesSeen = record { depth = c.depth-self-inside.result; ends = c.ends_of-self-inside.result; entries = key.result.entries; values = shown (nat_le one.result 16383) (take inside.short.len (one.new.out ++ drop (length one.new.out) inside.short.items)) inside.long.items } in
    let shows = λ (p : ℕ). ap (λ (b : Bool). get_or (shown b (take inside.short.len (one.new.out ++ drop (length one.new.out) inside.short.items)) inside.long.items) p (pos 0)) c.if-not-self.false in
    let wide : n ≤ length view.values = omega (arith, room, short.count, ap (λ (b : Bool). length (shown b (take inside.short.len (one.new.out ++ drop (length one.new.out) inside.short.items)) inside.long.items)) c.if-not-self.false) in
    let seen = short.seen one.result (omega (arith, few)) one.ensures.top in
    one_taken view g c.args.matrix.now c.depth-self-inside.ensures.value (λ k one le. key.ensures.entries k one (omega (arith, le, c.requires.depth))) sound.rise (λ k le. ends_least g sound k le) sound.whole (sound.inside (3 * g.depth) (omega arith))
    c.ends_of-self-inside.ensures.ends (omega (arith, wide, count)) (λ p lt. ap unsigned_abs (shows p) ∙ seen p (omega (arith, lt, count)) ∙ ap (λ (x : List ℤ). unsigned_abs (get_or x p (pos 0))) c.outside-values.ensures.value)
