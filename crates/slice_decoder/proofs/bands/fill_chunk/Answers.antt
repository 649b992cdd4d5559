use Rattle.std.proofs.Common.{◌≡◌, ◌∙◌, ◌+◌, ◌-◌, ◌<◌, ◌≤◌, ◌⊎◌, ℕ, ℤ, pos, List, length, get_or, take, drop, inl, inr, ap, arith}
use Rattle.std.proofs.lemmas.List.{length-take, length-drop, get_or_append_left, get_or-append_right, get_or-take, get_or-drop}
use borrow.Rule.Slice.PartMut.{put_mid, post_of}
use Rattle.slice_decoder.proofs.bands.fill_chunk.Goals as goal

-- the length of a part
part_length : (a e : ℕ) (xs : List ℤ) → a ≤ e → e ≤ length xs → length (take (e - a) (drop a xs)) ≡ e - a
part_length a e xs order inside = omega (arith, length-take (e - a) (drop a xs), length-drop a xs)

-- what is read of a part that was written, and beside it
in_part : (a k : ℕ) (xs ys : List ℤ) (x : ℕ) → a ≤ length xs → a ≤ x → x - a < length ys → get_or (put_mid a k xs ys) x (pos 0) ≡ get_or ys (x - a) (pos 0)
in_part a k xs ys x inside from lt =
    get_or-append_right (take a xs) _ a x (pos 0) (omega (arith, length-take a xs)) from ∙ get_or_append_left ys (post_of a k xs) (pos 0) (x - a) lt

beside_part : (a e : ℕ) (xs ys : List ℤ) → a ≤ e → e ≤ length xs → length ys ≡ e - a → (x : ℕ) → (x < a) ⊎ (e ≤ x) → get_or (put_mid a (e - a) xs ys) x (pos 0) ≡ get_or xs x (pos 0)
beside_part a e xs ys order inside count x (inl lt) = get_or_append_left (take a xs) _ (pos 0) x (omega (arith, length-take a xs)) ∙ get_or-take a xs x (pos 0) lt
beside_part a e xs ys order inside count x (inr le) =
    get_or-append_right (take a xs) _ a x (pos 0) (omega (arith, length-take a xs)) (omega arith)
    ∙ get_or-append_right ys _ (e - a) (x - a) (pos 0) count (omega arith)
    ∙ get_or-drop (e - a) (drop a xs) (x - a - (e - a)) (pos 0)
    ∙ get_or-drop a xs (e - a + (x - a - (e - a))) (pos 0)
    ∙ ap (λ (k : ℕ). get_or xs k (pos 0)) (let same : a + (e - a + (x - a - (e - a))) ≡ x = omega arith in same)

pub fill_pair-requires-clause-pair : goal.fill_pair-requires-clause-pair
fill_pair-requires-clause-pair c =
    let a = c.args in
    omega (arith, part_length a.x0 a.x1 a.first.now c.requires.order c.requires.first_inside, part_length a.x0 a.x1 a.second.now c.requires.order c.requires.second_inside)

pub fill_pair-requires-clause-room : goal.fill_pair-requires-clause-room
fill_pair-requires-clause-room c = omega (arith, c.requires.few, c.requires.room, part_length c.args.x0 c.args.x1 c.args.first.now c.requires.order c.requires.first_inside)

pub returns-clause-small : goal.returns-clause-small
returns-clause-small c =
    let many = part_length c.args.x0 c.args.x1 c.args.first.now c.requires.order c.requires.first_inside in
    rw many at c.fill_pair.ensures.small

pub returns-clause-left : goal.returns-clause-left
returns-clause-left c =
    let many = part_length c.args.x0 c.args.x1 c.args.first.now c.requires.order c.requires.first_inside in
    rw many at c.fill_pair.ensures.left

pub returns-clause-first : goal.returns-clause-first
returns-clause-first c = λ e x from to.
    let a = c.args in
    let many = part_length a.x0 a.x1 a.first.now c.requires.order c.requires.first_inside in
    let fill = rw many at c.fill_pair.ensures.first in
    in_part a.x0 (a.x1 - a.x0) a.first.now c.fill_pair.new.first x (omega (arith, c.requires.order, c.requires.first_inside)) from (omega (arith, c.fill_pair.auto.first, many)) ∙ fill e (x - a.x0) (omega arith)

pub returns-clause-second : goal.returns-clause-second
returns-clause-second c = λ e x from to.
    let a = c.args in
    let many = part_length a.x0 a.x1 a.first.now c.requires.order c.requires.first_inside in
    let others = part_length a.x0 a.x1 a.second.now c.requires.order c.requires.second_inside in
    let fill = rw many at c.fill_pair.ensures.second in
    in_part a.x0 (a.x1 - a.x0) a.second.now c.fill_pair.new.second x (omega (arith, c.requires.order, c.requires.second_inside)) from (omega (arith, c.fill_pair.auto.second, others)) ∙ fill e (x - a.x0) (omega arith)

pub returns-clause-first_stays : goal.returns-clause-first_stays
returns-clause-first_stays c =
    let a = c.args in
    let many = part_length a.x0 a.x1 a.first.now c.requires.order c.requires.first_inside in
    beside_part a.x0 a.x1 a.first.now c.fill_pair.new.first c.requires.order c.requires.first_inside (c.fill_pair.auto.first ∙ many)

pub returns-clause-second_stays : goal.returns-clause-second_stays
returns-clause-second_stays c =
    let a = c.args in
    let many = part_length a.x0 a.x1 a.second.now c.requires.order c.requires.second_inside in
    beside_part a.x0 a.x1 a.second.now c.fill_pair.new.second c.requires.order c.requires.second_inside (c.fill_pair.auto.second ∙ many)
