use Rattle.std.proofs.Common.{◌≡◌, ◌∙◌, ◌+◌, ◌*◌, ◌^◌, ◌≤◌, ◌++◌, List, [], length, take, drop, sym, ap, subst, arith, ℤ}
use Rattle.std.proofs.lemmas.Grind.{common_steps}
use Rattle.std.specs.List.{All}
use Rattle.planes.specs.Numbers.{Within}
use Rattle.planes.specs.Subbands.{BandStack}
use Rattle.slice_encoder.specs.Gathering.{raw_before, GatheredSeen}
use Rattle.slice_encoder.proofs.Gathers.{raw_count, filled_sound, filled_gathers, written_over}
use Rattle.slice_encoder.proofs.SliceRuns.{run_in_front}
use Rattle.slice_encoder.proofs.gathered.Gathered.take_list.Goals as goal

none : BandStack
none = record { depth = 0; bands = [] }

pub put_front-requires-clause-room : goal.put_front-requires-clause-room
put_front-requires-clause-room c = omega (arith, c.requires.count, c.requires.room, ap (λ (v : GatheredSeen). length v.values) c.self.view_is, ap (λ (t : List ℤ). length t) c.deref_mut.ensures.value)

pub invariant_of-self : goal.invariant_of-self
invariant_of-self c =
    let a = c.args in
    let s = a.rects.now.slicing in
    let size = a.rects.now.size in
    let out = c.put_front.new.out in
    let whole : take c.self.inside.values.len (out ++ drop (length out) c.self.inside.values.items) ≡ out = written_over (c.self.inside.values.len) out _ (omega (arith, c.put_front.auto.out, c.deref_mut.ensures.len)) in
    let g : GatheredSeen = record { depth = c.depth-self-inside.result; ends = a.ends.now; values = take c.self.inside.values.len (out ++ drop (length out) c.self.inside.values.items) } in
    let size_is : length g.values ≡ length c.self.inside.values.items = ap (λ (t : List ℤ). length t) whole ∙ c.put_front.auto.out ∙ ap (λ (t : List ℤ). length t) c.deref_mut.ensures.value in
    let room : length (raw_before s size none a.sx a.sy (3 * s.depth + 1)) ≤ length g.values =
    omega (arith, size_is, raw_count s size none a.sx a.sy s.depth, c.requires.room, ap (λ (v : GatheredSeen). length v.values) c.self.view_is)
    in
    filled_sound s size none a.sx a.sy g c.depth-self-inside.ensures.value (c.requires.ends none) room (omega (arith, c.depth-self-inside.ensures.value, c.depth-self-inside.ensures.most)) (subst (λ (t : List ℤ). All (Within (2 ^ 27)) t) (sym whole) c.put_front.ensures.small) (omega (arith, size_is, c.self.invariant.few))

pub returns-clause-gathered : goal.returns-clause-gathered
returns-clause-gathered c = λ bands holds.
    let a = c.args in
    let s = a.rects.now.slicing in
    let size = a.rects.now.size in
    let out = c.put_front.new.out in
    let whole : take c.self.inside.values.len (out ++ drop (length out) c.self.inside.values.items) ≡ out = written_over (c.self.inside.values.len) out _ (omega (arith, c.put_front.auto.out, c.deref_mut.ensures.len)) in
    let g : GatheredSeen = record { depth = c.depth-self-inside.result; ends = a.ends.now; values = take c.self.inside.values.len (out ++ drop (length out) c.self.inside.values.items) } in
    let size_is : length g.values ≡ length c.self.inside.values.items = ap (λ (t : List ℤ). length t) whole ∙ c.put_front.auto.out ∙ ap (λ (t : List ℤ). length t) c.deref_mut.ensures.value in
    let room : length (raw_before s size bands a.sx a.sy (3 * s.depth + 1)) ≤ length g.values =
    omega (arith, size_is, raw_count s size bands a.sx a.sy s.depth, c.requires.room, ap (λ (v : GatheredSeen). length v.values) c.self.view_is)
    in
    filled_gathers s size bands a.sx a.sy g c.depth-self-inside.ensures.value (c.requires.ends bands) room
    (ap (take (length (raw_before s size bands a.sx a.sy (3 * s.depth + 1)))) whole ∙ run_in_front s size bands a.sx a.sy a.list.now holds out c.put_front.ensures.front)

pub returns-clause-room : goal.returns-clause-room
returns-clause-room c = grind (arith, common_steps)
