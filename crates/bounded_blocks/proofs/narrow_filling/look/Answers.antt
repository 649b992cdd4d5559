use Rattle.std.proofs.Common.{ℕ, ◌+◌, ◌≤◌, length, map, take, List, ℤ, sym, subst, arith}
use Rattle.std.proofs.lemmas.List.{length-map}
use Rattle.std.specs.Int.RustNames.{unsigned_abs}
use Rattle.bounded_blocks.specs.Parts.{block_of, AreWithin, ReadsValues}
use Rattle.bounded_blocks.proofs.ReadLemmas.{all-append, all-take, all-wider, take-part}
use Rattle.bounded_blocks.proofs.ReadSteps.{reads-some}
use Rattle.bounded_blocks.proofs.narrow_filling.look.Goals as goal

pub returns-clause-holds : goal.returns-clause-holds
returns-clause-holds g c bytes start end held =
    let most : ℕ = g.T.Held.most in
    let w = c.args.window in
    let n = c.args.done in
    let out : List ℤ = map g.T.Held.value c.args.out.now in
    let values = c.codes_at.result.0.now in
    let head = c.codes_at.result.1 in
    let q = c.codes_at.ensures in
    let whole = block_of bytes start end in
    let new : List ℤ = map g.T.Held.value c.put_eight.new.out in
    let room : n ≤ length out = omega (arith, c.requires.room, length-map c.args.out.now g.T.Held.value) in
    let read : ReadsValues head.count (block_of bytes w.place end) (take head.count values)
    (block_of bytes (w.place + head.length) end) = q.reads bytes end held.at in
    let both = reads-some 8 n head.count whole (block_of bytes w.place end)
    (block_of bytes (w.place + head.length) end) out new values room q.few c.put_eight.ensures.values held.read read in
    let low : AreWithin most (take head.count values) = all-take (λ z. unsigned_abs z ≤ most) head.count values
    (all-wider 127 most values g.met.T.Held.byte_law q.low) in
    record {
      at = c.behind.ensures.at bytes end held.at;
      read = subst (λ (p : ℕ). ReadsValues (n + head.count) whole (take (n + head.count) new) (block_of bytes p end)) (sym c.behind.ensures.place) both;
      within = subst (AreWithin most) (sym (take-part 8 out new values n head.count room q.few c.put_eight.ensures.values))
          (all-append (λ z. unsigned_abs z ≤ most) (take n out) (take head.count values) held.within low);
    }
