use Rattle.std.proofs.Common.{◌≡◌, ◌∙◌, ℕ, ℤ, List, Bool, take, get_or, sym, subst, arith, pos, negsuc, of_z, to_z, w64}
use Rattle.std.proofs.lemmas.Int.{ints}
use Rattle.std.proofs.lemmas.List.Elements.{All-get_or}
use Rattle.bit_codes.specs.Codes.{signed_code_of}
use Rattle.bounded_blocks.specs.Parts.{IsSmall}
use Rattle.bounded_blocks.specs.Writing.{Puts, codes_of}
use Rattle.bounded_blocks.proofs.Put.{puts-join}
use Rattle.bounded_blocks.proofs.CodeLengths.{codes_of-next}
use Rattle.bounded_blocks.proofs.writing.Fill.put_all.Goals as goal

-- a value that is told is a number of the code
told : (v : ℤ) → IsSmall v → to_z w64 (of_z w64 v) ≡ v
told (pos n) small = omega (arith, ints)
told (negsuc n) small = omega (arith, ints)

pub loop-value-preserved : goal.loop-value-preserved
loop-value-preserved c =
    let l = c.loop-value in
    let old = c.args.self.now in
    let new = c.put.new.self in
    let vs = c.args.values.now in
    let v = get_or vs l.value-index (pos 0) in
    let put =
    subst (λ (e : ℕ). Puts e l.self.place l.self.bytes.now new.place new.bytes.now (signed_code_of v)) l.invariant.same_end
    (subst (λ z. Puts l.self.end l.self.place l.self.bytes.now new.place new.bytes.now (signed_code_of z)) (told v (All-get_or IsSmall vs l.value-index (pos 0) (omega arith) c.requires.small)) c.put.ensures.puts) in
    record {
      same_reference = c.put.ensures.same_reference ∙ l.invariant.same_reference;
      same_end = c.put.ensures.same_end ∙ l.invariant.same_end;
      puts =
          subst (λ (t : List Bool). Puts old.end old.place old.bytes.now new.place new.bytes.now t) (sym (codes_of-next vs l.value-index (omega arith)))
          (puts-join old.end old.place old.bytes.now l.self.place l.self.bytes.now new.place new.bytes.now (codes_of (take l.value-index vs)) (signed_code_of v) c.requires.inside.order l.invariant.puts put);
    }
