use Rattle.std.proofs.Common.{ℕ, ◌+◌, ◌*◌, ◌<◌, ◌≤◌, ◌++◌, List, [], ◌∷◌, length, map, take, ℤ, refl, sym, ap, ◌∙◌, arith}
use Rattle.std.proofs.lemmas.List.{take-map, map-append}
use Rattle.std.proofs.lemmas.Nat.{mul-le}
use Rattle.bounded_blocks.proofs.EightValues.{low-byte, byte-is, cons-same, eight-are}
use Rattle.bounded_blocks.proofs.narrow_filling.put_eight.Goals as goal

eight-fit : (at long each most : ℕ) → at + 8 ≤ long → long * each < most → 8 * each < most
eight-fit at long each most room fits = let more : 8 * each ≤ long * each = mul-le 8 each long each (omega arith) (omega arith) in omega arith

pub of_byte-requires : goal.of_byte-requires
of_byte-requires g c = low-byte c.args.values.now 0 c.requires.low

pub of_byte-requires-2 : goal.of_byte-requires-2
of_byte-requires-2 g c = low-byte c.args.values.now 1 c.requires.low

pub of_byte-requires-3 : goal.of_byte-requires-3
of_byte-requires-3 g c = low-byte c.args.values.now 2 c.requires.low

pub of_byte-requires-4 : goal.of_byte-requires-4
of_byte-requires-4 g c = low-byte c.args.values.now 3 c.requires.low

pub of_byte-requires-5 : goal.of_byte-requires-5
of_byte-requires-5 g c = low-byte c.args.values.now 4 c.requires.low

pub of_byte-requires-6 : goal.of_byte-requires-6
of_byte-requires-6 g c = low-byte c.args.values.now 5 c.requires.low

pub of_byte-requires-7 : goal.of_byte-requires-7
of_byte-requires-7 g c = low-byte c.args.values.now 6 c.requires.low

pub of_byte-requires-8 : goal.of_byte-requires-8
of_byte-requires-8 g c = low-byte c.args.values.now 7 c.requires.low

pub put_all-requires : goal.put_all-requires
put_all-requires g c = (eight-fit c.args.at (length c.args.out.now) _ _ c.requires.room c.well_formed.0.1, c.requires.room)

pub returns-clause-values : goal.returns-clause-values
returns-clause-values g c =
    let value = g.T.Held.value in
    let vs = c.args.values.now in
    let low = c.requires.low in
    let eight : List ℤ = value c.of_byte.result ∷ value c.of_byte-2.result ∷ value c.of_byte-3.result ∷ value c.of_byte-4.result
    ∷ value c.of_byte-5.result ∷ value c.of_byte-6.result ∷ value c.of_byte-7.result ∷ value c.of_byte-8.result ∷ [] in
    take-map value (c.args.at + 8) c.put_all.new.out
    ∙ ap (map value) c.put_all.ensures.values
    ∙ map-append value (take c.args.at c.args.out.now) _
    ∙ ap (λ (xs : List ℤ). xs ++ eight) (sym (take-map value c.args.at c.args.out.now))
    ∙ ap (λ (xs : List ℤ). take c.args.at (map value c.args.out.now) ++ xs)
    (cons-same _ _ _ _ (byte-is vs 0 _ low c.of_byte.ensures)
    (cons-same _ _ _ _ (byte-is vs 1 _ low c.of_byte-2.ensures)
    (cons-same _ _ _ _ (byte-is vs 2 _ low c.of_byte-3.ensures)
    (cons-same _ _ _ _ (byte-is vs 3 _ low c.of_byte-4.ensures)
    (cons-same _ _ _ _ (byte-is vs 4 _ low c.of_byte-5.ensures)
    (cons-same _ _ _ _ (byte-is vs 5 _ low c.of_byte-6.ensures)
    (cons-same _ _ _ _ (byte-is vs 6 _ low c.of_byte-7.ensures)
    (cons-same _ _ _ _ (byte-is vs 7 _ low c.of_byte-8.ensures) refl)))))))
    ∙ eight-are vs (omega (arith, c.told-values)))
