-- What a list of numbers shows once a part that it lent has come back.
use Rattle.std.specs.Prelude.{ℕ, ◌+◌, List, ◌++◌, length, take, drop, slice_range}
use Rattle.std.specs.Borrow.{Lends, MutBor, Fml, Array}
use denote.RattleType.{RattleType}
use Rattle.planes.specs.Raster.{over}
use Rattle.planes.specs.contracts.number_list.NumberList.{the_row}

-- xs with ws written over it from place i on
abbrev pub with_part_from : {X : Type 0} → List X → ℕ → List X → List X
with_part_from xs i ws = take (length xs) (take i xs ++ (ws ++ drop (length ws) (drop i xs)))

-- xs with ws in the place of the w numbers from place i on, of which no more are written
abbrev pub with_part : {X : Type 0} → List X → ℕ → ℕ → List X → List X
with_part xs i w ws = with_part_from xs i (over (slice_range xs i (i + w)) ws)

-- r is the numbers of p from place i on, and each of those that it leaves is written
abbrev pub LendsRun : (T : RattleType) → MutBor (List T.Denot) → ℕ → MutBor (List T.Denot) → Fml
LendsRun T p i r = Lends (the_row T) (Array T 0) p r (with_part_from p.now i)

-- r is the w numbers of p from place i on, and they stay w
abbrev pub LendsPart : (T : RattleType) → MutBor (List T.Denot) → ℕ → ℕ → MutBor (List T.Denot) → Fml
LendsPart T p i w r = Lends (the_row T) (Array T 0) p r (with_part p.now i w)
