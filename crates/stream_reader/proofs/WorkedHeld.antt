-- Worked shares.
use Rattle.std.proofs.Common.{◌≡◌, Some, None, refl}
use Rattle.stream_reader.specs.Held.{greatest_of, held_most}

-- the shares of 7/3 bytes in six slices are 2, 2, 3, 2, 2 and 3
six_shares : greatest_of 7 3 6 ≡ 3
six_shares = refl

-- the first two of them
two_shares : greatest_of 7 3 2 ≡ 2
two_shares = refl

held_beside_them : held_most (Some 3) ≡ 8195
held_beside_them = refl

held_beside_none : held_most None ≡ 8192
held_beside_none = refl
