-- The indices that the slices of a picture take, one after another, and their bytes.
use Rattle.std.specs.Prelude.{ℕ, zero, suc, ◌+◌, ◌/◌, ◌%◌, List, [], ◌∷◌, ◌++◌, map, slice_index, if◌then◌else◌}
use Rattle.std.specs.List.{range_with_len}
use Rattle.bit_codes.specs.Bits.{bytes_of}
use Rattle.slice_geometry.specs.Slicing.{slice_bytes, slice_count}
use Rattle.slice_encoder.specs.Trials.{CodedPicture, Lists, last_lists}
use Rattle.slice_encoder.specs.Choice.{fits, slice_bits}

-- the first of n indices from i on at which a slice fits, and the one behind them where it fits at none
abbrev pub first_fit : ℕ → (ℕ → Lists) → ℕ → ℕ → ℕ
first_fit bytes lists_at zero i = i
first_fit bytes lists_at (suc n) i = if fits bytes (lists_at i) then i else first_fit bytes lists_at n (i + 1)

-- the least index from 0 to 127; 127 always fits
abbrev pub least_index : ℕ → (ℕ → Lists) → ℕ
least_index bytes lists_at = first_fit bytes lists_at 127 0

-- the lists of slice n, where the slices up to it have these indices
abbrev pub lists_of_slice : CodedPicture → ℕ → List ℕ → Lists
lists_of_slice j n indices = last_lists j indices (n % j.slicing.slices_x) (n / j.slicing.slices_x)

-- how many bytes slice n has
abbrev pub share_of_slice : CodedPicture → ℕ → ℕ
share_of_slice j n = slice_bytes j.slicing.a j.slicing.b n

-- The indices of the first n slices: each takes the least one at which it fits, after those before it.
unfoldable pub chosen : CodedPicture → ℕ → List ℕ
chosen j zero = []
chosen j (suc n) = chosen j n ++ least_index (share_of_slice j n) (λ i. lists_of_slice j n (chosen j n ++ i ∷ [])) ∷ []

-- the bytes of slice n
abbrev pub written_slice : CodedPicture → ℕ → List ℕ
written_slice j n =
    bytes_of (slice_bits (share_of_slice j n) (slice_index (chosen j (suc n)) n) (lists_of_slice j n (chosen j (suc n))))

-- the bytes of all slices, in order
abbrev pub written_slices : CodedPicture → List (List ℕ)
written_slices j = map (written_slice j) (range_with_len 0 (slice_count j.slicing))
