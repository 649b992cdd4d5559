-- How each place of a block is restored in 16 bits, for one quantisation index.
use Rattle.std.specs.Prelude.{◌≡◌, ℕ, zero, suc, ◌+◌, ◌-◌, ◌*◌, ◌^◌, ◌<◌, ◌≤◌, List, [], ◌++◌, length, replicate, slice_index_or}
use Rattle.quant_factors.specs.Weights.{band_quantiser}
use Rattle.slice_geometry.specs.SliceOrder.{level_of, orient_of}
use Rattle.slice_decoder.specs.declared.short_restoring.Step.{Step}
use Rattle.slice_decoder.specs.declared.step_rows.StepKey.{StepKey}
use Rattle.slice_decoder.specs.Steps.{IsStep}

-- no band has many places
abbrev pub AreFew : List ℕ → Type 0
AreFew areas = (level : ℕ) → level ≤ 4 → slice_index_or areas level 0 ≤ 2 ^ 26

-- the quantisers of the values of band k
abbrev pub band_quantisers : StepKey → ℕ → List ℕ
band_quantisers key k =
    replicate (key.each * slice_index_or key.areas (level_of k) 0) (band_quantiser key.matrix key.qindex (level_of k) (orient_of k))

-- and of the bands before band n
unfoldable pub key_quantisers : StepKey → ℕ → List ℕ
key_quantisers key zero = []
key_quantisers key (suc k) = key_quantisers key k ++ band_quantisers key k

-- and of all values of the block
abbrev pub quantisers_by : StepKey → List ℕ
quantisers_by key = key_quantisers key (3 * key.matrix.depth + 1)

-- the step of a place
abbrev pub step_at : List ℕ → List ℕ → List ℕ → ℕ → Step
step_at factors adds limits k =
    record { factor = slice_index_or factors k 0; add = slice_index_or adds k 0; limit = slice_index_or limits k 0 }

-- the first n places have the steps of these quantisers
abbrev pub AreSteps : List ℕ → ℕ → List ℕ → List ℕ → List ℕ → Type 0
AreSteps quantisers n factors adds limits =
    (k : ℕ) → k < n → IsStep (slice_index_or quantisers k 0) (step_at factors adds limits k)

-- a row as contracts see it: its key, and how many places it has room for
pub record StepRowSeen : Type 0 where
  pub key : StepKey
  pub room : ℕ

-- a row without room, whose key is that of no block
abbrev pub no_row : StepRowSeen
no_row = record { key = record { each = 0; qindex = 0; areas = []; matrix = record { depth = 0; entries = [] } }; room = 0 }

-- the places of a row have the steps of its key, and each has a factor, what is added and a limit
pub record IsStepRow (key : StepKey) (factors adds limits : List ℕ) : Type 0 where
  pub adds_count : length adds ≡ length factors
  pub limits_count : length limits ≡ length factors
  pub steps : AreSteps (quantisers_by key) (length (quantisers_by key)) factors adds limits

-- there are rows, and each has room for so many places
pub record HaveRoom (places : ℕ) (rows : List StepRowSeen) : Type 0 where
  pub some : 1 ≤ length rows
  pub each : (k : ℕ) → k < length rows → (slice_index_or rows k no_row).room ≡ places
