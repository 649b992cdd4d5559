-- How a matrix is kept: thirteen numbers, zeros behind the last entry.
use Rattle.std.proofs.Common.{sym, ap, ◌∙◌}
use Rattle.std.proofs.lemmas.List.{take-append-drop}
use Rattle.std.specs.Prelude.{◌≡◌, ◌+◌, ◌-◌, ◌*◌, ◌≤◌, ◌++◌, length, take, drop, replicate}
use Rattle.quant_factors.specs.Weights.{Weights}
use Rattle.quant_factors.specs.declared.matrix.Matrix.TheInside.{Inside}

-- the entries that a matrix has, without the places behind them
abbrev pub weights_of : Inside → Weights
weights_of m = record { depth = m.depth; entries = take (1 + 3 * m.depth) m.entries }

-- and back: the places behind the entries hold 0
abbrev pub matrix_of : Weights → Inside
matrix_of w = record { depth = w.depth; entries = w.entries ++ replicate (12 - 3 * w.depth) 0 }

-- what holds of a matrix as it is kept
pub record IsMatrixSound (m : Inside) : Type 0 where
  pub depth : m.depth ≤ 4
  pub count : length m.entries ≡ 13
  pub rest : drop (1 + 3 * m.depth) m.entries ≡ replicate (12 - 3 * m.depth) 0

-- Going there and back changes nothing.
pub matrix_of-weights_of : (m : Inside) → IsMatrixSound m → matrix_of (weights_of m) ≡ m
matrix_of-weights_of m sound =
    ap (λ entries. record { depth = m.depth; entries = entries })
    (ap (λ rest. take (1 + 3 * m.depth) m.entries ++ rest) (sym sound.rest) ∙ take-append-drop (1 + 3 * m.depth) m.entries)
