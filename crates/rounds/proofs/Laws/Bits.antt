-- The bits that rounds set: the label bits of the pairs that a row may have, and its last byte.
use Rattle.std.specs.Prelude.{not, ◌&&◌, List, [], ◌∷◌, ℕ, eqb, leb}
use Rattle.table.specs.Constants.{row_names}
use Rattle.rules.specs.Label.{Label, own, unknown, several}
use Rattle.rules.proofs.Laws.Lists.{up_to, gather, only}

-- the bits of the rows: a label of a pair, or the last byte
pub data Bit : Type 0 where
  cell : ℕ → ℕ → ℕ → Label → Bit
  last : ℕ → Bit

-- the lowest name that is the second end of a pair
abbrev pub lowest : ℕ
lowest = 1

-- the label bits of a pair
abbrev pub three_bits : ℕ → ℕ → ℕ → List Bit
three_bits r a b = cell r a b own ∷ cell r a b unknown ∷ cell r a b several ∷ []

-- those that a row may have: the names of the pair differ, and the second is not below the lowest
abbrev pub cell_bits : ℕ → ℕ → ℕ → List Bit
cell_bits r a b = only (not (eqb a b) && leb lowest b) (three_bits r a b)

-- and with the last byte
abbrev pub row_bits : ℕ → List Bit
row_bits r = last r ∷ gather (λ a. gather (cell_bits r a) (up_to row_names)) (up_to row_names)
