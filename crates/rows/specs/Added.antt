-- Bits added to the bytes of a buffer: which ones, and what adding them leaves.
use Rattle.std.specs.Prelude.{◌≡◌, ◌≢◌, ◌⊎◌, Bool, List, [], ℕ, ◌+◌, ◌*◌, ◌<◌, get_or, length, Option, IsSome}
use Rattle.table.specs.Constants.{row_names}
use Rattle.rules.specs.Label.{Label, own, forked, unknown, several}
use Rattle.grid.specs.Rows.{Has, Rel, Bits}
use Rattle.grid.specs.Grid.{In}
use Rattle.rows.specs.Model.{HasRing, Moves}

-- the bit of a label in a cell: that of unknown for a fork
abbrev pub bit_of : Label → ℕ
bit_of own = 0
bit_of (forked i) = 1
bit_of unknown = 1
bit_of several = 2

-- bit j of a cell, for the labels of the mask m
abbrev pub CellBit : ℕ → ℕ → Type 0
CellBit m j = (l : Label) × In m l × (j ≡ bit_of l)

-- the bits of v, in byte i
abbrev pub AtByte : ℕ → ℕ → Rel
AtByte i v p j = (p ≡ i) × Has v j

-- the labels of the mask m for the pair (a, b) of two different names, in byte i
abbrev pub AtCell : ℕ → ℕ → ℕ → ℕ → Rel
AtCell i a b m p j = (p ≡ i) × (a ≢ b) × CellBit m j

-- a ring of the grid g, in byte i
abbrev pub AtRing : ℕ → List (List ℕ) → Rel
AtRing i g p j = (p ≡ i) × (j ≡ 0) × HasRing g

-- a ring name, where there is one, in byte i
abbrev pub AtName : ℕ → Option ℕ → Rel
AtName i ring p j = (p ≡ i) × (j ≡ 0) × IsSome ring

-- the bits of each of F below n
abbrev pub Below : (ℕ → Rel) → ℕ → Rel
Below F n p j = (b : ℕ) × (b < n) × F b p j

-- the pairs from a to the names below n, with the masks of row, in the row that begins at start
abbrev pub InRow : ℕ → ℕ → List ℕ → ℕ → Rel
InRow start a row n = Below (λ b. AtCell (start + row_names * a + b) a b (get_or row b 0)) n

-- the pairs from the names below m to those below n in the grid g, in the row that begins at start
abbrev pub InGrid : ℕ → List (List ℕ) → ℕ → ℕ → Rel
InGrid start g n m = Below (λ a. InRow start a (get_or g a []) n) m

-- after is before with the bits of W added, and changed tells of it
pub record Added (W : Rel) (before after : List ℕ) (changed : Bool) : Type 0 where
  pub long : length after ≡ length before
  pub bits : (i : ℕ) → Bits (get_or after i 0) (λ j. Has (get_or before i 0) j ⊎ W i j)
  pub rest : (i : ℕ) → ((j : ℕ) → W i j → ⊥) → get_or after i 0 ≡ get_or before i 0
  pub told : Moves changed before after
