-- The rows of a model buffer, and what adding a closed grid to a row and clearing rows leave.
use Rattle.std.specs.Prelude.{◌≡◌, ◌≢◌, ◌⊎◌, Bool, true, false, ◌||◌, List, [], ◌∷◌, ℕ, ◌+◌, ◌*◌, ◌<◌, ◌≤◌, get_or, length, Option}
use Rattle.table.specs.Constants.{row_cells, row_bytes}
use Rattle.rules.specs.Label.{Label, several, cut}
use Rattle.grid.specs.Grid.{Pair, RingName}
use Rattle.rows.specs.Bytes.{RowBits, RingByte}

-- the row of routine r: each cell has labels alone, and the last byte is 0 or 1
pub record ShapedRow (rows : List ℕ) (r : ℕ) : Type 0 where
  pub cells : (i : ℕ) → i < row_cells → get_or rows (row_bytes * r + i) 0 < 8
  pub last : get_or rows (row_bytes * r + row_cells) 0 ≤ 1

-- the rows of the routines below n
abbrev pub Shaped : ℕ → List ℕ → Type 0
Shaped n rows = (r : ℕ) → r < n → ShapedRow rows r

-- the row that a closed grid gives a routine of k parameters
abbrev pub GridRow : ℕ → List (List ℕ) → ℕ → ℕ → Label → Type 0
GridRow k g a b l = (m : Label) × Pair g a b m × (a ≤ k) × (b ≤ k) × (a ≢ b) × (l ≡ cut m)

-- the grid has a ring
abbrev pub HasRing : List (List ℕ) → Type 0
HasRing g = (x : ℕ) × Pair g x x several

-- the sum of the bytes: it rises with each bit that is added
unfoldable pub total : List ℕ → ℕ
total [] = 0
total (b ∷ l) = b + total l

-- what a flag tells: false, nothing changed; true, the sum rose
abbrev pub Moves : Bool → List ℕ → List ℕ → Type 0
Moves false before after = after ≡ before
Moves true before after = total before < total after

-- after is before with the row of the grid g, of a routine of k parameters, added to row r; the flags tell whether its
-- cells and its last byte changed, and name is the lowest ring name of the grid, if there is one
pub record RowAdded (before after : List ℕ) (r k : ℕ) (g : List (List ℕ)) (cells last : Bool) (name : Option ℕ) : Type 0 where
  pub long : length after ≡ length before
  pub outside : (i : ℕ) → (i < row_bytes * r) ⊎ (row_bytes * r + row_bytes ≤ i) → get_or after i 0 ≡ get_or before i 0
  pub only : (q a b : ℕ) (l : Label)
      → RowBits after q a b l → RowBits before q a b l ⊎ ((q ≡ r) × GridRow k g a b l)
  pub old : (q a b : ℕ) (l : Label) → RowBits before q a b l → RowBits after q a b l
  pub new : (a b : ℕ) (l : Label) → GridRow k g a b l → RowBits after r a b l
  pub ring_only : (q : ℕ) → RingByte after q → RingByte before q ⊎ ((q ≡ r) × HasRing g)
  pub ring_old : (q : ℕ) → RingByte before q → RingByte after q
  pub ring_new : HasRing g → RingByte after r
  pub shaped : (n : ℕ) → Shaped n before → Shaped n after
  pub told : Moves (cells || last) before after
  pub same_cells : cells ≡ false → (q i : ℕ) → i < row_cells
      → get_or after (row_bytes * q + i) 0 ≡ get_or before (row_bytes * q + i) 0
  pub named : RingName g name

-- after is before with the bytes from start to end zero
pub record Cleared (start end : ℕ) (before after : List ℕ) : Type 0 where
  pub long : length after ≡ length before
  pub zero : (i : ℕ) → start ≤ i → i < end → get_or after i 0 ≡ 0
  pub rest : (i : ℕ) → (i < start) ⊎ (end ≤ i) → get_or after i 0 ≡ get_or before i 0
