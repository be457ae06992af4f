-- The names that rows and grids have: their lengths and widths, and rows and grids of zeros.
use mathlib.Core.Path.{◌≡◌, refl}
use mathlib.Core.List.{List, []}
use Prim.Native.Nat.{ℕ, zero, suc, ◌<◌}
use native.Mathlib.Omega.{arith}
use native.Mathlib.Decide.{dec_lt}
use lib.ListN.{get_or, length, replicate, get_or-eq_default}
use Rattle.grid.specs.Rows.{Has, Edge}
use Rattle.grid.specs.Grid.{cell}
use Rattle.grid.proofs.Laws.Masks.{has_zero, has_below}

-- a row with a bit is one of the rows
pub edge_row : (r : List ℕ) (n i j : ℕ) → length r ≡ n → Edge r i j → i < n
edge_row r n i j l e =
    elim (dec_lt i n) [
      | yes p ↦ p
      | no p ↦ absurd (has_zero j (rw (get_or-eq_default r 0 {n = i} (omega arith)) at e))
    ]

-- a bit of a 16-bit row is one of sixteen
pub edge_column : (r : List ℕ) → ((i : ℕ) → get_or r i 0 < 65536) → (i j : ℕ) → Edge r i j → j < 16
edge_column r fits i j e = has_below (get_or r i 0) 16 j (fits i) e

-- a pair of a grid has a row of it
pub cell_row : (g : List (List ℕ)) (n a b l : ℕ) → length g ≡ n → Has (cell g a b) l → a < n
cell_row g n a b l h e =
    elim (dec_lt a n) [
      | yes p ↦ p
      | no p ↦
          let z : get_or g a [] ≡ [] = get_or-eq_default g [] {n = a} (omega arith) in
          absurd (has_zero l (rw z at e))
    ]

-- a row of zeros
pub zero_row : (n i : ℕ) → get_or {A = ℕ} (replicate n 0) i 0 ≡ 0
zero_row zero i = refl
zero_row (suc n) zero = refl
zero_row (suc n) (suc i) = zero_row n i

pub zero_edge : (n i j : ℕ) → Edge (replicate n 0) i j → ⊥
zero_edge n i j e = has_zero j (rw (zero_row n i) at e)

-- a grid of zeros
pub zero_cell : (n m a b : ℕ) → cell (replicate n (replicate m 0)) a b ≡ 0
zero_cell zero m a b = refl
zero_cell (suc n) m zero b = zero_row m b
zero_cell (suc n) m (suc a) b = zero_cell n m a b

pub zero_pair : (n m a b k : ℕ) → Has (cell (replicate n (replicate m 0)) a b) k → ⊥
zero_pair n m a b k e = has_zero k (rw (zero_cell n m a b) at e)
