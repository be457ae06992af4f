-- The labels that a cell's byte has; where rows lie.
use Rattle.std.specs.Prelude.{◌≡◌, ◌⊎◌, ℕ, ◌+◌, ◌*◌, ◌≤◌, ◌<◌, List, get_or}
use Rattle.std.proofs.Common.{sym, subst, inl, inr, arith}
use Rattle.std.proofs.Math.Decide.{dec_lt}
use Rattle.table.specs.Constants.{row_names, row_cells, row_bytes}
use Rattle.rules.specs.Label.{Label, own, forked, unknown, several}
use Rattle.grid.proofs.Laws.Masks.{has_zero}
use Rattle.rows.specs.Bytes.{Labelled, RowsOf}

-- zero has none
pub no_label : (v : ℕ) (l : Label) → v ≡ 0 → Labelled v l → ⊥
no_label v own e h = has_zero 0 (rw e at h)
no_label v (forked i) e h = h
no_label v unknown e h = has_zero 1 (rw e at h)
no_label v several e h = has_zero 2 (rw e at h)

-- another row has no byte from the start of row r to its end
pub apart : (q r i : ℕ) → ¬ (q ≡ r) → i < row_bytes → (row_bytes * q + i < row_bytes * r)
    ⊎ (row_bytes * r + row_bytes ≤ row_bytes * q + i)
apart q r i ne l = go (dec_lt q r)
  where
    go : Dec (q < r) → (row_bytes * q + i < row_bytes * r) ⊎ (row_bytes * r + row_bytes ≤ row_bytes * q + i)
    go (yes lt) = inl (omega arith)
    go (no n) = let m : r < q = omega arith in inr (omega arith)

-- a row whose cells are the same has the same pairs
pub row_moves : (n : ℕ) (before after : List ℕ) (q a b : ℕ) (l : Label)
    → ((i : ℕ) → i < row_cells → get_or after (row_bytes * q + i) 0 ≡ get_or before (row_bytes * q + i) 0)
    → RowsOf n before q a b l → RowsOf n after q a b l
row_moves n before after q a b l same w =
    let e : row_bytes * q + (row_names * a + b) ≡ row_bytes * q + row_names * a + b = omega arith in
    let la : a < row_names = w.1.0 in
    let lb : b < row_names = w.1.1 in
    let s : get_or after (row_bytes * q + row_names * a + b) 0 ≡ get_or before (row_bytes * q + row_names * a + b) 0
    = rw e at (same (row_names * a + b) (omega arith)) in
    (w.0, (la, lb, subst (λ (v : ℕ). Labelled v l) (sym s) w.1.2))
