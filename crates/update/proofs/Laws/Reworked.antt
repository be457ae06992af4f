-- What `rework` leaves is the model brought up to date.
use Rattle.std.specs.Prelude.{◌≡◌, List, ℕ, ◌+◌, ◌*◌, ◌<◌, length, get_or}
use Rattle.std.proofs.Common.{inl, arith}
use Rattle.rows.specs.Laws.Cells.{row_moves}
use Rattle.table.specs.Constants.{row_cells, row_bytes}
use Rattle.table.specs.Program.{Program}
use Rattle.rules.specs.Label.{Label, several}
use Rattle.rules.specs.Derived.{Pairs, RowOf, Derived}
use Rattle.rules.proofs.Laws.Least.{row_mono}
use Rattle.grid.specs.Rows.{Has}
use Rattle.rows.specs.Bytes.{RowsOf}
use Rattle.rounds.specs.Reaches.{Touched}
use Rattle.rounds.proofs.Laws.LeastGiven.{Within, with_least, rows_least, told_otherwise}
use Rattle.settle.specs.Settle.{Whole}
use Rattle.analysis.specs.Answer.{Flag}
use Rattle.analysis.proofs.Laws.Bytes.{bit_flag, cell_at}
use Rattle.update.specs.Answer.{ModelFrom, UpToDateFrom}
use Rattle.update.specs.Parts.{Reworked}

module _ (P : Program) (r : ℕ) (before after : List ℕ) (u : Reworked P r before after) where
  abbrev G : Pairs
  G = RowsOf (length P) before

  abbrev R : Pairs
  R = RowsOf (length P) after

  -- the bytes of the rows that do not reach r
  kept : (q i : ℕ) → q < length P → ¬ Touched P r q → i < row_bytes
      → get_or after (row_bytes * q + i) 0 ≡ get_or before (row_bytes * q + i) 0
  kept q i h n l = u.partly.others q i h (λ b. n (u.touched.to q b)) l

  has_given : (q a b : ℕ) (l : Label) → ¬ Touched P r q → G q a b l → R q a b l
  has_given q a b l n w = row_moves (length P) before after q a b l (λ i h. kept q i w.0 n (omega arith)) w

  current : (q a b : ℕ) (l : Label) → Touched P r q → RowOf P (Derived P R) q a b l → R q a b l
  current q a b l t w =
      rw w.5 ((u.partly.fresh q (u.touched.from q t) (λ z. z)).row a b w.0 w.1 w.2 w.3 w.4)

  -- the least pairs, with the mask told as the routines that reach r
  whole_to : Within (Whole P (Has u.mask) before) (ModelFrom P r before)
  whole_to = told_otherwise P (Has u.mask) (Touched P r) G u.touched.to u.touched.from

  row_to : (q a b : ℕ) (l : Label) → Touched P r q → R q a b l → RowOf P (ModelFrom P r before) q a b l
  row_to q a b l t w =
      row_mono P (Whole P (Has u.mask) before) (ModelFrom P r before) whole_to q a b l
      (u.partly.sound q a b l (u.touched.from q t) w)

  row_from : (q a b : ℕ) (l : Label) → Touched P r q → RowOf P (ModelFrom P r before) q a b l → R q a b l
  row_from q a b l t w = rows_least P (Touched P r) G R has_given current q a b l (inl (t, w))

  pub up_to_date : UpToDateFrom P r before after
  up_to_date = record {
    same_length = u.partly.long;
    cells = λ q a b h t la lb. cell_at after q a b la lb (u.partly.shaped q h) (RowOf P (ModelFrom P r before) q a b)
        (λ l w. row_to q a b l t (h, w)) (λ l w. (row_from q a b l t w).1);
    last = last;
    others = λ q i h n l. kept q i h n l;
    rest = u.partly.rest;
  }
    where
      last : (q : ℕ) → q < length P → Touched P r q
          → Flag (get_or after (row_bytes * q + row_cells) 0) ((x : ℕ) × ModelFrom P r before q x x several)
      last q h t =
          let s = (u.partly.shaped q h).last in
          bit_flag (get_or after (65 * q + 64) 0) ((x : ℕ) × ModelFrom P r before q x x several) (omega arith)
          (λ e.
          let w = u.partly.ring_sound q (u.touched.from q t) e in
          (w.0, whole_to q w.0 w.0 several w.1))
          (λ w. (u.partly.fresh q (u.touched.from q t) (λ z. z)).ring w.0
          (with_least P (Touched P r) G R has_given current q w.0 w.0 several w.1))
