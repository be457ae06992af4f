-- What `rows_fit` tests is that the model is well formed.
use Rattle.std.specs.Prelude.{◌≡◌, List, ℕ, ◌+◌, ◌*◌, ◌/◌, ◌%◌, ◌<◌, length, get_or}
use Rattle.std.proofs.Common.{div-add-mod', mod-lt, arith}
use Rattle.table.specs.Program.{Program, params}
use Rattle.table.specs.Laws.Sections.{Holds}
use Rattle.table.proofs.Laws.Sections.{routines, params_at}
use Rattle.rows.specs.Model.{Shaped}
use Rattle.update.specs.Answer.{Formed}
use Rattle.update.specs.Parts.{CellFits, RowFits, RowsFit}

module _ (P : Program) (ks s : List ℕ) (h : Holds P ks s) (model : List ℕ) where
  pub formed_of_fits : RowsFit ks model → Formed P model
  formed_of_fits f = record {
    small = λ r a b l la lb. ((row r l).cells (8 * a + b) (omega arith)).small;
    zero = λ r a b l la lb o. (cell r a b l la lb).zero o;
    last = λ r l. (row r l).last;
  }
    where
      row : (r : ℕ) → r < length P → RowFits model r (params P r)
      row r l = rw (params_at P ks s h r) at (f r (let e = routines P ks s h in omega arith))

      cell : (r a b : ℕ) → r < length P → a < 8 → b < 8
          → CellFits (get_or model (65 * r + (8 * a + b)) 0) a b (params P r)
      cell r a b l la lb =
          let ea : (8 * a + b) / 8 ≡ a = omega arith in
          let eb : (8 * a + b) % 8 ≡ b = omega arith in
          rw (ea, eb) at ((row r l).cells (8 * a + b) (omega arith))

  pub fits_of_formed : Formed P model → RowsFit ks model
  fits_of_formed f r l = rw (params_at P ks s h r) (record { cells = cells; last = f.last r here })
    where
      here : r < length P
      here = let e = routines P ks s h in omega arith

      cells : (i : ℕ) → i < 64 → CellFits (get_or model (65 * r + i) 0) (i / 8) (i % 8) (params P r)
      cells i li =
          let e : 8 * (i / 8) + i % 8 ≡ i = omega (arith, div-add-mod' i 8) in
          let m : i % 8 < 8 = mod-lt i (omega arith) in
          let a = i / 8 in
          let b = i % 8 in
          let la : a < 8 = omega arith in
          record {
            small = rw e at (f.small r a b here la m);
            zero = λ o. rw e at (f.zero r a b here la m o);
          }

  -- the cells of a well-formed model have labels alone, and its last bytes are 0 or 1
  pub shaped_of_formed : Formed P model → Shaped (length P) model
  shaped_of_formed f r l =
      let w = fits_of_formed f r (let e = routines P ks s h in omega arith) in
      record { cells = λ i li. let k = (w.cells i li).small in omega arith; last = w.last }
