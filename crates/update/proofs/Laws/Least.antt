-- The rows that are left: those of routines that do not reach r are as they were; the others are what is worked out in
-- their bodies from the rows left, and the least rows of which that is so.
use Rattle.std.specs.Prelude.{◌≡◌, ◌↔◌, List, ℕ, ◌+◌, ◌*◌, ◌<◌, length, get_or}
use Rattle.std.proofs.Common.{sym, subst, inl, inr, arith}
use Rattle.std.proofs.Math.Decide.{dec_lt}
use Rattle.rows.specs.Laws.Cells.{row_moves}
use Rattle.table.specs.Constants.{row_names, row_bytes}
use Rattle.table.specs.Program.{Program, params}
use Rattle.rules.specs.Label.{Label, several}
use Rattle.rules.specs.Derived.{Pairs, RowOf, Derived}
use Rattle.rules.proofs.Laws.Least.{row_mono}
use Rattle.rows.specs.Bytes.{last_byte, RowsOf}
use Rattle.rows.specs.Laws.Fixpoint.{up_to_date_beyond}
use Rattle.rounds.specs.Reaches.{Touched}
use Rattle.rounds.specs.Given.{RowsWith}
use Rattle.rounds.proofs.Laws.Reach.{touched?}
use Rattle.rounds.proofs.Laws.LeastGiven.{Within, derived_mono, with_satisfies, with_least, rows_least}
use Rattle.analysis.specs.Answer.{Flag, CellOf}
use Rattle.analysis.proofs.Laws.Bytes.{flag_map, labelled_to, labelled_from}
use Rattle.update.specs.Answer.{ModelFrom, UpToDateFrom}
use Rattle.update.proofs.Laws.Fresh.{no_fork}

module _ (P : Program) (r : ℕ) (before after : List ℕ) (up : UpToDateFrom P r before after)
    (few : (q : ℕ) → q < length P → params P q < row_names) where
  -- the rows that were given, and the rows that are left
  abbrev pub Given : Pairs
  Given = RowsOf (length P) before

  abbrev pub Left : Pairs
  Left = RowsOf (length P) after

  abbrev Whole : Pairs
  Whole = ModelFrom P r before

  place : (q a b : ℕ) → row_bytes * q + (row_names * a + b) ≡ row_bytes * q + row_names * a + b
  place q a b = omega arith

  -- the rows of the other routines are as they were
  pub given_stays : (q a b : ℕ) (l : Label) → ¬ Touched P r q → Left q a b l ↔ Given q a b l
  given_stays q a b l n = (
    λ w. row_moves (length P) after before q a b l (λ i h. sym (up.others q i w.0 n (omega arith))) w,
    λ w. row_moves (length P) before after q a b l (λ i h. up.others q i w.0 n (omega arith)) w,
  )

  -- the row of a routine that reaches r has the least pairs
  cell : (q a b : ℕ) → q < length P → Touched P r q → a < row_names → b < row_names
      → CellOf (RowOf P Whole q a b) (get_or after (row_bytes * q + row_names * a + b) 0)
  cell q a b h t la lb =
      subst (λ (i : ℕ). CellOf (RowOf P Whole q a b) (get_or after i 0)) (place q a b) (up.cells q a b h t la lb)

  row_to : (q a b : ℕ) (l : Label) → Touched P r q → Left q a b l → RowOf P Whole q a b l
  row_to q a b l t w =
      labelled_to (RowOf P Whole q a b) (get_or after (row_bytes * q + row_names * a + b) 0)
      (cell q a b w.0 t w.1.0 w.1.1) l w.1.2

  row_from : (q a b : ℕ) (l : Label) → q < length P → Touched P r q → RowOf P Whole q a b l → Left q a b l
  row_from q a b l h t w =
      let k = few q h in
      let x = w.2 in
      let y = w.3 in
      let la : a < row_names = omega arith in
      let lb : b < row_names = omega arith in (
        h,
        (
          la,
          lb,
          labelled_from (RowOf P Whole q a b) (get_or after (row_bytes * q + row_names * a + b) 0)
              (cell q a b h t la lb) (no_fork P Whole q a b) l w,
        ),
      )

  left_with : Within Left (RowsWith P (Touched P r) Given Whole)
  left_with q a b l w = go (touched? P r q)
    where
      go : Dec (Touched P r q) → RowsWith P (Touched P r) Given Whole q a b l
      go (yes t) = inl (t, row_to q a b l t w)
      go (no n) = inr (n, (given_stays q a b l n).0 w)

  -- what is worked out from the rows left is of the least pairs, and they have it all
  pair_to : Within (Derived P Left) Whole
  pair_to q a b l w =
      with_satisfies P (Touched P r) Given q a b l
      (derived_mono P Left (RowsWith P (Touched P r) Given Whole) left_with q a b l w)

  current : (q a b : ℕ) (l : Label) → Touched P r q → RowOf P (Derived P Left) q a b l → Left q a b l
  current q a b l t w = go (dec_lt q (length P))
    where
      go : Dec (q < length P) → Left q a b l
      go (yes h) = row_from q a b l h t (row_mono P (Derived P Left) Whole pair_to q a b l w)
      go (no n) = rw w.5 (up_to_date_beyond P Left q (omega arith) a b w.0 w.1 w.2 w.3 w.4)

  pair_from : Within Whole (Derived P Left)
  pair_from = with_least P (Touched P r) Given Left (λ q a b l n w. (given_stays q a b l n).1 w) current

  -- the row of a routine that reaches r is what is worked out in its body from the rows left
  pub is_worked_out : (q a b : ℕ) (l : Label) → Touched P r q → Left q a b l ↔ RowOf P (Derived P Left) q a b l
  is_worked_out q a b l t =
      (λ w. row_mono P Whole (Derived P Left) pair_from q a b l (row_to q a b l t w), λ w. current q a b l t w)

  -- and so is its last byte
  pub ring_worked_out : (q : ℕ) → q < length P → Touched P r q
      → Flag (last_byte after q) ((x : ℕ) × Derived P Left q x x several)
  ring_worked_out q h t =
      flag_map (last_byte after q) (λ w. (w.0, pair_from q w.0 w.0 several w.1))
      (λ w. (w.0, pair_to q w.0 w.0 several w.1)) (up.last q h t)

  -- rows that have the given ones, and of which that is so, have all rows left
  pub is_least : (R : Pairs) → ((q a b : ℕ) (l : Label) → ¬ Touched P r q → Given q a b l → R q a b l)
      → ((q a b : ℕ) (l : Label) → Touched P r q → RowOf P (Derived P R) q a b l → R q a b l) → Within Left R
  is_least R has worked q a b l w =
      rows_least P (Touched P r) Given R has worked q a b l (left_with q a b l w)
