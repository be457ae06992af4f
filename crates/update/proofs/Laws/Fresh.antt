-- Where the old model is the analysis's own, what is left is the one that a fresh analysis writes.
use Rattle.std.specs.Prelude.{◌≡◌, List, ℕ, ◌+◌, ◌*◌, ◌<◌, length, get_or}
use Rattle.std.proofs.Common.{subst, arith}
use Rattle.table.specs.Constants.{row_names, row_cells, row_bytes}
use Rattle.table.specs.Program.{Program, params}
use Rattle.rules.specs.Label.{Label, own, forked, unknown, several, cut}
use Rattle.rules.specs.Model.{Model, Row, Ring}
use Rattle.rules.specs.Derived.{Pairs, RowOf}
use Rattle.rules.proofs.Laws.Least.{row_mono}
use Rattle.rows.specs.Bytes.{cell_byte, last_byte, RowsOf}
use Rattle.rounds.specs.Reaches.{Touched}
use Rattle.rounds.specs.OneBody.{OnlyBody}
use Rattle.rounds.proofs.Laws.Reach.{touched?}
use Rattle.rounds.proofs.Laws.LeastGiven.{model_listed, model_to, model_from}
use Rattle.rounds.proofs.Laws.Untouched.{only_body_back, touched_moves, untouched_same}
use Rattle.analysis.specs.Answer.{Flag, Cell, Models}
use Rattle.analysis.proofs.Laws.Bytes.{flag_map, cell_map, labelled_to, labelled_from}
use Rattle.update.specs.Answer.{ModelFrom, UpToDateFrom}

-- a row has no fork label
pub no_fork : (P : Program) (M : Pairs) (r a b i : ℕ) → ¬ RowOf P M r a b (forked i)
no_fork P M r a b i w = go w.0 w.5
  where
    go : (m : Label) → forked i ≡ cut m → ⊥
    go own e = let z : ◌≡◌ {A = ℕ} 0 1 = cc in omega arith
    go (forked j) e = let z : ◌≡◌ {A = ℕ} 0 1 = cc in omega arith
    go unknown e = let z : ◌≡◌ {A = ℕ} 0 1 = cc in omega arith
    go several e = let z : ◌≡◌ {A = ℕ} 0 1 = cc in omega arith

module _ (P Q : Program) (r : ℕ) (only : OnlyBody P Q r) (before after : List ℕ)
    (few : (q : ℕ) → q < length P → params P q < row_names) (own-model : Models P before)
    (up : UpToDateFrom Q r before after) where
  -- the pairs of a routine that does not reach r are the same in both programs
  pair_same : (q a b : ℕ) (l : Label) → ¬ Touched Q r q → Model P q a b l → Model Q q a b l
  pair_same q a b l n w = untouched_same P Q r only q a b l (λ t. n (touched_moves P Q r only q t)) w

  pair_back : (q a b : ℕ) (l : Label) → ¬ Touched Q r q → Model Q q a b l → Model P q a b l
  pair_back q a b l n w = untouched_same Q P r (only_body_back P Q r only) q a b l n w

  -- and so is its row
  row_same : (q a b : ℕ) (l : Label) → ¬ Touched Q r q → Row P q a b l → Row Q q a b l
  row_same q a b l n w = (
    w.0,
    pair_same q a b w.0 n w.1,
    rw (only.same_params q) w.2,
    rw (only.same_params q) w.3,
    w.4,
    w.5,
  )

  row_back : (q a b : ℕ) (l : Label) → ¬ Touched Q r q → Row Q q a b l → Row P q a b l
  row_back q a b l n w = (
    w.0,
    pair_back q a b w.0 n w.1,
    rw (only.same_params q) at w.2,
    rw (only.same_params q) at w.3,
    w.4,
    w.5,
  )

  cell_at : (q a b : ℕ) → q < length P → a < row_names → b < row_names
      → Cell P q a b (get_or before (row_bytes * q + row_names * a + b) 0)
  cell_at q a b h la lb =
      let e : row_bytes * q + (row_names * a + b) ≡ row_bytes * q + row_names * a + b = omega arith in
      subst (λ (i : ℕ). Cell P q a b (get_or before i 0)) e (own-model.cells q a b h la lb)

  given_to : (q a b : ℕ) (l : Label) → ¬ Touched Q r q → RowsOf (length Q) before q a b l → Row Q q a b l
  given_to q a b l n w =
      let h : q < length P = rw (← only.same_length) w.0 in
      row_same q a b l n (labelled_to (Row P q a b) (get_or before (row_bytes * q + row_names * a + b) 0)
      (cell_at q a b h w.1.0 w.1.1) l w.1.2)

  given_from : (q a b : ℕ) (l : Label) → ¬ Touched Q r q → Row Q q a b l → RowsOf (length Q) before q a b l
  given_from q a b l n w =
      let v = row_back q a b l n w in
      let h = model_listed P v.1 in
      let k = few q h in
      let x = v.2 in
      let y = v.3 in
      let la : a < row_names = omega arith in
      let lb : b < row_names = omega arith in (
        rw only.same_length h,
        (
          la,
          lb,
          labelled_from (Row P q a b) (get_or before (row_bytes * q + row_names * a + b) 0) (cell_at q a b h la lb)
              (no_fork P (Model P) q a b) l v,
        ),
      )

  -- what is worked out with the given rows is the model
  abbrev Whole : ℕ → ℕ → ℕ → Label → Type 0
  Whole = ModelFrom Q r before

  to_model : (q a b : ℕ) (l : Label) → Whole q a b l → Model Q q a b l
  to_model = model_to Q (Touched Q r) (RowsOf (length Q) before) (touched? Q r) given_to given_from

  of_model : (q a b : ℕ) (l : Label) → Model Q q a b l → Whole q a b l
  of_model = model_from Q (Touched Q r) (RowsOf (length Q) before) (touched? Q r) given_to given_from

  -- the buffer has the rows of the new program's model
  pub is_fresh : Models Q after
  is_fresh = record {
    cells = λ q a b h la lb. cell q a b h la lb (touched? Q r q);
    last = λ q h. last q h (touched? Q r q);
  }
    where
      at_old : (q : ℕ) → q < length Q → q < length P
      at_old q h = rw (← only.same_length) h

      cell : (q a b : ℕ) → q < length Q → a < row_names → b < row_names → Dec (Touched Q r q)
          → Cell Q q a b (cell_byte after q a b)
      cell q a b h la lb (yes t) =
          cell_map (RowOf Q Whole q a b) (Row Q q a b) (cell_byte after q a b)
          (λ l. row_mono Q Whole (Model Q) to_model q a b l) (λ l. row_mono Q (Model Q) Whole of_model q a b l)
          (up.cells q a b h t la lb)
      cell q a b h la lb (no n) =
          rw (up.others q (row_names * a + b) h n (omega arith))
          (cell_map (Row P q a b) (Row Q q a b) (cell_byte before q a b) (λ l. row_same q a b l n)
          (λ l. row_back q a b l n) (own-model.cells q a b (at_old q h) la lb))

      last : (q : ℕ) → q < length Q → Dec (Touched Q r q) → Flag (last_byte after q) ((x : ℕ) × Ring Q q x)
      last q h (yes t) =
          flag_map (last_byte after q) (λ w. (w.0, to_model q w.0 w.0 several w.1))
          (λ w. (w.0, of_model q w.0 w.0 several w.1)) (up.last q h t)
      last q h (no n) =
          rw (up.others q row_cells h n (omega arith))
          (flag_map (last_byte before q) (λ w. (w.0, pair_same q w.0 w.0 several n w.1))
          (λ w. (w.0, pair_back q w.0 w.0 several n w.1)) (own-model.last q (at_old q h)))
