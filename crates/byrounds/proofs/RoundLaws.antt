-- A round, row by row: working out a row from the cells after i rounds gives the one after i + 1, and the flags tell
-- whether that round changed it.
use mathlib.Core.Path.{◌≡◌, refl, sym, ap, ◌∙◌}
use mathlib.Core.Logic.{◌≢◌, ⊎_elim, inl, inr}
use mathlib.Core.Bool.{Bool, true, false, ◌||◌}
use mathlib.Core.List.{List}
use Prim.Native.Nat.{ℕ, suc, ◌+◌, ◌-◌, ◌*◌, ◌/◌, ◌%◌, ◌^◌, ◌<◌}
use native.Mathlib.Nat.{div-add-mod', mod-lt}
use native.Mathlib.Omega.{arith}
use native.Mathlib.Decide.{ℕ_discrete, dec_lt}
use lib.ListN.{length, get_or}
use lib.Seq.{ext_get_or}
use Rattle.std.specs.Prelude.{Option, None}
use Rattle.table.specs.Program.{Program, params, body}
use Rattle.rules.specs.Label.{Label, own, unknown, several}
use Rattle.rules.specs.Verdict.{Calls}
use Rattle.rows.specs.Bytes.{Labelled, RowsOf}
use Rattle.rows.specs.Model.{Shaped, RowAdded, GridRow, HasRing, total, Moves}
use Rattle.rows.specs.Laws.Cells as Cells
use Rattle.rows.specs.Laws.Fixpoint.{calls_only}
use Rattle.rounds.specs.Rounds.{PairsIn, RowsAfter, RingAfter, Changeless}
use Rattle.rounds.proofs.Laws.LeastGiven.{Within, derived_mono}
use Rattle.rounds.specs.Laws.Steps.{Steady, SameRow}
use Rattle.rounds.proofs.Laws.Steps.{adds, rows_add, rings_add, none_beyond, steady_same}
use Rattle.settle.specs.Settle.{WorkedOut, Improved}
use Rattle.settle.specs.Laws.Improving.{lowest_same}
use Rattle.byrounds.specs.Round.{CellsAre, RowIs, NamedIn, At, SameCells}

-- cells that have the same bytes are after as many rounds
pub cells_move : (P : Program) (j : ℕ) (before after : List ℕ) (q : ℕ)
    → ((i : ℕ) → i < 64 → get_or after (65 * q + i) 0 ≡ get_or before (65 * q + i) 0)
    → CellsAre P j before q → CellsAre P j after q
cells_move P j before after q same c = record {
  to = λ a b l w.
      c.to a b l (Cells.row_moves (suc q) after before q a b l (λ i h. sym (same i h)) (omega arith, w)).1;
  from = λ a b l w. (Cells.row_moves (suc q) before after q a b l same (omega arith, c.from a b l w)).1;
}

-- and so is a row
pub row_moves : (P : Program) (j : ℕ) (model after : List ℕ) (q : ℕ)
    → ((i : ℕ) → i < 65 → get_or after (65 * q + i) 0 ≡ get_or model (65 * q + i) 0) → RowIs P j model q → RowIs P j after q
row_moves P j model after q same row = record {
  cells = cells_move P j model after q (λ i h. same i (omega arith)) row.cells;
  ring_to = λ e. row.ring_to (sym (same 64 (omega arith)) ∙ e);
  ring_from = λ w. same 64 (omega arith) ∙ row.ring_from w;
  shaped = record {
    cells = λ i l. let e = same i (omega arith) in let s = row.shaped.cells i l in omega arith;
    last = let e = same 64 (omega arith) in let s = row.shaped.last in omega arith;
  };
}

bit_same : (x y : ℕ) → x < 2 → y < 2 → (x ≡ 1 → y ≡ 1) → (y ≡ 1 → x ≡ 1) → x ≡ y
bit_same x y hx hy f g = go (ℕ_discrete x 1) (ℕ_discrete y 1)
  where
    go : Dec (x ≡ 1) → Dec (y ≡ 1) → x ≡ y
    go (yes e) d = e ∙ sym (f e)
    go (no n) (yes e) = absurd (n (g e))
    go (no n) (no m) = omega arith

-- a number below 8 is known by its bits
three_bits_lem : (v : ℕ) → v < 8 → v ≡ v / 2 ^ 0 % 2 + 2 * (v / 2 ^ 1 % 2) + 4 * (v / 2 ^ 2 % 2)
three_bits_lem v h = omega arith

same_bits : (v w : ℕ) → v < 8 → w < 8 → v / 2 ^ 0 % 2 ≡ w / 2 ^ 0 % 2 → v / 2 ^ 1 % 2 ≡ w / 2 ^ 1 % 2
    → v / 2 ^ 2 % 2 ≡ w / 2 ^ 2 % 2 → v ≡ w
same_bits v w hv hw e₀ e₁ e₂ =
    three_bits_lem v hv ∙ (λ i. e₀ i + 2 * e₁ i + 4 * e₂ i) ∙ sym (three_bits_lem w hw)

-- there is one row after as many rounds
row_unique : (P : Program) (j : ℕ) (model after : List ℕ) (q : ℕ) → RowIs P j model q → RowIs P j after q
    → (i : ℕ) → i < 65 → get_or after (65 * q + i) 0 ≡ get_or model (65 * q + i) 0
row_unique P j model after q m n i h = go (dec_lt i 64)
  where
    cell : (a b : ℕ) → a < 8 → b < 8 → (v w : ℕ) → v ≡ get_or after (65 * q + 8 * a + b) 0
        → w ≡ get_or model (65 * q + 8 * a + b) 0 → v < 8 → w < 8 → v ≡ w
    cell a b la lb v w ev ew sv sw =
        let e₀ = bit_same (v / 2 ^ 0 % 2) (w / 2 ^ 0 % 2) (omega arith) (omega arith) (to own) (from own) in
        let e₁ = bit_same (v / 2 ^ 1 % 2) (w / 2 ^ 1 % 2) (omega arith) (omega arith) (to unknown) (from unknown) in
        let e₂ = bit_same (v / 2 ^ 2 % 2) (w / 2 ^ 2 % 2) (omega arith) (omega arith) (to several) (from several) in
        same_bits v w sv sw e₀ e₁ e₂
      where
        to : (l : Label) → Labelled v l → Labelled w l
        to l x = rw ew (m.cells.from a b l (n.cells.to a b l (la, lb, (rw ev at x)))).2

        from : (l : Label) → Labelled w l → Labelled v l
        from l x = rw ev (n.cells.from a b l (m.cells.to a b l (la, lb, (rw ew at x)))).2

    go : Dec (i < 64) → get_or after (65 * q + i) 0 ≡ get_or model (65 * q + i) 0
    go (yes l) =
        let e : i ≡ 8 * (i / 8) + i % 8 = omega (arith, div-add-mod' i 8) in
        let r : i % 8 < 8 = mod-lt i (omega arith) in
        let a = i / 8 in
        let b = i % 8 in
        let p : 65 * q + i ≡ 65 * q + 8 * a + b = omega arith in
        rw p (cell a b (omega arith) r (get_or after (65 * q + 8 * a + b) 0) (get_or model (65 * q + 8 * a + b) 0) refl refl
        (rw p at (n.shaped.cells i l)) (rw p at (m.shaped.cells i l)))
    go (no l) =
        let e : i ≡ 64 = omega arith in
        let s = m.shaped.last in
        let t = n.shaped.last in
        rw e (bit_same (get_or after (65 * q + 64) 0) (get_or model (65 * q + 64) 0) (omega arith) (omega arith)
        (λ x. m.ring_from (n.ring_to x)) (λ x. n.ring_from (m.ring_to x)))

-- a steady routine has its row and its ring name after the next round too
module _ (P : Program) (i q : ℕ) (steady : Steady P i q) where
  pub steady_at : (model : List ℕ) (names : List (Option ℕ)) → At P i model names q → At P (suc i) model names q
  steady_at model names x = record {
    row = record {
      cells = record {
        to = λ a b l w. rows_add P i q a b l (x.row.cells.to a b l w);
        from = λ a b l w. x.row.cells.from a b l ((steady_same P i q steady).cells a b l w);
      };
      ring_to = λ e. rings_add P i q (x.row.ring_to e);
      ring_from = λ w. x.row.ring_from ((steady_same P i q steady).ring w);
      shaped = x.row.shaped;
    };
    name = lowest_same (get_or names q None) (λ y w. adds P i q y y several w) (λ y w. steady y y several w) x.name;
  }

-- cells that are left as they were are after one round more
pub same_cells_are : (P : Program) (i : ℕ) (rows : List ℕ) (q : ℕ) → SameCells P i q → CellsAre P i rows q
    → CellsAre P (suc i) rows q
same_cells_are P i rows q s c = record {
  to = λ a b l w. rows_add P i q a b l (c.to a b l w);
  from = λ a b l w. c.from a b l (s a b l w);
}

-- where a round leaves the cells of the routines that q calls, the next one has nothing new for q
pub steady_next : (P : Program) (i q : ℕ)
    → ((p : ℕ) → Calls (body P q) p → p < length P → SameCells P i p) → Steady P (suc i) q
steady_next P i q f =
    calls_only P (RowsAfter P (suc i)) (RowsAfter P i) q (λ p a b l c w. go p a b l c w (dec_lt p (length P)))
  where
    go : (p a b : ℕ) (l : Label) → Calls (body P q) p → RowsAfter P (suc i) p a b l → Dec (p < length P)
        → RowsAfter P i p a b l
    go p a b l c w (yes h) = f p c h a b l w
    go p a b l c w (no n) = absurd (none_beyond P (suc i) p a b w.0 (omega arith) w.1)

-- the pairs that the next round works out are those worked out from cells that are all after i rounds
module _ (P : Program) (i : ℕ) (rows : List ℕ) (cells : (q : ℕ) → q < length P → CellsAre P i rows q) where
  pub to_after : Within (RowsOf (length P) rows) (RowsAfter P i)
  to_after q a b l w = (cells q w.0).to a b l w.1

  from_after : Within (RowsAfter P i) (RowsOf (length P) rows)
  from_after q a b l w = go (dec_lt q (length P))
    where
      go : Dec (q < length P) → RowsOf (length P) rows q a b l
      go (yes h) = (h, (cells q h).from a b l w)
      go (no n) = absurd (none_beyond P i q a b w.0 (omega arith) w.1)

  pub to_pairs : Within (WorkedOut P rows) (PairsIn P (suc i))
  to_pairs = derived_mono P (RowsOf (length P) rows) (RowsAfter P i) to_after

  pub from_pairs : Within (PairsIn P (suc i)) (WorkedOut P rows)
  from_pairs = derived_mono P (RowsAfter P i) (RowsOf (length P) rows) from_after

-- routine r is worked out from cells that are all after i rounds
module _ (P : Program) (i : ℕ) (old : List ℕ) (old_cells : (q : ℕ) → q < length P → CellsAre P i old q)
    (model after : List ℕ) (r : ℕ) (cells last : Bool) (x : Option ℕ) (lt : r < length P)
    (imp : Improved P old model after r cells last x) where
  add : RowAdded model after r (params P r) imp.grid cells last x
  add = imp.added

  -- the grid has the pairs of the next round
  in_grid : (a b : ℕ) (l : Label) → PairsIn P (suc i) r a b l → WorkedOut P old r a b l
  in_grid = from_pairs P i old old_cells r

  of_grid : (a b : ℕ) (l : Label) → WorkedOut P old r a b l → PairsIn P (suc i) r a b l
  of_grid = to_pairs P i old old_cells r

  pub next_row : Shaped (length P) model → RowIs P i model r → RowIs P (suc i) after r
  next_row shaped row = record {
    cells = record {
      to = λ a b l w.
          ⊎_elim (λ v. rows_add P i r a b l (row.cells.to a b l v)) (λ v. grid_row a b l v.1) (add.only r a b l w);
      from = λ a b l w.
          add.new a b l (w.0, imp.pairs.all a b w.0 (in_grid a b w.0 w.1), w.2, w.3, w.4, w.5);
    };
    ring_to = λ e. ⊎_elim (λ v. rings_add P i r (row.ring_to v)) (λ v. grid_ring v.1) (add.ring_only r e);
    ring_from = λ w. add.ring_new (w.0, imp.pairs.all w.0 w.0 several (in_grid w.0 w.0 several w.1));
    shaped = add.shaped (length P) shaped r lt;
  }
    where
      grid_row : (a b : ℕ) (l : Label) → GridRow (params P r) imp.grid a b l → RowsAfter P (suc i) r a b l
      grid_row a b l g = (g.0, of_grid a b g.0 (imp.pairs.only a b g.0 g.1), g.2, g.3, g.4, g.5)

      grid_ring : HasRing imp.grid → RingAfter P (suc i) r
      grid_ring g = (g.0, of_grid g.0 g.0 several (imp.pairs.only g.0 g.0 several g.1))

  pub next_name : NamedIn P (suc i) r x
  next_name = lowest_same x (λ y w. of_grid y y several w) (λ y w. in_grid y y several w) imp.named

  -- the bytes of the other rows
  pub other_bytes : (q j : ℕ) → q ≢ r → j < 65 → get_or after (65 * q + j) 0 ≡ get_or model (65 * q + j) 0
  other_bytes q j ne l = add.outside (65 * q + j) (Cells.apart q r j ne l)

  -- what the flags tell of a row that was the one after i rounds
  module _ (was : RowIs P i model r) (is : RowIs P (suc i) after r) where
    pub told_still : cells ≡ false → SameCells P i r
    told_still e a b l w =
        was.cells.to a b l ((cells_move P (suc i) after model r (λ j h. sym (add.same_cells e r j h)) is.cells).from
        a b l w)

    pub told_same : (cells || last) ≡ false → SameRow P i r
    told_same e = record {
      cells = λ a b l w. was.cells.to a b l (rw s at (is.cells.from a b l w));
      ring = λ w. was.ring_to (rw s at (is.ring_from w));
    }
      where
        s : after ≡ model
        s = let t : Moves false model after = rw e at add.told in t

    -- a row that changed is not that of the round before
    pub told_other : (cells || last) ≡ true → Changeless P i → ⊥
    told_other e c =
        let t : total model < total after = rw e at add.told in
        let s : total after ≡ total model = ap total whole in
        omega arith
      where
        back : RowIs P i after r
        back = record {
          cells = record {
            to = λ a b l w. (c.cells r a b l).0 (is.cells.to a b l w);
            from = λ a b l w. is.cells.from a b l ((c.cells r a b l).1 w);
          };
          ring_to = λ w. (c.rings r).0 (is.ring_to w);
          ring_from = λ w. is.ring_from ((c.rings r).1 w);
          shaped = is.shaped;
        }

        byte : (k : ℕ) → Dec (k < 65 * r) → Dec (k < 65 * r + 65) → get_or after k 0 ≡ get_or model k 0
        byte k (yes l) d = add.outside k (inl l)
        byte k (no l) (no h) = add.outside k (inr (omega arith))
        byte k (no l) (yes h) =
            let p : k ≡ 65 * r + (k - 65 * r) = omega arith in
            rw p (row_unique P i model after r was back (k - 65 * r) (omega arith))

        whole : after ≡ model
        whole = ext_get_or 0 after model add.long (λ k h. byte k (dec_lt k (65 * r)) (dec_lt k (65 * r + 65)))
