-- An improvement keeps what holds of the rows: the routine that was due becomes fresh, and only its callers may become
-- due.
use mathlib.Core.Path.{◌≡◌, refl, sym, ◌∙◌, subst}
use mathlib.Core.Logic.{◌≢◌, ◌⊎◌, inl, inr, ⊎_elim}
use mathlib.Core.Bool.{Bool, true, false}
use mathlib.Core.List.{List}
use Prim.Native.Nat.{ℕ, ◌+◌, ◌*◌, ◌≤◌, ◌<◌}
use native.Mathlib.Omega.{arith}
use native.Mathlib.Decide.{ℕ_discrete}
use lib.ListN.{length, get_or, set}
use lib.Seq.{get_or-set_same, get_or-set_other}
use Rattle.std.specs.Prelude.{Option, None}
use Rattle.table.specs.Program.{Program, params, body}
use Rattle.rules.specs.Label.{Label, several, cut}
use Rattle.rules.specs.Verdict.{Calls}
use Rattle.rules.specs.Derived.{RowOf}
use Rattle.rows.specs.Bytes.{RowBits, RingByte, RowsOf}
use Rattle.rows.specs.Model.{RowAdded, GridRow, HasRing}
use Rattle.rows.specs.Laws.Fixpoint.{calls_only, up_to_date_kept}
use Rattle.rows.specs.Laws.Cells.{apart, row_moves}
use Rattle.rounds.specs.Given.{RowsWith}
use Rattle.rounds.proofs.Laws.LeastGiven.{Within, derived_mono, with_satisfies}
use Rattle.settle.specs.Settle.{WorkedOut, Named, Fresh, Whole, PartlyWith, Improved}
use Rattle.settle.specs.Laws.Improving.{lowest_same}

module _ (P : Program) (T : ℕ → Type 0) (T? : (q : ℕ) → Dec (T q)) (listed : (q : ℕ) → T q → q < length P)
    (before model after : List ℕ) (names : List (Option ℕ)) (r : ℕ) (cells last : Bool) (x : Option ℕ) (tr : T r)
    (due : ℕ → Type 0) (part : PartlyWith P T before model names due)
    (imp : Improved P model model after r cells last x)
    (place : r < length names) where
  -- the ring names afterwards
  abbrev renamed : List (Option ℕ)
  renamed = set names r x

  add : RowAdded model after r (params P r) imp.grid cells last x
  add = imp.added

  -- a pair of the new rows is an old one, or is worked out for routine r
  split : (q a b : ℕ) (l : Label) → RowsOf (length P) after q a b l
      → RowsOf (length P) model q a b l ⊎ ((q ≡ r) × RowOf P (WorkedOut P model) r a b l)
  split q a b l w = ⊎_elim (λ x. inl (w.0, x)) (λ x. inr (x.0, row x.1)) (add.only q a b l w.1)
    where
      row : GridRow (params P r) imp.grid a b l → RowOf P (WorkedOut P model) r a b l
      row g = (g.0, imp.pairs.only a b g.0 g.1, g.2, g.3, g.4, g.5)

  -- the rows in the buffer are of the least pairs, or given
  in_whole : Within (RowsOf (length P) model) (RowsWith P T (RowsOf (length P) before) (Whole P T before))
  in_whole q a b l w = go (T? q)
    where
      go : Dec (T q) → RowsWith P T (RowsOf (length P) before) (Whole P T before) q a b l
      go (yes t) = inl (t, part.sound q a b l t w)
      go (no n) =
          inr (n, row_moves (length P) model before q a b l (λ i h. sym (part.others q i w.0 n (omega arith))) w)

  -- so only those are worked out from them
  whole_step : (a b : ℕ) (l : Label) → WorkedOut P model r a b l → Whole P T before r a b l
  whole_step a b l w =
      with_satisfies P T (RowsOf (length P) before) r a b l
      (derived_mono P (RowsOf (length P) model) (RowsWith P T (RowsOf (length P) before) (Whole P T before)) in_whole
      r a b l w)

  new_sound : (q a b : ℕ) (l : Label) → T q → RowsOf (length P) after q a b l → RowOf P (Whole P T before) q a b l
  new_sound q a b l t w = ⊎_elim (λ p. part.sound q a b l t p) (λ p. rw p.0 (row p.1)) (split q a b l w)
    where
      row : RowOf P (WorkedOut P model) r a b l → RowOf P (Whole P T before) r a b l
      row p = (p.0, whole_step a b p.0 p.1, p.2, p.3, p.4, p.5)

  new_ring_sound : (q : ℕ) → T q → RingByte after q → (x : ℕ) × Whole P T before q x x several
  new_ring_sound q t b = ⊎_elim (λ x. part.ring_sound q t x) (λ x. ring x) (add.ring_only q b)
    where
      ring : (q ≡ r) × HasRing imp.grid → (x : ℕ) × Whole P T before q x x several
      ring x =
          let y = x.1 in (
            y.0,
            subst (λ (v : ℕ). Whole P T before v y.0 y.0 several) (sym x.0)
                (whole_step y.0 y.0 several (imp.pairs.only y.0 y.0 several y.1)),
          )

  -- the rows of the others are as they were
  new_others : (q i : ℕ) → q < length P → (T q → ⊥) → i < 65 → get_or after (65 * q + i) 0 ≡ get_or before (65 * q + i) 0
  new_others q i h n l = add.outside (65 * q + i) (apart q r i (λ e. n (rw e tr)) l) ∙ part.others q i h n l

  -- the rows of a routine keep their pairs
  keeps : (q a b : ℕ) (l : Label) → RowsOf (length P) model q a b l → RowsOf (length P) after q a b l
  keeps q a b l w = (w.0, add.old q a b l w.1)

  -- where the rows that q calls got nothing new, q is fresh if it was, and if it is r
  module _ (q : ℕ) (lq : q < length P) (same : (p a b : ℕ) (l : Label) → Calls (body P q) p
      → RowsOf (length P) after p a b l → RowsOf (length P) model p a b l) where
    back : (a b : ℕ) (l : Label) → WorkedOut P after q a b l → WorkedOut P model q a b l
    back = calls_only P (RowsOf (length P) after) (RowsOf (length P) model) q same

    forth : (a b : ℕ) (l : Label) → WorkedOut P model q a b l → WorkedOut P after q a b l
    forth = calls_only P (RowsOf (length P) model) (RowsOf (length P) after) q (λ p a b l k. keeps p a b l)

    stays_named : (y : Option ℕ) → Named P model q y → Named P after q y
    stays_named y n = lowest_same y (λ z w. forth z z several w) (λ z w. back z z several w) n

    stays_fresh : q ≢ r → Fresh P model names q → Fresh P after renamed q
    stays_fresh m f = record {
      row = up_to_date_kept P (RowsOf (length P) model) (RowsOf (length P) after) q (keeps q) same f.row;
      ring = λ y w. add.ring_old q (f.ring y (back y y several w));
      name = rw (get_or-set_other names r q x None m) (stays_named (get_or names q None) f.name);
    }

    becomes_fresh : q ≡ r → Fresh P after renamed q
    becomes_fresh e = record {
      row = λ a b m w ha hb ne. (
        lq,
        subst (λ (v : ℕ). RowBits after v a b (cut m)) (sym e)
            (add.new a b (cut m) (m, imp.pairs.all a b m (at_r (back a b m w)), up ha, up hb, ne, refl)),
      );
      ring = λ y w. subst (RingByte after) (sym e) (add.ring_new (
        y,
        imp.pairs.all y y several
            (at_r (back y y several w)),
      ));
      name = stays_named (get_or renamed q None) (rw (e, get_or-set_same names r x None place) imp.named);
    }
      where
        at_r : {a b : ℕ} {m : Label} → WorkedOut P model q a b m → WorkedOut P model r a b m
        at_r {a} {b} {m} w = subst (λ (v : ℕ). WorkedOut P model v a b m) e w

        up : {a : ℕ} → a ≤ params P q → a ≤ params P r
        up {a} h = subst (λ (v : ℕ). a ≤ params P v) e h

  -- what is due afterwards: what was due but r, and, where a cell changed, its callers
  pub improved_partly : (next : ℕ → Type 0) → ((q : ℕ) → due q → (q ≡ r) ⊎ next q)
      → (cells ≡ true → (q : ℕ) → q < length P → Calls (body P q) r → next q)
      → PartlyWith P T before after renamed next
  improved_partly next left callers = record {
    long = add.long ∙ part.long;
    rest = λ i h. let lt = listed r tr in add.outside i (inr (omega arith)) ∙ part.rest i h;
    others = new_others;
    shaped = add.shaped (length P) part.shaped;
    sound = new_sound;
    ring_sound = new_ring_sound;
    fresh = λ q t n. fresh q (listed q t) t n (ℕ_discrete q r);
  }
    where
      unchanged : (b : Bool) → cells ≡ b → (q : ℕ) → q < length P → (next q → ⊥) → (p a b : ℕ) (l : Label)
          → Calls (body P q) p → RowsOf (length P) after p a b l → RowsOf (length P) model p a b l
      unchanged false e q lq n p a b l k w =
          row_moves (length P) after model p a b l (λ i h. sym (add.same_cells e p i h)) w
      unchanged true e q lq n p a b l k w =
          ⊎_elim (λ x. x) (λ x. absurd (n (callers e q lq (rw x.0 at k)))) (split p a b l w)

      fresh : (q : ℕ) → q < length P → T q → (next q → ⊥) → Dec (q ≡ r) → Fresh P after renamed q
      fresh q lq t n (yes e) = becomes_fresh q lq (unchanged cells refl q lq n) e
      fresh q lq t n (no m) = stays_fresh q lq (unchanged cells refl q lq n) m
          (part.fresh q t (λ d. ⊎_elim (λ e. m e) n (left q d)))
