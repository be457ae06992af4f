-- The loop of a round: what holds at each turn, and that the routine taken off the mask has its next row.
use mathlib.Core.Path.{◌≡◌, refl, sym, ◌∙◌, subst}
use mathlib.Core.Logic.{◌≢◌, ◌⊎◌, inl, inr, ⊎_elim}
use mathlib.Core.Bool.{Bool, true, false, ◌||◌}
use mathlib.Core.List.{List}
use Prim.Native.Nat.{ℕ, suc, ◌*◌, ◌/◌, ◌%◌, ◌^◌, ◌≤◌, ◌<◌}
use native.Mathlib.Omega.{arith}
use native.Mathlib.Decide.{ℕ_discrete}
use lib.ListN.{length, get_or, set, length-set}
use lib.Seq.{get_or-set_same, get_or-set_other}
use lib.Pow.{pow_pos}
use lib.Bits.{bit_or}
use Rattle.std.specs.Prelude.{Option, None}
use Rattle.table.specs.Program.{Program}
use Rattle.table.proofs.Laws.Sections.{routines, few}
use Rattle.grid.specs.Rows.{Has, Bits}
use Rattle.grid.proofs.Laws.Masks.{has_zero, has_below}
use Rattle.rows.specs.Model.{ShapedRow, Shaped}
use Rattle.rounds.specs.Rounds.{Changeless}
use Rattle.rounds.specs.Laws.Steps.{SameRow}
use Rattle.rounds.proofs.Laws.Steps.{steady_same}
use Rattle.settle.specs.Due.{Taken}
use Rattle.settle.specs.Settle.{Improved}
use Rattle.settle.specs.Bodies.{BodyOf, BodyReady, RowReady, Improves}
use Rattle.settle.specs.Laws.Off.{more_below, more_old, more_new}
use Rattle.byrounds.specs.Round.{CellsAre, RowIs, At, SameCells, Placed, RoundStart, RoundReady}
use Rattle.byrounds.specs.Round.{Rounded}
use Rattle.byrounds.proofs.RoundLaws.{row_moves, steady_at, next_row, next_name, other_bytes}
use Rattle.byrounds.proofs.RoundLaws.{told_still, told_same, told_other}

-- the routines left have their rows after i rounds, and the others after i + 1; the flag tells whether one of those
-- changed, and the mask has each of them with a cell that did
pub record Mid (P : Program) (i : ℕ) (model : List ℕ) (names : List (Option ℕ)) (left : ℕ) (changed : Bool) (moved : ℕ) : Type 0 where
  pub waiting : (q : ℕ) → q < length P → Has left q → At P i model names q
  pub done : (q : ℕ) → q < length P → (Has left q → ⊥) → At P (suc i) model names q
  pub same : changed ≡ false → (q : ℕ) → q < length P → (Has left q → ⊥) → SameRow P i q
  pub other : changed ≡ true → Changeless P i → ⊥
  pub still : (q : ℕ) → q < length P → (Has left q → ⊥) → (Has moved q → ⊥) → SameCells P i q

mid_start : (P : Program) (i : ℕ) (old model : List ℕ) (names : List (Option ℕ)) (due : ℕ) → RoundStart P i old model names due
    → Mid P i model names due false 0
mid_start P i old model names due st = record {
  waiting = λ q h b. st.rows q h;
  done = λ q h n. steady_at P i q (st.steady q h n) model names (st.rows q h);
  same = λ e q h n. steady_same P i q (st.steady q h n);
  other = λ e. absurd (let o : ◌≡◌ {A = ℕ} 0 1 = cc in omega arith);
  still = λ q h n m. (steady_same P i q (st.steady q h n)).cells;
}

mid_shaped : (P : Program) (i : ℕ) (model : List ℕ) (names : List (Option ℕ)) (left : ℕ) (changed : Bool) (moved : ℕ)
    → Mid P i model names left changed moved → Shaped (length P) model
mid_shaped P i model names left changed moved m q h = go (ℕ_discrete (left / 2 ^ q % 2) 1)
  where
    go : Dec (Has left q) → ShapedRow model q
    go (yes b) = (m.waiting q h b).row.shaped
    go (no n) = (m.done q h n).row.shaped

-- two flags, none of which is up, or one of which is
none_up : (a b : Bool) → (a || b) ≡ false → (a ≡ false) × (b ≡ false)
none_up false b e = (refl, e)
none_up true b e = absurd (let o : ◌≡◌ {A = ℕ} 0 1 = cc in omega arith)

one_up : (a b : Bool) → (a || b) ≡ true → (a ≡ true) ⊎ (b ≡ true)
one_up false b e = inr e
one_up true b e = inl refl

-- a turn: routine r is worked out
module _ (P : Program) (i : ℕ) (old : List ℕ) (old_cells : (q : ℕ) → q < length P → CellsAre P i old q)
    (model after : List ℕ) (names : List (Option ℕ)) (left : ℕ) (changed : Bool) (moved r : ℕ) (cells last : Bool)
    (x : Option ℕ)
    (lt : r < length P) (imp : Improved P old model after r cells last x) (m : Mid P i model names left changed moved)
    (here : Has left r) (place : r < length names) where
  was : At P i model names r
  was = m.waiting r lt here

  now_row : RowIs P (suc i) after r
  now_row = next_row P i old old_cells model after r cells last x lt imp
      (mid_shaped P i model names left changed moved m) was.row

  now_at : At P (suc i) after (set names r x) r
  now_at = record {
    row = now_row;
    name = rw (get_or-set_same names r x None place) (next_name P i old old_cells model after r cells last x lt imp);
  }

  keeps : (j q : ℕ) → q ≢ r → At P j model names q → At P j after (set names r x) q
  keeps j q ne a = record {
    row = row_moves P j model after q
        (λ k l. other_bytes P i old old_cells model after r cells last x lt imp q k ne l) a.row;
    name = rw (get_or-set_other names r q x None ne) a.name;
  }

  -- the masks afterwards
  module _ (left' moved' : ℕ) (off : Bits left' (λ j. (j ≢ r) × Has left j))
      (old-moved : (q : ℕ) → Has moved q → Has moved' q) (new-moved : cells ≡ true → Has moved' r) where
    mid_turn : Mid P i after (set names r x) left' (changed || (cells || last)) moved'
    mid_turn = record {
      waiting = λ q h b. keeps i q (off.to q b).0 (m.waiting q h (off.to q b).1);
      done = λ q h n. done q h n (ℕ_discrete q r);
      same = λ e q h n. same (none_up changed (cells || last) e) q h n (ℕ_discrete q r);
      other = λ e c. ⊎_elim (λ z. m.other z c)
          (λ z. told_other P i old old_cells model after r cells last x lt imp was.row now_row z c)
          (one_up changed (cells || last) e);
      still = λ q h n k. still q h n k (ℕ_discrete q r);
    }
      where
        done : (q : ℕ) → q < length P → (Has left' q → ⊥) → Dec (q ≡ r) → At P (suc i) after (set names r x) q
        done q h n (yes e) = subst (At P (suc i) after (set names r x)) (sym e) now_at
        done q h n (no ne) = keeps (suc i) q ne (m.done q h (λ b. n (off.from q (ne, b))))

        same : (changed ≡ false) × ((cells || last) ≡ false) → (q : ℕ) → q < length P → (Has left' q → ⊥)
            → Dec (q ≡ r) → SameRow P i q
        same z q h n (yes e) = subst (SameRow P i) (sym e)
            (told_same P i old old_cells model after r cells last x lt imp was.row now_row z.1)
        same z q h n (no ne) = m.same z.0 q h (λ b. n (off.from q (ne, b)))

        at_r : (d : Bool) → cells ≡ d → (Has moved' r → ⊥) → SameCells P i r
        at_r false e k = told_still P i old old_cells model after r cells last x lt imp was.row now_row e
        at_r true e k = absurd (k (new-moved e))

        still : (q : ℕ) → q < length P → (Has left' q → ⊥) → (Has moved' q → ⊥) → Dec (q ≡ r) → SameCells P i q
        still q h n k (yes e) = subst (SameCells P i) (sym e) (at_r cells refl (λ b. k (rw e b)))
        still q h n k (no ne) = m.still q h (λ b. n (off.from q (ne, b))) (λ b. k (old-moved q b))

-- routine r can be worked out
pub record Chosen (ks s starts old model : List ℕ) (names : List (Option ℕ)) (r : ℕ) : Type 0 where
  pub small : r < 64
  pub start_there : r < length starts
  pub name_there : r < length names
  pub ready : RowReady ks s (get_or starts r 0) r model model
  pub body_ready : BodyReady ks s (get_or starts r 0) r old

-- what holds at each turn of the loop
pub record Midway (ks s starts : List ℕ) (due : ℕ) (old before : List ℕ) (first : List (Option ℕ)) (model : List ℕ)
    (names : List (Option ℕ)) (left : ℕ) (changed : Bool) (moved : ℕ) : Type 0 where
  pub long : length model ≡ length before
  pub names_long : length names ≡ 64
  pub rest_same : (i : ℕ) → 65 * length ks ≤ i → get_or model i 0 ≡ get_or before i 0
  pub left_below : left < 2 ^ length ks
  pub moved_below : moved < 2 ^ length ks
  pub told : (P : Program) (i : ℕ) → Placed P ks s starts → RoundStart P i old before first due
      → Mid P i model names left changed moved

module _ {ks s starts : List ℕ} {due : ℕ} {old before : List ℕ} {first : List (Option ℕ)}
    (ready : RoundReady ks s starts due old before first) where
  count : length ks ≡ length ready.program
  count = routines ready.program ks s ready.placed.holds

  few_routines : length ks ≤ 64
  few_routines = few ks s (ready.program, ready.placed.holds)

  pub midway_start : Midway ks s starts due old before first before first due false 0
  midway_start = record {
    long = refl;
    names_long = ready.names_long;
    rest_same = λ i h. refl;
    left_below = rw count ready.start.below;
    moved_below = pow_pos (length ks);
    told = λ P i k st. mid_start P i old before first due st;
  }

  module _ {model : List ℕ} {names : List (Option ℕ)} {left : ℕ} {changed : Bool} {moved r rest : ℕ}
      (mid : Midway ks s starts due old before first model names left changed moved) (t : Taken left r rest) where
    listed : r < length ks
    listed = has_below left (length ks) r mid.left_below t.bit

    names_there : r < length names
    names_there = let b = t.routine in let e = mid.names_long in omega arith

    at_body : (P : Program) → Placed P ks s starts → BodyOf P ks s (get_or starts r 0) r
    at_body P k =
        let e = routines P ks s k.holds in
        let b = listed in
        let l : r < length P = omega arith in
        record { holds = k.holds; listed = l; starts = k.start r l }

    pub chosen : Chosen ks s starts old model names r
    chosen =
        let P = ready.program in
        let b = at_body P ready.placed in
        let i = listed in
        let e = count in
        let n = ready.placed.starts_long in
        let l = ready.long in
        let g = mid.long in
        let m = mid.told P ready.done ready.placed ready.start in
        record {
          small = t.routine;
          start_there = omega arith;
          name_there = names_there;
          ready = record {
            program = P;
            body_of = b;
            rows_long = omega arith;
            long = omega arith;
            shaped = mid_shaped P ready.done model names left changed moved m r b.listed;
          };
          body_ready = record { program = P; body_of = b; long = ready.old_long };
        }

    -- the mask of those moved, with r
    abbrev moved' : ℕ
    moved' = bit_or moved ((1 * 2 ^ r) % 18446744073709551616)

    module _ {after : List ℕ} {cells last : Bool} {x : Option ℕ}
        (imp : Improves ks s (get_or starts r 0) r old model after cells last x)
        (same_length : length after ≡ length model) where
      turn : (moved'' : ℕ) → moved'' < 2 ^ length ks → ((q : ℕ) → Has moved q → Has moved'' q)
          → (cells ≡ true → Has moved'' r)
          → Midway ks s starts due old before first after (set names r x) rest (changed || (cells || last)) moved''
      turn moved'' low f g = record {
        long = same_length ∙ mid.long;
        names_long = length-set names r x ∙ mid.names_long;
        rest_same = λ i h.
            let b = listed in
            (imp ready.program (at_body ready.program ready.placed)).added.outside i (inr (omega arith))
            ∙ mid.rest_same i h;
        left_below = let l = t.less in let b = mid.left_below in omega arith;
        moved_below = low;
        told = λ P i k st.
            let b = at_body P k in
            mid_turn P i old st.old_cells model after names left changed moved r cells last x b.listed (imp P b)
            (mid.told P i k st) t.bit names_there rest moved'' t.others f g;
      }

      pub turn_moved : Midway ks s starts due old before first after (set names r x) rest
          (changed || (cells || last)) moved'
      turn_moved = turn moved'
          (more_below (length ks) left r few_routines mid.left_below t.bit moved mid.moved_below)
          (more_old (length ks) left r few_routines mid.left_below t.bit moved mid.moved_below)
          (λ z. more_new (length ks) left r few_routines mid.left_below t.bit moved mid.moved_below)

      pub turn_still : cells ≡ false
          → Midway ks s starts due old before first after (set names r x) rest (changed || (cells || last)) moved
      turn_still e = turn moved mid.moved_below (λ q h. h)
          (λ z. absurd (let o : ◌≡◌ {A = ℕ} 0 1 = cc in omega arith))

-- none is left
pub midway_end : {ks s starts : List ℕ} {due : ℕ} {old before : List ℕ} {first : List (Option ℕ)} {model : List ℕ}
    {names : List (Option ℕ)} {left : ℕ} {changed : Bool} {moved : ℕ} → left ≡ 0 → Midway ks s starts due old before first model names left changed moved
    → Rounded ks s starts due old before model first names changed moved
midway_end {ks = ks} {s = s} {left = left} e mid = record {
  long = mid.long;
  names_long = mid.names_long;
  rest = mid.rest_same;
  told = λ P i k st.
      let m = mid.told P i k st in
      let n = routines P ks s k.holds in
      record {
        old_cells = st.old_cells;
        rows = λ q h. m.done q h (none q);
        same = λ z q h. m.same z q h (none q);
        other = m.other;
        still = λ q h f. m.still q h (none q) f;
        below = rw n at mid.moved_below;
      };
}
  where
    none : (q : ℕ) → Has left q → ⊥
    none q h = has_zero q (rw e at h)
