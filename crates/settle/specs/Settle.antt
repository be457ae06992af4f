-- Rows on their way to the least model: what holds of the buffer between two improvements, and what one leaves.
use Rattle.std.specs.Prelude.{◌≡◌, Bool, List, ℕ, ◌+◌, ◌*◌, ◌≤◌, ◌<◌, length, get_or, Option, Some, None}
use Rattle.table.specs.Program.{Program, params}
use Rattle.rules.specs.Label.{Label, several}
use Rattle.rules.specs.Model.{Ring}
use Rattle.rules.specs.Derived.{Pairs, RowOf, Derived}
use Rattle.grid.specs.Grid.{Pair}
use Rattle.rows.specs.Bytes.{RingByte, RowsOf}
use Rattle.rows.specs.Model.{Shaped, RowAdded}
use Rattle.rows.specs.Laws.Fixpoint.{Sound, UpToDate}
use Rattle.rounds.specs.Given.{ModelWith}
use Rattle.table.specs.Constants.{most_names, row_bytes}

-- the pairs worked out in the body of routine r from the rows in the buffer
abbrev pub WorkedOut : Program → List ℕ → Pairs
WorkedOut P model = Derived P (RowsOf (length P) model)

-- the lowest name of which Q holds, if there is one
abbrev pub LowestOf : (ℕ → Type 0) → Option ℕ → Type 0
LowestOf Q None = (y : ℕ) → Q y → ⊥
LowestOf Q (Some x) = (x < most_names) × Q x × ((y : ℕ) → Q y → x ≤ y)

-- the lowest name with a ring that is worked out for routine r, if there is one
abbrev pub Named : Program → List ℕ → ℕ → Option ℕ → Type 0
Named P model r = LowestOf (λ x. WorkedOut P model r x x several)

-- the row of routine r has all that is worked out for it, and its ring name is that of the list
pub record Fresh (P : Program) (model : List ℕ) (names : List (Option ℕ)) (r : ℕ) : Type 0 where
  pub row : UpToDate P (RowsOf (length P) model) r
  pub ring : (x : ℕ) → WorkedOut P model r x x several → RingByte model r
  pub name : Named P model r (get_or names r None)

-- the rows have nothing that the model lacks, and all are fresh; the rest is as it was before
pub record AllFresh (P : Program) (before model : List ℕ) (names : List (Option ℕ)) : Type 0 where
  pub long : length model ≡ length before
  pub rest : (i : ℕ) → row_bytes * length P ≤ i → get_or model i 0 ≡ get_or before i 0
  pub shaped : Shaped (length P) model
  pub sound : Sound P (RowsOf (length P) model)
  pub ring_sound : (r : ℕ) → r < length P → RingByte model r → (x : ℕ) × Ring P r x
  pub fresh : (r : ℕ) → r < length P → Fresh P model names r

-- the least pairs with the rows of the buffer taken as given, but for the routines of T
abbrev pub Whole : Program → (ℕ → Type 0) → List ℕ → Pairs
Whole P T before = ModelWith P T (RowsOf (length P) before)

-- rows on their way, of the routines of T: they have nothing that the least lack, and all but those that are due are
-- fresh; the rows of the others are given, and as they were before, and so is the rest
pub record PartlyWith (P : Program) (T : ℕ → Type 0) (before model : List ℕ) (names : List (Option ℕ)) (due : ℕ → Type 0)
    : Type 0 where
  pub long : length model ≡ length before
  pub rest : (i : ℕ) → row_bytes * length P ≤ i → get_or model i 0 ≡ get_or before i 0
  pub others : (q i : ℕ) → q < length P → (T q → ⊥) → i < row_bytes
      → get_or model (row_bytes * q + i) 0 ≡ get_or before (row_bytes * q + i) 0
  pub shaped : Shaped (length P) model
  pub sound : (r a b : ℕ) (l : Label) → T r → RowsOf (length P) model r a b l → RowOf P (Whole P T before) r a b l
  pub ring_sound : (r : ℕ) → T r → RingByte model r → (x : ℕ) × Whole P T before r x x several
  pub fresh : (r : ℕ) → T r → (due r → ⊥) → Fresh P model names r

-- the grid has the pairs worked out in the body of routine r from the rows in the buffer
pub record GridOf (P : Program) (model : List ℕ) (r : ℕ) (g : List (List ℕ)) : Type 0 where
  pub only : (a b : ℕ) (l : Label) → Pair g a b l → WorkedOut P model r a b l
  pub all : (a b : ℕ) (l : Label) → WorkedOut P model r a b l → Pair g a b l

-- after is before with the row of routine r worked out again from the rows, and name is its ring name; the flags tell
-- whether its cells and its last byte changed
pub record Improved (P : Program) (rows before after : List ℕ) (r : ℕ) (cells last : Bool) (name : Option ℕ) : Type 0 where
  pub grid : List (List ℕ)
  pub pairs : GridOf P rows r grid
  pub added : RowAdded before after r (params P r) grid cells last name
  pub named : Named P rows r name
