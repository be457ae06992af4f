-- One round over the buffer: rows that are those after j rounds, what the round leaves, and what is passed on to the
-- next.
use Rattle.std.specs.Prelude.{◌≡◌, ◌≢◌, Bool, true, false, List, ℕ, suc, ◌+◌, ◌*◌, ◌^◌, ◌≤◌, ◌<◌, length, get_or, Option, None}
use Rattle.table.specs.Constants.{most_routines, row_cells, row_bytes}
use Rattle.table.specs.Program.{Program}
use Rattle.table.specs.Laws.Sections.{Holds}
use Rattle.rules.specs.Label.{Label, several}
use Rattle.grid.specs.Rows.{Has}
use Rattle.rows.specs.Bytes.{RowBits, RingByte}
use Rattle.rows.specs.Model.{ShapedRow}
use Rattle.rounds.specs.Rounds.{PairsIn, RowsAfter, RingAfter, Changeless, Rounds}
use Rattle.rounds.specs.Laws.Steps.{Steady, SameRow}
use Rattle.settle.specs.Due.{Below}
use Rattle.settle.specs.Settle.{LowestOf, AllFresh}
use Rattle.settle.specs.Bodies.{Linked, start_of}

-- the cells of the row of routine q in the buffer are those after j rounds
pub record CellsAre (P : Program) (j : ℕ) (rows : List ℕ) (q : ℕ) : Type 0 where
  pub to : (a b : ℕ) (l : Label) → RowBits rows q a b l → RowsAfter P j q a b l
  pub from : (a b : ℕ) (l : Label) → RowsAfter P j q a b l → RowBits rows q a b l

-- the row of routine q in the buffer is the one after j rounds
pub record RowIs (P : Program) (j : ℕ) (model : List ℕ) (q : ℕ) : Type 0 where
  pub cells : CellsAre P j model q
  pub ring_to : RingByte model q → RingAfter P j q
  pub ring_from : RingAfter P j q → RingByte model q
  pub shaped : ShapedRow model q

-- the lowest name with a ring that round j works out for routine q, if there is one
abbrev pub NamedIn : Program → ℕ → ℕ → Option ℕ → Type 0
NamedIn P j q = LowestOf (λ x. PairsIn P j q x x several)

-- the row and the ring name of routine q are those after j rounds
pub record At (P : Program) (j : ℕ) (model : List ℕ) (names : List (Option ℕ)) (q : ℕ) : Type 0 where
  pub row : RowIs P j model q
  pub name : NamedIn P j q (get_or names q None)

-- round i + 1 leaves the cells of routine q as they were
abbrev pub SameCells : Program → ℕ → ℕ → Type 0
SameCells P i q = (a b : ℕ) (l : Label) → RowsAfter P (suc i) q a b l → RowsAfter P i q a b l

-- P is held, and the offsets are where its bodies start
pub record Placed (P : Program) (ks s starts : List ℕ) : Type 0 where
  pub holds : Holds P ks s
  pub start : (r : ℕ) → r < length P → get_or starts r 0 ≡ start_of P r
  pub starts_long : length starts ≡ length P

-- i rounds are done, and the next has nothing new for a routine that is not due
pub record RoundStart (P : Program) (i : ℕ) (old model : List ℕ) (names : List (Option ℕ)) (due : ℕ) : Type 0 where
  pub old_cells : (q : ℕ) → q < length P → CellsAre P i old q
  pub rows : (q : ℕ) → q < length P → At P i model names q
  pub steady : (q : ℕ) → q < length P → (Has due q → ⊥) → Steady P i q
  pub below : due < 2 ^ length P

-- round i + 1 is done too: the flag tells whether it changed anything, and the mask has each routine with a cell that
-- it changed
pub record RoundEnd (P : Program) (i : ℕ) (old model : List ℕ) (names : List (Option ℕ)) (changed : Bool) (moved : ℕ)
    : Type 0 where
  pub old_cells : (q : ℕ) → q < length P → CellsAre P i old q
  pub rows : (q : ℕ) → q < length P → At P (suc i) model names q
  pub same : changed ≡ false → (q : ℕ) → q < length P → SameRow P i q
  pub other : changed ≡ true → Changeless P i → ⊥
  pub still : (q : ℕ) → q < length P → (Has moved q → ⊥) → SameCells P i q
  pub below : moved < 2 ^ length P

-- a round can begin
pub record RoundReady (ks s starts : List ℕ) (due : ℕ) (old model : List ℕ) (names : List (Option ℕ)) : Type 0 where
  pub program : Program
  pub placed : Placed program ks s starts
  pub done : ℕ
  pub start : RoundStart program done old model names due
  pub old_long : row_bytes * length program ≤ length old
  pub long : row_bytes * length program ≤ length model
  pub names_long : length names ≡ most_routines

-- a round was done
pub record Rounded (ks s starts : List ℕ) (due : ℕ) (old before after : List ℕ) (names names' : List (Option ℕ))
    (changed : Bool) (moved : ℕ) : Type 0 where
  pub long : length after ≡ length before
  pub names_long : length names' ≡ most_routines
  pub rest : (i : ℕ) → row_bytes * length ks ≤ i → get_or after i 0 ≡ get_or before i 0
  pub told : (P : Program) (i : ℕ) → Placed P ks s starts → RoundStart P i old before names due
      → RoundEnd P i old after names' changed moved

-- the cells of row r, and no other cells, were copied from the model
pub record Copied (r : ℕ) (model before after : List ℕ) : Type 0 where
  pub long : length after ≡ length before
  pub inside : (j : ℕ) → j < row_cells → get_or after (row_bytes * r + j) 0 ≡ get_or model (row_bytes * r + j) 0
  pub outside : (q j : ℕ) → q ≢ r → j < row_cells
      → get_or after (row_bytes * q + j) 0 ≡ get_or before (row_bytes * q + j) 0

-- the cells of the mask can be passed on: their rows are there, and no mask has a routine beyond those
pub record CanPass (callers : List ℕ) (moved : ℕ) (model old : List ℕ) : Type 0 where
  pub routines : ℕ
  pub few : routines ≤ most_routines
  pub callers_below : Below callers routines
  pub below : moved < 2 ^ routines
  pub long : row_bytes * routines ≤ length model
  pub old_long : row_bytes * routines ≤ length old

-- the cells of the mask were copied, and its callers, and no others, are due
pub record PassedOn (callers : List ℕ) (moved : ℕ) (model before after : List ℕ) (due : ℕ) : Type 0 where
  pub long : length after ≡ length before
  pub copied : (q j : ℕ) → Has moved q → j < row_cells
      → get_or after (row_bytes * q + j) 0 ≡ get_or model (row_bytes * q + j) 0
  pub kept : (q j : ℕ) → (Has moved q → ⊥) → j < row_cells
      → get_or after (row_bytes * q + j) 0 ≡ get_or before (row_bytes * q + j) 0
  pub callers_due : (q p : ℕ) → Has moved q → Has (get_or callers q 0) p → Has due p
  pub only_callers : (p : ℕ) → Has due p → (q : ℕ) × Has moved q × Has (get_or callers q 0) p
  pub below : (n : ℕ) → Below callers n → due < 2 ^ n

-- all rows and ring names are those before the first round
pub record AllZero (ks s starts callers old model : List ℕ) (names : List (Option ℕ)) : Type 0 where
  pub program : Program
  pub linked : Linked program ks s starts callers
  pub old_long : row_bytes * length program ≤ length old
  pub long : row_bytes * length program ≤ length model
  pub names_long : length names ≡ most_routines
  pub old_zero : (i : ℕ) → get_or old i 0 ≡ 0
  pub zero : (i : ℕ) → i < row_bytes * length program → get_or model i 0 ≡ 0
  pub no_name : (q : ℕ) → q < most_routines → get_or names q None ≡ None

-- the rows can be worked out, and no ring name is known
pub record CanBegin (ks s starts callers model : List ℕ) (names : List (Option ℕ)) : Type 0 where
  pub program : Program
  pub linked : Linked program ks s starts callers
  pub long : row_bytes * length program ≤ length model
  pub names_long : length names ≡ most_routines
  pub no_name : (q : ℕ) → q < most_routines → get_or names q None ≡ None

-- the rounds were done: the rows are the model's, the list has the ring names, and m is the number of rounds
abbrev pub RoundsDone : List ℕ → List ℕ → List ℕ → List ℕ → List ℕ → List ℕ → List (Option ℕ) → ℕ → Type 0
RoundsDone ks s starts callers before after names m =
    (P : Program) → Linked P ks s starts callers → row_bytes * length P ≤ length before
    → AllFresh P before after names × Rounds P m
