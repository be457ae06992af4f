-- What the inner functions are given, and what they give.
use Rattle.std.specs.Prelude.{◌≡◌, Bool, true, false, ◌||◌, cond, List, ℕ, suc, ◌+◌, ◌*◌, ◌/◌, ◌%◌, max, ◌≤◌, ◌<◌, eqb, ltb, Option}
use Rattle.std.specs.Prelude.{length, get_or, take, drop}
use Rattle.table.specs.Constants.{row_names, row_cells, row_bytes}
use Rattle.table.specs.Program.{Program}
use Rattle.table.specs.Encoding.{encode_bodies}
use Rattle.table.specs.Laws.Sections.{Holds}
use Rattle.grid.specs.Rows.{Has, Bits}
use Rattle.rows.specs.Model.{Shaped}
use Rattle.rounds.specs.Reaches.{Touched}
use Rattle.rounds.specs.OneBody.{OnlyBody}
use Rattle.settle.specs.Settle.{PartlyWith}
use Rattle.settle.specs.Bodies.{BodyOf, Known, Linked}
use Rattle.update.specs.Answer.{NoPair, Compared, Updated}

-- what a test answers of a fact
abbrev pub Answers : Bool → Type 0 → Type 0
Answers true Q = Q
Answers false Q = ¬ Q

-- v is a byte that the cell (a, b) of a row for k parameters may have
pub record CellFits (v a b k : ℕ) : Type 0 where
  pub small : v ≤ 7
  pub zero : NoPair k a b → v ≡ 0

-- how many parameters a routine must have for its row to have the pair (a, b); 8, more than any has, for never
abbrev pub needed_for : ℕ → ℕ → ℕ
needed_for a b = cond (eqb a b || eqb b 0) 8 (max a b)

-- the list has that of each cell of a row
abbrev pub Needed : List ℕ → Type 0
Needed t = (length t ≡ 64) × ((j : ℕ) → j < 64 → get_or t j 0 ≡ needed_for (j / 8) (j % 8))

-- the bits that a cell may not have in a row for k parameters, where its pair needs n: all, or those above the labels
abbrev pub outside_of : ℕ → ℕ → ℕ
outside_of n k = cond (ltb k n) 255 248

-- row r is one that a routine of k parameters may have
pub record RowFits (model : List ℕ) (r k : ℕ) : Type 0 where
  pub cells : (i : ℕ) → i < row_cells → CellFits (get_or model (row_bytes * r + i) 0) (i / row_names) (i % row_names) k
  pub last : get_or model (row_bytes * r + row_cells) 0 ≤ 1

-- each row is one that its routine may have
abbrev pub RowsFit : List ℕ → List ℕ → Type 0
RowsFit ks model = (r : ℕ) → r < length ks → RowFits model r (get_or ks r 0)

-- the rows of the mask were set to zero, and nothing else changed
pub record MaskCleared (mask : ℕ) (before after : List ℕ) : Type 0 where
  pub long : length after ≡ length before
  pub zero : (q i : ℕ) → Has mask q → i < row_bytes → get_or after (row_bytes * q + i) 0 ≡ 0
  pub same : (q i : ℕ) → ¬ Has mask q → i < row_bytes
      → get_or after (row_bytes * q + i) 0 ≡ get_or before (row_bytes * q + i) 0

-- the rows can be worked out anew: all are there, and each has labels alone
pub record CanRework (ks s starts callers : List ℕ) (r : ℕ) (model : List ℕ) : Type 0 where
  pub program : Program
  pub linked : Linked program ks s starts callers
  pub listed : r < length program
  pub long : row_bytes * length program ≤ length model
  pub shaped : Shaped (length program) model

-- a mask has routine r and those that reach it by calls: their rows are worked out, and the others are given
pub record Reworked (P : Program) (r : ℕ) (before after : List ℕ) : Type 0 where
  pub mask : ℕ
  pub names : List (Option ℕ)
  pub touched : Bits mask (Touched P r)
  pub partly : PartlyWith P (Has mask) before after names (λ q. ⊥)

abbrev pub Reworks : List ℕ → List ℕ → List ℕ → List ℕ → ℕ → List ℕ → List ℕ → Type 0
Reworks ks s starts callers r before after =
    (P : Program) → Linked P ks s starts callers → Shaped (length P) before → Reworked P r before after

-- the first section has the offset too, and both are the same before it
abbrev pub SameBefore : List ℕ → List ℕ → ℕ → Type 0
SameBefore s t at = (at ≤ length s) × (take at s ≡ take at t)

-- the body of one routine is at the offset in both sections
pub record CanPass (ks s t : List ℕ) (at : ℕ) : Type 0 where
  pub routine : ℕ
  pub old : Program
  pub old_body : BodyOf old ks s at routine
  pub new : Program
  pub new_body : BodyOf new ks t at routine

-- whether the bodies after those of routine r, which are at the offset, are the same bytes
abbrev pub SameAfter : List ℕ → List ℕ → List ℕ → ℕ → Bool → Type 0
SameAfter ks s t at c =
    (P Q : Program) (r : ℕ) → BodyOf P ks s at r → BodyOf Q ks t at r
    → Answers c (encode_bodies (drop (suc r) P) ≡ encode_bodies (drop (suc r) Q))

-- the sections hold programs with the same parameter counts, and the offset is that of a routine in the second
pub record CanCompare (ks s t : List ℕ) (at : ℕ) : Type 0 where
  pub routine : ℕ
  pub old : Program
  pub old_held : Holds old ks s
  pub new : Program
  pub new_body : BodyOf new ks t at routine

-- whether they differ in that body at most
abbrev pub Compares : List ℕ → List ℕ → List ℕ → ℕ → Bool → Type 0
Compares ks s t at c = (P Q : Program) (r : ℕ) → Holds P ks s → BodyOf Q ks t at r → Answers c (OnlyBody P Q r)

-- two programs with the same parameter counts, the second surveyed, and the rows fit the buffer
pub record CanBringKnown (ks s t starts calls : List ℕ) (r : ℕ) (model : List ℕ) : Type 0 where
  pub old : Program
  pub old_held : Holds old ks s
  pub new : Program
  pub new_known : Known new ks t starts calls
  pub listed : r < length ks
  pub long : row_bytes * length ks ≤ length model

-- the answer for them
abbrev pub BringsKnown :
    List ℕ → List ℕ → List ℕ → List ℕ → List ℕ → ℕ → List ℕ → List ℕ → Updated → Type 0
BringsKnown ks s t starts calls r before after answer =
    (P Q : Program) → Holds P ks s → Known Q ks t starts calls → Compared P Q r before after answer

-- two programs with the same parameter counts, a routine of theirs, and the rows fit the buffer
pub record CanBring (ks s t : List ℕ) (r : ℕ) (model : List ℕ) : Type 0 where
  pub old : Program
  pub old_held : Holds old ks s
  pub new : Program
  pub new_held : Holds new ks t
  pub listed : r < length ks
  pub long : row_bytes * length ks ≤ length model

-- the answer for them
abbrev pub Brings : List ℕ → List ℕ → List ℕ → ℕ → List ℕ → List ℕ → Updated → Type 0
Brings ks s t r before after answer = (P Q : Program) → Holds P ks s → Holds Q ks t → Compared P Q r before after answer
