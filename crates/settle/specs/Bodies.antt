-- Where the bodies stand in the section, what a survey of them gives, and what the functions of `lib.rt` are given and
-- leave.
use Rattle.std.specs.Prelude.{◌≡◌, Bool, List, [], ◌∷◌, ℕ, zero, suc, ◌+◌, ◌*◌, ◌^◌, ◌≤◌, ◌<◌, length, get_or, take, Option}
use Rattle.table.specs.Constants.{END, row_bytes}
use Rattle.table.specs.Program.{Program, body}
use Rattle.table.specs.Encoding.{encode}
use Rattle.table.specs.Laws.Sections.{Holds}
use Rattle.rules.specs.Verdict.{Calls}
use Rattle.grid.specs.Rows.{Has}
use Rattle.rows.specs.Model.{ShapedRow}
use Rattle.settle.specs.Due.{Below}
use Rattle.settle.specs.Settle.{GridOf, Improved, PartlyWith}

-- the offset at which the body of routine r starts
abbrev pub start_of : Program → ℕ → ℕ
start_of [] r = 0
start_of (q ∷ P) zero = 0
start_of (q ∷ P) (suc r) = length (encode END q.code) + start_of P r

-- the body of routine r of P starts at the offset
pub record BodyOf (P : Program) (ks s : List ℕ) (at r : ℕ) : Type 0 where
  pub holds : Holds P ks s
  pub listed : r < length P
  pub starts : at ≡ start_of P r

-- the body of routine r starts at the offset, and the buffer has all rows
pub record BodyReady (ks s : List ℕ) (at r : ℕ) (rows : List ℕ) : Type 0 where
  pub program : Program
  pub body_of : BodyOf program ks s at r
  pub long : row_bytes * length program ≤ length rows

-- the grid has what is worked out in the body of routine r, which is at the offset
abbrev pub Works : List ℕ → List ℕ → ℕ → ℕ → List ℕ → List (List ℕ) → Type 0
Works ks s at r rows g = (P : Program) → BodyOf P ks s at r → GridOf P rows r g

-- the body of routine r starts at the offset, the rows are there to work it out from, and its own row in the model is
-- there and has labels alone
pub record RowReady (ks s : List ℕ) (at r : ℕ) (rows model : List ℕ) : Type 0 where
  pub program : Program
  pub body_of : BodyOf program ks s at r
  pub rows_long : row_bytes * length program ≤ length rows
  pub long : row_bytes * length program ≤ length model
  pub shaped : ShapedRow model r

-- the row of routine r was worked out again from the rows, and name is its ring name
abbrev pub Improves : List ℕ → List ℕ → ℕ → ℕ → List ℕ → List ℕ → List ℕ → Bool → Bool → Option ℕ → Type 0
Improves ks s at r rows before after cells last name =
    (P : Program) → BodyOf P ks s at r → Improved P rows before after r cells last name

-- where the bodies start, and what each calls, as bits
pub record Surveyed (P : Program) (starts calls : List ℕ) : Type 0 where
  pub start : (r : ℕ) → r < length P → get_or starts r 0 ≡ start_of P r
  pub calls_to : (r q : ℕ) → r < length P → Has (get_or calls r 0) q → Calls (body P r) q
  pub calls_from : (r q : ℕ) → r < length P → Calls (body P r) q → Has (get_or calls r 0) q
  pub starts_long : length starts ≡ length P
  pub calls_long : length calls ≡ length P

-- the two arrays of a survey, cut to the routines, tell of the bodies
pub record Surveys (ks s starts calls : List ℕ) : Type 0 where
  pub starts_long : length starts ≡ 64
  pub calls_long : length calls ≡ 64
  pub told : (P : Program) → Holds P ks s → Surveyed P (take (length ks) starts) (take (length ks) calls)

-- P is held and surveyed
pub record Known (P : Program) (ks s starts calls : List ℕ) : Type 0 where
  pub holds : Holds P ks s
  pub surveyed : Surveyed P starts calls

-- P is held, the offsets are where its bodies start, and the masks have the callers of each routine
pub record Linked (P : Program) (ks s starts callers : List ℕ) : Type 0 where
  pub holds : Holds P ks s
  pub start : (r : ℕ) → r < length P → get_or starts r 0 ≡ start_of P r
  pub starts_long : length starts ≡ length P
  pub callers_of : (r q : ℕ) → q < length P → Calls (body P q) r → Has (get_or callers r 0) q
  pub callers_only : (r q : ℕ) → Has (get_or callers r 0) q → (q < length P) × Calls (body P q) r
  pub callers_below : Below callers (length P)

-- a mask of routines of the program to which each caller of one of it belongs
pub record Rising (P : Program) (callers : List ℕ) (mask : ℕ) : Type 0 where
  pub below : mask < 2 ^ length P
  pub closed : (r q : ℕ) → Has mask r → Has (get_or callers r 0) q → Has mask q

-- the rows of the mask are on their way, and all of them are due
pub record Started (ks s starts callers : List ℕ) (mask : ℕ) (model : List ℕ) : Type 0 where
  pub program : Program
  pub linked : Linked program ks s starts callers
  pub rising : Rising program callers mask
  pub long : row_bytes * length program ≤ length model
  pub before : List ℕ
  pub partly : PartlyWith program (Has mask) before model [] (Has mask)

-- where the rows of the mask were due, none is, and the ring names are those of the list
abbrev pub Settles : List ℕ → List ℕ → List ℕ → List ℕ → ℕ → List ℕ → List ℕ → List (Option ℕ) → Type 0
Settles ks s starts callers mask from to names =
    (P : Program) (before : List ℕ) → Linked P ks s starts callers
    → PartlyWith P (Has mask) before from [] (Has mask) → PartlyWith P (Has mask) before to names (λ r. ⊥)
