-- What bringing a model up to date answers, and what it leaves in the lent buffer, where one routine is replaced.
use Rattle.std.specs.Prelude.{◌≡◌, ◌⊎◌, List, ℕ, ◌+◌, ◌*◌, ◌≤◌, ◌<◌, length, get_or, Result, Ok, Err}
use Rattle.table.specs.Constants.{row_names, row_bytes}
use Rattle.table.specs.Program.{Program, params}
use Rattle.table.specs.Check.{refused, accepted, check_table}
use Rattle.table.specs.Refusal.{refusal_number, refusal_of}
use Rattle.table.specs.declared.refusal.Refusal.{Refusal}
use Rattle.rules.specs.Label.{several}
use Rattle.rules.specs.Derived.{Pairs, RowOf}
use Rattle.rows.specs.Bytes.{cell_byte, last_byte, RowsOf}
use Rattle.rounds.specs.Reaches.{Touched}
use Rattle.rounds.specs.Given.{ModelWith}
use Rattle.rounds.specs.OneBody.{OnlyBody}
use Rattle.analysis.specs.Answer.{short_buffer, Flag, CellOf}

-- what bringing a model up to date answers: done, or the refusal
abbrev pub Updated : Type 0
Updated = Result (Unit {0}) Refusal

-- the refusal of tables that differ elsewhere than in the routine's body, or do not have the routine
abbrev pub other_table : ℕ
other_table = 18

-- the refusal of a model that is not well formed
abbrev pub bad_model : ℕ
bad_model = 19

-- no row of a routine with k parameters has the pair (a, b): its ends are equal, its second is 0, or one exceeds k
abbrev pub NoPair : ℕ → ℕ → ℕ → Type 0
NoPair k a b = (a ≡ b) ⊎ (b ≡ 0) ⊎ (k < a) ⊎ (k < b)

-- the rows in the buffer are those of a well-formed model for P
pub record Formed (P : Program) (model : List ℕ) : Type 0 where
  pub small : (r a b : ℕ) → r < length P → a < row_names → b < row_names → cell_byte model r a b ≤ 7
  pub zero : (r a b : ℕ) → r < length P → a < row_names → b < row_names → NoPair (params P r) a b
      → cell_byte model r a b ≡ 0
  pub last : (r : ℕ) → r < length P → last_byte model r ≤ 1

-- the least pairs for P with the rows of the buffer taken as given, but for those of routine r and of the routines that
-- reach it by calls
abbrev pub ModelFrom : Program → ℕ → List ℕ → Pairs
ModelFrom P r before = ModelWith P (Touched P r) (RowsOf (length P) before)

-- the rows of routine r and of the routines that reach it by calls are those of the least pairs, and all else is as it
-- was
pub record UpToDateFrom (P : Program) (r : ℕ) (before after : List ℕ) : Type 0 where
  pub same_length : length after ≡ length before
  pub cells : (q a b : ℕ) → q < length P → Touched P r q → a < row_names → b < row_names
      → CellOf (RowOf P (ModelFrom P r before) q a b) (cell_byte after q a b)
  pub last : (q : ℕ) → q < length P → Touched P r q
      → Flag (last_byte after q) ((x : ℕ) × ModelFrom P r before q x x several)
  pub others : (q i : ℕ) → q < length P → ¬ Touched P r q → i < row_bytes
      → get_or after (row_bytes * q + i) 0 ≡ get_or before (row_bytes * q + i) 0
  pub rest : (i : ℕ) → row_bytes * length P ≤ i → get_or after i 0 ≡ get_or before i 0

-- the launcher's number of an answer: 0 for done, or the refusal's
abbrev pub update_number : Updated → ℕ
update_number (Ok done) = 0
update_number (Err r) = refusal_number r

-- the refusal with that number alone, and the buffer as it was
abbrev pub RefusedBy : ℕ → List ℕ → List ℕ → Updated → Type 0
RefusedBy e before after answer = (answer ≡ Err (refusal_of e)) × (update_number answer ≡ e) × (after ≡ before)

-- the answer where the tables hold P and Q and the rows of P fit the buffer
pub record Compared (P Q : Program) (r : ℕ) (before after : List ℕ) (answer : Updated) : Type 0 where
  pub refused_other : ¬ OnlyBody P Q r → RefusedBy other_table before after answer
  pub refused_model : OnlyBody P Q r → ¬ Formed P before → RefusedBy bad_model before after answer
  pub done : OnlyBody P Q r → Formed P before → (answer ≡ Ok tt) × UpToDateFrom Q r before after

-- the answer to an old table, a new one, a routine and a model, with the buffer before and after
pub record Replaced (old new : List ℕ) (r : ℕ) (before after : List ℕ) (answer : Updated) : Type 0 where
  pub refused_old : (e : ℕ) → check_table old ≡ refused e → RefusedBy e before after answer
  pub refused_new : (P : Program) (e : ℕ) → check_table old ≡ accepted P → check_table new ≡ refused e
      → RefusedBy e before after answer
  pub refused_buffer : (P Q : Program) → check_table old ≡ accepted P → check_table new ≡ accepted Q
      → length before < row_bytes * length P → RefusedBy short_buffer before after answer
  pub compared : (P Q : Program) → check_table old ≡ accepted P → check_table new ≡ accepted Q
      → row_bytes * length P ≤ length before → Compared P Q r before after answer

-- a refusal is one of those from 1 to the last
abbrev pub Fits : Updated → Type 0
Fits (Ok done) = Unit {0}
Fits (Err r) = (1 ≤ refusal_number r) × (refusal_number r ≤ bad_model)

-- the launcher's number for two tables, a routine and a model is that of the answer
abbrev pub ReplacedAs : List ℕ → List ℕ → ℕ → List ℕ → List ℕ → ℕ → Type 0
ReplacedAs old new r before after n =
    (answer : Updated) × (n ≡ update_number answer) × Fits answer × Replaced old new r before after answer
