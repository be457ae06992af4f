-- What the two walks over a body give.
use Rattle.std.specs.Prelude.{◌≡◌, List, ◌++◌, ℕ, ◌+◌, ◌<◌, length, drop}
use Rattle.table.specs.Constants.{END}
use Rattle.table.specs.Program.{Code}
use Rattle.table.specs.Encoding.{encode}
use Rattle.rules.specs.Verdict.{Calls}
use Rattle.rules.specs.Model.{at_head}
use Rattle.rules.specs.Derived.{RecordedFrom}
use Rattle.grid.specs.Rows.{Has}
use Rattle.table.specs.Laws.Fine.{Fine}
use Rattle.pairs.specs.Gains.{Gains}
use Rattle.rows.specs.Bytes.{RowBits}

-- the body at the offset ends before `next`, and `calls` has the bits of the routines that its calls name
pub record Scans (ks s : List ℕ) (at next calls : ℕ) : Type 0 where
  pub ends : (k : ℕ) (c : Code) (t : List ℕ) → Fine ks k c → drop at s ≡ encode END c ++ t
      → next ≡ at + length (encode END c)
  pub only : (k : ℕ) (c : Code) (t : List ℕ) → Fine ks k c → drop at s ≡ encode END c ++ t
      → (q : ℕ) → Has calls q → Calls c q
  pub all : (k : ℕ) (c : Code) (t : List ℕ) → Fine ks k c → drop at s ≡ encode END c ++ t
      → (q : ℕ) → Calls c q → Has calls q
  pub listed : (q : ℕ) → Has calls q → q < length ks

-- r is g with the kept ones of the pairs that the body at the offset, of a routine with k parameters, records, where
-- `rows` has the rows
abbrev pub Records : List ℕ → ℕ → List ℕ → ℕ → List ℕ → List (List ℕ) → List (List ℕ) → Type 0
Records ks k s at rows g r =
    (c : Code) (t : List ℕ) → Fine ks k c → drop at s ≡ encode END c ++ t
    → Gains g (RecordedFrom (RowBits rows) c at_head) r
