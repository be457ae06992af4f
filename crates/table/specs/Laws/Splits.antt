-- What taking a table apart gives.
use Rattle.std.specs.Prelude.{◌≡◌, List, ℕ, ◌+◌, length, get_or, take, drop, Result, Ok, Err}
use Rattle.table.specs.Program.{Program}
use Rattle.table.specs.Check.{refused, accepted, check_table}
use Rattle.table.specs.Refusal.{refusal_of}
use Rattle.table.specs.Laws.Sections.{Holds}
use Rattle.table.specs.declared.refusal.Refusal.{Refusal}
use Rattle.table.specs.declared.sections.Sections.{Sections}

-- the two sections of a table that holds P
pub record SectionsOf (P : Program) (table ks s : List ℕ) : Type 0 where
  pub accepts : check_table table ≡ accepted P
  pub first : get_or table 0 0 ≡ length P
  pub counts_are : ks ≡ take (length P) (drop 1 table)
  pub bodies_are : s ≡ drop (length P + 3) table
  pub holds : Holds P ks s

-- the sections of a table that is accepted, or its refusal
abbrev pub Splits : List ℕ → Result Sections Refusal → Type 0
Splits table (Ok t) = (P : Program) × SectionsOf P table t.counts.now t.bodies.now
Splits table (Err r) = (e : ℕ) × (check_table table ≡ refused e) × (r ≡ refusal_of e)
