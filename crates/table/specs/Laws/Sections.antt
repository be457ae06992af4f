-- The sections of a table that hold a program; those of an accepted table do, as code takes them.
use Rattle.std.specs.Prelude.{◌≡◌, List, ℕ, ◌+◌, ◌-◌, ◌≤◌, length, get_or, take, drop}
use Rattle.table.specs.Program.{Program}
use Rattle.table.specs.Encoding.{encode_bodies, counts, WithinLimits}
use Rattle.table.specs.Check.{accepted, check_table}

-- the parameter counts and the section of a table that holds P
pub record Holds (P : Program) (ks s : List ℕ) : Type 0 where
  pub params_are : ks ≡ counts P
  pub bytes_are : s ≡ encode_bodies P
  pub limits : WithinLimits P

-- some program is held
abbrev pub Held : List ℕ → List ℕ → Type 0
Held ks s = (P : Program) × Holds P ks s

-- what is known of a table that the check accepts with n routines
pub record AcceptedAs (table : List ℕ) (n : ℕ) : Type 0 where
  pub program : Program
  pub accepts : check_table table ≡ accepted program
  pub size : n ≡ length program
  pub few : n ≤ 64
  pub there : n + 3 ≤ length table
  pub first : get_or table 0 0 ≡ n
  pub holds : Holds program (take (n + 1 - 1) (drop 1 table)) (take (length table - (n + 3)) (drop (n + 3) table))
