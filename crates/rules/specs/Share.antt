-- The share: how many of the routines that calls reach are without a ring, in percent.
use Rattle.std.specs.Prelude.{◌≡◌, List, ℕ, ◌+◌, ◌*◌, ◌<◌, length}
use Rattle.table.specs.Program.{Program}
use Rattle.table.specs.WellFormed.{In, NoDup}
use Rattle.rules.specs.Model.{Ring}
use Rattle.rules.specs.Verdict.{Reached}

-- there are n numbers with the property Q: a list in which no two entries are equal has those and no others
pub record Count (Q : ℕ → Type 0) (n : ℕ) : Type 0 where
  pub list : List ℕ
  pub once : NoDup list
  pub only : (r : ℕ) → In r list → Q r
  pub all : (r : ℕ) → Q r → In r list
  pub size : length list ≡ n

-- routine r is reached, and has no ring: the last byte of its row is 0
abbrev pub ReachedRingless : Program → ℕ → Type 0
ReachedRingless P r = Reached P r × ((x : ℕ) → ¬ Ring P r x)

-- the share of P: c of its m reached routines have no ring, and 100 × c is q × m and a remainder that is less than m
pub record ShareOf (P : Program) (q remainder m : ℕ) : Type 0 where
  pub c : ℕ
  pub reached : Count (Reached P) m
  pub ringless : Count (ReachedRingless P) c
  pub sum : 100 * c ≡ q * m + remainder
  pub below : remainder < m
