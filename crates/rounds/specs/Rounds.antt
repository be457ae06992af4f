-- Rounds: in each, all rows are worked out from what the rows were before it; at first they are zero.
use Rattle.std.specs.Prelude.{◌≡◌, ◌↔◌, ℕ, zero, suc, ◌≤◌, ◌<◌, length}
use Rattle.table.specs.Program.{Program}
use Rattle.rules.specs.Label.{Label, several}
use Rattle.rules.specs.Derived.{Pairs, RowOf, Derived}
use Rattle.rounds.specs.Reaches.{ReachesBy}

-- the pairs that round i works out in the bodies, from the rows that it finds; none before the first round
abbrev pub PairsIn : Program → ℕ → Pairs
PairsIn P zero = λ r a b l. ⊥
PairsIn P (suc i) = Derived P (RowOf P (PairsIn P i))

-- the rows after i rounds: the labels of their cells
abbrev pub RowsAfter : Program → ℕ → Pairs
RowsAfter P i = RowOf P (PairsIn P i)

-- the last byte of the row of routine r is 1 after i rounds: the pairs worked out in its body have a ring
abbrev pub RingAfter : Program → ℕ → ℕ → Type 0
RingAfter P i r = (x : ℕ) × PairsIn P i r x x several

-- round i + 1 changes nothing: the cells and the last byte of each row are those of the round before
pub record Changeless (P : Program) (i : ℕ) : Type 0 where
  pub cells : (r a b : ℕ) (l : Label) → RowsAfter P (suc i) r a b l ↔ RowsAfter P i r a b l
  pub rings : (r : ℕ) → RingAfter P (suc i) r ↔ RingAfter P i r

-- there are m rounds: `before` of them, and then one that changes nothing, with which they end
pub record Rounds (P : Program) (m : ℕ) : Type 0 where
  pub before : ℕ
  pub number : m ≡ suc before
  pub changeless : Changeless P before
  pub first : (i : ℕ) → Changeless P i → before ≤ i

-- how often a row changes at most: three labels in 49 cells (two different names, the second not 0), and the last byte
abbrev pub most_changes : ℕ
most_changes = 148

-- no calls lead from a routine of the program back to it
abbrev pub Acyclic : Program → Type 0
Acyclic P = (r : ℕ) → r < length P → ReachesBy P r r → ⊥
