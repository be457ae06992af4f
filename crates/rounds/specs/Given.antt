-- The least pairs where the rows of some routines are taken as given, and those of the others are worked out by the
-- rules: in rounds, each from the rows of the round before, beginning with none.
use Rattle.std.specs.Prelude.{◌⊎◌, ℕ, zero, suc}
use Rattle.table.specs.Program.{Program}
use Rattle.rules.specs.Derived.{Pairs, RowOf, Derived}

-- the rows of the pairs M for the routines of T, and the rows G for the others
abbrev pub RowsWith : Program → (ℕ → Type 0) → Pairs → Pairs → Pairs
RowsWith P T G M q a b l = (T q × RowOf P M q a b l) ⊎ ((T q → ⊥) × G q a b l)

-- the pairs worked out in round i, where the rows of routines not of T are those of G; none before the first round
abbrev pub PairsWith : Program → (ℕ → Type 0) → Pairs → ℕ → Pairs
PairsWith P T G zero = λ r a b l. ⊥
PairsWith P T G (suc i) = Derived P (RowsWith P T G (PairsWith P T G i))

-- the pairs that some round works out: the least that satisfy the rules with the given rows (laws/LeastGiven.antt)
abbrev pub ModelWith : Program → (ℕ → Type 0) → Pairs → Pairs
ModelWith P T G r a b l = (i : ℕ) × PairsWith P T G i r a b l
