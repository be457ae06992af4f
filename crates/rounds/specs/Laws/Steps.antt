-- Rounds one after the other: they only add, they add nothing that the model lacks, and after the last one the rows are
-- the model's.
use Rattle.std.specs.Prelude.{◌≡◌, refl, ◌↔◌, ℕ, zero, suc, ◌+◌, ◌-◌, ◌≤◌, ◌<◌, length}
use Rattle.std.proofs.Math.Decide.{dec_lt}
use Rattle.std.proofs.Common.{arith}
use Rattle.table.specs.Program.{Program}
use Rattle.rules.specs.Label.{Label, several, cut}
use Rattle.rules.specs.Model.{Model, Ring}
use Rattle.rules.proofs.Laws.Least.{row_mono}
use Rattle.rows.specs.Laws.Fixpoint.{UpToDate, sound_step, settled, Settled}
use Rattle.rounds.specs.Rounds.{PairsIn, RowsAfter, RingAfter, Changeless, Rounds}

-- the next round works out nothing more for routine r than round i
abbrev pub Steady : Program → ℕ → ℕ → Type 0
Steady P i r = (a b : ℕ) (l : Label) → PairsIn P (suc i) r a b l → PairsIn P i r a b l

-- the next round leaves the cells and the last byte of routine r as they were
pub record SameRow (P : Program) (i r : ℕ) : Type 0 where
  pub cells : (a b : ℕ) (l : Label) → RowsAfter P (suc i) r a b l → RowsAfter P i r a b l
  pub ring : RingAfter P (suc i) r → RingAfter P i r
