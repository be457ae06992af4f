-- What the writer of the dearest chain leaves: its table, or nothing.
use Rattle.std.specs.Prelude.{◌≡◌, ◌⊎◌, List, ℕ, ◌≤◌, ◌<◌}
use Rattle.table.specs.Constants.{most_routines}
use Rattle.append.specs.Appends.{Appends}
use Rattle.rounds.specs.Chain.{chain_table}

-- for n from 1 to 64 the table of the chain, as far as there is room, and its size; for another n nothing, and 0
pub record Written (n : ℕ) (before after : List ℕ) (size : ℕ) : Type 0 where
  pub chain : 1 ≤ n → n ≤ most_routines → Appends 0 (chain_table n) before after size
  pub none : (n ≡ 0) ⊎ (most_routines < n) → (after ≡ before) × (size ≡ 0)
