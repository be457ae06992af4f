-- `ring_name` meets its contract: no name passed has a ring.
use Prim.Native.Nat.{ℕ, ◌<◌}
use Rattle.rules.specs.Label.{several}
use Rattle.rules.specs.Number.{number}
use Rattle.grid.specs.Rows.{Has}
use Rattle.grid.specs.Grid.{cell}
use Rattle.grid.proofs.ring_name.Given as goal

abbrev pub invariant-loop-x : goal.invariant-loop-x
invariant-loop-x l = (y : ℕ) → y < l.x → Has (cell l.g y y) (number several) → ⊥
