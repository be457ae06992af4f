-- `close_rows` meets its contract: before pivot k the rows relate what walks through names below k join.
use Prim.Native.Nat.{◌≤◌}
use Rattle.grid.specs.Rows.{Edge, Same}
use Rattle.grid.proofs.Pivots.{Via}
use Rattle.grid.proofs.rows.close_rows.Given as goal

abbrev pub invariant-loop-k : goal.invariant-loop-k
invariant-loop-k l = (l.k ≤ 16) × Same (Edge l.next) (Via (Edge l.initial.next) l.k)
