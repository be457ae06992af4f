-- `less` meets its contract: the loop's turn i makes row i that of r less the bits of s's.
use Rattle.grid.specs.Rows.{Edge, Less}
use Rattle.grid.proofs.Loops.{Passed, RowIs}
use Rattle.grid.proofs.rows.less.Given as goal

abbrev pub invariant-loop-i : goal.invariant-loop-i
invariant-loop-i l = Passed 0 16 (RowIs (Less (Edge l.r) (Edge l.s))) l.initial.next l.next l.i
