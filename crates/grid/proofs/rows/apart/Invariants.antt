-- `apart` meets its contract: the loop's turn i makes row i that of r less its bit i.
use Rattle.grid.specs.Rows.{Edge, Apart}
use Rattle.grid.proofs.Loops.{Passed, RowIs}
use Rattle.grid.proofs.rows.apart.Given as goal

abbrev pub invariant-loop-i : goal.invariant-loop-i
invariant-loop-i l = Passed 0 16 (RowIs (Apart (Edge l.r))) l.initial.next l.next l.i
