-- `row_labels` meets its contract: the loop's turn i makes row i the labels of row i of the grid.
use Rattle.grid.specs.Planes.{RowLabels}
use Rattle.grid.proofs.Loops.{Passed, RowIs}
use Rattle.grid.proofs.planes.row_labels.Given as goal

abbrev pub invariant-loop-i : goal.invariant-loop-i
invariant-loop-i l = Passed 0 16 (RowIs (RowLabels l.g)) l.initial.next l.next l.i
