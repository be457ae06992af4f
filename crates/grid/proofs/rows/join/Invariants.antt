-- `join` meets its contract: the loop's turn i adds row i of s to row i.
use Rattle.grid.specs.Rows.{Edge, Or}
use Rattle.grid.proofs.Loops.{Passed, RowIs}
use Rattle.grid.proofs.rows.join.Given as goal

abbrev pub invariant-loop-i : goal.invariant-loop-i
invariant-loop-i l = Passed 0 16 (RowIs (Or (Edge l.initial.r) (Edge l.s))) l.initial.r l.r l.i
