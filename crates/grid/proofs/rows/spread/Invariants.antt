-- `spread` meets its contract: the loop's turn i adds to row i the mask m times bit k of row i of s.
use Rattle.grid.specs.Rows.{Edge, Or, Spread}
use Rattle.grid.proofs.Loops.{Passed, RowIs}
use Rattle.grid.proofs.rows.spread.Given as goal

abbrev pub invariant-loop-i : goal.invariant-loop-i
invariant-loop-i l = Passed 0 16 (RowIs (Or (Edge l.initial.next) (Spread l.s l.k l.m))) l.initial.next l.next l.i
