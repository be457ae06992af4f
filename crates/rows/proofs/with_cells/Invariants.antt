-- `with_cells` meets its contract: the cells passed have the pairs to the names passed.
use Rattle.rows.specs.Added.{InRow, Added}
use Rattle.rows.proofs.with_cells.Given as goal

abbrev pub invariant-loop-b : goal.invariant-loop-b
invariant-loop-b l = Added (InRow l.start l.a l.row l.b) l.initial.model l.model l.changed
