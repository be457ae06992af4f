-- `row_labels` meets its contract: the loop's turn i makes row i the labels of row i of the grid.
use native.Mathlib.Omega.{arith}
use Rattle.grid.proofs.Shapes.{zero_row, cell_row}
use Rattle.grid.proofs.Loops.{passed_more, passed_skip, rows_all}
use Rattle.grid.proofs.planes.row_labels.Goals as goal
use Rattle.grid.proofs.planes.row_labels.Goals.{then-m-ne0, else-m-ne0}

pub loop-i-preserved : goal.loop-i-preserved
loop-i-preserved c = let l = c.loop-i in
    elim c.if-m-ne0.branch [
      | then-m-ne0 w ↦ rw w.next-is (passed_more 0 16 _ _ l.next l.i _ l.invariant (omega arith) c.any-m.ensures)
      | else-m-ne0 w ↦
          rw w.next-is
          (passed_skip 0 16 _ _ l.next l.i l.invariant (omega arith)
          (rw (zero_row 16 l.i) (rw w.if-m-ne0.false at c.any-m.ensures)))
    ]

pub returns : goal.returns
returns c = rows_all _ _ _ _ c.loop-i.invariant (omega arith)
    (λ a l p. cell_row c.args.g.now 16 a p.0 l c.requires.rows p.1)
