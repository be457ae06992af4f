-- `less` meets its contract: the loop's turn i makes row i that of r less the bits of s's.
use native.Mathlib.Omega.{arith}
use Rattle.grid.proofs.Laws.Masks.{bits_self, bits_without}
use Rattle.grid.proofs.Shapes.{edge_row}
use Rattle.grid.proofs.Loops.{passed_more, rows_all}
use Rattle.grid.proofs.rows.less.Goals as goal

pub loop-i-preserved : goal.loop-i-preserved
loop-i-preserved c = let l = c.loop-i in
    passed_more 0 16 _ _ l.next l.i _ l.invariant (omega arith)
    (bits_without (omega arith) (omega arith) (bits_self _) (bits_self _))

pub returns : goal.returns
returns c = rows_all _ _ _ _ c.loop-i.invariant (omega arith)
    (λ i j p. edge_row c.args.r.now 16 i j (omega arith) p.0)
