-- `join` meets its contract: the loop's turn i adds row i of s to row i.
use native.Mathlib.Omega.{arith}
use Rattle.grid.proofs.Laws.Masks.{bits_self, bits_or}
use Rattle.grid.proofs.Loops.{passed_more}
use Rattle.grid.proofs.rows.join.Goals as goal

pub loop-i-preserved : goal.loop-i-preserved
loop-i-preserved c = let a = c.args in
    let l = c.loop-i in
    passed_more 0 16 _ a.r.now l.r l.i _ l.invariant (omega arith)
    (rw (l.invariant.rest l.i (omega arith)) (bits_or (bits_self _) (bits_self _)))
