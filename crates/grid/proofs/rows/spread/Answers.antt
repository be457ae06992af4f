-- `spread` meets its contract: the loop's turn i adds to row i the mask m times bit k of row i of s.
use native.Mathlib.Omega.{arith}
use lib.ListN.{get_or}
use Rattle.grid.proofs.Laws.Masks.{bits_self, bits_or, bits_times}
use Rattle.grid.proofs.Loops.{passed_more}
use Rattle.grid.proofs.rows.spread.Goals as goal

pub loop-i-preserved : goal.loop-i-preserved
loop-i-preserved c = let a = c.args in
    let l = c.loop-i in
    passed_more 0 16 _ a.r l.next l.i _ l.invariant (omega arith)
    (rw (l.invariant.rest l.i (omega arith)) (bits_or (bits_self _) (bits_times (get_or a.s l.i 0) a.k a.m)))
