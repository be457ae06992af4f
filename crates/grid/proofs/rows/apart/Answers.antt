-- `apart` meets its contract: the loop's turn i makes row i that of r less its bit i.
use mathlib.Core.Path.{sym}
use native.Mathlib.Omega.{arith}
use Rattle.grid.proofs.Laws.Masks.{bits_self, bits_map, bits_without}
use Rattle.grid.proofs.Shapes.{edge_row}
use Rattle.grid.proofs.Loops.{passed_more, rows_all}
use Rattle.grid.proofs.rows.apart.Goals as goal

pub loop-i-preserved : goal.loop-i-preserved
loop-i-preserved c = let l = c.loop-i in
    passed_more 0 16 _ _ l.next l.i _ l.invariant (omega arith)
    (bits_map (λ j h. (λ e. h.1 (sym e), h.0)) (λ j h. (h.1, λ e. h.0 (sym e)))
    (bits_without (omega arith) (omega arith) (bits_self _) c.one.ensures))

pub returns : goal.returns
returns c = rows_all _ _ _ _ c.loop-i.invariant (omega arith)
    (λ i j p. edge_row c.args.r.now 16 i j (omega arith) p.1)
