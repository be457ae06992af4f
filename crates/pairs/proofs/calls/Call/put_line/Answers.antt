-- `put_line` meets its contract: the loop has added what the cells below j give.
use Prim.Native.Nat.{◌+◌}
use native.Mathlib.Omega.{arith}
use lib.ListN.{length}
use Rattle.pairs.proofs.Gaining.{cell_byte, below_more, cell_skip, cell_next}
use Rattle.pairs.proofs.calls.Call.put_line.Goals as goal
use Rattle.pairs.proofs.calls.Call.put_line.Goals.{then-cell-ne0, else-cell-ne0}

pub loop-j-preserved : goal.loop-j-preserved
loop-j-preserved c = let a = c.args in
    let l = c.loop-j in
    let e = cell_byte a.self.now.rows.now a.first (length a.self.now.names.now + 1) l.j
    (let p = c.requires.0.params in let q = c.requires.0.long in omega arith) c.loop-j-test.true in
    elim c.if-cell-ne0.branch [
      | then-cell-ne0 q ↦
          rw q.g-is (record {
            gains = below_more _ l.j l.invariant.gains
                (cell_next a.self.now.rows.now a.first _ _ _ _ l.j _ _ q.renamed-b.ensures.name
                (rw e at q.placed.ensures) q.put_cell.ensures.gains);
            square = q.put_cell.ensures.square;
          })
      | else-cell-ne0 q ↦
          rw q.g-is (record {
            gains = below_more _ l.j l.invariant.gains
                (cell_skip a.self.now.rows.now a.first _ a.self.now.here.thread _ _ l.j l.g l.invariant.gains.small
                (rw e at q.if-cell-ne0.false));
            square = l.invariant.square;
          })
    ]
