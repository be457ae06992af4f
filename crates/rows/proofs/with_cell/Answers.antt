-- `with_cell` meets its contract: equal names and the mask 0 add nothing, and else the byte of the cell is added.
use Rattle.rows.proofs.Adding.{cell_of_byte}
use Rattle.rows.proofs.with_cell.Goals as goal

pub returns : goal.returns
returns c = let a = c.args in
    cell_of_byte a.i a.a a.b a.m c.cell_byte.result _ _ _ c.if-a-b.false
    c.cell_byte.ensures c.with_byte.ensures
