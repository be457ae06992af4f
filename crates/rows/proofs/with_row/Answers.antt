-- `with_row` meets its contract: what is added to the cells and then to the last byte is the row of the grid.
use Rattle.std.proofs.Common.{rules}
use Rattle.std.specs.Prelude.{◌≡◌}
use Rattle.rows.proofs.Rows.{row_added}
use Rattle.rows.proofs.with_row.Goals as goal

pub returns : goal.returns
returns c =
    let a = c.args in
    let same : c.map-name.result ≡ c.ring_name-ring.result = search rules in
    rw same
    (row_added a.model.now _ _ a.r a.k a.g c.with_pairs-cells.result c.with_ring-last.result c.ring_name-ring.result
    c.requires.0 (λ i. (c.type_inv.model i).fits) c.ring_name-ring.ensures c.requires.2 c.with_pairs-cells.ensures
    c.with_ring-last.ensures)
