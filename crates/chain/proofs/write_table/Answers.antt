-- `write_table` meets its contract: the table is within its buffer.
use Rattle.std.proofs.Common.{rules, sym, length-take-le}
use Rattle.dearest.specs.Laws.Dearest.{written_short}
use Rattle.chain.proofs.write_table.Goals as goal

pub slice_bounds-table-end : goal.slice_bounds-table-end
slice_bounds-table-end g c =
    let l = written_short c.args.n c.write_chain-length.ensures in
    search (rules, l)

pub slice_bounds-write_all-end : goal.slice_bounds-write_all-end
slice_bounds-write_all-end g c =
    let l = written_short c.args.n c.write_chain-length.ensures in
    sym (length-take-le _ _ (search (rules, l)))
