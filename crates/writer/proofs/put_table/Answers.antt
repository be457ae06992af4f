-- `put_table` meets its contract: the parts of the table one after the other.
use Rattle.std.proofs.Common.{arith, rules}
use Rattle.writer.proofs.TableLaws.{can_count}
use Rattle.writer.proofs.WriteLaws.{few_bytes, table_written}
use Rattle.writer.proofs.put_table.Goals as goal

pub put_counts-requires : goal.put_counts-requires
put_counts-requires c = rw c.met-routines.ensures (can_count c.requires.0 (omega (arith, c.put_byte.ensures.appends.place)))

pub overflow_cast-o : goal.overflow_cast-o
overflow_cast-o c = let h = few_bytes c.requires.0 in search rules

pub returns : goal.returns
returns c =
    table_written c.requires.0 (rw c.met-routines.ensures at c.put_byte.ensures) (rw c.met-routines.ensures at c.put_counts.ensures)
    (rw c.to_le_bytes-count.ensures at c.put.ensures) c.put_bodies.ensures
