-- `write_at` meets its contract: the length is known before a byte is written.
use Rattle.std.proofs.Common.{arith, rules}
use Rattle.writer.proofs.WriteLaws.{small, too_short, all_written}
use Rattle.writer.proofs.write_at.Goals as goal

pub overflow_add-total-2 : goal.overflow_add-total-2
overflow_add-total-2 c =
    let h = small (record { held = c.requires; ordered = c.discover.ensures }) in search rules

pub returns-then-out-total-clause-writes : goal.returns-then-out-total-clause-writes
returns-then-out-total-clause-writes c =
    too_short (record { held = c.requires; ordered = c.discover.ensures }) (omega arith)

pub returns-clause-writes : goal.returns-clause-writes
returns-clause-writes c =
    let t = c.new-text in
    let w = c.put_table.ensures c.requires.0 c.requires.1 in
    all_written (record { held = c.requires; ordered = c.discover.ensures }) t.result c.put_table.new.out t.ensures.bytes
    t.ensures.at (search rules) c.if-out-total.false c.put_table.ensures

pub returns-clause-fits : goal.returns-clause-fits
returns-clause-fits c = small (record { held = c.requires; ordered = c.discover.ensures })
