-- `canonical` meets its contract: a table that is refused leaves the buffer as it was.
use Rattle.std.proofs.lemmas.Result.{err_from_is_err_and}
use Rattle.writer.proofs.WriteLaws.{refused_by_check}
use Rattle.writer.proofs.canonical.Goals as goal

pub returns-in_err-t-clause-writes : goal.returns-in_err-t-clause-writes
returns-in_err-t-clause-writes c =
    let p = err_from_is_err_and c.from_residual.result c.from_residual.ensures.1 in
    let t = c.in_err-t.ensures in
    rw (p.1, p.2, t.2) (refused_by_check c.args.table.now c.args.out.now t.0 t.1)
