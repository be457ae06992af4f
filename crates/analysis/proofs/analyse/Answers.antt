-- `analyse` meets its contract, by the cases of the check and of the buffer.
use Rattle.std.proofs.lemmas.Result.{err_from_is_err_and}
use Rattle.analysis.proofs.AnalyseLaws.{refused_by_check, refusal_fits}
use Rattle.analysis.proofs.analyse.Goals as goal

pub returns-in_err-t-clause-analysed : goal.returns-in_err-t-clause-analysed
returns-in_err-t-clause-analysed c =
    let p = err_from_is_err_and c.from_residual.result c.from_residual.ensures.1 in
    let t = c.in_err-t.ensures in
    rw (p.1, p.2, t.2) (refused_by_check c.args.table.now c.args.model.now t.0 t.1)

pub returns-in_err-t-clause-fits : goal.returns-in_err-t-clause-fits
returns-in_err-t-clause-fits c =
    let p = err_from_is_err_and c.from_residual.result c.from_residual.ensures.1 in
    rw (p.1, p.2) (refusal_fits c.args.table.now c.in_err-t.field-0.0 c.in_err-t.ensures)
