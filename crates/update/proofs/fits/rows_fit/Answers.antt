-- `rows_fit` meets its contract: the rows passed fit.
use Rattle.std.proofs.Common.{arith}
use Rattle.update.proofs.FitLaws.{one_more_row}
use Rattle.update.proofs.fits.rows_fit.Goals as goal

pub loop-r-preserved : goal.loop-r-preserved
loop-r-preserved c =
    one_more_row c.args.ks.now c.args.model.now c.loop-r.r c.loop-r.invariant c.if-not-row_fits.ensures

pub returns : goal.returns
returns c = λ r h. c.loop-r.invariant r (omega arith)
