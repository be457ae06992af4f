-- `rows_fit` meets its contract: the rows passed fit.
use Rattle.update.proofs.FitLaws.{RowsFitBelow}
use Rattle.update.proofs.fits.rows_fit.Given as goal

abbrev pub invariant-loop-r : goal.invariant-loop-r
invariant-loop-r l = RowsFitBelow l.ks l.model l.r
