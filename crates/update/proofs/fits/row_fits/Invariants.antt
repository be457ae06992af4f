-- `row_fits` meets its contract: `bad` is 0 where the cells passed fit.
use Rattle.std.proofs.Common.{length}
use Rattle.update.proofs.ZeroLaws.{ZeroWhere}
use Rattle.update.proofs.FitLaws.{CellsFit}
use Rattle.update.proofs.fits.row_fits.Given as goal

abbrev pub invariant-loop-cell : goal.invariant-loop-cell
invariant-loop-cell l = ZeroWhere l.bad (CellsFit l.model l.r l.k (length l.yielded))
