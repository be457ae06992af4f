-- `needed` meets its contract: the entries passed are right.
use Rattle.update.proofs.FitLaws.{NeededTo}
use Rattle.update.proofs.fits.needed.Given as goal

abbrev pub invariant-loop-i : goal.invariant-loop-i
invariant-loop-i l = NeededTo l.n-items l.i
