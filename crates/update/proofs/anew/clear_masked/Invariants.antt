-- `clear_masked` meets its contract: at each turn the highest row that is left is cleared.
use Rattle.update.proofs.AnewLaws.{Clearing}
use Rattle.update.proofs.anew.clear_masked.Given as goal

abbrev pub invariant-loop-r : goal.invariant-loop-r
invariant-loop-r l = Clearing l.mask l.initial.model l.model l.r-iterator.0
