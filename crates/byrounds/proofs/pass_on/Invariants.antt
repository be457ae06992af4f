-- `pass_on` meets its contract: at each turn the cells of the highest routine that is left are copied, and its callers
-- become due.
use Rattle.byrounds.specs.Round.{CanPass}
use Rattle.byrounds.proofs.PassLaws.{Passing}
use Rattle.byrounds.proofs.pass_on.Given as goal

abbrev pub invariant-loop-r : goal.invariant-loop-r
invariant-loop-r l = (can : CanPass l.callers l.moved l.model l.initial.old)
    → Passing can.routines l.callers l.moved l.model l.initial.old l.old l.r-iterator.0 l.due
