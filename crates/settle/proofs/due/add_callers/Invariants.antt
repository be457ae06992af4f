-- `add_callers` meets its contract: the calls of the routines passed so far are turned round.
use Rattle.settle.proofs.DueLaws.{Turned}
use Rattle.settle.proofs.due.add_callers.Given as goal

abbrev pub invariant-loop-r : goal.invariant-loop-r
invariant-loop-r l = Turned l.calls l.callers l.r
