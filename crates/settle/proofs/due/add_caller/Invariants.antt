-- `add_caller` meets its contract: each turn adds the routine to the callers of one that is left of the mask.
use Rattle.settle.proofs.DueLaws.{Adding}
use Rattle.settle.proofs.due.add_caller.Given as goal

abbrev pub invariant-loop-q : goal.invariant-loop-q
invariant-loop-q l = Adding l.initial.callers l.mask l.r l.callers l.q-iterator.0
