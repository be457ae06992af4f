-- `all` meets its contract: the mask has the routines passed so far.
use Rattle.settle.specs.Due.{All}
use Rattle.settle.proofs.due.all.Given as goal

abbrev pub invariant-loop-r : goal.invariant-loop-r
invariant-loop-r l = All l.r l.mask
