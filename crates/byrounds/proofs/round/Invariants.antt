-- `round` meets its contract: at each turn the highest routine that is left gets its row of this round.
use Rattle.byrounds.proofs.TurnLaws.{Midway}
use Rattle.byrounds.proofs.round.Given as goal

abbrev pub invariant-loop-r : goal.invariant-loop-r
invariant-loop-r l =
    Midway l.t.sections.counts.now l.t.sections.bodies.now l.t.starts.now l.due l.old l.initial.model l.initial.names
    l.model l.names l.r-iterator.0 l.changed l.moved
