-- `rounds` meets its contract: each round begins with what the one before passed on, and the first that changes nothing
-- is the last. No more than 148 × n rounds change something.
use Rattle.std.proofs.Common.{◌+◌, ◌-◌, ◌*◌, length}
use Rattle.byrounds.proofs.GoingLaws.{Numbered}
use Rattle.byrounds.proofs.rounds.Given as goal

abbrev pub invariant-loop-moved : goal.invariant-loop-moved
invariant-loop-moved l =
    Numbered l.t.sections.counts.now l.t.sections.bodies.now l.t.starts.now l.t.callers.now l.initial.old
    l.initial.model l.old l.model l.names l.due l.number

abbrev pub decreases-loop-moved : goal.decreases-loop-moved
decreases-loop-moved l = 148 * length l.t.sections.counts.now + 2 - l.number
