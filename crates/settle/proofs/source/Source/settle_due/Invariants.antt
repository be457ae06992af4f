-- `settle_due` meets its contract: at each turn a routine that is due becomes fresh, and where a cell of it changed
-- its callers become due. The room for bits falls with each change, and the mask with each other turn.
use Rattle.settle.proofs.LoopLaws.{Going, size_left}
use Rattle.settle.proofs.source.Source.settle_due.Given as goal

abbrev pub invariant-loop-left : goal.invariant-loop-left
invariant-loop-left l =
    Going l.self.sections.counts.now l.self.sections.bodies.now l.self.starts.now l.self.callers.now l.mask
    l.initial.model l.model l.names l.left l.last

abbrev pub decreases-loop-left : goal.decreases-loop-left
decreases-loop-left l = size_left l.model l.left
