-- `ring_rows` meets its contract: the mask has the routines passed so far that are in the other and tell of a ring.
use Rattle.analysis.specs.Laws.Judging.{RingRow}
use Rattle.settle.specs.Laws.Masks.{Gathered}
use Rattle.analysis.proofs.judging.ring_rows.Given as goal

abbrev pub invariant-loop-r : goal.invariant-loop-r
invariant-loop-r l = Gathered (RingRow l.model l.mask) l.r l.rings
