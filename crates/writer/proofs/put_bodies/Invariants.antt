-- `put_bodies` meets its contract: after i turns the bodies of the first i routines are written.
use Rattle.writer.proofs.TableLaws.{Putting}
use Rattle.writer.proofs.put_bodies.Given as goal

abbrev pub invariant-loop-x : goal.invariant-loop-x
invariant-loop-x l = Putting l.t.counts.now l.t.bodies.now l.starts l.o l.initial.out l.out l.x-index
