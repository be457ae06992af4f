-- `next` of the routines of a mask meets its contract: the highest is taken off it.
use Rattle.std.proofs.Common.{arith}
use Rattle.settle.proofs.DueLaws.{top_routine, taken_off}
use Rattle.settle.proofs.due.RoutinesIterator.next.Goals as goal

pub overflow_shl-self : goal.overflow_shl-self
overflow_shl-self c = top_routine c.args.self.now.0 c.highest-r.result (omega arith) c.highest-r.ensures

pub returns-clause-steps : goal.returns-clause-steps
returns-clause-steps c = taken_off c.args.self.now.0 c.highest-r.result (omega arith) c.highest-r.ensures
