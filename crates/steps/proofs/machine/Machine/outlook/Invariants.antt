-- `outlook` meets its contract: the answer so far is how the threads before the next one stand.
use Rattle.std.proofs.Common.{◌≡◌}
use Rattle.steps.specs.Machines.{view}
use Rattle.steps.proofs.machine.Machine.outlook.Given as goal

abbrev pub invariant-loop-t : goal.invariant-loop-t
invariant-loop-t l = l.answer ≡ view l.self l.t
