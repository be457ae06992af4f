-- `reached` meets its contract: what the mask has is reached, and when no routine is left it has all that is.
use Prim.Native.Nat.{◌+◌, ◌-◌, ◌*◌}
use Rattle.settle.proofs.ReachLaws.{Followed}
use Rattle.settle.proofs.reach.reached.Given as goal

abbrev pub invariant-loop-left : goal.invariant-loop-left
invariant-loop-left l = Followed l.calls l.from l.mask l.left

abbrev pub decreases-loop-left : goal.decreases-loop-left
decreases-loop-left l = 2 * (18446744073709551616 - l.mask) + l.left
