-- The loop of `read_input`: what was read is within the buffer, and each turn reads some of what is left.
use Rattle.std.proofs.Common.{length, ◌-◌, ◌≤◌}
use Rattle.input.proofs.read_input.Given as goal

abbrev pub invariant-loop-size : goal.invariant-loop-size
invariant-loop-size l = l.size ≤ length l.buf

abbrev pub decreases-loop-size : goal.decreases-loop-size
decreases-loop-size l = length l.buf - l.size
